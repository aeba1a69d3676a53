-- What is noted of servers and names, by the lists of objects.
use mathlib.Core.Path.{fun_ext}
use Rattle.std.proofs.Common.{◌≡◌, ℕ, List, [], ◌∷◌, Option, Some, None, Bool, true, false}
use Rattle.std.proofs.Common.{refl, sym, ◌∙◌, ap, subst, inl, inr, ◌⊎◌}
use Rattle.std.specs.Prelude.{cond, is_some, ◌||◌, ◌&&◌, filter_map, codes, IfSome}
use Rattle.std.specs.List.{list_any, cons_option, find}
use Rattle.std.specs.Option.{option_map, option_map_or, option_or, unwrap_or}
use Rattle.esc_tables.specs.ObjectValue.{RowValue}
use Rattle.esc_apply.specs.ObjectStreams.{Entry}
use Rattle.esc_zone.specs.declared.draft.Settings.{Settings}
use Rattle.esc_zone.specs.declared.draft.Server.{Server}
use Rattle.esc_zone.specs.Addresses.{said_texts}
use Rattle.esc_zone.specs.Delegations.{server_texts}
use Rattle.esc_zone.specs.Fields.{first_text, normal}
use Rattle.esc_zone.specs.Names.{is_server_name, name_above, name_eq}
use Rattle.esc_zone.specs.Noted.{DraftNotes, ServerNotes, PlaceNotes, server_notes, with_noted, new_server, new_place}
use Rattle.esc_zone.specs.Noted.{is_among_names, zone_names, is_let_in, is_zone_server, is_server_at, is_above_server}
use Rattle.esc_zone.specs.Noted.{is_above_use, is_used_by, is_above_used, is_used_here, is_above_here, with_uses}
use Rattle.esc_zone.specs.Noted.{is_host_here, hosts_texts, with_hosts_texts, with_hosts, says_address, is_noted_server}
use Rattle.esc_zone.specs.Noted.{said_in_row, texts_for, own_text, domain_here, with_domain_here, with_domains}
use Rattle.esc_zone.specs.Noted.{is_domain_noted, texts_at, texts_above, with_texts, with_settled, domain_texts}
use Rattle.esc_zone.specs.Noted.{texts_over, texts_here, IsFresh, NotesNames, with_original}
use Rattle.esc_zone.specs.Noted.{PlaceHolds, given_here, with_originals, with_mirror}
use Rattle.esc_zone.specs.Noted.{AreTaken, SaysOf}
use Rattle.esc_zone.proofs.Noting.{one_name, name_self, with_both_noted, is_some_map}

pub or_cases : (a b : Bool) (P : Type 0) → (a || b) ≡ true → (a ≡ true → P) → (b ≡ true → P) → P
or_cases true b P e f g = f refl
or_cases false b P e f g = g e

pub or_left : (a b : Bool) → a ≡ true → (a || b) ≡ true
or_left true b e = refl
or_left false b e = absurd (cc e)

pub or_right : (a b : Bool) → b ≡ true → (a || b) ≡ true
or_right true b e = refl
or_right false b e = e

pub and_left : (a b : Bool) → (a && b) ≡ true → a ≡ true
and_left true b e = refl
and_left false b e = e

pub and_right : (a b : Bool) → (a && b) ≡ true → b ≡ true
and_right true b e = e
and_right false b e = absurd (cc e)

pub and_both : (a b : Bool) → a ≡ true → b ≡ true → (a && b) ≡ true
and_both true b e f = f
and_both false b e f = e

pub any_implies : {X : Type 0} (f g : X → Bool) → ((x : X) → f x ≡ true → g x ≡ true) → (xs : List X)
    → list_any f xs ≡ true → list_any g xs ≡ true
any_implies f g h [] e = e
any_implies f g h (x ∷ xs) e =
    or_cases (f x) (list_any f xs) ((g x || list_any g xs) ≡ true) e (λ t. or_left (g x) (list_any g xs) (h x t))
    (λ t. or_right (g x) (list_any g xs) (any_implies f g h xs t))

pub any_constant : {X : Type 0} (b : Bool) (xs : List X) → list_any (λ (x : X). b) xs ≡ true → b ≡ true
any_constant b [] e = absurd (cc e)
any_constant {X} b (x ∷ xs) e =
    or_cases b (list_any (λ (y : X). b) xs) (b ≡ true) e (λ t. t) (any_constant b xs)

at_named : (s : Settings) (text host : List ℕ) → is_server_at s text host ≡ true
    → is_server_name s.has_underscores host ≡ true
at_named s text host k =
    subst (λ (x : List ℕ). is_server_name s.has_underscores x ≡ true)
    (one_name text host (and_right (is_zone_server s text) (name_eq text host) k))
    (and_left _ _ (and_left (is_zone_server s text) (name_eq text host) k))

-- a server in use has a server's name
pub used_named : (s : Settings) (uses : List Entry) (host : List ℕ) → is_used_here s uses host ≡ true
    → is_server_name s.has_underscores host ≡ true
used_named s uses host u =
    let b = is_server_name s.has_underscores host in
    any_constant b uses (any_implies (λ e. is_used_by s e host) (λ e. b)
    (λ e h. any_constant b (server_texts e.1.children)
    (any_implies (λ t. is_server_at s t host) (λ t. b) (λ t k. at_named s t host k) (server_texts e.1.children)
    (and_right (is_let_in s e) _ h)))
    uses u)

-- the names at and above a server in use are noted
pub used_above : (s : Settings) (uses : List Entry) (host q : List ℕ) → is_used_here s uses host ≡ true
    → is_among_names (zone_names s (Some host)) q ≡ true → is_above_here s uses q ≡ true
used_above s uses host q u m =
    any_implies (λ e. is_used_by s e host) (λ e. is_above_used s e q)
    (λ e h. and_both (is_let_in s e) _ (and_left (is_let_in s e) _ h)
    (any_implies (λ t. is_server_at s t host) (λ t. is_above_use s (normal e.0.text) t q)
    (λ t k. or_right (is_among_names (zone_names s (name_above (normal e.0.text))) q) (is_above_server s t q)
    (and_both (is_zone_server s t) (is_among_names (zone_names s (Some t)) q)
    (and_left (is_zone_server s t) (name_eq t host) k)
    (subst (λ (x : List ℕ). is_among_names (zone_names s (Some x)) q ≡ true)
    (sym (one_name t host (and_right (is_zone_server s t) (name_eq t host) k))) m)))
    (server_texts e.1.children) (and_right (is_let_in s e) _ h)))
    uses u

row_by : (a b c : Bool) (h t host : List ℕ) (rest : List (List ℕ × List ℕ)) → name_eq h host ≡ c
    → (c ≡ true → b ≡ true)
    → texts_for (cons_option (cond (a && b) (Some (h, t)) None) rest) host
    ≡ cons_option (cond (a && c) (Some t) None) (texts_for rest host)
row_by true true c h t host rest is f = ap (λ x. cons_option (cond x (Some t) None) (texts_for rest host)) is
row_by true false true h t host rest is f = absurd (cc (f refl))
row_by true false false h t host rest is f = refl
row_by false b c h t host rest is f = refl

-- of a server that is noted, what the rows of a domain say is kept
pub rows_texts : (d : DraftNotes) (host : List ℕ) → is_noted_server d host ≡ true → (rows : List RowValue)
    → texts_for (filter_map (said_in_row d) rows) host ≡ filter_map (own_text host) rows
rows_texts d host noted [] = refl
rows_texts d host noted (row ∷ rows) =
    let h = normal (first_text (codes "hostName") row) in
    row_by (says_address row) (is_noted_server d h) (name_eq h host) h (first_text (codes "addr") row) host
    (filter_map (said_in_row d) rows) refl
    (λ e. subst (λ (x : List ℕ). is_noted_server d x ≡ true) (sym (one_name h host e)) noted)
    ∙ ap (λ l. cons_option (own_text host row) l) (rows_texts d host noted rows)

fresh_is : {X : Type 0} (o : Option X) (new : X) → IfSome o (λ x. x ≡ new) → Some (unwrap_or o new) ≡ Some new
fresh_is None new h = refl
fresh_is (Some x) new h = ap Some h

new_is : (b : Bool) (o : Option PlaceNotes) (p : PlaceNotes) → IfSome o (λ x. x ≡ new_place)
    → cond b (Some (unwrap_or o new_place)) o ≡ Some p → p ≡ new_place
new_is true None p h e = let is : new_place ≡ p = cc e in sym is
new_is true (Some x) p h e = let is : x ≡ p = cc e in sym is ∙ h
new_is false None p h e = absurd (cc e)
new_is false (Some x) p h e = let is : x ≡ p = cc e in sym is ∙ h

-- what holds of a name of which nothing is known yet
pub new_holds : (uses : List Entry) (s : Settings) (q : List ℕ) → PlaceHolds [] [] uses s q new_place
new_holds uses s q = record { domain = refl; says = tt; said = λ host v. refl; original = refl }

-- servers and names that are noted first
pub fresh_taken : (d : DraftNotes) (uses : List Entry) → IsFresh d → AreTaken [] [] [] uses (with_uses uses d)
fresh_taken d uses f = record {
  servers = λ host u. ap (λ b. cond b (Some (unwrap_or (d.servers host) new_server)) (d.servers host)) u
      ∙ fresh_is (d.servers host) new_server (f.servers host);
  noted = λ q u. ap (λ b. is_some (cond b (Some (unwrap_or (d.places q) new_place)) (d.places q))) u;
  places = λ q p e. subst (λ (x : PlaceNotes). PlaceHolds [] [] uses d.settings q x)
      (sym (new_is (is_above_here d.settings uses q) (d.places q) p (f.places q) e)) (new_holds uses d.settings q);
}

fresh_by : {X : Type 0} (b : Bool) (o : Option X) (new : X) → IfSome o (λ x. x ≡ new)
    → IfSome (cond b (Some (unwrap_or o new)) o) (λ x. x ≡ new)
fresh_by true None new h = refl
fresh_by true (Some x) new h = h
fresh_by false o new h = h

-- more names are fresh, too
pub fresh_more : (s t : List ℕ → Bool) (d : DraftNotes) → IsFresh d → IsFresh (with_noted s t d)
fresh_more s t d f = record {
  servers = λ host. fresh_by (s host) (d.servers host) new_server (f.servers host);
  places = λ q. fresh_by (t q) (d.places q) new_place (f.places q);
}

still : (b : Bool) (o : Option PlaceNotes) → is_some o ≡ true
    → is_some (cond b (Some (unwrap_or o new_place)) o) ≡ true
still true o h = refl
still false o h = h

kept_or_new : (b : Bool) (o : Option PlaceNotes) (p : PlaceNotes)
    → cond b (Some (unwrap_or o new_place)) o ≡ Some p → (o ≡ Some p) ⊎ (p ≡ new_place)
kept_or_new true None p e = let is : new_place ≡ p = cc e in inr (sym is)
kept_or_new true (Some x) p e = inl e
kept_or_new false o p e = inl e

-- more names are noted
pub names_taken : (hosts uses : List Entry) (d n : DraftNotes) → NotesNames d n
    → AreTaken hosts [] [] uses d → AreTaken hosts [] [] uses n
names_taken hosts uses d n more t =
    subst (λ (x : DraftNotes). AreTaken hosts [] [] uses x) (sym more.1) (record {
      servers = t.servers;
      noted = λ q u. still (more.0 q) (d.places q) (t.noted q u);
      places = λ q p e. elim (kept_or_new (more.0 q) (d.places q) p e) [
        | inl old ↦ t.places q p old
        | inr new ↦ subst (λ (x : PlaceNotes). PlaceHolds [] [] uses d.settings q x) (sym new)
            (new_holds uses d.settings q)
      ];
    })

pub names_none : (d : DraftNotes) → NotesNames d d
names_none d = (λ q. false, refl)

-- names that are noted one after the other
pub names_more : (a b c : DraftNotes) → NotesNames a b → NotesNames b c → NotesNames a c
names_more a b c m n =
    let none : List ℕ → Bool = λ q. false in (
      λ q. m.0 q || n.0 q,
      n.1 ∙ ap (with_noted none n.0) m.1 ∙ with_both_noted none m.0 none n.0 a,
    )

-- the hosts' addresses are taken
pub hosts_taken : (hosts domains mirrors uses : List Entry) (d : DraftNotes)
    → AreTaken [] domains mirrors uses d → AreTaken hosts domains mirrors uses (with_hosts hosts d)
hosts_taken hosts domains mirrors uses d t = record {
  servers = λ host u. ap (option_map (with_hosts_texts d.settings hosts host)) (t.servers host u);
  noted = t.noted;
  places = t.places;
}

domain_by : (d : DraftNotes) (o : Option Entry) (p : PlaceNotes) → p.is_domain ≡ false
    → (with_domain_here d o p).is_domain ≡ is_some o
domain_by d None p e = e
domain_by d (Some x) p e = refl

texts_by : (d : DraftNotes) (o : Option Entry) (p : PlaceNotes) (host : List ℕ) → texts_for p.said host ≡ []
    → is_noted_server d host ≡ true
    → texts_for (with_domain_here d o p).said host
    ≡ option_map_or (λ (e : Entry). filter_map (own_text host) e.1.children) o []
texts_by d None p host e noted = e
texts_by d (Some x) p host e noted = rows_texts d host noted x.1.children

says_by : (d : DraftNotes) (o : Option Entry) (p : PlaceNotes)
    → IfSome o (λ e. SaysOf d.settings e (with_domain_here d o p))
says_by d None p = tt
says_by d (Some x) p = (refl, refl, refl)

mirrors_by : (d : DraftNotes) (o : Option Entry) (p : PlaceNotes) → (with_domain_here d o p).mirrors ≡ p.mirrors
mirrors_by d None p = refl
mirrors_by d (Some x) p = refl

-- what was mapped
pub mapped : (f : PlaceNotes → PlaceNotes) (o : Option PlaceNotes) (p : PlaceNotes) → option_map f o ≡ Some p
    → (r : PlaceNotes) × (o ≡ Some r) × (f r ≡ p)
mapped f None p e = absurd (cc e)
mapped f (Some x) p e = (x, refl, cc e)

-- what the domains say is taken
pub domains_taken : (hosts domains mirrors uses : List Entry) (d : DraftNotes)
    → AreTaken hosts [] mirrors uses d → AreTaken hosts domains mirrors uses (with_domains domains d)
domains_taken hosts domains mirrors uses d t = record {
  servers = t.servers;
  noted = λ q u. is_some_map (with_domain_here d (domain_here domains q)) (d.places q) ∙ t.noted q u;
  places = λ q p e.
      let o = domain_here domains q in
      let r = mapped (with_domain_here d o) (d.places q) p e in
      let w = t.places q r.0 r.1 in
      subst (λ (x : PlaceNotes). PlaceHolds domains mirrors uses d.settings q x) r.2 (record {
        domain = domain_by d o r.0 w.domain;
        says = says_by d o r.0;
        said = λ host v. texts_by d o r.0 host (w.said host v)
            (and_both _ _ (used_named d.settings uses host v) (ap is_some (t.servers host v)));
        original = mirrors_by d o r.0 ∙ w.original;
      });
}

original_domain : (o : Option (Option (List ℕ))) (p : PlaceNotes) → (with_original o p).is_domain ≡ p.is_domain
original_domain None p = refl
original_domain (Some x) p = refl

original_said : (o : Option (Option (List ℕ))) (p : PlaceNotes) → (with_original o p).said ≡ p.said
original_said None p = refl
original_said (Some x) p = refl

original_says : (s : Settings) (o : Option (Option (List ℕ))) (x : Option Entry) (p : PlaceNotes)
    → IfSome x (λ e. SaysOf s e p) → IfSome x (λ e. SaysOf s e (with_original o p))
original_says s None x p h = h
original_says s (Some y) x p h = h

original_by : (o : Option (Option (List ℕ))) (p : PlaceNotes) → p.mirrors ≡ None
    → (with_original o p).mirrors ≡ option_map_or (λ (x : Option (List ℕ)). x) o None
original_by None p e = e
original_by (Some x) p e = refl

-- the originals are taken
pub originals_taken : (hosts domains mirrors uses : List Entry) (d : DraftNotes)
    → AreTaken hosts domains [] uses d → AreTaken hosts domains mirrors uses (with_originals mirrors d)
originals_taken hosts domains mirrors uses d t = record {
  servers = t.servers;
  noted = λ q u. is_some_map (with_original (given_here mirrors q)) (d.places q) ∙ t.noted q u;
  places = λ q p e.
      let o = given_here mirrors q in
      let r = mapped (with_original o) (d.places q) p e in
      let w = t.places q r.0 r.1 in
      subst (λ (x : PlaceNotes). PlaceHolds domains mirrors uses d.settings q x) r.2 (record {
        domain = original_domain o r.0 ∙ w.domain;
        says = original_says d.settings o (domain_here domains q) r.0 w.says;
        said = λ host v. ap (λ l. texts_for l host) (original_said o r.0) ∙ w.said host v;
        original = original_by o r.0 w.original;
      });
}

-- no original changes nothing
pub no_original : (o : Option PlaceNotes) → o ≡ option_map (with_original None) o
no_original None = refl
no_original (Some p) = refl

-- no original is noted
pub originals_none : (d : DraftNotes) → d ≡ record d { places = λ q. option_map (with_original None) (d.places q) }
originals_none d = ap (λ places. record d { places = places }) (fun_ext (λ q. no_original (d.places q)))

no_original_if : (b : Bool) (o : Option PlaceNotes)
    → option_map (with_original None) o ≡ option_map (with_original (cond b None None)) o
no_original_if true o = refl
no_original_if false o = refl

-- no original of this name is noted
pub no_mirror : (name : List ℕ) (d : DraftNotes) → d ≡ with_mirror name None d
no_mirror name d =
    ap (λ places. record d { places = places })
    (fun_ext (λ q. no_original (d.places q) ∙ no_original_if (name_eq name q) (d.places q)))

-- originals that are noted one after the other
pub both_originals : (f g : Option (Option (List ℕ))) (o : Option PlaceNotes)
    → option_map (with_original g) (option_map (with_original f) o) ≡ option_map (with_original (option_or g f)) o
both_originals f g None = refl
both_originals f None (Some p) = refl
both_originals None (Some y) (Some p) = refl
both_originals (Some x) (Some y) (Some p) = refl

-- the original of one name
pub one_original : (b : Bool) (original : Option (List ℕ)) (o : Option PlaceNotes)
    → cond b (option_map (with_original (Some original)) o) o
    ≡ option_map (with_original (cond b (Some original) None)) o
one_original true original o = refl
one_original false original o = no_original o

found_by : (b : Bool) (n : List ℕ) (x y : Option (List ℕ)) (f g : List ℕ → List (List ℕ)) → f n ≡ g n
    → option_map_or f x [] ≡ option_map_or g y []
    → option_map_or f (cond b (Some n) x) [] ≡ option_map_or g (cond b (Some n) y) []
found_by true n x y f g e r = e
found_by false n x y f g e r = r

found : (test other : List ℕ → Bool) (f g : List ℕ → List (List ℕ)) (names : List (List ℕ))
    → ((n : List ℕ) → is_among_names names n ≡ true → (test n ≡ other n) × (f n ≡ g n))
    → option_map_or f (find test names) [] ≡ option_map_or g (find other names) []
found test other f g [] same = refl
found test other f g (n ∷ names) same =
    let here = same n (or_left (name_eq n n) (is_among_names names n) (name_self n)) in
    ap (λ b. option_map_or f (cond b (Some n) (find test names)) []) here.0
    ∙ found_by (other n) n (find test names) (find other names) f g here.1
    (found test other f g names (λ m k. same m (or_right (name_eq n m) (is_among_names names m) k)))

-- what is there
pub there_is : {X : Type 0} (o : Option X) → is_some o ≡ true → (x : X) × (o ≡ Some x)
there_is None h = absurd (cc h)
there_is (Some x) h = (x, refl)

above_is : (hosts domains mirrors : List Entry) (d : DraftNotes) → AreTaken hosts domains mirrors domains d
    → (host : List ℕ) → is_used_here d.settings domains host ≡ true
    → texts_above d host ≡ texts_over d.settings domains host
above_is hosts domains mirrors d t host u =
    found (is_domain_noted d) (λ n. is_some (domain_here domains n)) (λ n. texts_at d n host)
    (λ n. domain_texts domains n host) (zone_names d.settings (Some host))
    (λ n k.
    let w = there_is (d.places n) (t.noted n (used_above d.settings domains host n u k)) in
    let h = t.places n w.0 w.1 in (
      ap (λ (o : Option PlaceNotes). option_map_or (λ (p : PlaceNotes). p.is_domain) o false) w.1 ∙ h.domain,
      ap (λ (o : Option PlaceNotes). option_map_or (λ (p : PlaceNotes). texts_for p.said host) o []) w.1
          ∙ h.said host u,
    ))

said_by : (b : Bool) (said texts : List (List ℕ))
    → (with_texts texts (record { is_object = b; said = said })).said ≡ cond b said texts
said_by true said texts = refl
said_by false said texts = refl

-- what is settled of a server in use is what the hosts and the domains say
pub settled_texts : (hosts domains mirrors : List Entry) (d : DraftNotes)
    → AreTaken hosts domains mirrors domains d → (host : List ℕ) → is_used_here d.settings domains host ≡ true
    → option_map_or (λ (n : ServerNotes). n.said) ((with_settled d).servers host) []
    ≡ texts_here d.settings hosts domains host
settled_texts hosts domains mirrors d t host u =
    let texts = texts_above d host in
    let b = is_host_here d.settings hosts host in
    let said = hosts_texts d.settings hosts host in
    ap (λ (o : Option ServerNotes). option_map_or (λ (n : ServerNotes). n.said) (option_map (with_texts texts) o) [])
    (t.servers host u)
    ∙ said_by b said texts ∙ ap (λ x. cond b said x) (above_is hosts domains mirrors d t host u)

-- what is said of a server, as it is noted
pub said_seen : (o : Option Server) → option_map_or (λ (s : Server). said_texts s.rows.items) o []
    ≡ option_map_or (λ (n : ServerNotes). n.said) (option_map server_notes o) []
said_seen None = refl
said_seen (Some x) = refl
