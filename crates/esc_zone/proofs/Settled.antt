-- Which names are delegated, by what is noted.
use mathlib.Core.Path.{fun_ext}
use Rattle.std.proofs.Common.{◌≡◌, ℕ, ◌+◌, ◌<◌, List, [], ◌∷◌, length, take, get_or, inl, inr}
use Rattle.std.proofs.Common.{Option, Some, None, Bool, true, false, refl, sym, ◌∙◌, ap, subst, ◌⊎◌}
use Rattle.std.specs.Prelude.{cond, is_some, ◌||◌, ◌&&◌, ◌↔◌, IsTrue, filter, is_none, IfSome}
use Rattle.std.specs.List.{list_any, last_or, prefix_len}
use Rattle.std.specs.Option.{option_map, option_map_or, option_or}
use Rattle.std.specs.BTreeMap.{BTreeMap, get, keys}
use Rattle.std.proofs.lemmas.List.Folds.{list_any_at, list_any_more}
use Rattle.std.proofs.lemmas.Map.Made.{is_some-lookup}
use Rattle.esc_apply.specs.ObjectStreams.{Entry}
use Rattle.esc_zone.specs.declared.draft.Settings.{Settings}
use Rattle.esc_zone.specs.declared.draft.Place.{Place}
use Rattle.esc_zone.specs.declared.draft.Draft.{Draft}
use Rattle.esc_zone.specs.Addresses.{HasAddress}
use Rattle.esc_zone.specs.Delegations.{server_texts}
use Rattle.esc_zone.specs.Drafts.{zone_notes}
use Rattle.esc_zone.specs.Fields.{normal}
use Rattle.esc_zone.specs.Names.{name_cmp, name_eq, name_above, names_above, is_name_with}
use Rattle.esc_zone.specs.Statuses.{hold_of}
use Rattle.esc_zone.specs.Noted.{DraftNotes, PlaceNotes, draft_notes, place_notes, is_among_names, zone_names}
use Rattle.esc_zone.specs.Noted.{is_in_zone, is_let_in_at, is_let_in, is_server_among, is_used_by, is_used_here}
use Rattle.esc_zone.specs.Noted.{is_above_used, is_above_here, is_above_use, is_above_server, is_zone_server}
use Rattle.esc_zone.specs.Noted.{is_domain_named, domain_here, with_settled, texts_here, AreTaken, SaysOf}
use Rattle.esc_zone.specs.Noted.{IsReachable, IsServedPlace, noted_texts, cut_by, with_cuts, SettlesNames}
use Rattle.esc_zone.specs.Noted.{SettlesAll, SettlesOne, IsDelegatedHere}
use Rattle.esc_zone.specs.Noted.{IsCutDomain, IsMirroredPlace, SettlesMirror, SettlesMirrors, SettlesMirrored}
use Rattle.esc_zone.specs.Noted.{original_here}
use Rattle.esc_zone.proofs.Noting.{one_name, name_self, name_flip, take_one, is_some_map}
use Rattle.esc_zone.proofs.Taken.{or_cases, or_left, and_left, and_right, and_both, any_implies, any_constant}
use Rattle.esc_zone.proofs.Taken.{settled_texts, said_seen, mapped, there_is}

-- a name among the names up to the next place is among those before it, or the next one
pub among_next : (names : List (List ℕ)) (i : ℕ) (name q : List ℕ) → i < length names → name ≡ get_or names i name
    → is_among_names (take (i + 1) names) q ≡ true → (is_among_names (take i names) q ≡ true) ⊎ (name ≡ q)
among_next names i name q lt is m =
    let p = λ (n : List ℕ). name_eq n q in
    or_cases (is_among_names (take i names) q) (p (get_or names i name))
    ((is_among_names (take i names) q ≡ true) ⊎ (name ≡ q))
    (sym (list_any_more p names i name lt) ∙ m) (λ t. inl t)
    (λ t. inr (one_name name q (ap p is ∙ t)))

-- a name at a place is among the names
pub among_here : (names : List (List ℕ)) (i : ℕ) (name : List ℕ) → i < length names → name ≡ get_or names i name
    → is_among_names names name ≡ true
among_here names i name lt is =
    list_any_at (λ n. name_eq n name) names i name lt (ap (λ n. name_eq n name) (sym is) ∙ name_self name)

-- a name that is noted is among the keys
pub among_seen : {V X : Type 0} (view : V → X) (m : BTreeMap (List ℕ) V) (q : List ℕ) (x : X)
    → option_map view (get name_cmp m q) ≡ Some x → is_among_names (keys m) q ≡ true
among_seen view m q x e =
    ap (λ (f : List ℕ → Bool). list_any f (keys m)) (fun_ext (λ k. name_flip k q))
    ∙ sym (is_some-lookup (λ k. name_eq q k) m.entries) ∙ sym (is_some_map view (get name_cmp m q)) ∙ ap is_some e

-- what is seen of a value
pub seen_value : {V X : Type 0} (view : V → X) (o : Option V) (v : V) (x : X) → o ≡ Some v
    → option_map view o ≡ Some x → view v ≡ x
seen_value view None v x e h = absurd (cc e)
seen_value view (Some u) v x e h = let same : view u ≡ x = cc h in let is : u ≡ v = cc e in ap view (sym is) ∙ same

pub seen_none : {V X : Type 0} (view : V → X) (o : Option V) (x : X) → o ≡ None → option_map view o ≡ Some x → ⊥
seen_none view None x e h = cc h
seen_none view (Some u) x e h = cc e

-- whether one name is delegated
pub one_cut : (b c : Bool) (o : Option PlaceNotes)
    → cond b (option_map (cut_by (Some c)) o) o ≡ option_map (cut_by (cond b (Some c) None)) o
one_cut true c o = refl
one_cut false c None = refl
one_cut false c (Some p) = refl

cut_none : (o : Option PlaceNotes) → o ≡ option_map (cut_by None) o
cut_none None = refl
cut_none (Some p) = refl

or_more : (a b : Bool) → b ≡ true → (a || b) ≡ true
or_more true b e = refl
or_more false b e = e

-- nothing is noted
pub cuts_none : (d : DraftNotes) → d ≡ with_cuts (λ q. None) d
cuts_none d = ap (λ places. record d { places = places }) (fun_ext (λ q. cut_none (d.places q)))

cut_both : (f g : Option Bool) (o : Option PlaceNotes)
    → option_map (cut_by g) (option_map (cut_by f) o) ≡ option_map (cut_by (option_or g f)) o
cut_both f g None = refl
cut_both None None (Some p) = refl
cut_both (Some x) None (Some p) = refl
cut_both None (Some y) (Some p) = refl
cut_both (Some x) (Some y) (Some p) = refl

-- what is noted one after the other
pub cuts_both : (f g : List ℕ → Option Bool) (d : DraftNotes)
    → with_cuts g (with_cuts f d) ≡ with_cuts (λ q. option_or (g q) (f q)) d
cuts_both f g d =
    ap (λ places. record d { places = places }) (fun_ext (λ q. cut_both (f q) (g q) (d.places q)))

served_cut : (given : List ℕ → Bool) (texts : List ℕ → List (List ℕ)) (o : Option Bool) (p : PlaceNotes)
    → IsServedPlace given texts (cut_by o p) ≡ IsServedPlace given texts p
served_cut given texts None p = refl
served_cut given texts (Some b) p = refl

one_given : (c b : Bool) (o : Option Bool) → c ≡ true → option_or (cond c (Some b) None) o ≡ Some b
one_given true b o e = refl
one_given false b o e = absurd (cc e)

kept_given : (c b : Bool) (o : Option Bool) (x : Bool) → c ≡ false → o ≡ Some x
    → option_or (cond c (Some b) None) o ≡ Some x
kept_given true b o x e h = absurd (cc e)
kept_given false b o x e h = h

by_test : (c : Bool) (P : Type 0) → (c ≡ true → P) → (c ≡ false → P) → P
by_test true P f g = f refl
by_test false P f g = g refl

-- before the first name nothing is settled
pub settles_none : (d : DraftNotes) → SettlesNames [] d d
settles_none d = (λ q. None, cuts_none d, λ q p m e. absurd (cc m))

-- one more name is settled
pub settles_step : (names : List (List ℕ)) (i : ℕ) (name : List ℕ) (a b c : DraftNotes) → i < length names
    → name ≡ get_or names i name → SettlesNames (take i names) a b → SettlesOne name b c
    → SettlesNames (take (i + 1) names) a c
settles_step names i name a b c lt is so one =
    let given = a.is_given in
    let texts = noted_texts a in
    let here = subst (λ (x : DraftNotes). SettlesOne name x c) so.1 one in
    let g = λ (q : List ℕ). cond (name_eq name q) (Some here.0) None in (
      λ q. option_or (g q) (so.0 q),
      here.1 ∙ cuts_both so.0 g a,
      λ q p m e.
          let Goal : Type 0 = (x : Bool) × (option_or (g q) (so.0 q) ≡ Some x)
          × (IsTrue x ↔ IsServedPlace given texts p) in
          by_test (name_eq name q) Goal
          (λ t. (
            here.0,
            one_given (name_eq name q) here.0 (so.0 q) t,
            subst (λ (S : Type 0). IsTrue here.0 ↔ S) (served_cut given texts (so.0 name) p)
                (here.2 (cut_by (so.0 name) p)
                (ap (λ (n : List ℕ). option_map (cut_by (so.0 name)) (a.places n)) (one_name name q t)
                ∙ ap (option_map (cut_by (so.0 name))) e)),
          ))
          (λ f.
          let old : (x : Bool) × (so.0 q ≡ Some x) × (IsTrue x ↔ IsServedPlace given texts p) =
          elim (among_next names i name q lt is m) [
            | inl before ↦ so.2 q p before e
            | inr same ↦ (let self : name_eq name q ≡ true = ap (λ (n : List ℕ). name_eq name n) (sym same)
                ∙ name_self name in let clash : true ≡ false = sym self ∙ f in absurd (cc clash))
          ] in (
            old.0,
            kept_given (name_eq name q) here.0 (so.0 q) old.0 f old.1,
            old.2,
          )),
    )

cut_domain : (o : Option Bool) (p : PlaceNotes) → (cut_by o p).is_domain ≡ p.is_domain
cut_domain None p = refl
cut_domain (Some b) p = refl

cut_mirrors : (o : Option Bool) (p : PlaceNotes) → (cut_by o p).mirrors ≡ p.mirrors
cut_mirrors None p = refl
cut_mirrors (Some b) p = refl

cut_stays : (b : Bool) (p : PlaceNotes) → p.is_cut ≡ true → (cut_by (cond b (Some true) None) p).is_cut ≡ true
cut_stays true p e = refl
cut_stays false p e = e

-- which of these are delegated
abbrev pub set_to : (List ℕ → Bool) → List ℕ → Option Bool
set_to given q = cond (given q) (Some true) None

-- what is no domain is noted to be delegated, and each delegated domain stays so
pub same_cuts : (a : DraftNotes) (given : List ℕ → Bool)
    → ((q : List ℕ) (p : PlaceNotes) → a.places q ≡ Some p → given q ≡ true → p.is_domain ≡ false)
    → (name : List ℕ) → IsCutDomain (with_cuts (set_to given) a) name ↔ IsCutDomain a name
same_cuts a given known name = (
  λ x.
      let r = mapped (cut_by (set_to given name)) (a.places name) x.0 x.1 in
      let dom : r.0.is_domain ≡ true = sym (cut_domain (set_to given name) r.0)
      ∙ ap (λ (p : PlaceNotes). p.is_domain) r.2 ∙ x.2 in
      let same : given name ≡ false = by_test (given name) (given name ≡ false)
      (λ t. let clash : true ≡ false = sym dom ∙ known name r.0 r.1 t in absurd (cc clash)) (λ f. f) in (
        r.0,
        r.1,
        dom,
        sym (ap (λ (b : Bool). (cut_by (cond b (Some true) None) r.0).is_cut) same)
            ∙ ap (λ (p : PlaceNotes). p.is_cut) r.2 ∙ x.3,
      ),
  λ y. (
    cut_by (set_to given name) y.0,
    ap (option_map (cut_by (set_to given name))) y.1,
    cut_domain (set_to given name) y.0 ∙ y.2,
    cut_stays (given name) y.0 y.3,
  ),
)

same_mirrored : (a : DraftNotes) (given : List ℕ → Bool)
    → ((q : List ℕ) (p : PlaceNotes) → a.places q ≡ Some p → given q ≡ true → p.is_domain ≡ false)
    → (o : Option Bool) (p : PlaceNotes)
    → IsMirroredPlace (with_cuts (set_to given) a) (cut_by o p) ↔ IsMirroredPlace a p
same_mirrored a given known o p = (
  λ x. (sym (cut_domain o p) ∙ x.0, x.1, sym (cut_mirrors o p) ∙ x.2, (same_cuts a given known x.1).0 x.3),
  λ y. (cut_domain o p ∙ y.0, y.1, cut_mirrors o p ∙ y.2, (same_cuts a given known y.1).1 y.3),
)

-- before the first name no mirrored one is settled
pub mirrors_none : (d : DraftNotes) → SettlesMirrors [] d d
mirrors_none d = (λ q. false, cuts_none d, λ q p e. (λ t. absurd (cc t), λ m x. absurd (cc m)))

set_both : (x y : Bool) → option_or (cond x (Some true) None) (cond y (Some true) None) ≡ cond (x || y) (Some true) None
set_both true y = refl
set_both false y = refl

-- one more mirrored name is settled
pub mirrors_step : (names : List (List ℕ)) (i : ℕ) (name : List ℕ) (a b c : DraftNotes) → i < length names
    → name ≡ get_or names i name → SettlesMirrors (take i names) a b → SettlesMirror name b c
    → SettlesMirrors (take (i + 1) names) a c
mirrors_step names i name a b c lt is so one =
    let here = subst (λ (x : DraftNotes). SettlesMirror name x c) so.1 one in
    let mine = λ (q : List ℕ). here.0 && name_eq name q in
    let known : (q : List ℕ) (p : PlaceNotes) → a.places q ≡ Some p → so.0 q ≡ true → p.is_domain ≡ false =
    λ q p e t. ((so.2 q p e).0 t).0 in
    let same = same_mirrored a so.0 known in (
      λ q. mine q || so.0 q,
      here.1 ∙ cuts_both (set_to so.0) (set_to mine) a
          ∙ ap (λ (f : List ℕ → Option Bool). with_cuts f a) (fun_ext (λ q. set_both (mine q) (so.0 q))),
      λ q p e.
          let o = set_to so.0 name in
          let at : name ≡ q → (with_cuts (set_to so.0) a).places name ≡ Some (cut_by o p) =
          λ n. ap (λ (x : List ℕ). option_map (cut_by o) (a.places x)) n ∙ ap (option_map (cut_by o)) e in (
            λ t. or_cases (mine q) (so.0 q) (IsMirroredPlace a p) t
                (λ m. (same o p).0 ((here.2 (cut_by o p)
                (at (one_name name q (and_right here.0 (name_eq name q) m)))).0
                (and_left here.0 (name_eq name q) m)))
                (λ m. (so.2 q p e).0 m),
            λ m x. elim (among_next names i name q lt is m) [
              | inl before ↦ or_more (mine q) (so.0 q) ((so.2 q p e).1 before x)
              | inr n ↦ or_left (mine q) (so.0 q) (and_both here.0 (name_eq name q)
                  ((here.2 (cut_by o p) (at n)).1 ((same o p).1 x))
                  (ap (λ (y : List ℕ). name_eq name y) (sym n) ∙ name_self name))
            ],
          ),
    )

-- whether a name is delegated, as it is noted
pub cut_seen : (o : Option Place) → option_map_or (λ (p : Place). p.is_cut) o false
    ≡ option_map_or (λ (p : PlaceNotes). p.is_cut) (option_map place_notes o) false
cut_seen None = refl
cut_seen (Some x) = refl

last_in : (p f : Entry → Bool) (o : Option Entry) (es : List Entry) (e : Entry)
    → last_or o (filter p es) ≡ Some e
    → (o ≡ Some e) ⊎ ((p e ≡ true) × (f e ≡ true → list_any f es ≡ true))
last_in p f o [] e h = inl h
last_in p f o (x ∷ es) e h =
    (elim (p x) as (λ v. p x ≡ v → last_or o (cond v (x ∷ filter p es) (filter p es)) ≡ Some e
    → (o ≡ Some e) ⊎ ((p e ≡ true) × (f e ≡ true → list_any f (x ∷ es) ≡ true))) [
      | true ↦ λ is k. elim (last_in p f (Some x) es e k) [
        | inl same ↦ (let one : x ≡ e = cc same in inr (
          subst (λ (y : Entry). p y ≡ true) one is,
          λ t. or_left (f x) (list_any f es) (subst (λ (y : Entry). f y ≡ true) (sym one) t),
        ))
        | inr rest ↦ inr (rest.0, λ t. or_more (f x) (list_any f es) (rest.1 t))
      ]
      | false ↦ λ is k. elim (last_in p f o es e k) [
        | inl same ↦ inl same
        | inr rest ↦ inr (rest.0, λ t. or_more (f x) (list_any f es) (rest.1 t))
      ]
    ]) refl h

-- the servers in the zone of a domain that no status keeps out are in use
pub served_used : (s : Settings) (domains : List Entry) (q : List ℕ) (e : Entry) (host : List ℕ)
    → is_in_zone s q ≡ true → domain_here domains q ≡ Some e → is_none (hold_of e.1.children) ≡ true
    → is_server_among s (server_texts e.1.children) host ≡ true → is_used_here s domains host ≡ true
served_used s domains q e host u here free m =
    elim (last_in (is_domain_named q) (λ x. is_used_by s x host) None domains e here) [
      | inl missing ↦ absurd (cc missing)
      | inr found ↦
          (let t = normal e.0.text in
          let named = and_left (is_name_with false t) (name_eq t q) found.0 in
          let same = one_name t q (and_right (is_name_with false t) (name_eq t q) found.0) in
          let zone = subst (λ (n : List ℕ). is_in_zone s n ≡ true) (sym same) u in
          found.1 (and_both (is_let_in s e) (is_server_among s (server_texts e.1.children) host)
          (and_both (is_name_with false t) (is_let_in_at s t e.1.children) named
          (and_both (is_in_zone s t) (is_none (hold_of e.1.children)) zone free)) m))
    ]

reach_moved : (given : List ℕ → Bool) (f g : List ℕ → List (List ℕ)) (host : List ℕ) → f host ≡ g host
    → IsReachable given f host → IsReachable given g host
reach_moved given f g host e r = elim r [
  | inl x ↦ inl x
  | inr a ↦ inr (subst (λ (l : List (List ℕ)). HasAddress l) e a)
]

-- a domain that is let in and served is delegated
pub served_here : (hosts domains mirrors : List Entry) (d : DraftNotes) → AreTaken hosts domains mirrors domains d
    → (q : List ℕ) (e : Entry) (p : PlaceNotes) → is_in_zone d.settings q ≡ true
    → domain_here domains q ≡ Some e → p.is_domain ≡ true → SaysOf d.settings e p
    → IsServedPlace d.is_given (noted_texts (with_settled d)) p
    ↔ IsDelegatedHere d.settings d.is_given hosts domains e
served_here hosts domains mirrors d t q e p u here dom says =
    let s = d.settings in
    let noted = noted_texts (with_settled d) in
    let told = texts_here s hosts domains in
    let same : (host : List ℕ) → is_none (hold_of e.1.children) ≡ true
    → is_server_among s (server_texts e.1.children) host ≡ true → noted host ≡ told host =
    λ host free m. settled_texts hosts domains mirrors d t host (served_used s domains q e host u here free m) in (
      λ x.
          let free = sym says.0 ∙ x.1 in (
            free,
            elim x.2 [
              | inl o ↦ inl (sym says.1 ∙ o)
              | inr k ↦ (let m = sym (ap (λ (f : List ℕ → Bool). f k.0) says.2) ∙ k.1 in
                  inr (k.0, m, reach_moved d.is_given noted told k.0 (same k.0 free m) k.2))
            ],
          ),
      λ y. (
        dom,
        says.0 ∙ y.0,
        elim y.1 [
          | inl o ↦ inl (says.1 ∙ o)
          | inr k ↦ inr (
            k.0,
            ap (λ (f : List ℕ → Bool). f k.0) says.2 ∙ k.1,
            reach_moved d.is_given told noted k.0 (sym (same k.0 y.0 k.1)) k.2,
          )
        ],
      ),
    )

seen_after : (b c : DraftNotes) (f g : List ℕ → Option Bool) (a : DraftNotes) (q : List ℕ) (p : PlaceNotes)
    → a.places q ≡ Some p → b ≡ with_cuts f a → c ≡ with_cuts g b
    → c.places q ≡ Some (cut_by (g q) (cut_by (f q) p))
seen_after b c f g a q p e is at =
    ap (λ (n : DraftNotes). n.places q) at
    ∙ ap (λ (n : DraftNotes). option_map (cut_by (g q)) (n.places q)) is
    ∙ ap (λ (o : Option PlaceNotes). option_map (cut_by (g q)) (option_map (cut_by (f q)) o)) e

last_cut : (b x : Bool) (o : Option Bool) (p : PlaceNotes) → o ≡ Some x
    → (cut_by (cond b (Some true) None) (cut_by o p)).is_cut ≡ (b || x)
last_cut true x o p e = refl
last_cut false x o p e = ap (λ (y : Option Bool). (cut_by y p).is_cut) e

is_cut_after : (b c : DraftNotes) (f : List ℕ → Option Bool) (given : List ℕ → Bool) (a : DraftNotes) (q : List ℕ)
    → (p : PlaceNotes) (x : Bool) → a.places q ≡ Some p → f q ≡ Some x → b ≡ with_cuts f a
    → c ≡ with_cuts (set_to given) b
    → option_map_or (λ (y : PlaceNotes). y.is_cut) (c.places q) false ≡ (given q || x)
is_cut_after b c f given a q p x e k is at =
    ap (λ (o : Option PlaceNotes). option_map_or (λ (y : PlaceNotes). y.is_cut) o false)
    (seen_after b c f (set_to given) a q p e is at)
    ∙ last_cut (given q) x (f q) p k

-- which domains are delegated, once all is settled
pub settled_cut : (hosts domains mirrors : List Entry) (d b c : DraftNotes)
    → AreTaken hosts domains mirrors domains d
    → SettlesAll (with_settled d) b → SettlesMirrored b c → (q : List ℕ) (e : Entry)
    → is_some (d.places q) ≡ true → is_in_zone d.settings q ≡ true → domain_here domains q ≡ Some e
    → IsTrue (option_map_or (λ (p : PlaceNotes). p.is_cut) (c.places q) false)
    ↔ IsDelegatedHere d.settings d.is_given hosts domains e
settled_cut hosts domains mirrors d b c t all last q e there u here =
    let w = there_is (d.places q) there in
    let p = w.0 in
    let h = t.places q p w.1 in
    let dom : p.is_domain ≡ true = h.domain ∙ ap is_some here in
    let says = subst (λ (o : Option Entry). IfSome o (λ x. SaysOf d.settings x p)) here h.says in
    let one = all.2 q p w.1 in
    let middle : b.places q ≡ Some (cut_by (all.0 q) p) = ap (λ (n : DraftNotes). n.places q) all.1
    ∙ ap (option_map (cut_by (all.0 q))) w.1 in
    let is = is_cut_after b c all.0 last.0 (with_settled d) q p one.0 w.1 one.1 all.1 last.1 in
    let served = served_here hosts domains mirrors d t q e p u here dom says in (
      λ x. or_cases (last.0 q) one.0 (IsDelegatedHere d.settings d.is_given hosts domains e) (sym is ∙ x)
          (λ m. let clash : true ≡ false = sym (cut_domain (all.0 q) p ∙ dom)
          ∙ ((last.2 q (cut_by (all.0 q) p) middle).0 m).0 in absurd (cc clash))
          (λ m. served.0 (one.2.0 m)),
      λ y. is ∙ or_more (last.0 q) one.0 (one.2.1 (served.1 y)),
    )

-- which mirrored names are
pub mirrored_cut : (hosts domains mirrors : List Entry) (d b c : DraftNotes)
    → AreTaken hosts domains mirrors domains d
    → SettlesAll (with_settled d) b → SettlesMirrored b c → (q : List ℕ)
    → is_some (d.places q) ≡ true → domain_here domains q ≡ None
    → IsTrue (option_map_or (λ (p : PlaceNotes). p.is_cut) (c.places q) false)
    ↔ ((original : List ℕ) × (original_here mirrors q ≡ Some original) × IsCutDomain c original)
mirrored_cut hosts domains mirrors d b c t all last q there here =
    let w = there_is (d.places q) there in
    let p = w.0 in
    let h = t.places q p w.1 in
    let dom : p.is_domain ≡ false = h.domain ∙ ap is_some here in
    let one = all.2 q p w.1 in
    let cut = cut_by (all.0 q) p in
    let middle : b.places q ≡ Some cut = ap (λ (n : DraftNotes). n.places q) all.1
    ∙ ap (option_map (cut_by (all.0 q))) w.1 in
    let is = is_cut_after b c all.0 last.0 (with_settled d) q p one.0 w.1 one.1 all.1 last.1 in
    let known : (r : List ℕ) (x : PlaceNotes) → b.places r ≡ Some x → last.0 r ≡ true → x.is_domain ≡ false =
    λ r x k m. ((last.2 r x k).0 m).0 in
    let Goal = (original : List ℕ) × (original_here mirrors q ≡ Some original) × IsCutDomain c original in
    let moved : (name : List ℕ) → IsCutDomain c name ↔ IsCutDomain b name = λ name.
    subst (λ (n : DraftNotes). IsCutDomain n name ↔ IsCutDomain b name) (sym last.1)
    (same_cuts b last.0 known name) in (
      λ x. or_cases (last.0 q) one.0 Goal (sym is ∙ x)
          (λ m.
          let k = (last.2 q cut middle).0 m in
          (k.1, sym h.original ∙ sym (cut_mirrors (all.0 q) p) ∙ k.2, (moved k.1).1 k.3))
          (λ m. let clash : false ≡ true = sym dom ∙ (one.2.0 m).0 in absurd (cc clash)),
      λ y. is ∙ or_left (last.0 q) one.0 ((last.2 q cut middle).1
          (cut_domain (all.0 q) p ∙ dom, y.0, cut_mirrors (all.0 q) p ∙ h.original ∙ y.1, (moved y.0).0 y.2)),
    )

-- what is said of servers, as it is noted
pub said_noted : (d : Draft) → (zone_notes d).said ≡ noted_texts (draft_notes d)
said_noted d = fun_ext (λ host. said_seen (get name_cmp d.servers host))
