-- Names that are noted.
use mathlib.Core.Path.{fun_ext}
use Rattle.std.proofs.Common.{◌≡◌, ℕ, List, [], ◌∷◌, Option, Some, None, Bool, true, false}
use Rattle.std.proofs.Common.{refl, sym, ◌∙◌, ap, subst, take, suc, arith, ◌+◌, ◌<◌, length, get_or, map}
use Rattle.std.specs.Prelude.{cond, is_some, ◌||◌, ◌&&◌, ◌↔◌, filter_map, Result, Ok, Err, OnOk}
use Rattle.std.specs.List.{prefix_len, list_any, Contains, cons_option}
use Rattle.std.specs.declared.cmp.Ordering.{Ordering}
use Rattle.std.specs.Option.{option_map, unwrap_or}
use Rattle.std.proofs.lemmas.Map.Lookups.{exact_bytes}
use Rattle.std.proofs.lemmas.Map.Views.{tells_apart}
use Rattle.std.proofs.lemmas.Map.Made.{is_some-lookup}
use Rattle.std.specs.BTreeMap.{BTreeMap, get, keys}
use Rattle.std.specs.Cmp.Lexicographic.{nat_list_cmp_total}
use Rattle.std.proofs.lemmas.List.{map-append}
use Rattle.std.proofs.lemmas.List.Folds.{list_any-append, list_any_at, list_any_more, Any-from_list_any}
use Rattle.esc_zone.specs.declared.draft.Settings.{Settings}
use Rattle.esc_zone.specs.declared.draft.Server.{Server}
use Rattle.esc_apply.specs.ObjectStreams.{Entry}
use Rattle.esc_zone.specs.Names.{name_cmp, name_eq, names_above, name_above, is_name_with}
use Rattle.esc_zone.specs.Delegations.{server_texts}
use Rattle.esc_zone.specs.Fields.{normal}
use Rattle.esc_zone.specs.Noted.{DraftNotes, ServerNotes, PlaceNotes, server_notes, with_new, with_noted, new_server}
use Rattle.esc_zone.specs.Noted.{new_place, is_among_names, zone_names, is_in_zone, is_let_in_at, is_let_in}
use Rattle.esc_zone.specs.Noted.{is_server_at, is_above_use, is_server_among, is_above_uses, is_used_by, is_above_used}
use Rattle.esc_zone.specs.Noted.{is_zone_server, zone_server_in, with_domain, place_said, with_place, with_domain_of}
use Rattle.esc_zone.specs.Noted.{with_texts, texts_above, with_own, settled_among, with_settled}
use Rattle.esc_zone.specs.Lists.{IsOrderedOnce}
use Rattle.esc_zone.proofs.Listed.{front_more}
use Rattle.esc_zone.proofs.Above.{names_from, names_next}

-- names that are equal by their bytes are one
pub one_name : (a b : List ℕ) → name_eq a b ≡ true → a ≡ b
one_name a b h = tells_apart exact_bytes a b h

-- what is seen of a value is there if the value is
pub is_some_map : {V X : Type 0} → (view : V → X) (o : Option V) → is_some (option_map view o) ≡ is_some o
is_some_map view None = refl
is_some_map view (Some x) = refl

first_by : {V X : Type 0} → (view : V → X) (o new : Option V) (v : V) (b : Bool) → new ≡ cond b (Some v) o
    → (b ≡ true → is_some o ≡ false)
    → option_map view new ≡ cond b (Some (unwrap_or (option_map view o) (view v))) (option_map view o)
first_by view None new v true e none = ap (option_map view) e
first_by view (Some x) new v true e none = absurd (cc (none refl))
first_by view o new v false e none = ap (option_map view) e

-- a name that was not noted is noted
pub noted_first : {V X : Type 0} → (view : V → X) (f g : List ℕ → Option V) (v : V) (empty : X) (name : List ℕ)
    → is_some (f name) ≡ false → view v ≡ empty → ((q : List ℕ) → g q ≡ cond (name_eq name q) (Some v) (f q))
    → (q : List ℕ) → option_map view (g q) ≡ with_new (name_eq name) empty (λ n. option_map view (f n)) q
noted_first view f g v empty name none is put q =
    first_by view (f q) (g q) v (name_eq name q) (put q)
    (λ e. subst (λ n. is_some (f n) ≡ false) (one_name name q e) none)
    ∙ ap (λ x. cond (name_eq name q) (Some (unwrap_or (option_map view (f q)) x)) (option_map view (f q))) is

again_by : {V X : Type 0} → (view : V → X) (o : Option V) (empty : X) (b : Bool) → (b ≡ true → is_some o ≡ true)
    → option_map view o ≡ cond b (Some (unwrap_or (option_map view o) empty)) (option_map view o)
again_by view None empty true some = absurd (cc (some refl))
again_by view (Some x) empty true some = refl
again_by view o empty false some = refl

-- a name that was noted stays so
pub noted_again : {V X : Type 0} → (view : V → X) (f : List ℕ → Option V) (empty : X) (name : List ℕ)
    → is_some (f name) ≡ true
    → (q : List ℕ) → option_map view (f q) ≡ with_new (name_eq name) empty (λ n. option_map view (f n)) q
noted_again view f empty name some q =
    again_by view (f q) empty (name_eq name q) (λ e. subst (λ n. is_some (f n) ≡ true) (one_name name q e) some)

both_by : {X : Type 0} → (a b : Bool) (empty : X) (o : Option X)
    → cond b (Some (unwrap_or (cond a (Some (unwrap_or o empty)) o) empty)) (cond a (Some (unwrap_or o empty)) o)
    ≡ cond (a || b) (Some (unwrap_or o empty)) o
both_by true true empty o = refl
both_by true false empty o = refl
both_by false true empty o = refl
both_by false false empty o = refl

-- names that are noted one after the other are noted together
pub with_both_new : {X : Type 0} → (s t : List ℕ → Bool) (empty : X) (f : List ℕ → Option X)
    → with_new t empty (with_new s empty f) ≡ with_new (λ q. s q || t q) empty f
with_both_new s t empty f = fun_ext (λ q. both_by (s q) (t q) empty (f q))

-- and servers
pub with_both_noted : (s t u v : List ℕ → Bool) (d : DraftNotes)
    → with_noted u v (with_noted s t d) ≡ with_noted (λ q. s q || u q) (λ q. t q || v q) d
with_both_noted s t u v d =
    ap (λ servers. record (with_noted u v (with_noted s t d)) { servers = servers })
    (with_both_new s u new_server d.servers)
    ∙ ap (λ places. record (with_noted (λ q. s q || u q) v d) { places = places })
    (with_both_new t v new_place d.places)

-- the first of some, and the others
pub take_one : (k : ℕ) (x : List ℕ) (xs : List (List ℕ)) → take (1 + k) (x ∷ xs) ≡ x ∷ take k xs
take_one k x xs =
    let e : suc k ≡ 1 + k = omega arith in
    subst (λ n. take n (x ∷ xs) ≡ x ∷ take k xs) e refl

among_from : (s : Settings) (found : Option (List ℕ))
    → take (prefix_len (is_in_zone s) (names_from found)) (names_from found) ≡ zone_names s found
among_from s None = refl
among_from s (Some name) = refl

-- a name in the zone, and those above it
pub names_inside : (s : Settings) (name : List ℕ) → is_in_zone s name ≡ true
    → zone_names s (Some name) ≡ name ∷ zone_names s (name_above name)
names_inside s name inside =
    let names = names_above name in
    let p = is_in_zone s in
    ap (λ b. take (cond b (1 + prefix_len p names) 0) (name ∷ names)) inside
    ∙ take_one (prefix_len p names) name names
    ∙ ap (λ rest. name ∷ take (prefix_len p rest) rest) (names_next name)
    ∙ ap (λ rest. name ∷ rest) (among_from s (name_above name))

-- no name, if that is not in the zone
pub names_outside : (s : Settings) (name : List ℕ) → is_in_zone s name ≡ false → zone_names s (Some name) ≡ []
names_outside s name outside =
    let names = names_above name in
    ap (λ b. take (cond b (1 + prefix_len (is_in_zone s) names) 0) (name ∷ names)) outside

-- what follows from a result's clause
pub on_ok_then : {T E : Type 0} (r : Result T E) (P Q : Type 0) → (P → Q) → OnOk r P → OnOk r Q
on_ok_then (Ok x) P Q f h = f h
on_ok_then (Err e) P Q f h = h

pub or_false : (b : Bool) → (b || false) ≡ b
or_false true = refl
or_false false = refl

-- what was made only if a test passes was not, so that it fails
pub made_not : {X : Type 0} (b : Bool) (x : X) → None ≡ cond b (Some x) None → b ≡ false
made_not true x e = absurd (cc e)
made_not false x e = refl

-- one more of these may pass a test
pub any_step : {A X : Type 0} (f : X → Bool) (g : A → X) (xs : List A) (i : ℕ) (x : A) → i < length xs
    → x ≡ get_or xs i x
    → (list_any f (map g (take i xs)) || f (g x)) ≡ list_any f (map g (take (i + 1) xs))
any_step f g xs i x lt is =
    sym (ap (λ l. list_any f (map g l)) (front_more xs i x lt is)
    ∙ ap (list_any f) (map-append g (take i xs) (x ∷ []))
    ∙ list_any-append f (map g (take i xs)) (g x ∷ [])
    ∙ ap (λ b. list_any f (map g (take i xs)) || b) (or_false (f (g x))))

same_test : (a b : Bool) → (a ≡ true → b ≡ true) → (b ≡ true → a ≡ true) → a ≡ b
same_test true true f g = refl
same_test true false f g = sym (f refl)
same_test false true f g = g refl
same_test false false f g = refl

any_moved : {X : Type 0} (f : X → Bool) (xs ys : List X) → ((x : X) → Contains xs x → Contains ys x)
    → list_any f xs ≡ true → list_any f ys ≡ true
any_moved f xs ys into h =
    let w = Any-from_list_any f xs h in
    let there = into w.1 (w.0, w.2, w.3) in
    list_any_at f ys there.0 w.1 there.1 (ap f there.2 ∙ w.4)

-- a test finds the same among the same things in order
pub any_ordered : {X : Type 0} (cmp : X → X → Ordering) (f : X → Bool) (given xs : List X)
    → IsOrderedOnce cmp given xs → list_any f xs ≡ list_any f given
any_ordered cmp f given xs o =
    same_test (list_any f xs) (list_any f given) (any_moved f xs given (λ x. (o.same x).0))
    (any_moved f given xs (λ x. (o.same x).1))

-- the servers of a domain in order are those that its rows say
pub ordered_noted : (s : Settings) (name : List ℕ) (given texts : List (List ℕ)) (d : DraftNotes)
    → IsOrderedOnce name_cmp given texts
    → with_noted (is_server_among s texts) (is_above_uses s name texts) d
    ≡ with_noted (is_server_among s given) (is_above_uses s name given) d
ordered_noted s name given texts d o =
    ap (λ t. with_noted t (is_above_uses s name texts) d)
    (fun_ext (λ q. any_ordered name_cmp (λ text. is_server_at s text q) given texts o))
    ∙ ap (λ t. with_noted (is_server_among s given) t d)
    (fun_ext (λ q. any_ordered name_cmp (λ text. is_above_use s name text q) given texts o))

-- whether a domain is let in, by its name
pub let_in_by : (s : Settings) (e : Entry) (name : List ℕ) (b : Bool) → is_name_with false (normal e.0.text) ≡ true
    → normal e.0.text ≡ name → is_let_in_at s name e.1.children ≡ b → is_let_in s e ≡ b
let_in_by s e name b named is holds =
    ap (λ x. x && is_let_in_at s (normal e.0.text) e.1.children) named
    ∙ ap (λ n. is_let_in_at s n e.1.children) is ∙ holds

-- nothing is noted of a domain that is not let in
pub shut_noted : (d : DraftNotes) (e : Entry) → is_let_in d.settings e ≡ false
    → d ≡ with_noted (is_used_by d.settings e) (is_above_used d.settings e) d
shut_noted d e shut =
    ap (λ b. with_noted (λ q. b && is_server_among d.settings (server_texts e.1.children) q)
    (λ q. b && is_above_uses d.settings (normal e.0.text) (server_texts e.1.children) q) d) (sym shut)

-- of one that is let in, its servers are noted
pub open_noted : (d : DraftNotes) (e : Entry) → is_let_in d.settings e ≡ true
    → with_noted (is_server_among d.settings (server_texts e.1.children))
    (is_above_uses d.settings (normal e.0.text) (server_texts e.1.children)) d
    ≡ with_noted (is_used_by d.settings e) (is_above_used d.settings e) d
open_noted d e holds =
    ap (λ b. with_noted (λ q. b && is_server_among d.settings (server_texts e.1.children) q)
    (λ q. b && is_above_uses d.settings (normal e.0.text) (server_texts e.1.children) q) d) (sym holds)

changed_by : {V X : Type 0} → (view : V → X) (change : X → X) (o new : Option V) (old w : V) (b : Bool)
    → new ≡ cond b (Some w) o → (b ≡ true → o ≡ Some old) → view w ≡ change (view old)
    → option_map view new ≡ cond b (option_map change (option_map view o)) (option_map view o)
changed_by view change o new old w true e found is =
    ap (option_map view) e ∙ ap Some is ∙ ap (λ x. option_map change (option_map view x)) (sym (found refl))
changed_by view change o new old w false e found is = ap (option_map view) e

-- what is noted of one name is changed
pub noted_changed : {V X : Type 0} → (view : V → X) (change : X → X) (f g : List ℕ → Option V) (old w : V)
    → (name : List ℕ) → f name ≡ Some old → view w ≡ change (view old)
    → ((q : List ℕ) → g q ≡ cond (name_eq name q) (Some w) (f q))
    → (q : List ℕ) → option_map view (g q)
    ≡ cond (name_eq name q) (option_map change (option_map view (f q))) (option_map view (f q))
noted_changed view change f g old w name found is put q =
    changed_by view change (f q) (g q) old w (name_eq name q) (put q)
    (λ e. subst (λ n. f n ≡ Some old) (one_name name q e) found) is

same_cond : {X : Type 0} (b : Bool) (o : Option X) → cond b (option_map (λ x. x) o) o ≡ o
same_cond true None = refl
same_cond true (Some x) = refl
same_cond false o = refl

-- a value is written that looks the same
pub noted_same : {V X : Type 0} → (view : V → X) (f g : List ℕ → Option V) (old w : V) (name : List ℕ)
    → f name ≡ Some old → view w ≡ view old → ((q : List ℕ) → g q ≡ cond (name_eq name q) (Some w) (f q))
    → (q : List ℕ) → option_map view (g q) ≡ option_map view (f q)
noted_same {V} {X} view f g old w name found is put q =
    noted_changed view (λ (x : X). x) f g old w name found is put q
    ∙ same_cond (name_eq name q) (option_map view (f q))

absent_by : {V X : Type 0} → (view : V → X) (change : X → X) (o : Option V) (b : Bool) → (b ≡ true → o ≡ None)
    → option_map view o ≡ cond b (option_map change (option_map view o)) (option_map view o)
absent_by view change o true none =
    ap (option_map view) (none refl) ∙ sym (ap (λ x. option_map change (option_map view x)) (none refl))
absent_by view change o false none = refl

-- nothing is noted of a name, and nothing changes
pub noted_absent : {V X : Type 0} → (view : V → X) (change : X → X) (f : List ℕ → Option V) (name : List ℕ)
    → f name ≡ None → (q : List ℕ) → option_map view (f q)
    ≡ cond (name_eq name q) (option_map change (option_map view (f q))) (option_map view (f q))
noted_absent view change f name none q =
    absent_by view change (f q) (name_eq name q) (λ e. subst (λ n. f n ≡ None) (one_name name q e) none)

-- what has the same parts is the same
pub same_place_notes : (p q : PlaceNotes) → p.is_domain ≡ q.is_domain → p.is_let_in ≡ q.is_let_in
    → p.has_outside ≡ q.has_outside → p.has_inside ≡ q.has_inside → p.said ≡ q.said → p.mirrors ≡ q.mirrors
    → p.is_cut ≡ q.is_cut → p ≡ q
same_place_notes p q domain let_in outside inside said mirrors cut = λ i. record {
  is_domain = domain i;
  is_let_in = let_in i;
  has_outside = outside i;
  has_inside = inside i;
  said = said i;
  mirrors = mirrors i;
  is_cut = cut i;
}

-- those of these texts that are servers in the zone
abbrev pub texts_as : Settings → List (List ℕ) → List (List ℕ)
texts_as s texts = filter_map (zone_server_in s) texts

one_inside : (s : Settings) (text host : List ℕ) (b : Bool) (rest : List (List ℕ))
    → is_among_names (cons_option (cond b (Some text) None) rest) host
    ≡ ((b && name_eq text host) || is_among_names rest host)
one_inside s text host true rest = refl
one_inside s text host false rest = refl

-- a server is one of them, if it is one of the texts
pub among_inside : (s : Settings) (texts : List (List ℕ)) (host : List ℕ)
    → is_among_names (texts_as s texts) host ≡ is_server_among s texts host
among_inside s [] host = refl
among_inside s (text ∷ texts) host =
    one_inside s text host (is_zone_server s text) (texts_as s texts)
    ∙ ap (λ b. is_server_at s text host || b) (among_inside s texts host)

-- what is not there is nothing
pub none_of : {X : Type 0} (o : Option X) → is_some o ≡ false → o ≡ None
none_of None h = refl
none_of (Some x) h = absurd (cc h)

-- what a domain says is taken by the name that its key is
pub domain_place : (d : DraftNotes) (e : Entry) (name : List ℕ) → is_name_with false (normal e.0.text) ≡ true
    → normal e.0.text ≡ name → with_place name e.1.children d ≡ with_domain_of e d
domain_place d e name named is =
    let t = normal e.0.text in
    let change = with_domain (place_said d e.1.children) in
    ap (λ n. with_place n e.1.children d) (sym is)
    ∙ ap (λ b. record d { places = λ q. cond (b && name_eq t q) (option_map change (d.places q)) (d.places q) })
    (sym named)

twice_texts : (texts : List (List ℕ)) (b : Bool) (said : List (List ℕ))
    → with_texts texts (with_texts texts (record { is_object = b; said = said }))
    ≡ with_texts texts (record { is_object = b; said = said })
twice_texts texts true said = refl
twice_texts texts false said = refl

twice_settled : (texts : List (List ℕ)) (o : Option ServerNotes)
    → option_map (with_texts texts) (option_map (with_texts texts) o) ≡ option_map (with_texts texts) o
twice_settled texts None = refl
twice_settled texts (Some x) = ap Some (twice_texts texts x.is_object x.said)

settled_by : (a b : Bool) (mine texts : List (List ℕ)) (o : Option ServerNotes) → (b ≡ true → mine ≡ texts)
    → cond b (option_map (with_texts mine) (cond a (option_map (with_texts texts) o) o))
    (cond a (option_map (with_texts texts) o) o)
    ≡ cond (a || b) (option_map (with_texts texts) o) o
settled_by true true mine texts o same =
    ap (λ t. option_map (with_texts t) (option_map (with_texts texts) o)) (same refl) ∙ twice_settled texts o
settled_by false true mine texts o same = ap (λ t. option_map (with_texts t) o) (same refl)
settled_by true false mine texts o same = refl
settled_by false false mine texts o same = refl

-- one more server is settled
pub settled_step : (d : DraftNotes) (names : List (List ℕ)) (i : ℕ) (name : List ℕ) → i < length names
    → name ≡ get_or names i name
    → with_own name (texts_above d name) (settled_among (take i names) d) ≡ settled_among (take (i + 1) names) d
settled_step d names i name lt is =
    ap (λ servers. record d { servers = servers })
    (fun_ext (λ q. settled_by (is_among_names (take i names) q) (name_eq name q) (texts_above d name) (texts_above d q)
    (d.servers q) (λ h. ap (texts_above d) (one_name name q h))
    ∙ ap (λ b. cond b (option_map (with_texts (texts_above d q)) (d.servers q)) (d.servers q))
    (ap (λ n. is_among_names (take i names) q || name_eq n q) is
    ∙ sym (list_any_more (λ n. name_eq n q) names i name lt))))

-- a name is itself
pub name_self : (a : List ℕ) → name_eq a a ≡ true
name_self a = grind (arith, nat_list_cmp_total)

-- names are equal in either order
pub name_flip : (a b : List ℕ) → name_eq a b ≡ name_eq b a
name_flip a b =
    same_test (name_eq a b) (name_eq b a) (λ h. subst (λ x. name_eq x a ≡ true) (one_name a b h) (name_self a))
    (λ h. subst (λ x. name_eq x b ≡ true) (one_name b a h) (name_self b))

any_alike : {X : Type 0} (f g : X → Bool) → ((x : X) → f x ≡ g x) → (xs : List X) → list_any f xs ≡ list_any g xs
any_alike f g same xs = ap (λ h. list_any h xs) (fun_ext same)

all_by : (b : Bool) (texts : List (List ℕ)) (o : Option ServerNotes) → is_some o ≡ b
    → cond b (option_map (with_texts texts) o) o ≡ option_map (with_texts texts) o
all_by true texts o e = refl
all_by false texts o e = none_of o e ∙ sym (ap (option_map (with_texts texts)) (none_of o e))

-- all servers are settled
pub settled_all : (d : DraftNotes) (m : BTreeMap (List ℕ) Server)
    → d.servers ≡ (λ q. option_map server_notes (get name_cmp m q))
    → settled_among (keys m) d ≡ with_settled d
settled_all d m is =
    ap (λ servers. record d { servers = servers })
    (fun_ext (λ q. all_by (is_among_names (keys m) q) (texts_above d q) (d.servers q)
    (ap (λ f. is_some (f q)) is ∙ is_some_map server_notes (get name_cmp m q)
    ∙ is_some-lookup (λ k. name_eq q k) m.entries
    ∙ any_alike (λ k. name_eq q k) (λ k. name_eq k q) (λ k. name_flip q k) (keys m))))
