-- Walks over objects.
use mathlib.Core.Path.{fun_ext}
use Rattle.std.proofs.Common.{◌≡◌, ℕ, List, [], ◌∷◌, ◌++◌, Option, Some, None, Bool, true, false}
use Rattle.std.proofs.Common.{refl, sym, ◌∙◌, ap, subst, append-nil, append_assoc}
use Rattle.std.specs.Prelude.{cond, ◌||◌, filter, Result, Ok, Err, IfOk, MatchResult}
use Rattle.std.specs.Result.{IsErrAnd}
use Rattle.std.specs.List.{list_any, flat_map, last_or, cons_option, filter_map}
use Rattle.std.specs.Option.{option_map, option_or}
use Rattle.std.proofs.lemmas.List.Elements.{filter_map-append}
use Rattle.std.proofs.lemmas.List.Folds.{list_any-append}
use Rattle.std.proofs.lemmas.Grind.{flat_map-append}
use Rattle.esc_apply.specs.ObjectStreams.{Entry}
use Rattle.esc_zone.specs.declared.draft.Settings.{Settings}
use Rattle.esc_zone.specs.Fields.{normal}
use Rattle.esc_zone.specs.Noted.{DraftNotes, ServerNotes, PlaceNotes, with_noted, is_used_by, is_above_used}
use Rattle.esc_zone.specs.Noted.{is_used_here, is_above_here, with_uses, is_host_named, host_texts, with_host_texts}
use Rattle.esc_zone.specs.Noted.{with_host, is_host_here, hosts_texts, with_hosts_texts, with_hosts}
use Rattle.esc_zone.specs.Noted.{is_domain_named, domain_here, with_domain, place_said, with_domain_of}
use Rattle.esc_zone.specs.Noted.{with_domain_here, with_domains}
use Rattle.esc_zone.specs.Noted.{original_given, with_original, with_original_of, given_here, with_originals}
use Rattle.esc_zone.proofs.Noting.{with_both_noted, or_false}
use Rattle.esc_zone.proofs.Taken.{both_originals}

abbrev value_or : {A E : Type 0} → Result A E → A → A
value_or (Ok x) d = x
value_or (Err e) d = d

-- what holds of a result holds of what came through where its fault was changed
pub came : {A E F : Type 0} (P : A → Type 0) (Q : E → F → Type 0) (r : Result A E) (s : Result A F)
    (x : A) → MatchResult r (λ y. s ≡ Ok y) (λ e. IsErrAnd s (Q e)) → s ≡ Ok x → IfOk r P → P x
came P Q (Ok y) s x is at holds = subst P (λ i. value_or ((sym is ∙ at) i) y) holds
came P Q (Err e) s x is at holds = absurd (subst (λ t. IsErrAnd t (Q e)) at is)

any_last : (f : Entry → Bool) (es : List Entry) (e : Entry)
    → (list_any f es || f e) ≡ list_any f (es ++ e ∷ [])
any_last f es e =
    sym (list_any-append f es (e ∷ []) ∙ ap (λ b. list_any f es || b) (or_false (f e)))

-- one more domain's servers are noted
pub uses_step : (es : List Entry) (e : Entry) (d : DraftNotes)
    → with_noted (is_used_by d.settings e) (is_above_used d.settings e) (with_uses es d) ≡ with_uses (es ++ e ∷ []) d
uses_step es e d =
    let s = d.settings in
    with_both_noted (is_used_here s es) (is_above_here s es) (is_used_by s e) (is_above_used s e) d
    ∙ ap (λ t. with_noted t (λ q. is_above_here s es q || is_above_used s e q) d)
    (fun_ext (λ q. any_last (λ x. is_used_by s x q) es e))
    ∙ ap (λ t. with_noted (is_used_here s (es ++ e ∷ [])) t d)
    (fun_ext (λ q. any_last (λ x. is_above_used s x q) es e))

filter_last : (p : Entry → Bool) (es : List Entry) (e : Entry)
    → filter p (es ++ e ∷ []) ≡ filter p es ++ cond (p e) (e ∷ []) []
filter_last p [] e = refl
filter_last p (x ∷ es) e =
    elim (p x) as (λ v. cond v (x ∷ filter p (es ++ e ∷ [])) (filter p (es ++ e ∷ []))
    ≡ cond v (x ∷ filter p es) (filter p es) ++ cond (p e) (e ∷ []) []) [
      | true ↦ ap (λ l. x ∷ l) (filter_last p es e)
      | false ↦ filter_last p es e
    ]

texts_one : (s : Settings) (b : Bool) (e : Entry)
    → flat_map (λ (x : Entry). host_texts x.1.children) (cond b (e ∷ []) []) ≡ cond b (host_texts e.1.children) []
texts_one s true e = append-nil (host_texts e.1.children)
texts_one s false e = refl

-- the texts of one more host
texts_last : (s : Settings) (es : List Entry) (e : Entry) (q : List ℕ)
    → hosts_texts s (es ++ e ∷ []) q ≡ hosts_texts s es q ++ cond (is_host_named s q e) (host_texts e.1.children) []
texts_last s es e q =
    let f = λ (x : Entry). host_texts x.1.children in
    ap (flat_map f) (filter_last (is_host_named s q) es e)
    ∙ flat_map-append f (filter (is_host_named s q) es) (cond (is_host_named s q e) (e ∷ []) [])
    ∙ ap (λ l. hosts_texts s es q ++ l) (texts_one s (is_host_named s q e) e)

or_true : (a : Bool) → true ≡ (a || true)
or_true true = refl
or_true false = refl

host_by : (b a : Bool) (said texts : List (List ℕ)) (o : Option ServerNotes)
    → cond b (option_map (with_host_texts texts)
    (option_map (λ n. record { is_object = n.is_object || a; said = n.said ++ said }) o))
    (option_map (λ n. record { is_object = n.is_object || a; said = n.said ++ said }) o)
    ≡ option_map (λ n. record { is_object = n.is_object || (a || b); said = n.said ++ (said ++ cond b texts []) }) o
host_by true a said texts None = refl
host_by false a said texts None = refl
host_by true a said texts (Some n) =
    ap (λ l. Some (record { is_object = true; said = l })) (append_assoc n.said said texts)
    ∙ ap (λ x. Some (record { is_object = x; said = n.said ++ (said ++ texts) }))
    (or_true n.is_object ∙ ap (λ x. n.is_object || x) (or_true a))
host_by false a said texts (Some n) =
    ap (λ l. Some (record { is_object = n.is_object || a; said = n.said ++ l })) (sym (append-nil said))
    ∙ ap (λ x. Some (record { is_object = n.is_object || x; said = n.said ++ (said ++ []) })) (sym (or_false a))

-- one more host's addresses are taken
pub hosts_step : (es : List Entry) (e : Entry) (d : DraftNotes)
    → with_host e (with_hosts es d) ≡ with_hosts (es ++ e ∷ []) d
hosts_step es e d =
    let s = d.settings in
    ap (λ servers. record d { servers = servers })
    (fun_ext (λ q. host_by (is_host_named s q e) (is_host_here s es q) (hosts_texts s es q) (host_texts e.1.children)
    (d.servers q)
    ∙ ap (λ a. option_map (λ n. record {
      is_object = n.is_object || a;
      said = n.said ++ (hosts_texts s es q ++ cond (is_host_named s q e) (host_texts e.1.children) []);
    }) (d.servers q))
    (any_last (is_host_named s q) es e)
    ∙ ap (λ l. option_map (λ n. record {
      is_object = n.is_object || is_host_here s (es ++ e ∷ []) q;
      said = n.said ++ l;
    }) (d.servers q)) (sym (texts_last s es e q))))

last_append : (o : Option Entry) (es : List Entry) (e : Entry) → last_or o (es ++ e ∷ []) ≡ Some e
last_append o [] e = refl
last_append o (x ∷ es) e = last_append (Some x) es e

last_here : (es : List Entry) (e : Entry) (b : Bool)
    → last_or None (es ++ cond b (e ∷ []) []) ≡ cond b (Some e) (last_or None es)
last_here es e true = last_append None es e
last_here es e false = ap (last_or None) (append-nil es)

domain_by : (d : DraftNotes) (b : Bool) (e : Entry) (found : Option Entry) (o : Option PlaceNotes)
    → cond b (option_map (with_domain (place_said d e.1.children))
    (option_map (with_domain_here d found) o)) (option_map (with_domain_here d found) o)
    ≡ option_map (with_domain_here d (cond b (Some e) found)) o
domain_by d true e found None = refl
domain_by d true e None (Some p) = refl
domain_by d true e (Some f) (Some p) = refl
domain_by d false e found o = refl

-- what one more domain says is taken
pub domains_step : (es : List Entry) (e : Entry) (d : DraftNotes)
    → with_domain_of e (with_domains es d) ≡ with_domains (es ++ e ∷ []) d
domains_step es e d =
    ap (λ places. record d { places = places })
    (fun_ext (λ q. domain_by d (is_domain_named q e) e (domain_here es q) (d.places q)
    ∙ ap (λ o. option_map (with_domain_here d o) (d.places q))
    (sym (ap (last_or None) (filter_last (is_domain_named q) es e)
    ∙ last_here (filter (is_domain_named q) es) e (is_domain_named q e)))))

none_by : (o : Option ServerNotes)
    → o ≡ option_map (λ n. record { is_object = n.is_object || false; said = n.said ++ [] }) o
none_by None = refl
none_by (Some n) =
    ap (λ l. Some (record { is_object = n.is_object; said = l })) (sym (append-nil n.said))
    ∙ ap (λ x. Some (record { is_object = x; said = n.said ++ [] })) (sym (or_false n.is_object))

-- before the first host nothing is taken
pub hosts_none : (d : DraftNotes) → d ≡ with_hosts [] d
hosts_none d = ap (λ servers. record d { servers = servers }) (fun_ext (λ q. none_by (d.servers q)))

same_by : (d : DraftNotes) (o : Option PlaceNotes) → o ≡ option_map (with_domain_here d None) o
same_by d None = refl
same_by d (Some p) = refl

-- before the first domain nothing is taken
pub domains_none : (d : DraftNotes) → d ≡ with_domains [] d
domains_none d = ap (λ places. record d { places = places }) (fun_ext (λ q. same_by d (d.places q)))

last_some : {X : Type 0} (o : Option X) (xs : List X) (y : X) → last_or o (xs ++ y ∷ []) ≡ Some y
last_some o [] y = refl
last_some o (x ∷ xs) y = last_some (Some x) xs y

last_given : {X : Type 0} (xs : List X) (o : Option X)
    → last_or None (xs ++ cons_option o []) ≡ option_or o (last_or None xs)
last_given xs None = ap (last_or None) (append-nil xs)
last_given xs (Some y) = last_some None xs y

-- one more name's original is taken
pub originals_step : (es : List Entry) (e : Entry) (d : DraftNotes)
    → with_original_of e (with_originals es d) ≡ with_originals (es ++ e ∷ []) d
originals_step es e d =
    ap (λ places. record d { places = places })
    (fun_ext (λ q. both_originals (given_here es q) (original_given q e) (d.places q)
    ∙ ap (λ o. option_map (with_original o) (d.places q))
    (sym (ap (last_or None) (filter_map-append (original_given q) es (e ∷ []))
    ∙ last_given (filter_map (original_given q) es) (original_given q e)))))
