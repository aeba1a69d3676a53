-- What the parts of a series say, one after another.
use Rattle.std.proofs.Common.{◌≡◌, ℕ, suc, ◌<◌, Bool, true, false, cond, ◌||◌, true≢false, List, []}
use Rattle.std.proofs.Common.{◌∷◌, ◌++◌, length, get_or, reverse, Option, Some, None, is_some, refl}
use Rattle.std.proofs.Common.{sym, ap, subst, ◌∙◌, inl, inr, arith, append_assoc}
use Rattle.std.proofs.lemmas.List.{append-nil, reverse-append}
use Rattle.std.proofs.lemmas.List.Folds.{list_any-append}
use Rattle.std.proofs.lemmas.Map.Made.{is_some-lookup}
use Rattle.std.proofs.lemmas.Map.Keys.{IsDistinct-head, IsDistinct-tail}
use Rattle.std.specs.List.{AllPairs, AllByRecursion, IsDistinct, find, fold, list_any}
use Rattle.std.specs.Map.{lookup, keys_of}
use Rattle.std.specs.Option.{option_and_then, option_or}
use Rattle.esc_envelope.specs.declared.place.DepositType.TheVariants.{Diff}
use Rattle.esc_tables.specs.KeyName.{KeyName, key_eq}
use Rattle.esc_tables.specs.KeyLaws.{one_key}
use Rattle.esc_tables.specs.ObjectValue.{ObjectValue}
use Rattle.esc_tables.specs.DepositValue.{DepositValue}
use Rattle.esc_apply.specs.ObjectStreams.{Entry}
use Rattle.esc_apply.specs.Registry.{ObjectsByKey}
use Rattle.esc_apply.specs.Tables.{deletes_of, mentions, says, tables}
use Rattle.esc_series.specs.Applied.{kept_by, applied, applied_all}
use Rattle.esc_series.specs.Series.{all_deletes, all_contents, DeletesFirst, IsSeriesOf}

-- what may be at a key
abbrev Found : Type 0
Found = Option ObjectValue

-- a key is among the deletes of a deposit that count
abbrev deletes : KeyName → DepositValue → Bool
deletes q d = list_any (key_eq q) (deletes_of d)

-- a key is among those that the parts delete
abbrev all_delete : KeyName → List DepositValue → Bool
all_delete q parts = list_any (key_eq q) (all_deletes parts)

-- what the parts have at a key
abbrev all_say : KeyName → List DepositValue → Found
all_say q parts = lookup (key_eq q) (all_contents parts)

-- each key of entries comes once
abbrev AreOnce : List Entry → Type 0
AreOnce es = IsDistinct key_eq (keys_of es)

-- ---- what deposits say of a key, one after another

-- what is at a key once a deposit came that clears nothing, where w was there before
abbrev next_said : KeyName → Found → DepositValue → Found
next_said q w d = cond (mentions q d) (says q d) w

-- what is at a key once these deposits came
abbrev last_said : KeyName → Found → List DepositValue → Found
last_said q w ds = fold (next_said q) w ds

-- the last deposit decides what it mentions
tables-push : (c : List DepositValue) (d : DepositValue) (q : KeyName)
    → tables (c ++ d ∷ []) q ≡ next_said q (tables c q) d
tables-push c d q =
    ap (λ (l : List DepositValue). option_and_then (says q) (find (mentions q) l)) (reverse-append c (d ∷ []))
    ∙ by_mention (mentions q d)
  where
    by_mention : (b : Bool) → option_and_then (says q) (cond b (Some d) (find (mentions q) (reverse c)))
        ≡ cond b (says q d) (tables c q)
    by_mention true = refl
    by_mention false = refl

-- the tables of a list that goes on
tables-then : (b c : List DepositValue) (q : KeyName) → tables (b ++ c) q ≡ last_said q (tables b q) c
tables-then b [] q = ap (λ (l : List DepositValue). tables l q) (append-nil b)
tables-then b (d ∷ c) q =
    ap (λ (l : List DepositValue). tables l q) (sym (append_assoc b (d ∷ []) c))
    ∙ tables-then (b ++ d ∷ []) c q
    ∙ ap (λ (w : Found). last_said q w c) (tables-push b d q)

-- a deposit is a Differential
abbrev IsDiff : DepositValue → Type 0
IsDiff d = d.header.place.kind ≡ Diff

-- Differentials clear nothing
applied_others : (t : ObjectsByKey) (ds : List DepositValue) (q : KeyName) → AllByRecursion IsDiff ds
    → applied_all t ds q ≡ last_said q (t q) ds
applied_others t [] q are = refl
applied_others t (d ∷ ds) q are =
    applied_others (applied t d) ds q are.1
    ∙ ap (λ (w : Found). last_said q (cond (mentions q d) (says q d) w) ds) (ap (λ k. kept_by k t q) are.0)

-- ---- the keys of joined contents

-- what joined entries have at a key is what the earlier have, or else the later
lookup-append : (q : KeyName) (es fs : List Entry)
    → lookup (key_eq q) (es ++ fs) ≡ option_or (lookup (key_eq q) es) (lookup (key_eq q) fs)
lookup-append q [] fs = refl
lookup-append q (e ∷ es) fs = by_test (key_eq q e.0) (lookup-append q es fs)
  where
    by_test : (b : Bool)
        → lookup (key_eq q) (es ++ fs) ≡ option_or (lookup (key_eq q) es) (lookup (key_eq q) fs)
        → cond b (Some e.1) (lookup (key_eq q) (es ++ fs))
        ≡ option_or (cond b (Some e.1) (lookup (key_eq q) es)) (lookup (key_eq q) fs)
    by_test true rest = refl
    by_test false rest = rest

-- the later ones of joined entries have each key once
once_later : (es fs : List Entry) → AreOnce (es ++ fs) → AreOnce fs
once_later [] fs once = once
once_later (e ∷ es) fs once = once_later es fs (IsDistinct-tail key_eq e.0 (keys_of (es ++ fs)) once)

-- a key that differs from all keys of joined entries is not found in the later ones
not_later : (k : KeyName) (es fs : List Entry) → AllByRecursion (λ y. key_eq k y ≡ false) (keys_of (es ++ fs))
    → lookup (key_eq k) fs ≡ None
not_later k [] [] apart = refl
not_later k [] (f ∷ fs) apart =
    ap (λ b. cond b (Some f.1) (lookup (key_eq k) fs)) apart.0 ∙ not_later k [] fs apart.1
not_later k (e ∷ es) fs apart = not_later k es fs apart.1

-- what is found in earlier entries is in none of the later ones
found_once : (q : KeyName) (es fs : List Entry) → AreOnce (es ++ fs) → is_some (lookup (key_eq q) es) ≡ true
    → lookup (key_eq q) fs ≡ None
found_once q [] fs once found = absurd (true≢false (sym found))
found_once q (e ∷ es) fs once found =
    by_test (key_eq q e.0) refl found
    (found_once q es fs (IsDistinct-tail key_eq e.0 (keys_of (es ++ fs)) once))
  where
    by_test : (b : Bool) → key_eq q e.0 ≡ b → is_some (cond b (Some e.1) (lookup (key_eq q) es)) ≡ true
        → (is_some (lookup (key_eq q) es) ≡ true → lookup (key_eq q) fs ≡ None)
        → lookup (key_eq q) fs ≡ None
    by_test true same found rest =
        subst (λ (k : KeyName). lookup (key_eq k) fs ≡ None) (sym (one_key q e.0 same))
        (not_later e.0 es fs (IsDistinct-head key_eq e.0 (keys_of (es ++ fs)) once))
    by_test false other found rest = rest found

-- ---- deletes come first

-- the later parts delete nothing, where a part has contents
none_later : (p : DepositValue) (ps : List DepositValue)
    → ((j : ℕ) (d : DepositValue) → j < length ps → DeletesFirst p (get_or ps j d))
    → (p.contents ≡ [] → ⊥) → all_deletes ps ≡ []
none_later p [] first some = refl
none_later p (r ∷ ps) first some =
    let here : deletes_of r ≡ [] =
    elim (first 0 r (omega arith)) [ inl none ↦ absurd (some none) | inr none ↦ none ] in
    ap (λ (l : List KeyName). l ++ all_deletes ps) here
    ∙ none_later p ps (λ j d below. first (suc j) d (omega arith)) some

-- ---- what the parts say together

-- what is at a key, given whether it is deleted, and the object that it gets
abbrev settled : Bool → Found → Found → Found
settled deleted said w = cond (deleted || is_some said) said w

-- a deposit mentions the keys that it deletes and those of its objects
mentions_is : (d : DepositValue) (q : KeyName) → mentions q d ≡ (deletes q d || is_some (says q d))
mentions_is d q =
    list_any-append (key_eq q) (deletes_of d) (keys_of d.contents)
    ∙ ap (λ b. deletes q d || b) (sym (is_some-lookup (key_eq q) d.contents))

-- a part before others: where it has an object, they neither delete it nor have another
settled_then : (deleted later : Bool) (said others w : Found)
    → (is_some said ≡ true → (later ≡ false) × (others ≡ None))
    → settled later others (settled deleted said w) ≡ settled (deleted || later) (option_or said others) w
settled_then deleted later (Some o) others w last =
    let apart = last refl in
    ap (λ b. settled b others (settled deleted (Some o) w)) apart.0
    ∙ ap (λ (v : Found). settled false v (settled deleted (Some o) w)) apart.1
    ∙ by_deletes deleted later
  where
    by_deletes : (a b : Bool) → settled a (Some o) w ≡ settled (a || b) (Some o) w
    by_deletes true b = refl
    by_deletes false true = refl
    by_deletes false false = refl
settled_then true true None others w last = refl
settled_then true false None None w last = refl
settled_then true false None (Some o) w last = refl
settled_then false later None others w last = refl

-- entries in which a key is found are not empty
not_empty : (q : KeyName) (es : List Entry) → is_some (lookup (key_eq q) es) ≡ true → es ≡ [] → ⊥
not_empty q es found none =
    true≢false (sym found ∙ ap (λ (l : List Entry). is_some (lookup (key_eq q) l)) none)

-- what is at a key after these parts is settled by their deletes and contents together
parts_say : (parts : List DepositValue) (q : KeyName) (w : Found) → AreOnce (all_contents parts)
    → AllPairs DeletesFirst parts → last_said q w parts ≡ settled (all_delete q parts) (all_say q parts) w
parts_say [] q w once first = refl
parts_say (p ∷ ps) q w once first =
    parts_say ps q (next_said q w p) (once_later p.contents (all_contents ps) once)
    (λ i j d before below. first (suc i) (suc j) d (omega arith) (omega arith))
    ∙ ap (λ b. settled (all_delete q ps) (all_say q ps) (cond b (says q p) w)) (mentions_is p q)
    ∙ settled_then (deletes q p) (all_delete q ps) (says q p) (all_say q ps) w apart
    ∙ ap (λ b. settled b (option_or (says q p) (all_say q ps)) w)
    (sym (list_any-append (key_eq q) (deletes_of p) (all_deletes ps)))
    ∙ ap (λ (o : Found). settled (all_delete q (p ∷ ps)) o w) (sym (lookup-append q p.contents (all_contents ps)))
  where
    apart : is_some (says q p) ≡ true → (all_delete q ps ≡ false) × (all_say q ps ≡ None)
    apart found =
        let none = none_later p ps (λ j d below. first 0 (suc j) d (omega arith) (omega arith))
        (not_empty q p.contents found) in (
          ap (λ (l : List KeyName). list_any (key_eq q) l) none,
          found_once q p.contents (all_contents ps) once found,
        )

-- the parts of a series say together what the deposit says
series_says : (parts : List DepositValue) (d : DepositValue) → IsSeriesOf parts d → (q : KeyName) (w : Found)
    → last_said q w parts ≡ next_said q w d
series_says parts d are q w =
    parts_say parts q w are.contents.once are.deletes_first
    ∙ ap (λ b. settled b (all_say q parts) w) (are.deletes q)
    ∙ ap (λ (o : Found). settled (deletes q d) o w) (are.contents.each q)
    ∙ ap (λ b. cond b (says q d) w) (sym (mentions_is d q))

-- ---- the law

-- a series makes of any tables what its deposit makes
pub series_applied : (parts : List DepositValue) (d : DepositValue) → IsSeriesOf parts d
    → (t : ObjectsByKey) (q : KeyName) → applied_all t parts q ≡ applied t d q
series_applied [] d are t q = absurd (omega (arith, are.types.some))
series_applied (p ∷ ps) d are t q =
    applied_others (applied t p) ps q (all_diffs ps (λ k e below. are.types.each (suc k) e (omega (arith, below))))
    ∙ series_says (p ∷ ps) d are q (kept_by p.header.place.kind t q)
    ∙ ap (λ k. cond (mentions q d) (says q d) (kept_by k t q)) (are.types.each 0 p (omega arith))
  where
    all_diffs : (ds : List DepositValue)
        → ((k : ℕ) (e : DepositValue) → k < length ds → IsDiff (get_or ds k e)) → AllByRecursion IsDiff ds
    all_diffs [] all = tt
    all_diffs (r ∷ ds) all = (all 0 r (omega arith), all_diffs ds (λ k e below. all (suc k) e (omega arith)))

-- a series may stand in a chain for its deposit
pub series_chained : (parts : List DepositValue) (d : DepositValue) → IsSeriesOf parts d
    → (before after : List DepositValue) (q : KeyName)
    → tables (before ++ parts ++ after) q ≡ tables (before ++ d ∷ after) q
series_chained parts d are before after q =
    tables-then (before ++ parts) after q
    ∙ ap (λ (w : Found). last_said q w after)
    (tables-then before parts q ∙ series_says parts d are q (tables before q))
    ∙ sym (tables-then before (d ∷ after) q)

-- a series alone says what its deposit says
pub series_alone : (parts : List DepositValue) (d : DepositValue) → IsSeriesOf parts d
    → (q : KeyName) → tables parts q ≡ says q d
series_alone parts d are q =
    tables-then [] parts q
    ∙ series_says parts d are q None
    ∙ ap (λ b. cond b (says q d) None) (mentions_is d q)
    ∙ there (deletes q d) (says q d)
  where
    there : (deleted : Bool) (o : Found) → settled deleted o None ≡ o
    there true o = refl
    there false None = refl
    there false (Some x) = refl

-- a key is mentioned by a part if a part deletes it or has its object
any_mention : (q : KeyName) (parts : List DepositValue)
    → list_any (mentions q) parts ≡ (all_delete q parts || is_some (all_say q parts))
any_mention q [] = refl
any_mention q (p ∷ ps) =
    ap (λ b. b || list_any (mentions q) ps) (mentions_is p q)
    ∙ ap (λ b. (deletes q p || is_some (says q p)) || b) (any_mention q ps)
    ∙ mixed (deletes q p) (says q p) (all_delete q ps) (all_say q ps)
    ∙ ap (λ b. b || is_some (option_or (says q p) (all_say q ps)))
    (sym (list_any-append (key_eq q) (deletes_of p) (all_deletes ps)))
    ∙ ap (λ (o : Found). all_delete q (p ∷ ps) || is_some o) (sym (lookup-append q p.contents (all_contents ps)))
  where
    mixed : (a : Bool) (o : Found) (b : Bool) (v : Found)
        → ((a || is_some o) || (b || is_some v)) ≡ ((a || b) || is_some (option_or o v))
    mixed true o b v = refl
    mixed false None b v = refl
    mixed false (Some x) true v = refl
    mixed false (Some x) false v = refl

-- a series mentions what its deposit mentions
pub series_mentioned : (parts : List DepositValue) (d : DepositValue) → IsSeriesOf parts d
    → (q : KeyName) → list_any (mentions q) parts ≡ mentions q d
series_mentioned parts d are q =
    any_mention q parts
    ∙ ap (λ b. b || is_some (all_say q parts)) (are.deletes q)
    ∙ ap (λ (o : Found). deletes q d || is_some o) (are.contents.each q)
    ∙ sym (mentions_is d q)
