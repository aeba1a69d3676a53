-- Tables that are compared with what deposits say, the last deposit first.
use Rattle.std.proofs.Common.{◌≡◌, ℕ, Bool, true, false, ◌||◌, cond, true≢false, List, [], ◌∷◌, map}
use Rattle.std.proofs.Common.{replicate, reverse, length, Option, Some, None, is_some, refl, sym, ap, ◌∙◌}
use Rattle.std.specs.List.{list_any, list_all, find}
use Rattle.std.specs.Map.{lookup}
use Rattle.std.specs.Option.{option_or, option_and_then}
use Rattle.std.proofs.lemmas.Bool.{and_parts}
use Rattle.std.proofs.lemmas.List.{reverse-append}
use Rattle.std.proofs.lemmas.List.Folds.{find-append}
use Rattle.esc_tables.specs.KeyName.{KeyName, key_eq}
use Rattle.esc_tables.specs.KeyLaws.{one_key}
use Rattle.esc_tables.specs.DepositValue.{DepositValue}
use Rattle.esc_apply.specs.ObjectStreams.{Entry}
use Rattle.esc_apply.specs.Tables.{mentioned, mentions, says, tables}
use Rattle.esc_inspection.specs.declared.comparison.Comparison.{Comparison}
use Rattle.esc_inspection.specs.Compared.{AreTablesOf, Marks, AreComparedWith}
use Rattle.esc_inspection.proofs.Marking.{same_marks, or_comm}

-- the last of these deposits that mentions a key, if one does
abbrev last_to_mention : List DepositValue → KeyName → Option DepositValue
last_to_mention c q = find (mentions q) (reverse c)

-- of one deposit before the others it is asked last
before_others : (d : DepositValue) (c : List DepositValue) (q : KeyName) → last_to_mention (d ∷ c) q
    ≡ option_or (last_to_mention c q) (cond (mentions q d) (Some d) None)
before_others d c q = ap (λ (back : List DepositValue). find (mentions q) back) (reverse-append (d ∷ []) c)
    ∙ find-append (mentions q) (reverse c) (d ∷ [])

-- there is one exactly where one of them mentions the key
is_mentioned : (c : List DepositValue) (q : KeyName) → is_some (last_to_mention c q) ≡ list_any (mentions q) c
is_mentioned [] q = refl
is_mentioned (d ∷ c) q =
    ap is_some (before_others d c q)
    ∙ either (last_to_mention c q) (mentions q d)
    ∙ ap (λ b. mentions q d || b) (is_mentioned c q)
  where
    either : (o : Option DepositValue) (b : Bool) → is_some (option_or o (cond b (Some d) None)) ≡ (b || is_some o)
    either None true = refl
    either None false = refl
    either (Some x) true = refl
    either (Some x) false = refl

-- what no deposit mentions isn't in their tables
never_mentioned : (c : List DepositValue) (q : KeyName) → list_any (mentions q) c ≡ false → tables c q ≡ None
never_mentioned c q never = by_last (last_to_mention c q) (is_mentioned c q ∙ never)
  where
    by_last : (o : Option DepositValue) → is_some o ≡ false → option_and_then (says q) o ≡ None
    by_last None is = refl
    by_last (Some d) is = absurd (true≢false is)

-- one deposit before the others decides where these don't mention the key
one_before : (d : DepositValue) (c : List DepositValue) (q : KeyName) → tables (d ∷ c) q
    ≡ cond (list_any (mentions q) c) (tables c q) (cond (mentions q d) (says q d) None)
one_before d c q =
    ap (λ (o : Option DepositValue). option_and_then (says q) o) (before_others d c q)
    ∙ by_last (last_to_mention c q) (mentions q d)
    ∙ ap (λ b. cond b (tables c q) (cond (mentions q d) (says q d) None)) (is_mentioned c q)
  where
    by_last : (o : Option DepositValue) (b : Bool)
        → option_and_then (says q) (option_or o (cond b (Some d) None))
        ≡ cond (is_some o) (option_and_then (says q) o) (cond b (says q d) None)
    by_last None true = refl
    by_last None false = refl
    by_last (Some x) b = refl

-- nothing is compared yet
pub nothing_yet : (es : List Entry) (count : ℕ) (now : Comparison) → length es ≡ count
    → now.seen.items ≡ replicate count false → now.absent.keys ≡ [] → AreComparedWith [] es now
nothing_yet es count now many seen absent = record {
  seen = seen ∙ ap (λ n. replicate n false) (sym many) ∙ none es;
  absent = λ q lacks. ap (λ (ks : List KeyName). list_any (key_eq q) ks) absent;
  same = λ same q marked. absurd (true≢false (sym marked));
}
  where
    none : (xs : List Entry) → replicate (length xs) false ≡ map (λ (e : Entry). false) xs
    none [] = refl
    none (x ∷ xs) = ap (λ (bs : List Bool). false ∷ bs) (none xs)

-- the keys of a deposit are compared after those of later ones
pub deposit_before : (es : List Entry) (c : List DepositValue) (d : DepositValue) (old new : Comparison)
    → Marks es (mentioned d) (λ q. says q d) old new
    → AreComparedWith c es old → AreComparedWith (d ∷ c) es new
deposit_before es c d old new marks had =
    same_marks (λ q. or_comm (list_any (mentions q) c) (mentions q d))
    (marks (λ q. list_any (mentions q) c) (tables (d ∷ c)) fits (record {
      seen = had.seen;
      absent = had.absent;
      same = λ same q marked. had.same same q marked ∙ sym (one_before d c q
          ∙ ap (λ b. cond b (tables c q) (cond (mentions q d) (says q d) None)) marked);
    }))
  where
    fits : (q : KeyName) → list_any (mentions q) c ≡ false → mentions q d ≡ true → says q d ≡ tables (d ∷ c) q
    fits q unmarked among = sym (one_before d c q
        ∙ ap (λ b. cond b (tables c q) (cond (mentions q d) (says q d) None)) unmarked
        ∙ ap (λ b. cond b (says q d) None) among)

-- where each entry is marked, a key that isn't marked has none
unmarked_is_absent : (marked : KeyName → Bool) (q : KeyName) (es : List Entry)
    → list_all (λ b. b) (map (λ (e : Entry). marked e.0) es) ≡ true → marked q ≡ false → lookup (key_eq q) es ≡ None
unmarked_is_absent marked q [] all unmarked = refl
unmarked_is_absent marked q (e ∷ es) all unmarked =
    by_test (unmarked_is_absent marked q es parts.1 unmarked) (key_eq q e.0) refl
  where
    parts : (marked e.0 ≡ true) × (list_all (λ b. b) (map (λ (x : Entry). marked x.0) es) ≡ true)
    parts = and_parts (marked e.0) (list_all (λ b. b) (map (λ (x : Entry). marked x.0) es)) all

    by_test : lookup (key_eq q) es ≡ None → (t : Bool) → key_eq q e.0 ≡ t
        → cond t (Some e.1) (lookup (key_eq q) es) ≡ None
    by_test rest true is = absurd (true≢false (sym parts.0 ∙ ap marked (sym (one_key q e.0 is)) ∙ unmarked))
    by_test rest false is = rest

-- where nothing differs and each entry is marked, the entries are the tables
pub all_compared : (c : List DepositValue) (es : List Entry) (now : Comparison)
    → now.is_same ≡ true → list_all (λ b. b) now.seen.items ≡ true → AreComparedWith c es now → AreTablesOf c es
all_compared c es now same all are q = by_mark (list_any (mentions q) c) refl
  where
    by_mark : (b : Bool) → list_any (mentions q) c ≡ b → lookup (key_eq q) es ≡ tables c q
    by_mark true marked = are.same same q marked
    by_mark false unmarked = unmarked_is_absent (λ k. list_any (mentions k) c) q es
        (ap (λ (bs : List Bool). list_all (λ b. b) bs) (sym are.seen) ∙ all) unmarked
        ∙ sym (never_mentioned c q unmarked)
