-- Tables that are compared with the contents of a deposit, and then with its deletes.
use Rattle.std.proofs.Common.{◌≡◌, ℕ, ◌+◌, ◌<◌, Bool, true, false, ◌||◌, true≢false, List, [], ◌∷◌, ◌++◌}
use Rattle.std.proofs.Common.{get_or, slice_get, take, length, Option, Some, None, is_some, append_assoc}
use Rattle.std.proofs.Common.{refl, sym, ap, subst, ◌∙◌}
use Rattle.std.specs.List.{list_any}
use Rattle.std.specs.List.Sorted.{IsStrictlySortedBy}
use Rattle.std.specs.Map.{lookup, keys_of}
use Rattle.std.proofs.lemmas.List.{append-nil, map_push, take_more}
use Rattle.std.proofs.lemmas.List.Folds.{list_any-append}
use Rattle.std.proofs.lemmas.Map.Entries.{lookup_from_place}
use Rattle.std.proofs.lemmas.Map.Keys.{IsDistinct-from_sorted}
use Rattle.std.proofs.lemmas.Map.Made.{is_some-lookup}
use Rattle.esc_tables.specs.KeyName.{KeyName, key_cmp, key_eq}
use Rattle.esc_tables.specs.KeyLaws.{keys_alike, one_key}
use Rattle.esc_tables.specs.ObjectValue.{ObjectValue}
use Rattle.esc_tables.specs.DepositValue.{DepositValue}
use Rattle.esc_apply.specs.ObjectStreams.{Entry}
use Rattle.esc_apply.specs.Tables.{deletes_of, mentioned, says}
use Rattle.esc_inspection.specs.declared.comparison.Comparison.{Comparison}
use Rattle.esc_inspection.specs.Compared.{Marks}
use Rattle.esc_inspection.proofs.Marking.{marks_none, marks_then, same_keys, or_comm}

-- the first entries of some are compared, and these are left
abbrev pub MarksFront : List Entry → List Entry → List Entry → Comparison → Comparison → Type 0
MarksFront es all left old new = (done : List Entry) × (all ≡ done ++ left)
    × Marks es (keys_of done) (λ q. lookup (key_eq q) all) old new

-- none yet
pub front_none : (es all left : List Entry) (now : Comparison) → left ≡ all → MarksFront es all left now now
front_none es all left now is = ([], sym is, marks_none es (λ q. lookup (key_eq q) all) now)

-- what stands between others is at its place
at_seam : (done left : List Entry) (e : Entry) → slice_get (done ++ e ∷ left) (length done) ≡ Some e
at_seam [] left e = refl
at_seam (x ∷ done) left e = at_seam done left e

-- one entry more
pub front_more : (es all left rest : List Entry) (k : KeyName) (o : ObjectValue) (old mid new : Comparison)
    → IsStrictlySortedBy key_cmp (keys_of all) → left ≡ (k, o) ∷ rest
    → Marks es (k ∷ []) (λ _. Some o) mid new → MarksFront es all left old mid → MarksFront es all rest old new
front_more es all left rest k o old mid new order first marks (done, is, had) = (
  done ++ (k, o) ∷ [],
  whole ∙ sym (append_assoc done ((k, o) ∷ []) rest),
  subst (λ (ks : List KeyName). Marks es ks (λ q. lookup (key_eq q) all) old new)
      (sym (map_push (λ (e : Entry). e.0) done (k, o)))
      (marks_then es (keys_of done) (k ∷ []) (λ q. lookup (key_eq q) all) (λ _. Some o) old mid new had marks
      (λ q apart among. sym (ap (λ (x : KeyName). lookup (key_eq x) all)
      (one_key q k (alone (key_eq q k) among)) ∙ has))),
)
  where
    whole : all ≡ done ++ (k, o) ∷ rest
    whole = is ∙ ap (λ (xs : List Entry). done ++ xs) first

    has : lookup (key_eq k) all ≡ Some o
    has = lookup_from_place keys_alike all (length done) k o (IsDistinct-from_sorted key_cmp (keys_of all) order)
        (ap (λ (xs : List Entry). slice_get xs (length done)) whole ∙ at_seam done rest (k, o))

    alone : (b : Bool) → (b || false) ≡ true → b ≡ true
    alone true is = refl
    alone false is = is

-- all of them
pub front_all : (es all left : List Entry) (old new : Comparison) → left ≡ []
    → MarksFront es all left old new → Marks es (keys_of all) (λ q. lookup (key_eq q) all) old new
front_all es all left old new none (done, is, had) =
    subst (λ (xs : List Entry). Marks es (keys_of xs) (λ q. lookup (key_eq q) all) old new)
    (sym (is ∙ ap (λ (xs : List Entry). done ++ xs) none ∙ append-nil done)) had

-- one delete more
pub one_delete_more : (es : List Entry) (keys : List KeyName) (i : ℕ) (k : KeyName)
    (old mid new : Comparison) → i < length keys → k ≡ get_or keys i k
    → Marks es (k ∷ []) (λ _. None) mid new → Marks es (take i keys) (λ _. None) old mid
    → Marks es (take (i + 1) keys) (λ _. None) old new
one_delete_more es keys i k old mid new lt is marks had =
    subst (λ (ks : List KeyName). Marks es ks (λ _. None) old new)
    (ap (λ (x : KeyName). take i keys ++ x ∷ []) is ∙ sym (take_more keys i k lt))
    (marks_then es (take i keys) (k ∷ []) (λ _. None) (λ _. None) old mid new had marks (λ q apart among. refl))

-- the contents of a deposit, and then its deletes
pub contents_then_deletes : (es : List Entry) (d : DepositValue) (contents : List Entry) (deletes : List KeyName)
    (old mid new : Comparison) → contents ≡ d.contents → deletes ≡ deletes_of d
    → Marks es (keys_of contents) (λ q. lookup (key_eq q) contents) old mid
    → Marks es deletes (λ _. None) mid new → Marks es (mentioned d) (λ q. says q d) old new
contents_then_deletes es d contents deletes old mid new same_contents same_deletes first then =
    subst (λ (xs : List Entry). Marks es (mentioned d) (λ q. lookup (key_eq q) xs) old new) same_contents
    (same_keys es (keys_of contents ++ deletes) (mentioned d) (λ q. lookup (key_eq q) contents) old new alike
    (marks_then es (keys_of contents) deletes (λ q. lookup (key_eq q) contents) (λ _. None) old mid new first then
    (λ q apart among. sym (nothing (lookup (key_eq q) contents) (is_some-lookup (key_eq q) contents ∙ apart)))))
  where
    nothing : (o : Option ObjectValue) → is_some o ≡ false → o ≡ None
    nothing None is = refl
    nothing (Some o) is = absurd (true≢false is)

    alike : (q : KeyName) → list_any (key_eq q) (keys_of contents ++ deletes) ≡ list_any (key_eq q) (mentioned d)
    alike q =
        list_any-append (key_eq q) (keys_of contents) deletes
        ∙ or_comm (list_any (key_eq q) (keys_of contents)) (list_any (key_eq q) deletes)
        ∙ ap (λ (ks : List KeyName). list_any (key_eq q) ks || list_any (key_eq q) (keys_of contents)) same_deletes
        ∙ ap (λ (xs : List Entry). list_any (key_eq q) (deletes_of d) || list_any (key_eq q) (keys_of xs)) same_contents
        ∙ sym (list_any-append (key_eq q) (deletes_of d) (keys_of d.contents))
