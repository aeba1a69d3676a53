-- A deposit mentions at most as many keys as it has deletes and objects.
use Rattle.std.proofs.Common.{◌≡◌, ◌+◌, ◌≤◌, Bool, true, false, cond, List, [], ◌∷◌, length}
use Rattle.std.proofs.Common.{arith, length-append}
use Rattle.std.specs.Map.{keys_of}
use Rattle.std.specs.FinSet as set
use Rattle.esc_envelope.specs.declared.place.DepositType.{DepositType}
use Rattle.esc_envelope.specs.declared.place.DepositType.TheVariants.{Diff, Incr, Full}
use Rattle.esc_tables.specs.KeyName.{KeyName, key_cmp}
use Rattle.esc_tables.specs.DepositValue.{DepositValue}
use Rattle.esc_apply.specs.Tables.{deletes_by, deletes_of, mentioned, mention_count}
use Rattle.esc_tables.specs.KeyLaws.{keys_total}
use Rattle.esc_apply.proofs.Mentions.{length-keys}

few_keys : (ks : List KeyName) → set.len (set.from_list {R = key_cmp} ks) ≤ length ks
few_keys [] = omega (arith, set.len-empty key_cmp)
few_keys (k ∷ ks) = one_more (set.contains (set.from_list {R = key_cmp} ks) k)
    (set.len-insert keys_total (set.from_list ks) k) (few_keys ks)
  where
    one_more : (b : Bool) → set.len (set.from_list {R = key_cmp} (k ∷ ks)) ≡ cond
        b (set.len (set.from_list {R = key_cmp} ks)) (set.len (set.from_list {R = key_cmp} ks) + 1)
        → set.len (set.from_list {R = key_cmp} ks) ≤ length ks
        → set.len (set.from_list {R = key_cmp} (k ∷ ks)) ≤ length (k ∷ ks)
    one_more true is few = omega (arith, is, few)
    one_more false is few = omega (arith, is, few)

few_deletes : (kind : DepositType) (ks : List KeyName) → length (deletes_by kind ks) ≤ length ks
few_deletes Full ks = omega arith
few_deletes Incr ks = omega arith
few_deletes Diff ks = omega arith

-- a deposit mentions no more keys than it has deletes and objects
pub few_mentions : (d : DepositValue) → mention_count d ≤ length d.deletes + length d.contents
few_mentions d = omega (
  arith,
  few_keys (mentioned d),
  length-append (deletes_of d)
      (keys_of d.contents),
  few_deletes d.header.place.kind d.deletes,
  length-keys d.contents,
)
