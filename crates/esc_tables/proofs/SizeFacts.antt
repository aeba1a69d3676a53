-- A deposit has at most as many deletes and objects as its bundle has rows.
use Rattle.std.proofs.Common.{◌≡◌, ◌∙◌, ℕ, suc, ◌+◌, ◌≤◌, Bool, true, false, cond, List, []}
use Rattle.std.proofs.Common.{◌∷◌, ◌++◌, length, map, filter, sym, ap, subst, arith}
use Rattle.std.specs.Prelude.{Ok}
use Rattle.std.specs.List.{fold}
use Rattle.std.specs.FinMap.Entries.{put, by_order}
use Rattle.std.specs.declared.cmp.Ordering.{Ordering}
use Rattle.std.specs.declared.cmp.Ordering.TheVariants.{Less, Equal, Greater}
use Rattle.std.proofs.lemmas.List.{length-append, length-map}
use Rattle.std.proofs.lemmas.Grind.{flat_map-append}
use Rattle.esc_bundle.specs.Bundle.{Named}
use Rattle.esc_bundle.specs.Frame.{frame}
use Rattle.esc_bundle.specs.TestLaws.{bind_done}
use Rattle.esc_envelope.specs.EnvelopeValue.{EnvelopeValue, TableValue}
use Rattle.esc_envelope.specs.Envelope.{envelope_of}
use Rattle.esc_tables.specs.KeyName.{KeyName, key_cmp}
use Rattle.esc_tables.specs.ObjectValue.{RowValue, ObjectValue}
use Rattle.esc_tables.specs.DepositValue.{DepositValue}
use Rattle.esc_tables.specs.TableRow.{TableRow, table_rows, rows_in, key_of, keyed}
use Rattle.esc_tables.specs.Objects.{at_key, with_children, last_by_key, objects_of}
use Rattle.esc_tables.specs.Reading.{placed, is_before, by_name, deposit_of_files, deposit_in}
use Rattle.esc_tables.specs.Reading.{sections_deposit, reading, most_rows, parent_rows, child_rows}
use Rattle.esc_tables.specs.DepositOf.{all_rows}
use Rattle.esc_tables.proofs.ObjectFacts.{putting}
use Rattle.esc_tables.proofs.ExactFacts.{Parts, parts_of, right_rows}

-- ---- no more objects than parent rows

one_put : {X : Type 0} (k : KeyName) (v : X) (es : List (KeyName × X))
    → length (put key_cmp k v es) ≤ suc (length es)
one_put k v [] = omega arith
one_put {X = X} k v (e ∷ es) = by_place (key_cmp k e.0) (one_put k v es)
  where
    by_place : (r : Ordering) → length (put key_cmp k v es) ≤ suc (length es) → length
        (by_order r ((k, v) ∷ e ∷ es) ((e.0, v) ∷ es) (e ∷ put key_cmp k v es)) ≤ suc (suc (length es))
    by_place Less few = omega arith
    by_place Equal few = omega arith
    by_place Greater few = omega (arith, few)

all_put : {X : Type 0} (ps es : List (KeyName × X)) → length (fold putting es ps) ≤ length es + length ps
all_put [] es = omega arith
all_put (p ∷ ps) es = omega (arith, all_put ps (put key_cmp p.0 p.1 es), one_put p.0 p.1 es)

few_objects : (parents children : List (KeyName × RowValue))
    → length (objects_of parents children) ≤ length parents
unfolding objects_of
few_objects parents children =
    omega (
      arith,
      length-map {B = KeyName × ObjectValue} (last_by_key parents)
          (λ (e : KeyName × RowValue). (e.0, with_children (at_key e.0 children) e.1)),
      all_put parents [],
    )

-- ---- no more parent rows than rows

one_table_less : (files : List Named) (p : TableValue → Bool) (t : TableValue) (ts : List TableValue)
    → length (rows_in files (filter p ts)) ≤ length (rows_in files ts)
    → length (rows_in files (filter p (t ∷ ts))) ≤ length (rows_in files (t ∷ ts))
one_table_less files p t ts few = by_test (p t)
  where
    by_test : (b : Bool) → length (rows_in files (cond b (t ∷ filter p ts) (filter p ts)))
        ≤ length (rows_in files (t ∷ ts))
    by_test true = omega (
      arith,
      few,
      length-append (table_rows files t) (rows_in files (filter p ts)),
      length-append (table_rows files t) (rows_in files ts),
    )
    by_test false = omega (arith, few, length-append (table_rows files t) (rows_in files ts))

-- some tables have no more rows than all
pub fewer_tables : (files : List Named) (p : TableValue → Bool) (ts : List TableValue)
    → length (rows_in files (filter p ts)) ≤ length (rows_in files ts)
fewer_tables files p [] = omega arith
fewer_tables files p (t ∷ ts) = one_table_less files p t ts (fewer_tables files p ts)

-- ---- as many rows in another order of tables

one_placed : (files : List Named) (us : List TableValue) (t : TableValue)
    → length (rows_in files (placed us t)) ≡ length (table_rows files t) + length (rows_in files us)
one_placed files [] t = length-append (table_rows files t) []
one_placed files (u ∷ us) t = by_test (is_before t u) (one_placed files us t)
  where
    by_test : (b : Bool) → length (rows_in files (placed us t))
        ≡ length (table_rows files t) + length (rows_in files us)
        → length (rows_in files (cond b (t ∷ u ∷ us) (u ∷ placed us t)))
        ≡ length (table_rows files t) + length (rows_in files (u ∷ us))
    by_test true later = length-append (table_rows files t) (rows_in files (u ∷ us))
    by_test false later = omega (
      arith,
      later,
      length-append (table_rows files u)
          (rows_in files (placed us t)),
      length-append (table_rows files u) (rows_in files us),
    )

all_placed : (files : List Named) (ts us : List TableValue)
    → length (rows_in files (fold placed us ts)) ≡ length (rows_in files us) + length (rows_in files ts)
all_placed files [] us = omega arith
all_placed files (t ∷ ts) us = omega (
  arith,
  all_placed files ts (placed us t),
  one_placed files us t,
  length-append (table_rows files t) (rows_in files ts),
)

-- tables in another order have as many rows
pub same_length : (files : List Named) (ts : List TableValue)
    → length (rows_in files (by_name ts)) ≡ length (rows_in files ts)
same_length files ts = omega (arith, all_placed files ts [])

-- ---- the deposit

-- the rows of two lists of tables
pub joined_length : (files : List Named) (cs ds : List TableValue)
    → length (rows_in files (cs ++ ds)) ≡ length (rows_in files cs) + length (rows_in files ds)
joined_length files cs ds = ap (λ (rows : List TableRow). length rows)
    (flat_map-append (table_rows files) cs ds) ∙ length-append (rows_in files cs) (rows_in files ds)

-- the contents have no more rows than the bundle
pub few_contents : (files : List Named) (e : EnvelopeValue)
    → length (rows_in files e.contents) ≤ length (all_rows files e)
few_contents files e = omega (arith, joined_length files e.contents e.deletes)

few_in : (files : List Named) (e : EnvelopeValue) → length (deposit_of_files files e).deletes
    + length (deposit_of_files files e).contents ≤ length (all_rows files e)
unfolding deposit_of_files
few_in files e =
    let deletes : length (map key_of (rows_in files e.deletes)) ≡ length (rows_in files e.deletes) =
    length-map (rows_in files e.deletes) key_of in
    let parents : length (parent_rows files e)
    ≡ length (rows_in files (filter (λ t. t.parent) e.contents)) =
    length-map (rows_in files (filter (λ t. t.parent) e.contents)) keyed in
    omega (
      arith,
      joined_length files e.contents e.deletes,
      deletes,
      parents,
      few_objects
          (parent_rows files e) (child_rows files e),
      fewer_tables files (λ t. t.parent) e.contents,
    )

few_parts : (files : List Named) (e : EnvelopeValue) (d : DepositValue)
    → Parts files e d → length d.deletes + length d.contents ≤ most_rows
few_parts files e d parts =
    subst (λ (x : DepositValue). length x.deletes + length x.contents ≤ most_rows)
    (sym parts.2) (omega (arith, few_in files e, (right_rows (all_rows files e) parts.1).few))

few_at : (ss : List Named) (d : DepositValue)
    → sections_deposit ss ≡ Ok d → length d.deletes + length d.contents ≤ most_rows
unfolding sections_deposit
few_at [] d h = absurd cc
few_at (first ∷ files) d h =
    let step = bind_done (envelope_of first.bytes) (deposit_in files) d h in
    few_parts files step.0 d (parts_of files step.0 d step.2)

-- a deposit has no more deletes and objects than a bundle's rows
pub few_mentions : (body : List ℕ) (d : DepositValue)
    → reading body ≡ Ok d → length d.deletes + length d.contents ≤ most_rows
unfolding reading
few_mentions body d h = let step = bind_done (frame body) sections_deposit d h in few_at step.0 d step.2
