-- Laws of the rows that bodies hold.
use Rattle.std.specs.Prelude.{◌≡◌, ℕ, true, ◌==◌, is_some}
use Rattle.std.specs.Ordering.{nat_cmp, eq_by_cmp}
use Rattle.std.specs.Cmp.{unsigned_tied}
use Rattle.std.proofs.Common.{sym, ap, ◌∙◌, true≢false}
use Rattle.std.proofs.lemmas.Bool.{eqb-true}
use Rattle.std.proofs.lemmas.Cmp.{nat_eq_equiv}
use Rattle.esc_tables.specs.DepositValue.{DepositValue}
use Rattle.esc_events.specs.declared.assessment.Assessment.{Assessment}
use Rattle.esc_events.specs.declared.assessment.Assessment.TheVariants.{Unlisted, Holding}
use Rattle.esc_events.specs.Assessment.{held_row}

-- the two tests of numbers
pub same_test : (q r : ℕ) → eq_by_cmp nat_cmp r q ≡ (q == r)
same_test q r = unsigned_tied r q ∙ nat_eq_equiv.symm r q

pub same_self : (q : ℕ) → (q == q) ≡ true
same_self q = nat_eq_equiv.refl q

-- numbers that compare as equal are equal
pub exact : (x y : ℕ) → eq_by_cmp nat_cmp x y ≡ true → x ≡ y
exact x y e = eqb-true x y (sym (unsigned_tied x y) ∙ e)

-- a row lists a body that holds one
pub holding_listed : (row : ℕ) (d : DepositValue) → Holding row d ≡ Unlisted → ⊥
holding_listed row d same = true≢false (ap (λ (f : Assessment). is_some (held_row f)) same)
