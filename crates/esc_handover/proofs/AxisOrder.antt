-- Moments stand in order on an axis, and within it.
use Rattle.std.proofs.Common.{◌≡◌, ℕ, ℤ, ◌*◌, ◌/◌, ◌<◌, ◌≤◌, min, Bool, true, false, refl}
use Rattle.std.proofs.Common.{arith}
use Rattle.std.specs.Prelude.{◌≤ℤ◌, ◌==◌}
use Rattle.std.proofs.lemmas.Bool.{eqb-false}
use Rattle.std.proofs.lemmas.Int.{ints}
use Rattle.std.proofs.lemmas.Nat.{div-add-mod', div_below, le-div}
use Rattle.esc_handover.specs.Picture.{share, since, IsAxis}

positive : (w : ℕ) → (w == 0) ≡ false → 0 < w
positive w e = grind (arith, eqb-false w 0 e)

-- a part of a whole is at most all of it
share_inside : (part whole : ℕ) → share part whole ≤ 1000
share_inside part whole = elim (whole == 0) as (λ v. (whole == 0) ≡ v → share part whole ≤ 1000) [
  | true ↦ λ e. rw e (omega arith)
  | false ↦ λ e.
      let above = positive whole e in
      let below = div_below (min part whole * 1000) whole 1001 above (omega (arith, above)) in
      rw e (omega (arith, below))
] refl

-- more of a whole is no less of it
share_grows : (part more whole : ℕ) → part ≤ more → share part whole ≤ share more whole
share_grows part more whole le =
    elim (whole == 0) as (λ v. (whole == 0) ≡ v → share part whole ≤ share more whole) [
      | true ↦ λ e. rw e (omega arith)
      | false ↦ λ e.
          let least : ℕ = min part whole * 1000 in
          let most : ℕ = min more whole * 1000 in
          let under : least ≤ most = omega (arith, le) in
          let whole_parts : least / whole * whole ≤ most = omega (arith, div-add-mod' least whole, under) in
          rw e (le-div (least / whole) most whole (positive whole e) whole_parts)
    ] refl

-- what is later is no less time after
since_grows : (first m n : ℤ) → m ≤ℤ n → since first m ≤ since first n
since_grows first m n le = grind (arith, ints)

-- an axis from one moment to another keeps their order
pub in_order : (first last : ℤ) → IsAxis first last
in_order first last = record {
  inside = λ m. share_inside (since first m) (since first last);
  in_order = λ m n le. share_grows (since first m) (since first n) (since first last) (since_grows first m n le);
}
