use Rattle.std.proofs.Common.{◌≡◌, ℕ, ◌+◌, ◌<◌, ℤ, length, refl, List, Option, ap, sym, subst, arith}
use Rattle.esc_manifest.specs.declared.row.MRow.{MRow}
use Rattle.esc_manifest.specs.ManifestRows.{watermark_at}
use Rattle.esc_chain.specs.Chain.{Rows, IsHeld, IsBy}
use Rattle.esc_chain.proofs.Moments.{IsUntilBelow, until_none, until_skip, until_more, until_all}
use Rattle.esc_chain.proofs.latest.rows_until.Goals as goal

pub loop-row-init : goal.loop-row-init
loop-row-init c = until_none
    c.args.manifest.now c.args.held.now c.args.moment c.new-until.result c.new-until.ensures.empty

-- what holds of a row that is held and not later than the moment
abbrev IsOf : Rows → Option ℤ → ℕ → List MRow → Type 0
IsOf h t row m = IsHeld h row × IsBy t (watermark_at m row)

pub loop-row-preserved-then-not-is_until : goal.loop-row-preserved-then-not-is_until
loop-row-preserved-then-not-is_until c =
    let h = c.args.held.now in
    let t = c.args.moment in
    let row = c.loop-row.row in
    let never : IsOf h t row c.rows-rows.result.now → ⊥ = λ at. let e = c.if-not-is_until.ensures.1 at in cc in
    until_skip c.args.manifest.now h t row c.loop-row.until
    (subst (λ (x : List MRow). IsOf h t row x → ⊥) c.rows-rows.ensures.rows never) c.loop-row.invariant

pub loop-row-preserved : goal.loop-row-preserved
loop-row-preserved c =
    let m = c.args.manifest.now in
    let h = c.args.held.now in
    let t = c.args.moment in
    let row = c.loop-row.row in
    let count : length c.rows-rows.result.now ≡ length m = ap length c.rows-rows.ensures.rows in
    let below : row < length m = omega (arith, count, c.loop-row-test.true) in
    let here = subst (IsOf h t row) c.rows-rows.ensures.rows (c.if-not-is_until.ensures.0 refl) in
    subst (IsUntilBelow m h t (row + 1)) (sym c.in_ok-insert.ensures.ok)
    (until_more m h t row c.loop-row.until below here c.loop-row.invariant)

pub returns-clause-rows : goal.returns-clause-rows
returns-clause-rows c =
    let m = c.args.manifest.now in
    let h = c.args.held.now in
    let t = c.args.moment in
    let count : length c.rows-rows.result.now ≡ length m = ap length c.rows-rows.ensures.rows in
    let all : c.loop-row.row ≡ length m = omega arith in
    let found = subst (λ (n : ℕ). IsUntilBelow m h t n c.loop-row.until) all c.loop-row.invariant in
    until_all m h t c.loop-row.until c.requires found

pub returns-clause-in_range : goal.returns-clause-in_range
returns-clause-in_range c = c.loop-row.invariant.in_range
