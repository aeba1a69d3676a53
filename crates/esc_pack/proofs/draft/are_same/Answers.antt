use Rattle.std.proofs.Common.{◌≡◌, ◌∙◌, ◌==◌, length, true}
use Rattle.esc_pack.proofs.Names.{same_seen, equal_numbers}
use Rattle.esc_pack.proofs.draft.are_same.Goals as goal

pub returns-then-names-others : goal.returns-then-names-others
returns-then-names-others c =
    let whole = same_seen c.args.names.now c.args.others.now in
    let yes : (length c.args.names.now == length c.args.others.now) ≡ true =
    equal_numbers _ _ c.if-names-others.true in
    c.are_equal.ensures ∙ (rw yes at whole)
