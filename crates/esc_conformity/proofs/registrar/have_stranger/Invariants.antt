use Rattle.std.proofs.Common.{◌≡◌, drop}
use Rattle.std.specs.List.{list_any}
use Rattle.std.specs.BTreeSet as sorted
use Rattle.esc_tables.specs.KeyName.{key_cmp}
use Rattle.esc_conformity.specs.Flaws.{names_stranger}
use Rattle.esc_conformity.proofs.registrar.have_stranger.Given as goal

-- the rows that are left decide
abbrev pub invariant-loop-row : goal.invariant-loop-row
invariant-loop-row l = list_any (names_stranger (sorted.contains key_cmp l.registrars)) (drop l.row-index l.rows)
    ≡ list_any (names_stranger (sorted.contains key_cmp l.registrars)) l.rows
