use Rattle.std.proofs.Common.{◌≡◌, ◌++◌, string_bytes}
use Rattle.std.specs.List.{flat_map}
use Rattle.esc_check.specs.Gathered.{is_present, object_findings}
use Rattle.esc_check.proofs.verification.check_objects.Given as goal

abbrev pub invariant-loop-key : goal.invariant-loop-key
invariant-loop-key l =
    l.found.items ++ flat_map (object_findings (is_present l.tables.entries)
    l.limit.moment (string_bytes l.limit.text)) l.key-iterator
    ≡ l.fn.found.items ++ flat_map (object_findings (is_present l.tables.entries)
    l.limit.moment (string_bytes l.limit.text)) l.tables.entries
