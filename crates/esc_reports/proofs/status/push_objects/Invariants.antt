use Rattle.std.proofs.Common.{◌≡◌, ◌++◌, string_bytes}
use Rattle.esc_reports.specs.StatusText.{objects_text}
use Rattle.esc_reports.proofs.status.push_objects.Given as goal

-- what was written, and the kinds that are left
abbrev pub invariant-loop-kind : goal.invariant-loop-kind
invariant-loop-kind l = string_bytes l.text
    ++ objects_text l.kind-iterator ≡ string_bytes l.fn.text ++ objects_text l.objects.entries
