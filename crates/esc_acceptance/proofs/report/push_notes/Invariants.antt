use Rattle.std.proofs.Common.{◌≡◌, ◌++◌, map, drop, string_bytes}
use Rattle.std.specs.List.{flat_map}
use Rattle.esc_acceptance.specs.Lines.{note_text}
use Rattle.esc_acceptance.proofs.report.push_notes.Given as goal

-- with the notes that are left it is the whole
abbrev pub invariant-loop-note : goal.invariant-loop-note
invariant-loop-note l = string_bytes l.text ++ flat_map note_text (map string_bytes (drop l.note-index l.notes))
    ≡ string_bytes l.fn.text ++ flat_map note_text (map string_bytes l.notes)
