-- The status report (this project's profile): eleven lines.
use Rattle.std.specs.Prelude.{ℕ, List, ◌++◌, codes, Option, Some, None}
use Rattle.std.specs.Fmt.{decimal}
use Rattle.std.specs.List.{flat_map}
use Rattle.esc_envelope.specs.declared.kind.Kind.{Kind}
use Rattle.esc_envelope.specs.declared.place.Place.{Place}
use Rattle.esc_envelope.specs.Kinds.{kind_name}
use Rattle.esc_envelope.specs.Members.{type_name}
use Rattle.esc_envelope.specs.Watermark.{printed}
use Rattle.esc_desk.specs.declared.status.Status.{Status}

-- a name and a number
abbrev pub number_line : List ℕ → ℕ → List ℕ
number_line name n = name ++ codes " " ++ decimal n ++ codes "\n"

-- the line of a chain's end: its watermark, its type and its resend
abbrev pub end_text : Place → ℕ → List ℕ
end_text place resend = codes "end " ++ printed place.watermark ++ codes " " ++ type_name place.kind
    ++ codes " " ++ decimal resend ++ codes "\n"

-- where the chain ends
abbrev pub end_line : Option (Place × ℕ) → List ℕ
end_line None = codes "end none\n"
end_line (Some end) = end_text end.0 end.1

-- how many objects there are of each kind
abbrev pub objects_text : List (Kind × ℕ) → List ℕ
objects_text counts = flat_map (λ (c : Kind × ℕ). number_line (kind_name c.0) c.1) counts

-- how many rows are listed and held, how many receipts there are, and how many steps the latest
-- chain has
abbrev pub counts_text : Status → List ℕ
counts_text s = number_line (codes "listed") s.listed ++ number_line (codes "held") s.held
    ++ number_line (codes "receipts") s.receipts ++ number_line (codes "chain") s.chain

-- the report: the counts, the end of the chain, and the objects of each kind
abbrev pub status_text : Status → List ℕ
status_text s = counts_text s ++ end_line s.end ++ objects_text s.objects.entries
