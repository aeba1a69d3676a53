-- Numbers of 64 bits for ROIDs (FNV-1a). Equal ROIDs of a kind have equal marks, so a ROID that comes
-- twice is among those whose mark does; there may be others, whose marks happen to be equal.
use Rattle.std.specs.Prelude.{ℕ, ◌*◌, ◌%◌, ◌^◌, bit_xor, List, option_map}
use Rattle.std.specs.List.{flat_map, fold}
use Rattle.std.specs.Option.{option_to_list}
use Rattle.esc_envelope.specs.Kinds.{kind_name}
use Rattle.esc_tables.specs.KeyName.{KeyName}
use Rattle.esc_apply.specs.ObjectStreams.{Entry}
use Rattle.esc_conformity.specs.Flaws.{roid_of}

-- a mark, after one byte more
abbrev pub mark_step : ℕ → ℕ → ℕ
mark_step m byte = bit_xor m byte * 0x100000001b3 % 2 ^ 64

-- a mark, after these bytes
abbrev pub marked : ℕ → List ℕ → ℕ
marked m bytes = fold mark_step m bytes

-- the mark of a ROID, as a key of its kind: that of the kind's name and of the text
unfoldable pub mark_of : KeyName → ℕ
mark_of r = marked (marked 0xcbf29ce484222325 (kind_name r.kind)) r.text

-- the mark of an object's ROID, if it has one
abbrev pub entry_marks : Entry → List ℕ
entry_marks e = option_to_list (option_map mark_of (roid_of e))

-- the marks of the ROIDs of these objects
abbrev pub marks_of : List Entry → List ℕ
marks_of es = flat_map entry_marks es
