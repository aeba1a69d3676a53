-- What deposits mention and say, and the tables of a list of deposits (RFC 8909, section 2).
use Rattle.std.specs.Prelude.{ℕ, Bool, List, [], ◌++◌, reverse, Option}
use Rattle.std.specs.List.{find, list_any}
use Rattle.std.specs.Map.{lookup, keys_of}
use Rattle.std.specs.FinSet as set
use Rattle.std.specs.Option.{option_and_then}
use Rattle.esc_envelope.specs.declared.place.DepositType.{DepositType}
use Rattle.esc_envelope.specs.declared.place.DepositType.TheVariants.{Diff, Incr, Full}
use Rattle.esc_tables.specs.KeyName.{KeyName, key_cmp, key_eq}
use Rattle.esc_tables.specs.ObjectValue.{ObjectValue}
use Rattle.esc_tables.specs.DepositValue.{DepositValue}

-- the deletes that count: those of a Full are ignored
abbrev pub deletes_by : DepositType → List KeyName → List KeyName
deletes_by Full ks = []
deletes_by Incr ks = ks
deletes_by Diff ks = ks

-- the deletes of a deposit that count
abbrev pub deletes_of : DepositValue → List KeyName
deletes_of d = deletes_by d.header.place.kind d.deletes

-- the keys that a deposit mentions: those of its deletes and those of its contents
abbrev pub mentioned : DepositValue → List KeyName
mentioned d = deletes_of d ++ keys_of d.contents

-- a deposit mentions a key
abbrev pub mentions : KeyName → DepositValue → Bool
mentions k d = list_any (key_eq k) (mentioned d)

-- what a deposit says of a key that it mentions: the object of its contents, or that there is none
abbrev pub says : KeyName → DepositValue → Option ObjectValue
says k d = lookup (key_eq k) d.contents

-- how many keys a deposit mentions; a key in deletes and contents is one mention
abbrev pub mention_count : DepositValue → ℕ
mention_count d = set.len (set.from_list {R = key_cmp} (mentioned d))

-- the tables of a list of deposits: for each key what the last one that mentions it says of it, and
-- nothing if none mentions it
abbrev pub tables : List DepositValue → KeyName → Option ObjectValue
tables c k = option_and_then (says k) (find (mentions k) (reverse c))
