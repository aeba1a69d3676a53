-- Where a file's bytes are.
use Rattle.std.specs.Prelude.{ℕ, List, Option, Some, None}
use Rattle.esc_read_only.specs.declared.content.Content.{Content}
use Rattle.esc_read_only.specs.declared.content.Content.TheVariants.{File, Copy}

-- the bytes in memory, unless they are in the file alone
abbrev pub copied : Content → Option (List ℕ)
copied (File file) = None
copied (Copy copy file) = Some copy.items
