-- Whether a body is what its row lists.
use Rattle.std.specs.Prelude.{◌≡◌, ℕ, List, Option, Some, None}
use Rattle.sha2.specs.Sha256.{sha256}
use Rattle.esc_manifest.specs.declared.row.MRow.{MRow}

-- a row is listed, its body is there, and has the SHA-256 that the row lists
abbrev pub IsAsListed : Option MRow → Option (List ℕ) → Type 0
IsAsListed None body = ⊥
IsAsListed (Some row) None = ⊥
IsAsListed (Some row) (Some body) = row.digest ≡ sha256 body
