-- The report of the moment (this project's profile): one line.
use Rattle.std.specs.Prelude.{ℕ, ℤ, List, ◌++◌, codes, Option, Some, None}
use Rattle.esc_envelope.specs.Watermark.{printed}

-- the word that sets this moment, or takes it back: a watermark, or `latest`
abbrev pub moment_line : Option ℤ → List ℕ
moment_line None = codes "latest\n"
moment_line (Some moment) = printed moment ++ codes "\n"
