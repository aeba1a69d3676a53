-- DS of domains, as rows of the table secDNS have them (RFC 4034, section 5.1, and RFC 5910,
-- section 4).
use Rattle.std.specs.Prelude.{ℕ, Bool, false, not, ◌&&◌, ◌||◌, ◌==◌, ◌%◌, List, length, codes}
use Rattle.std.specs.Prelude.{nat_lt, nat_le, if◌then◌else◌, Option, None, Some}
use Rattle.std.specs.Char.{is_ascii_digit, is_ascii_hexdigit}
use Rattle.std.specs.List.{list_all, list_any}
use Rattle.std.specs.Option.{option_map_or}
use Rattle.std.specs.Str.{bytes_eq}
use Rattle.std.specs.Str.Parse.{digits_value}
use Rattle.esc_envelope.specs.declared.kind.Kind.TheVariants.{Domain}
use Rattle.esc_envelope.specs.Kinds.{is_kind}
use Rattle.esc_tables.specs.ObjectValue.{RowValue}
use Rattle.esc_apply.specs.ObjectStreams.{Entry}
use Rattle.esc_check.specs.Fields.{cell}
use Rattle.esc_check.specs.Gathered.{is_empty_text}

-- the number that 1 to 9 digits write
abbrev pub small_number : List ℕ → Option ℕ
small_number text = if nat_lt 0 (length text)
    && (nat_le (length text) 9 && list_all is_ascii_digit text)
    then Some (digits_value 10 text) else None

-- whether a text is a number up to this one
abbrev pub is_number_to : ℕ → List ℕ → Bool
is_number_to most text = option_map_or (λ n. nat_le n most) (small_number text) false

-- whether so many digits write a digest of this type: 20 bytes of SHA-1, 32 of SHA-256, 48 of
-- SHA-384, and of other types some bytes
abbrev pub is_digest_of : ℕ → ℕ → Bool
is_digest_of kind n = if kind == 1 then n == 40
    else (if kind == 2 then n == 64 else (if kind == 4 then n == 96
    else nat_lt 0 n && (n % 2 == 0)))

-- whether these texts are the type of a digest, a number of one byte, and that digest
abbrev pub is_digest : List ℕ → List ℕ → Bool
is_digest kind digest = option_map_or (λ k. nat_le k 0xff && is_digest_of k (length digest))
    (small_number kind) false && list_all is_ascii_hexdigit digest

-- whether a row has a text in a field
abbrev pub has_part : RowValue → List ℕ → Bool
has_part r field = not (is_empty_text (cell field r))

-- whether a row has a part of a DS
abbrev pub has_ds : RowValue → Bool
has_ds r = has_part r (codes "keyTag") || (has_part r (codes "dsAlg")
    || (has_part r (codes "digestType") || has_part r (codes "digest")))

-- whether it has a whole one
abbrev pub is_ds : RowValue → Bool
is_ds r = is_number_to 0xffff (cell (codes "keyTag") r)
    && (is_number_to 0xff (cell (codes "dsAlg") r)
    && is_digest (cell (codes "digestType") r) (cell (codes "digest") r))

-- whether a row of secDNS has a part of a DS, and isn't a whole one
abbrev pub is_wrong_ds : RowValue → Bool
is_wrong_ds r = bytes_eq r.table (codes "secDNS") && (has_ds r && not (is_ds r))

-- whether a domain has such a row
abbrev pub has_wrong_ds : Entry → Bool
has_wrong_ds e = is_kind e.0.kind Domain && list_any is_wrong_ds e.1.children
