-- How long the body of a request is, by its header lines (RFC 9112, section 6, within this
-- project's profile).
use Rattle.std.specs.Prelude.{ℕ, List, [], ◌∷◌, Bool, if◌then◌else◌, ◌&&◌, nat_lt, nat_le, length}
use Rattle.std.specs.Prelude.{codes}
use Rattle.std.specs.List.{list_any, list_all, filter}
use Rattle.std.specs.Char.{is_ascii_digit}
use Rattle.std.specs.Str.{str_eq_ignore_ascii_case}
use Rattle.std.specs.Str.Parse.{digits_value}
use Rattle.esc_bundle.specs.Bundle.{limit}
use Rattle.esc_request.specs.declared.length.BodyLength.{BodyLength}
use Rattle.esc_request.specs.declared.length.BodyLength.TheVariants.{Bytes, Missing, Malformed}
use Rattle.esc_request.specs.declared.length.BodyLength.TheVariants.{TooLong}

-- a header line: its name, and its value without the white space around it
abbrev pub HeaderLine : Type 0
HeaderLine = List ℕ × List ℕ

-- the line has this name, without regard to case
abbrev pub is_header_named : List ℕ → HeaderLine → Bool
is_header_named name line = str_eq_ignore_ascii_case line.0 name

-- one digit or more, and nothing else; leading zeros are allowed
abbrev pub is_numeral : List ℕ → Bool
is_numeral text = nat_lt 0 (length text) && list_all is_ascii_digit text

-- the length that a value states: a numeral up to the limit of a bundle, 16,777,216
abbrev pub length_of_value : List ℕ → BodyLength
length_of_value text =
    if is_numeral text then (if nat_le (digits_value 10 text) limit then Bytes
    (digits_value 10 text) else TooLong) else Malformed

-- the values of lines: none, one, or more
pub data Values : Type 0 where
  nothing : Values
  one : List ℕ → Values
  more : Values

abbrev pub values_of : List HeaderLine → Values
values_of [] = nothing
values_of (line ∷ []) = one line.1
values_of (line ∷ other ∷ lines) = more

-- the values with one more
abbrev pub one_more : Values → List ℕ → Values
one_more nothing value = one value
one_more (one other) value = more
one_more more value = more

-- the values with that of one more line, if it passes
abbrev pub value_after : (HeaderLine → Bool) → Values → HeaderLine → Values
value_after passes values line = if passes line then one_more values line.1 else values

abbrev pub length_of_values : Values → BodyLength
length_of_values nothing = Missing
length_of_values (one value) = length_of_value value
length_of_values more = Malformed

-- the length of the body by the header lines: none if there is a Transfer-Encoding, else what the
-- one Content-Length states
abbrev pub body_length : List HeaderLine → BodyLength
body_length lines =
    if list_any (is_header_named (codes "transfer-encoding")) lines then Missing
    else length_of_values (values_of (filter (is_header_named (codes "content-length")) lines))
