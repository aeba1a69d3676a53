use Rattle.std.proofs.Common.{◌≡◌, ◌≤◌, ◌<◌, take, true}
use Rattle.std.specs.List.{list_all}
use Rattle.std.specs.Char.{is_ascii_digit}
use Rattle.std.specs.Str.Parse.{digits_value}
use Rattle.esc_request.proofs.length.length_of_value.Given as goal

-- the digits so far: their number up to the limit, else that it is past the limit
abbrev pub invariant-loop-byte : goal.invariant-loop-byte
invariant-loop-byte l =
    let front = take l.byte-index l.text in
    record {
      numeral : list_all is_ascii_digit front ≡ true;
      small : l.value ≤ 16777216 → l.value ≡ digits_value 10 front;
      large : 16777216 < l.value → 16777216 < digits_value 10 front;
    }
