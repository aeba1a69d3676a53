-- A header whose texts are slices of the envelope.
use Rattle.std.specs.Prelude.{option_map}
use Rattle.esc_envelope.specs.declared.members.Told.{Told}
use Rattle.esc_envelope.specs.HeaderValue.{HeaderValue}

-- what contracts see of such a header
abbrev pub told_value : Told → HeaderValue
told_value t = record {
  id = t.id.now;
  place = t.place;
  prev = option_map (λ p. p.now) t.prev;
  resend = t.resend;
}
