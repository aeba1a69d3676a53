-- What contracts see of values that are slices of a buffer.
use Rattle.esc_request.specs.declared.length.Values.{Values as Lying}
use Rattle.esc_request.specs.declared.length.Values.TheVariants.{Nothing, One, More}
use Rattle.esc_request.specs.BodyLength.{Values, nothing, one, more}

abbrev pub values_seen : Lying → Values
values_seen Nothing = nothing
values_seen (One value) = one value.now
values_seen More = more
