-- Deposits applied to any tables, one after another (RFC 8909, section 2).
use Rattle.std.specs.Prelude.{if◌then◌else◌, List, None}
use Rattle.std.specs.List.{fold}
use Rattle.esc_envelope.specs.declared.place.DepositType.{DepositType}
use Rattle.esc_envelope.specs.declared.place.DepositType.TheVariants.{Diff, Incr, Full}
use Rattle.esc_tables.specs.DepositValue.{DepositValue}
use Rattle.esc_apply.specs.Registry.{ObjectsByKey}
use Rattle.esc_apply.specs.Tables.{mentions, says}

-- the tables that a deposit of a type begins with: a Full clears them
abbrev pub kept_by : DepositType → ObjectsByKey → ObjectsByKey
kept_by Full t = λ q. None
kept_by Incr t = t
kept_by Diff t = t

-- the tables once a deposit is applied to them: a Full clears them first, and then each key that
-- the deposit mentions has what the deposit says of it
abbrev pub applied : ObjectsByKey → DepositValue → ObjectsByKey
applied t d = λ q. if mentions q d then says q d else kept_by d.header.place.kind t q

-- the tables once deposits are applied to them, one after another
abbrev pub applied_all : ObjectsByKey → List DepositValue → ObjectsByKey
applied_all t ds = fold applied t ds
