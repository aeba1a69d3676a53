-- Which errors are of the connection that was to be accepted (accept(2) of Linux, "Error
-- handling").
use Rattle.std.specs.Prelude.{ℤ, pos, List, [], ◌∷◌, Bool, true, false, ◌||◌, Option, Some, None}
use Rattle.std.specs.List.{list_any}
use Rattle.std.specs.Ordering.{int_eq}
use Rattle.std.specs.IoError.{error_kind, raw_os_error}
use Rattle.std.specs.declared.io.Error.{Error}
use Rattle.std.specs.declared.io.ErrorKind.{ErrorKind}
use Rattle.std.specs.declared.io.ErrorKind.TheVariants.{ConnectionAborted, ConnectionReset}
use Rattle.std.specs.declared.io.ErrorKind.TheVariants.{HostUnreachable, NetworkDown}
use Rattle.std.specs.declared.io.ErrorKind.TheVariants.{NetworkUnreachable, PermissionDenied}
use Rattle.std.specs.declared.io.ErrorKind.TheVariants.{TimedOut}

-- errors of this kind are of the connection
abbrev pub is_connection_kind : ErrorKind → Bool
is_connection_kind ConnectionAborted = true
is_connection_kind ConnectionReset = true
is_connection_kind HostUnreachable = true
is_connection_kind NetworkDown = true
is_connection_kind NetworkUnreachable = true
is_connection_kind PermissionDenied = true
is_connection_kind TimedOut = true
is_connection_kind _ = false

-- the numbers of those that have no kind of their own: ENONET, EPROTO, ENOPROTOOPT, EOPNOTSUPP and
-- EHOSTDOWN
abbrev pub connection_codes : List ℤ
connection_codes = pos 64 ∷ pos 71 ∷ pos 92 ∷ pos 95 ∷ pos 112 ∷ []

-- whether an error has one of these numbers
abbrev pub has_connection_code : Option ℤ → Bool
has_connection_code None = false
has_connection_code (Some code) = list_any (λ c. int_eq c code) connection_codes

-- whether an error is of the connection
abbrev pub is_of_connection : Error → Bool
is_of_connection e = is_connection_kind (error_kind e) || has_connection_code (raw_os_error e)
