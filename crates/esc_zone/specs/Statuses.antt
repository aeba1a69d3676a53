-- Which statuses keep a domain out of the zone (RFC 5731, section 2.3; RFC 3915, section 3.1).
use Rattle.std.specs.Prelude.{Bool, ◌||◌, if◌then◌else◌, List, ℕ, Option, Some, None, codes}
use Rattle.esc_tables.specs.ObjectValue.{RowValue}
use Rattle.esc_zone.specs.declared.status.Hold.{Hold}
use Rattle.esc_zone.specs.declared.status.Hold.TheVariants.{Held, PendingCreate, Redemption}
use Rattle.esc_zone.specs.declared.status.Hold.TheVariants.{PendingRestore, PendingDelete, Inactive}
use Rattle.esc_zone.specs.Fields.{has_child_word}

-- whether a domain has a status of EPP
abbrev pub has_status : List ℕ → List RowValue → Bool
has_status word rows = has_child_word (codes "domainStatuses") (codes "status") word rows

-- whether a domain has a status of the grace periods
abbrev pub has_rgp : List ℕ → List RowValue → Bool
has_rgp word rows = has_child_word (codes "domainStatuses") (codes "rgpStatus") word rows

-- what keeps a domain with these child rows out of the zone, if anything does: the first of these
abbrev pub hold_of : List RowValue → Option Hold
hold_of rows =
    if has_status (codes "clientHold") rows || has_status (codes "serverHold") rows then Some Held
    else (if has_status (codes "pendingCreate") rows then Some PendingCreate
    else (if has_rgp (codes "redemptionPeriod") rows then Some Redemption
    else (if has_rgp (codes "pendingRestore") rows then Some PendingRestore
    else (if has_rgp (codes "pendingDelete") rows || has_status (codes "pendingDelete") rows
    then Some PendingDelete
    else (if has_status (codes "inactive") rows then Some Inactive else None)))))
