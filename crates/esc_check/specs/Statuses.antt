-- The statuses of domains (RFC 5731, section 2.3), hosts (RFC 5732, section 2.3) and contacts (RFC
-- 5733, section 2.2).
use Rattle.std.specs.Prelude.{◌≡◌, ◌≢◌, ℕ, List, [], ◌∷◌, Some, codes}
use Rattle.std.specs.List.{Contains}
use Rattle.esc_envelope.specs.declared.kind.Kind.{Kind}
use Rattle.esc_envelope.specs.declared.kind.Kind.TheVariants.{Registrar, Contact, Host, Domain, Idn}
use Rattle.esc_envelope.specs.declared.kind.Kind.TheVariants.{Nndn}
use Rattle.esc_tables.specs.KeyName.{KeyName}
use Rattle.esc_tables.specs.ObjectValue.{RowValue, ObjectValue}
use Rattle.esc_check.specs.Fields.{cell, status_table}

-- the statuses that objects of a kind may have
unfoldable pub status_words : Kind → List (List ℕ)
status_words Registrar = []
status_words Contact =
    codes "clientDeleteProhibited" ∷ codes "serverDeleteProhibited" ∷ codes "clientUpdateProhibited"
    ∷ codes "serverUpdateProhibited"
    ∷ codes "linked" ∷ codes "ok" ∷ codes "pendingCreate" ∷ codes "pendingDelete"
    ∷ codes "pendingTransfer" ∷ codes "pendingUpdate"
    ∷ codes "clientTransferProhibited" ∷ codes "serverTransferProhibited" ∷ []
status_words Host =
    codes "clientDeleteProhibited" ∷ codes "serverDeleteProhibited" ∷ codes "clientUpdateProhibited"
    ∷ codes "serverUpdateProhibited"
    ∷ codes "linked" ∷ codes "ok" ∷ codes "pendingCreate" ∷ codes "pendingDelete"
    ∷ codes "pendingTransfer" ∷ codes "pendingUpdate" ∷ []
status_words Domain =
    codes "clientDeleteProhibited" ∷ codes "serverDeleteProhibited" ∷ codes "clientHold"
    ∷ codes "serverHold"
    ∷ codes "clientRenewProhibited" ∷ codes "serverRenewProhibited"
    ∷ codes "clientTransferProhibited" ∷ codes "serverTransferProhibited"
    ∷ codes "clientUpdateProhibited" ∷ codes "serverUpdateProhibited" ∷ codes "inactive"
    ∷ codes "ok" ∷ codes "pendingCreate"
    ∷ codes "pendingDelete" ∷ codes "pendingRenew" ∷ codes "pendingTransfer" ∷ codes "pendingUpdate"
    ∷ []
status_words Idn = []
status_words Nndn = []

-- a child row in the table of an object's statuses has this status, which is not empty
abbrev pub IsStatusOf : KeyName → ObjectValue → List ℕ → Type 0
IsStatusOf k o s = (r : RowValue) × Contains o.children r × (status_table k.kind ≡ Some r.table)
    × (cell (codes "status") r ≡ s) × (s ≢ [])
