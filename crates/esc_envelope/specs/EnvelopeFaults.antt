-- Which refusal of an envelope applies (this project's profile).
use Rattle.std.specs.Prelude.{◌≡◌, ◌⊎◌, ◌≤◌, ℕ, List, Some, None, codes}
use Rattle.serde_json.specs.Data.{Data}
use Rattle.esc_bundle.specs.declared.refusal.Refusal.{Refusal}
use Rattle.esc_bundle.specs.declared.refusal.Refusal.TheVariants.{NotJson, WrongMember, WrongTable}
use Rattle.esc_bundle.specs.Codes.{refusal_number}
use Rattle.esc_envelope.specs.Envelope.{json_of}
use Rattle.esc_envelope.specs.Members.{header_of, counts_of, array_of}
use Rattle.esc_envelope.specs.DeclaredTables.{contents_in, deletes_in}

-- U6: a member other than those of a table is missing, or not of its form
abbrev pub LacksMember : Data → Type 0
LacksMember json =
    (header_of json ≡ None) ⊎ (counts_of json ≡ None)
    ⊎ (array_of (codes "contents") json ≡ None) ⊎ (array_of (codes "deletes") json ≡ None)

-- U7: the declaration of a table of contents or of deletes is not valid
abbrev pub LacksTables : Data → Type 0
LacksTables json =
    ((values : List Data) × (array_of (codes "contents") json ≡ Some values)
    × (contents_in values ≡ None))
    ⊎ ((values : List Data) × (array_of (codes "deletes") json ≡ Some values)
    × (deletes_in values ≡ None))

-- this refusal applies
abbrev pub IsEnvelopeFault : List ℕ → Refusal → Type 0
IsEnvelopeFault text why =
    ((why ≡ NotJson) × (json_of text ≡ None))
    ⊎ ((why ≡ WrongMember) × (json : Data) × (json_of text ≡ Some json) × LacksMember json)
    ⊎ ((why ≡ WrongTable) × (json : Data) × (json_of text ≡ Some json) × LacksTables json)

-- it applies, and none with a lesser number does
abbrev pub IsLeastEnvelopeFault : List ℕ → Refusal → Type 0
IsLeastEnvelopeFault text why = IsEnvelopeFault text why × ((other : Refusal)
    → IsEnvelopeFault text other → refusal_number why ≤ refusal_number other)
