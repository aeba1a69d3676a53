-- What is told of what is left out.
use Rattle.std.specs.Prelude.{◌≡◌, true, ℕ, ◌==◌, ◌+◌, ◌<◌, ◌≤◌, List, [], ◌∷◌, length, count_by}
use Rattle.std.specs.Prelude.{string_bytes, codes, Bool, ◌&&◌, ◌||◌, MatchBool, MatchOption}
use Rattle.std.specs.Str.{bytes_eq}
use Rattle.esc_tables.specs.ObjectValue.{RowValue}
use Rattle.std.specs.declared.net.ip_addr.IpAddr.{IpAddr}
use Rattle.esc_zone.specs.Addresses.{IsServersText}
use Rattle.esc_zone.specs.declared.sheet.Sheet.{Sheet}
use Rattle.esc_zone.specs.declared.signer.Ds.{Ds}
use Rattle.esc_zone.specs.Delegations.{has_place, IsUsable, server_texts}
use Rattle.esc_zone.specs.Drafts.{ZoneNotes}
use Rattle.esc_zone.specs.Lists.{GivesEach, Itself, IsOrderedOnce}
use Rattle.esc_zone.specs.Names.{name_cmp}
use Rattle.esc_zone.specs.Signers.{IsSigner, has_ds_text, has_key_text}
use Rattle.esc_zone.specs.Statuses.{hold_of}

-- how many lines are told
abbrev pub told_lines : Sheet → ℕ
told_lines sheet = count_by (λ b. b == 10) (string_bytes sheet.told)

-- whether a row says a DS, or a key
abbrev pub says_signer : RowValue → Bool
says_signer row =
    bytes_eq row.table (codes "secDNS") && (has_ds_text row || has_key_text row)

-- each row of a name that says a DS gives it, or a line is told
abbrev pub TellsOfSigners : List ℕ → List RowValue → ℕ → ℕ → Type 0
TellsOfSigners name rows before after = (given : List Ds) × GivesEach (IsSigner name) rows given
    × (count_by says_signer rows + before ≤ length given + after)

-- a line is told of each server that a name with these rows doesn't have in the zone, and of each
-- row that gives no DS; and one of the name, if no server is left
abbrev pub TellsOfServed : List ℕ → List RowValue → List (List ℕ) → List (List ℕ) → ℕ → ℕ → Type 0
TellsOfServed name rows texts [] before after = length texts + before < after
TellsOfServed name rows texts (host ∷ hosts) before after = (between : ℕ)
    × (length texts + before ≤ length (host ∷ hosts) + between)
    × TellsOfSigners name rows between after

-- the same, of a name whose servers have these texts; and a line of a name without a place in the
-- zone
abbrev pub TellsOfDelegation : ZoneNotes → List ℕ → List RowValue → List (List ℕ) → ℕ → ℕ → Type 0
TellsOfDelegation z name rows texts before after = MatchBool (has_place z name)
    ((hosts : List (List ℕ)) × GivesEach (Itself (IsUsable z name)) texts hosts
    × TellsOfServed name rows texts hosts before after)
    (before < after)

-- the same, of a domain that its statuses let in and that has servers
abbrev pub TellsOfDomain : ZoneNotes → List ℕ → List RowValue → ℕ → ℕ → Type 0
TellsOfDomain z name rows before after = MatchOption (hold_of rows)
    ((texts : List (List ℕ)) × IsOrderedOnce name_cmp (server_texts rows) texts
    × MatchBool (length texts == 0) (before ≤ after)
    (TellsOfDelegation z name rows texts before after))
    (λ hold. before ≤ after)

-- each of these texts is an address of a server, or a line is told
abbrev pub TellsOfAddresses : List (List ℕ) → ℕ → ℕ → Type 0
TellsOfAddresses texts before after = (given : List IpAddr) × GivesEach IsServersText texts given
    × (length texts + before ≤ length given + after)
