-- A series of two parts, to compute the definitions at.
use Rattle.std.specs.Prelude.{ℕ, pos, List, [], ◌∷◌, None, Some, Result, Ok, if◌then◌else◌, codes}
use Rattle.std.specs.Str.{bytes_eq}
use Rattle.esc_bundle.specs.declared.refusal.Refusal.{Refusal}
use Rattle.esc_envelope.specs.declared.kind.Kind.TheVariants.{Domain}
use Rattle.esc_envelope.specs.declared.place.DepositType.TheVariants.{Diff, Full}
use Rattle.esc_envelope.specs.HeaderValue.{HeaderValue}
use Rattle.esc_tables.specs.DepositValue.{DepositValue}
use Rattle.esc_manifest.specs.declared.row.MRow.{MRow}
use Rattle.esc_apply.specs.ObjectStreams.{Entry}
use Rattle.esc_events.specs.ArrivalValue.{an_arrival}
use Rattle.esc_events.specs.Events.{EventValue, manifest_then}
use Rattle.esc_deposit.specs.RegistrySeries.{part_header, part_with, part_counts}

-- a domain with this name
abbrev pub domain_named : List ℕ → Entry
domain_named name = (
  record { kind = Domain; text = name },
  record {
    parent = record { table = codes "domain"; cells = (codes "name", name) ∷ [] };
    children = [];
  },
)

-- a registry of two domains, each of which is one run
abbrev pub two_domains : List Entry
two_domains = domain_named (codes "a") ∷ domain_named (codes "b") ∷ []

abbrev pub first_part : DepositValue
first_part = part_with (codes "F9") (pos 9) 2 0 (part_counts two_domains 2 0)
    (domain_named (codes "a") ∷ [])

abbrev pub last_part : DepositValue
last_part = part_with (codes "F9") (pos 9) 2 1 (part_counts two_domains 2 1)
    (domain_named (codes "b") ∷ [])

-- the body `2` reads as the last part, and each other one as the first
abbrev pub reads_part : List ℕ → Result DepositValue Refusal
reads_part body = if bytes_eq body (codes "2") then Ok last_part else Ok first_part

-- both parts are listed, with the bodies `1` and `2`, each of which is its own digest
abbrev pub listed_parts : List MRow
listed_parts = record { header = part_header (codes "F9") (pos 9) 2 0; digest = codes "1" }
    ∷ record { header = part_header (codes "F9") (pos 9) 2 1; digest = codes "2" } ∷ []

-- what the first one says of itself: a Full, a nanosecond earlier
abbrev pub first_header : HeaderValue
first_header = record {
  id = codes "F9.1of2";
  place = record { watermark = pos 8; kind = Full };
  prev = None;
  resend = 0;
}

-- and the last one: a Differential on the first, with the deposit's own id
abbrev pub last_header : HeaderValue
last_header = record {
  id = codes "F9";
  place = record { watermark = pos 9; kind = Diff };
  prev = Some (codes "F9.1of2");
  resend = 0;
}

-- the last part came first, then another body, and then the first part
abbrev pub last_came_first : List EventValue
last_came_first = manifest_then listed_parts
    (an_arrival (codes "7") (codes "2") ∷ an_arrival (codes "8") (codes "x")
    ∷ an_arrival (codes "9") (codes "1") ∷ [])
