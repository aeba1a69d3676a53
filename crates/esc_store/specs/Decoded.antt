-- What objects, before-images and counts are decoded from.
use Rattle.std.specs.Prelude.{◌≡◌, ◌==◌, ℕ, List, [], ◌∷◌, length, map, filter, Option, Some, None}
use Rattle.std.specs.Prelude.{IsSome, option_map, cond, ◌||◌, ◌↔◌}
use Rattle.std.specs.List.{Contains, Any}
use Rattle.std.specs.Map.{lookup}
use Rattle.esc_envelope.specs.declared.kind.Kind.{Kind}
use Rattle.esc_envelope.specs.declared.kind.Kind.TheVariants.{Registrar, Contact, Host, Domain, Idn}
use Rattle.esc_envelope.specs.declared.kind.Kind.TheVariants.{Nndn}
use Rattle.esc_envelope.specs.Kinds.{kind_rank}
use Rattle.esc_tables.specs.KeyName.{KeyName, key_eq}
use Rattle.esc_tables.specs.ObjectValue.{ObjectValue}
use Rattle.esc_record.specs.Record.{record_of}
use Rattle.esc_apply.specs.Registry.{State}
use Rattle.esc_sql.specs.Changes.{ImageEntry, image_entry_at}
use Rattle.esc_sql.specs.Rows.{ReceiptRow}
use Rattle.esc_store.specs.declared.counts.KindCounts.{KindCounts}
use Rattle.esc_store.specs.declared.reply.Verdict.TheVariants.{A1, A2, A5}
use Rattle.esc_store.specs.StoreState.{IsRising}
use Rattle.esc_store.specs.ReplyValue.{ReceiptValue}
use Rattle.esc_store.specs.TypedRows.{image_kept, verdict_number}

-- exactly the keys of the rows have a before-image: an object, whose record is the row's, or none,
-- if the row has no record
abbrev pub AreImagesOf : List ImageEntry → List (KeyName × Option ObjectValue) → Type 0
AreImagesOf rows images = (q : KeyName)
    → option_map (option_map record_of) (lookup (key_eq q) images)
    ≡ option_map (option_map (λ bytes. Some bytes)) (image_entry_at (kind_rank q.kind) q.text rows)

-- these rows are what was noted of a step: of each key its record, or none
pub record AreNotes (step : ℕ) (s : State) (rows : List ImageEntry) : Type 0 where
  pub each : (n : ℕ) (text : List ℕ) → image_entry_at n text rows ≡ image_kept (s.undo step) n text
  pub recorded : (q : KeyName) (o : ObjectValue) → s.undo step q ≡ Some (Some o)
      → IsSome (record_of o)

-- the numbers of a list, in ascending order, each once
pub record AreOnce (numbers rows : List ℕ) : Type 0 where
  pub rising : IsRising rows
  pub each : (n : ℕ) → Contains rows n ↔ Contains numbers n

-- a receipt has the verdict with this number, and its body has this digest
abbrev pub IsOfVerdict : ℕ → List ℕ → ReceiptValue → Type 0
IsOfVerdict verdict digest r = (verdict_number r.verdict ≡ verdict) × (r.digest ≡ digest)

-- the digests of the receipts with a verdict, in any order
abbrev pub AreOfVerdict : ℕ → List ReceiptValue → List (List ℕ) → Type 0
AreOfVerdict verdict receipts digests =
    (digest : List ℕ) → Contains digests digest ↔ Any (IsOfVerdict verdict digest) receipts

-- the row of a receipt that says that its deposit is held
abbrev pub row_if_held : ReceiptRow → Option ℕ
row_if_held r = cond (r.verdict == verdict_number A1) r.row None

-- the digest of a receipt of a body that no row listed
abbrev pub digest_if_unlisted : ReceiptRow → Option (List ℕ)
digest_if_unlisted r = cond
    ((r.verdict == verdict_number A2) || (r.verdict == verdict_number A5)) (Some r.digest) None

-- how often the number of a kind occurs among these
abbrev pub times : Kind → List ℕ → ℕ
times kind numbers = length (filter (λ n. n == kind_rank kind) numbers)

-- the kinds in their order
abbrev pub all_kinds : List Kind
all_kinds = Registrar ∷ Contact ∷ Host ∷ Domain ∷ Idn ∷ Nndn ∷ []

-- kinds, each with how often its number occurs among these
abbrev pub tallies_of : List Kind → List ℕ → List (Kind × ℕ)
tallies_of kinds numbers = map (λ kind. (kind, times kind numbers)) kinds

-- the kinds in their order, each with how often its number occurs among these
abbrev pub tallies : List ℕ → List (Kind × ℕ)
tallies = tallies_of all_kinds

-- which of six counts is that of a kind
abbrev pub count_for : KindCounts → Kind → ℕ
count_for counts Registrar = counts.registrar
count_for counts Contact = counts.contact
count_for counts Host = counts.host
count_for counts Domain = counts.domain
count_for counts Idn = counts.idn
count_for counts Nndn = counts.nndn

-- kinds, each with its count
abbrev pub counted_of : List Kind → KindCounts → List (Kind × ℕ)
counted_of kinds counts = map (λ kind. (kind, count_for counts kind)) kinds

-- the kinds in their order, each with its count
abbrev pub counted : KindCounts → List (Kind × ℕ)
counted = counted_of all_kinds
