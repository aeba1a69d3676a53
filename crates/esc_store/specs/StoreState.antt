-- What a store keeps.
use Rattle.std.specs.Prelude.{◌≡◌, ℕ, ℤ, ◌<◌, ◌≤◌, ◌==◌, if◌then◌else◌, List, []}
use Rattle.std.specs.Prelude.{◌∷◌, ◌++◌, map}
use Rattle.std.specs.Prelude.{length, All, Option, None, Some, IsSome, ◌↔◌, bytes_eq, Bool, true}
use Rattle.std.specs.Prelude.{false}
use Rattle.std.specs.List.{Contains, Any}
use Rattle.std.specs.Ordering.{nat_cmp}
use Rattle.std.specs.declared.cmp.Ordering.TheVariants.{Less}
use Rattle.std.specs.Cmp.Lexicographic.{slice_cmp}
use Rattle.esc_envelope.specs.declared.kind.Kind.{Kind}
use Rattle.esc_envelope.specs.declared.kind.Kind.TheVariants.{Registrar, Contact, Host, Domain, Idn}
use Rattle.esc_envelope.specs.declared.kind.Kind.TheVariants.{Nndn}
use Rattle.esc_envelope.specs.Kinds.{kind_rank}
use Rattle.esc_manifest.specs.declared.row.MRow.{MRow}
use Rattle.esc_manifest.specs.ManifestRows.{place_at, resend_at}
use Rattle.esc_apply.specs.declared.front.Step.{Step}
use Rattle.esc_apply.specs.Registry.{State, ObjectsByKey, empty, HasSize}
use Rattle.esc_store.specs.declared.parked.TheConstants.{MOST_PARKED}
use Rattle.esc_store.specs.declared.reply.Verdict.{Verdict}
use Rattle.esc_store.specs.declared.reply.Verdict.TheVariants.{A1, A2, A3, A4, A5}
use Rattle.esc_store.specs.ReplyValue.{ReceiptValue, ReplyValue, replies_from, reply_alike}

-- the manifest's rows, a receipt for each distinct arrival in order, the bodies of held rows, the
-- bodies that no row lists (by their digests), the moment that is set, the rows of the chain in
-- order, and its tables with their before-images
pub record StoreState : Type 0 where
  pub listed : List MRow
  pub receipts : List ReceiptValue
  pub bodies : ℕ → Option (List ℕ)
  pub parked : List ℕ → Option (List ℕ)
  pub moment : Option ℤ
  pub steps : List ℕ
  pub registry : State

-- what a new store keeps
abbrev pub fresh : List MRow → StoreState
fresh listed = record {
  listed = listed;
  receipts = [];
  bodies = λ row. None;
  parked = λ digest. None;
  moment = None;
  steps = [];
  registry = empty;
}

-- k with these rows of the manifest
abbrev pub with_listed : StoreState → List MRow → StoreState
with_listed k rows = record k { listed = rows }

-- k with one more receipt
abbrev pub with_receipt : StoreState → ReceiptValue → StoreState
with_receipt k r = record k { receipts = k.receipts ++ r ∷ [] }

-- bodies with this one for a row, in place of an earlier one
abbrev pub body_put : (ℕ → Option (List ℕ)) → ℕ → List ℕ → ℕ → Option (List ℕ)
body_put bodies row body n = if n == row then Some body else bodies n

-- k with this body for a row
abbrev pub with_body : StoreState → ℕ → List ℕ → StoreState
with_body k row body = record k { bodies = body_put k.bodies row body }

-- parked bodies with this one, or none, under a digest
abbrev pub parked_put : (List ℕ → Option (List ℕ)) → List ℕ → Option (List ℕ) → List ℕ
    → Option (List ℕ)
parked_put parked digest body d = if bytes_eq digest d then body else parked d

-- k with this parked body, or none, under a digest
abbrev pub with_parked : StoreState → List ℕ → Option (List ℕ) → StoreState
with_parked k digest body = record k { parked = parked_put k.parked digest body }

-- k with the body that is parked under a digest, if one is, held for a row and parked no more
abbrev pub with_adopted : StoreState → ℕ → List ℕ → Option (List ℕ) → StoreState
with_adopted k row digest None = k
with_adopted k row digest (Some body) = with_parked (with_body k row body) digest None

-- k with this moment, or without one
abbrev pub with_moment : StoreState → Option ℤ → StoreState
with_moment k moment = record k { moment = moment }

-- k with this chain
abbrev pub with_steps : StoreState → List ℕ → StoreState
with_steps k steps = record k { steps = steps }

-- k with these tables and before-images
abbrev pub with_registry : StoreState → State → StoreState
with_registry k s = record k { registry = s }

-- the replies of all receipts
abbrev pub kept_replies : StoreState → List ReplyValue
kept_replies k = replies_from k.listed 1 k.receipts

-- the reply to an arrival with this number and this digest, if one was kept
abbrev pub kept_reply : StoreState → List ℕ → List ℕ → Option ReplyValue
kept_reply k number digest = reply_alike k.listed 1 number digest k.receipts

-- the step of a listed row
abbrev pub step_at : List MRow → ℕ → Step
step_at listed row = record {
  row = row;
  place = place_at listed row;
  resend = resend_at listed row;
}

-- the steps of the chain
abbrev pub kept_chain : StoreState → List Step
kept_chain k = map (step_at k.listed) k.steps

-- each number is less than those after it
abbrev pub IsRising : List ℕ → Type 0
IsRising [] = Unit {0}
IsRising (n ∷ ns) = All (λ m. n < m) ns × IsRising ns

-- these are the rows that have a body, in ascending order
pub record AreHeld (bodies : ℕ → Option (List ℕ)) (rows : List ℕ) : Type 0 where
  pub rising : IsRising rows
  pub each : (row : ℕ) → Contains rows row ↔ IsSome (bodies row)

-- texts in byte order, each once
abbrev pub AreRisingTexts : List (List ℕ) → Type 0
AreRisingTexts [] = Unit {0}
AreRisingTexts (t ∷ ts) = All (λ u. slice_cmp nat_cmp t u ≡ Less) ts × AreRisingTexts ts

-- these are the digests under which a body is parked, in byte order
pub record AreParked (parked : List ℕ → Option (List ℕ)) (digests : List (List ℕ)) : Type 0 where
  pub rising : AreRisingTexts digests
  pub each : (digest : List ℕ) → Contains digests digest ↔ IsSome (parked digest)

-- 1,024 bodies or more are parked
pub record IsFull (parked : List ℕ → Option (List ℕ)) : Type 0 where
  pub digests : List (List ℕ)
  pub are : AreParked parked digests
  pub many : MOST_PARKED ≤ length digests

-- a receipt has A1 of this row: it says that the row's deposit is held
abbrev pub SaysHeld : ℕ → ReceiptValue → Type 0
SaysHeld row r = (r.verdict ≡ A1) × (r.row ≡ Some row)

-- these are the rows of which a receipt says so, in ascending order
pub record AreHeldBy (receipts : List ReceiptValue) (rows : List ℕ) : Type 0 where
  pub rising : IsRising rows
  pub each : (row : ℕ) → Contains rows row ↔ Any (SaysHeld row) receipts

-- a verdict of a body that no row listed: version 1 did not keep it (A2), and this version parked
-- it (A5)
abbrev pub is_unlisted : Verdict → Bool
is_unlisted A1 = false
is_unlisted A2 = true
is_unlisted (A3 n) = false
is_unlisted A4 = false
is_unlisted A5 = true

-- a receipt says that no row listed a body of this digest
abbrev pub TellsUnlisted : List ℕ → ReceiptValue → Type 0
TellsUnlisted digest r = (is_unlisted r.verdict ≡ true) × (r.digest ≡ digest)

-- these are the digests of which one of the receipts says so, in any order
abbrev pub AreUnlisted : List ReceiptValue → List (List ℕ) → Type 0
AreUnlisted receipts digests =
    (digest : List ℕ) → Contains digests digest ↔ Any (TellsUnlisted digest) receipts

-- the objects of one kind
abbrev pub of_kind : Kind → ObjectsByKey → ObjectsByKey
of_kind kind content q = if kind_rank q.kind == kind_rank kind then content q else None

-- how many objects there are of each kind, in the order of kinds
pub record AreCounts (content : ObjectsByKey) (counts : List (Kind × ℕ)) : Type 0 where
  pub kinds : map (λ (c : Kind × ℕ). c.0) counts ≡ Registrar ∷ Contact ∷ Host ∷ Domain ∷ Idn ∷ Nndn
      ∷ []
  pub each : All (λ (c : Kind × ℕ). HasSize (of_kind c.0 content) c.1) counts
