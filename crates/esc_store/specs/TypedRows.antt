-- How the rows of its tables say what a store keeps (this project's profile).
use Rattle.std.specs.Prelude.{◌≡◌, ℕ, suc, ◌==◌, Bool, if◌then◌else◌, List, [], ◌∷◌, Option}
use Rattle.std.specs.Prelude.{None}
use Rattle.std.specs.Prelude.{Some, IsSome, IfSome, option_map}
use Rattle.std.specs.Option.{option_and_then}
use Rattle.esc_envelope.specs.declared.kind.Kind.{Kind}
use Rattle.esc_envelope.specs.declared.kind.Kind.TheVariants.{Registrar, Contact, Host, Domain, Idn}
use Rattle.esc_envelope.specs.declared.kind.Kind.TheVariants.{Nndn}
use Rattle.esc_envelope.specs.Place.{rank}
use Rattle.esc_manifest.specs.declared.row.MRow.{MRow}
use Rattle.esc_tables.specs.KeyName.{KeyName}
use Rattle.esc_tables.specs.ObjectValue.{ObjectValue}
use Rattle.esc_record.specs.Record.{record_of}
use Rattle.esc_apply.specs.Registry.{State, Befores, ObjectsByKey}
use Rattle.esc_sql.specs.Rows.{ListedRow, ReceiptRow, StepRow}
use Rattle.esc_sql.specs.Content.{Content, object_at, image_at, parked_at, moment_set}
use Rattle.esc_sql.specs.Changes.{body_of}
use Rattle.esc_store.specs.declared.reply.Verdict.{Verdict}
use Rattle.esc_store.specs.declared.reply.Verdict.TheVariants.{A1, A2, A3, A4, A5}
use Rattle.esc_store.specs.ReplyValue.{ReceiptValue}
use Rattle.esc_store.specs.StoreState.{StoreState}

-- a row of the manifest as the table of listed rows keeps it, with its index from 0
abbrev pub indexed_row : ℕ → MRow → ListedRow
indexed_row n r = record {
  row = n;
  id = r.header.id;
  kind = rank r.header.place.kind;
  watermark = r.header.place.watermark;
  prev = r.header.prev;
  resend = r.header.resend;
  digest = r.digest;
}

-- the rows of a manifest, with indices from n on
abbrev pub listed_from : ℕ → List MRow → List ListedRow
listed_from n [] = []
listed_from n (r ∷ rs) = indexed_row n r ∷ listed_from (suc n) rs

-- the number of a verdict in the tables: A1 to A5 as 1 to 5
abbrev pub verdict_number : Verdict → ℕ
verdict_number A1 = 1
verdict_number A2 = 2
verdict_number (A3 n) = 3
verdict_number A4 = 4
verdict_number A5 = 5

-- the number of the refusal of a body that is no valid deposit (A3)
abbrev pub fault_number : Verdict → Option ℕ
fault_number A1 = None
fault_number A2 = None
fault_number (A3 n) = Some n
fault_number A4 = None
fault_number A5 = None

-- a test as a number: 1 if it holds, else 0
abbrev pub bit : Bool → ℕ
bit b = if b then 1 else 0

-- a receipt as its table keeps it, with its number
abbrev pub numbered_receipt : ℕ → ReceiptValue → ReceiptRow
numbered_receipt n r = record {
  receipt = n;
  number = r.number;
  digest = r.digest;
  verdict = verdict_number r.verdict;
  fault = fault_number r.verdict;
  row = r.row;
  again = option_map bit r.again;
  orphans = r.orphans;
}

-- receipts, numbered from n on
abbrev pub receipts_from : ℕ → List ReceiptValue → List ReceiptRow
receipts_from n [] = []
receipts_from n (r ∷ rs) = numbered_receipt n r ∷ receipts_from (suc n) rs

-- the rows of a chain as the table of steps keeps them, numbered from n
abbrev pub steps_from : ℕ → List ℕ → List StepRow
steps_from n [] = []
steps_from n (row ∷ rows) = record { pos = n; row = row } ∷ steps_from (suc n) rows

-- the kind with this number, if there is one
abbrev pub kind_numbered : ℕ → Option Kind
kind_numbered n =
    if n == 0 then Some Registrar
    else if n == 1 then Some Contact
    else if n == 2 then Some Host
    else if n == 3 then Some Domain
    else if n == 4 then Some Idn
    else if n == 5 then Some Nndn
    else None

-- what a function of keys has at the key with this kind's number and these bytes as its text
abbrev pub at_stored_key : {X : Type 0} → (KeyName → Option X) → ℕ → List ℕ → Option X
at_stored_key {X} f n text =
    option_and_then (λ kind. f (record { kind = kind; text = text })) (kind_numbered n)

-- the record of a key's object, if it has one
abbrev pub record_at_key : ObjectsByKey → ℕ → List ℕ → Option (List ℕ)
record_at_key content n text = option_and_then record_of (at_stored_key content n text)

-- the record that a key had before a step, or that it had none, if that was noted
abbrev pub image_kept : Befores → ℕ → List ℕ → Option (Option (List ℕ))
image_kept before n text =
    option_map (λ o. option_and_then record_of o) (at_stored_key before n text)

-- the rows say what is kept of the manifest, receipts, bodies, parked bodies, moment and chain
pub record IsBooks (c : Content) (k : StoreState) : Type 0 where
  pub listed : c.listed ≡ listed_from 0 k.listed
  pub receipts : c.receipts ≡ receipts_from 1 k.receipts
  pub held : (row : ℕ) → body_of row c.held ≡ k.bodies row
  pub parked : (digest : List ℕ) → parked_at digest c.parked ≡ k.parked digest
  pub moment : moment_set c.moment ≡ k.moment
  pub steps : c.steps ≡ steps_from 1 k.steps

-- the rows say which objects and before-images are kept: of each key its record, and nothing else
pub record IsRegistry (c : Content) (s : State) : Type 0 where
  pub objects : (n : ℕ) (text : List ℕ)
      → object_at n text c.objects ≡ record_at_key s.content n text
  pub images : (step n : ℕ) (text : List ℕ) → image_at step n text c.undo
      ≡ image_kept (s.undo step) n text
  pub recorded : (q : KeyName) → IfSome (s.content q) (λ o. IsSome (record_of o))
  pub noted : (step : ℕ) (q : KeyName) (o : ObjectValue) → s.undo step q ≡ Some (Some o)
      → IsSome (record_of o)
