-- Distinct arrivals, and the receipts and replies that a list of events leaves (this project's
-- profile).
use Rattle.std.specs.Prelude.{ℕ, Bool, false, ◌&&◌, ◌==◌, nat_eq, not, if◌then◌else◌, filter, List}
use Rattle.std.specs.Prelude.{[], ◌∷◌, ◌++◌, Option, Some, None, Result}
use Rattle.std.specs.List.{list_any}
use Rattle.std.specs.Str.{bytes_eq}
use Rattle.esc_bundle.specs.declared.refusal.Refusal.{Refusal}
use Rattle.esc_bundle.specs.Codes.{refusal_number}
use Rattle.esc_tables.specs.DepositValue.{DepositValue}
use Rattle.esc_store.specs.declared.reply.Verdict.{Verdict}
use Rattle.esc_store.specs.declared.reply.Verdict.TheVariants.{A1, A2, A3, A4, A5}
use Rattle.esc_store.specs.ReplyValue.{ReplyValue, ReceiptValue, reply_alike}
use Rattle.esc_events.specs.declared.assessment.Assessment.{Assessment}
use Rattle.esc_events.specs.declared.assessment.Assessment.TheVariants.{Unlisted, Unreadable}
use Rattle.esc_events.specs.declared.assessment.Assessment.TheVariants.{Differing, Holding}
use Rattle.esc_events.specs.ArrivalValue.{ArrivalValue}
use Rattle.esc_events.specs.Events.{EventValue, Coming, union, comings}
use Rattle.esc_events.specs.Assessment.{assessment, held_row}

abbrev pub is_row : ℕ → Option ℕ → Bool
is_row r None = false
is_row r (Some q) = q == r

-- a row, if any, is one of these
abbrev pub is_among : List ℕ → Option ℕ → Bool
is_among rows None = false
is_among rows (Some r) = list_any (λ q. nat_eq q r) rows

-- what was found is the deposit of row r
abbrev pub holds_row : ℕ → Assessment → Bool
holds_row r f = is_row r (held_row f)

-- the verdict on a body that no row lists: it is parked, but of an early arrival it was not kept
abbrev pub unlisted_verdict : Bool → Verdict
unlisted_verdict early = if early then A2 else A5

-- the receipt of a body that isn't held: its verdict, and its row, if any
abbrev pub refusal : List ℕ → List ℕ → Verdict → Option ℕ → ReceiptValue
refusal number digest verdict row = record {
  number = number;
  digest = digest;
  verdict = verdict;
  row = row;
  again = None;
  orphans = None;
}

-- the receipt by what was found. `early` decides the verdict on a body that no row lists; `again`
-- says of a deposit that is held whether an earlier receipt has the row with A1
abbrev pub receipt_by : List ℕ → List ℕ → Bool → Assessment → Bool → ReceiptValue
receipt_by number digest early Unlisted again = refusal number digest (unlisted_verdict early) None
receipt_by number digest early (Unreadable r why) again =
    refusal number digest (A3 (refusal_number why)) (Some r)
receipt_by number digest early (Differing r) again = refusal number digest A4 (Some r)
receipt_by number digest early (Holding r d) again = record {
  number = number;
  digest = digest;
  verdict = A1;
  row = Some r;
  again = Some again;
  orphans = Some d.orphans;
}

module _ (digest : List ℕ → List ℕ) (reads : List ℕ → Result DepositValue Refusal) where
  -- equal in number and in the digest of the body
  abbrev pub alike : Coming → Coming → Bool
  alike a b = bytes_eq a.number b.number && bytes_eq (digest a.body) (digest b.body)

  -- a list without each arrival that is a duplicate of an earlier one: its first, and of the
  -- distinct ones after it those that aren't duplicates of the first
  abbrev pub distinct : List Coming → List Coming
  distinct [] = []
  distinct (a ∷ l) = a ∷ filter (λ b. not (alike a b)) (distinct l)

  -- what was found of a body when it came, by the rows that were listed then
  abbrev pub found_then : Coming → Assessment
  found_then c = assessment digest reads c.rows c.body

  -- its verdict was A1, and this was its row
  abbrev pub holds : ℕ → Coming → Bool
  holds r c = holds_row r (found_then c)

  -- there is a row, and one of these has the verdict A1 at it
  abbrev pub holds_any : List Coming → Option ℕ → Bool
  holds_any before None = false
  holds_any before (Some r) = list_any (holds r) before

  -- the receipt of an arrival, where `before` are the distinct arrivals before it
  abbrev pub receipt_for : List Coming → Coming → ReceiptValue
  receipt_for before c =
      let again = holds_any before (held_row (found_then c)) in
      receipt_by c.number (digest c.body) c.early (found_then c) again

  -- the receipts of distinct arrivals, where `before` are the distinct arrivals before them
  abbrev pub receipts_after : List Coming → List Coming → List ReceiptValue
  receipts_after before [] = []
  receipts_after before (c ∷ l) = receipt_for before c ∷ receipts_after (before ++ c ∷ []) l

  -- the receipts that a list of events leaves; the n-th, from 1, is receipt n
  abbrev pub receipts_of : List EventValue → List ReceiptValue
  receipts_of e = receipts_after [] (distinct (comings e))

  -- the reply to an arrival after a list of events: that of the first arrival with its number and
  -- digest
  abbrev pub reply_to : List EventValue → ArrivalValue → Option ReplyValue
  reply_to e a = reply_alike (union e) 1 a.number (digest a.body) (receipts_of e)
