-- What is so where a registry may be taken over: what an operator believes of an all-clear.
use Rattle.std.specs.Prelude.{◌≡◌, ℕ, ◌<◌, ◌≤◌, ℤ, List, length, Bool, Option, Some}
use Rattle.std.specs.List.{All}
use Rattle.esc_envelope.specs.Place.{IsUpTo}
use Rattle.esc_manifest.specs.Accepted.{IsAccepted}
use Rattle.esc_manifest.specs.ManifestRows.{place_at, resend_at, watermark_at}
use Rattle.esc_tables.specs.DepositValue.{DepositValue}
use Rattle.esc_tables.specs.Reading.{reading}
use Rattle.esc_chain.specs.Chain.{IsBy}
use Rattle.esc_apply.specs.ObjectStreams.{Entry}
use Rattle.esc_check.specs.FindingValue.{FindingValue}
use Rattle.esc_check.specs.Findings.{IsFinding}
use Rattle.esc_check.specs.TableMap.{content_of_entries}
use Rattle.esc_events.specs.Apart.{WhereApart}
use Rattle.esc_events.specs.Events.{EventValue, union, last_moment}
use Rattle.esc_events.specs.LatestTables.{IsChainOf, AreEntries}
use Rattle.esc_events.specs.StateAfter.{deposit_of}
use Rattle.esc_desk.specs.Reads.{last}
use Rattle.esc_handover.specs.declared.answer.Answer.{Answer}
use Rattle.esc_inspection.specs.declared.form.Form.TheVariants.{Lines}
use Rattle.esc_inspection.specs.Answers.{IsAnswerAfter}
use Rattle.esc_inspection.specs.Parts.{body_at}

module _ (e : List EventValue) where
  -- the deposit that is held for a row
  abbrev pub deposit_at : ℕ → DepositValue
  deposit_at row = deposit_of reading (body_at e row)

  -- no listed place is after the row's, up to the moment that is set
  abbrev pub IsGreatest : ℕ → Type 0
  IsGreatest row = (r : ℕ) → r < length (union e)
      → IsBy (last_moment e) (watermark_at (union e) r)
      → IsUpTo (place_at (union e) r) (place_at (union e) row)

  -- no later revision of the row's deposit is listed
  abbrev pub IsNewest : ℕ → Type 0
  IsNewest row = (r : ℕ) → r < length (union e)
      → place_at (union e) r ≡ place_at (union e) row
      → resend_at (union e) r ≤ resend_at (union e) row

  -- the deposit of a row says nothing of these tables that they break
  abbrev pub IsWithoutFinding : ℕ → List Entry → Type 0
  IsWithoutFinding row entries = (f : FindingValue) → IsFinding (content_of_entries entries)
      (deposit_at row).header.place.watermark (deposit_at row).counts f → ⊥

  -- the tables, and so the exports, are those of the greatest listed deposit's chain, of which each
  -- deposit is the newest revision that is listed and has no orphan, and nothing in them is a
  -- finding
  pub record IsAllClear : Type 0 where
    pub chain : List ℕ
    pub latest : IsChainOf e chain
    pub end : ℕ
    pub ends : last chain ≡ Some end
    pub greatest : IsGreatest end
    pub newest : All IsNewest chain
    pub without_orphans : All (λ row. (deposit_at row).orphans ≡ 0) chain
    pub entries : List Entry
    pub tables : AreEntries e entries
    pub without_findings : IsWithoutFinding end entries

-- where the lines of an acceptance have the status 0, all is clear; the listed rows are accepted,
-- as those of each manifest are
abbrev pub StatusZeroIsAllClear : Type 0
StatusZeroIsAllClear = (e : List EventValue) (clock : Option ℤ) (is_strict : Bool) (a : Answer)
    → IsAccepted (union e) → IsAnswerAfter e clock (Lines is_strict) a → a.status ≡ 0
    → WhereApart e (IsAllClear e)
