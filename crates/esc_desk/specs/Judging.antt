-- What is judged of parked bodies.
use Rattle.std.specs.Prelude.{◌≡◌, ℕ, true, false, List, [], ◌∷◌, Option, None, is_some}
use Rattle.esc_manifest.specs.declared.row.MRow.{MRow}
use Rattle.esc_events.specs.declared.assessment.Assessment.{Assessment}
use Rattle.esc_events.specs.declared.assessment.Assessment.TheVariants.{Unlisted, Unreadable}
use Rattle.esc_events.specs.declared.assessment.Assessment.TheVariants.{Differing, Holding}
use Rattle.esc_events.specs.Amended.{parked_for, is_adopted, adopted_rows, dropped_rows}
use Rattle.esc_desk.specs.declared.judging.Judgement.{Judgement}
use Rattle.esc_desk.specs.declared.judging.Judgement.TheVariants.{Absent, Dropped, Adopted}
use Rattle.esc_desk.specs.declared.judging.Judged.{Judged}

-- what is judged of the body that is parked for a row, if one is
abbrev pub IsJudgement : List MRow → (List ℕ → Option (List ℕ)) → ℕ → Judgement → Type 0
IsJudgement rows parked row Absent = parked_for rows parked row ≡ None
IsJudgement rows parked row Dropped = (is_some (parked_for rows parked row) ≡ true)
    × (is_adopted rows parked row ≡ false)
IsJudgement rows parked row Adopted = is_adopted rows parked row ≡ true

-- the rows from this one on whose parked body is their deposit, and those whose parked body isn't
pub record AreJudged (rows : List MRow) (parked : List ℕ → Option (List ℕ)) (from : ℕ)
    (told : Judged) : Type 0 where
  pub adopted : told.adopted.items ≡ adopted_rows rows parked from
  pub dropped : told.dropped.items ≡ dropped_rows rows parked from

-- the row, where its parked body is its deposit; and where that isn't
abbrev pub adopted_by : Judgement → ℕ → List ℕ
adopted_by Absent row = []
adopted_by Dropped row = []
adopted_by Adopted row = row ∷ []

abbrev pub dropped_by : Judgement → ℕ → List ℕ
dropped_by Absent row = []
dropped_by Dropped row = row ∷ []
dropped_by Adopted row = []

-- what is judged of a parked body of which this is found
abbrev pub judgement_of : Assessment → Judgement
judgement_of Unlisted = Dropped
judgement_of (Unreadable r n) = Dropped
judgement_of (Differing r) = Dropped
judgement_of (Holding r d) = Adopted
