use Rattle.std.proofs.Common.{◌≡◌, ℕ, List, Ok, Some, sym, ap, subst, ◌∙◌}
use Rattle.esc_tables.specs.DepositValue.{DepositValue}
use Rattle.esc_tables.specs.Reading.{reading}
use Rattle.esc_store.specs.StoreState.{StoreState, with_body}
use Rattle.esc_events.specs.StateAfter.{deposit_of, or_no_deposit}
use Rattle.esc_desk.specs.declared.edit.AtHand.{AtHand}
use Rattle.esc_desk.specs.declared.edit.Storing.{Storing}
use Rattle.esc_desk.specs.Edits.{stored, IsAtHand, HasItsDeposit}
use Rattle.esc_desk.proofs.KnownRows.{put_at}
use Rattle.esc_desk.proofs.edit.Storing.at_hand.Goals as goal

-- the deposit of a body that is held for its row
of_row : (k : StoreState) (row : ℕ) (body : List ℕ) (d : DepositValue)
    → reading body ≡ Ok d → d ≡ deposit_of reading ((with_body k row body).bodies row)
of_row k row body d read = sym (ap (deposit_of reading) (put_at k.bodies row body) ∙ ap or_no_deposit read)

pub returns-in-Hold : goal.returns-in-Hold
returns-in-Hold c =
    let at : AtHand = record { row = c.in-Hold.row; deposit = Some c.in-Hold.deposit } in
    subst (λ (s : Storing). HasItsDeposit s → (k : StoreState) → IsAtHand at (stored s k).bodies)
    (sym c.in-Hold.is) (λ read k. of_row k c.in-Hold.row _ c.in-Hold.deposit read)
