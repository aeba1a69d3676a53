use Rattle.esc_desk.proofs.AtFirst.{stands_at_first}
use Rattle.esc_desk.proofs.laws.new_store_stands_for_its_manifest.Goals as goal

pub returns : goal.returns
returns c = record { stands_for = stands_at_first }
