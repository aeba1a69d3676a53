use Rattle.esc_desk.proofs.EarlyStores.{stands_early}
use Rattle.esc_desk.proofs.laws.migrated_store_serves.Goals as goal

pub returns : goal.returns
returns g c = record {
  serves = λ m l k stood stands. record { kept = k; stands = stands; stands_for = stands_early m l k stood };
  stands_for = stands_early;
}
