-- What two files hold to which nothing was written since they were opened.
use Rattle.std.proofs.Common.{◌≡◌, ℕ, Bool, true, false, cond, List, [], ◌∷◌, ap₂}
use Rattle.sqlite_disk.specs.Events.{Event, replay, settled}
use Rattle.sqlite_wal.specs.Recovery.{Image}

abbrev image : List ℕ → List ℕ → Image
image log db = record { log = log; db = db }

abbrev seen : List ℕ → List ℕ → Bool → List Event → List ℕ
seen log db is_log history = (replay (cond is_log log db) history).seen

-- they hold what was said of them
pub untouched : (log db : List ℕ) {log_key db_key : ℕ} {is_log is_db : Bool}
    {log_calls db_calls : List Event} → (is_log ≡ true) × (log_calls ≡ settled log_key ∷ [])
    → (is_db ≡ false) × (db_calls ≡ settled db_key ∷ [])
    → image (seen log db is_log log_calls) (seen log db is_db db_calls) ≡ image log db
untouched log db first second =
    ap₂ image (ap₂ (seen log db) first.0 first.1) (ap₂ (seen log db) second.0 second.1)
