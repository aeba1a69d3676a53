-- Objects of which it is told how many came, from call to call.
use Rattle.std.specs.Prelude.{◌≡◌, ℕ}
use Rattle.esc_progress.specs.declared.watched.Watched.{Watched}

-- the objects, as they are now
abbrev pub watched_in : {O : Type 0} → Watched O → O
watched_in watched = watched.objects.now

-- the name of the reference by which they are borrowed
abbrev pub borrowed_as : {O : Type 0} → Watched O → ℕ
borrowed_as watched = watched.objects.ghost_name

-- what stays true of the objects through calls, and the reference that leads to them
pub record WatchedFollows {O : Type 0} (Follows : O → O → Type 0) (old new : Watched O)
    : Type 0 where
  pub same_reference : borrowed_as new ≡ borrowed_as old
  pub same : Follows (watched_in old) (watched_in new)
