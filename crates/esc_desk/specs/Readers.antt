-- A reader that reflects a list of events, and what its reads leave as it was.
use Rattle.std.specs.Prelude.{◌≡◌, List}
use Rattle.sha2.specs.Sha256.{sha256}
use Rattle.sqlite_trees.specs.declared.store.Store.{Ghosts}
use Rattle.esc_tables.specs.Reading.{reading}
use Rattle.esc_store.specs.declared.reader.StoreReader.{StoreReader}
use Rattle.esc_store.specs.Reading.{AreUnwritten, ReaderRepresents, rows_listed_by, trees_of}
use Rattle.esc_store.specs.StoreState.{StoreState}
use Rattle.esc_events.specs.Events.{EventValue}
use Rattle.esc_events.specs.StateAfter.{IsStateAfter}

-- a reader's store stands for this list of events
pub record ReaderReflects {S : Type 0} (g : Ghosts S) (reader : StoreReader S)
    (e : List EventValue) : Type 0 where
  pub kept : StoreState
  pub stands : ReaderRepresents g reader kept
  pub stands_for : IsStateAfter sha256 reading e kept

-- nothing was committed through a reader, a crash leaves nothing new, and its manifest is as before
pub record IsUnwrittenReader {S : Type 0} (g : Ghosts S) (old new : StoreReader S) : Type 0 where
  pub manifest : rows_listed_by new ≡ rows_listed_by old
  pub unwritten : AreUnwritten g (trees_of old) (trees_of new)
