-- What is read, without SQL, of the store that two files hold.
use Rattle.std.specs.Prelude.{List}
use Rattle.sha2.specs.Sha256.{sha256}
use Rattle.sqlite_wal.specs.Recovery.{Image}
use Rattle.sqlite_trees.specs.declared.store.Store.{Ghosts}
use Rattle.sqlite_trees.specs.Tree.{Trees}
use Rattle.esc_tables.specs.Reading.{reading}
use Rattle.esc_scan.specs.Opening.{AreTreesOf}
use Rattle.esc_store.specs.Reading.{AreOfVersion, AreReadAs, trees_of}
use Rattle.esc_store.specs.StoreState.{StoreState}
use Rattle.esc_events.specs.Events.{EventValue}
use Rattle.esc_events.specs.StateAfter.{IsStateAfter}
use Rattle.esc_store.specs.declared.reader.StoreReader.{StoreReader}
use Rattle.esc_desk.specs.Readers.{ReaderReflects}
use Rattle.esc_recovery.specs.FileImages.{HoldsOneOf, HoldsStoreFor, IsOneOf}

-- trees are read as a store that stands for this list of events
pub record AreReadFor (trees : Trees) (e : List EventValue) : Type 0 where
  pub kept : StoreState
  pub rows : AreReadAs trees kept
  pub stands_for : IsStateAfter sha256 reading e kept

-- a reader reflects these events, or them and one of those in doubt
abbrev pub ReflectsOneOf : {S : Type 0} → Ghosts S → StoreReader S → List EventValue
    → List EventValue → Type 0
ReflectsOneOf g reader e doubtful = ∥ ((x : List EventValue) × IsOneOf x e doubtful
    × ReaderReflects g reader x) ∥₁

-- the reader is over the store that the two files hold: it reflects the events of that; of what a
-- crash left it reflects the events, or them and one of those in doubt. Whatever the files hold,
-- its trees are what they read as, and have version 2
pub record IsReaderFrom {S : Type 0} (g : Ghosts S) (image : Image) (reader : StoreReader S)
    : Type 0 where
  pub serves : (e : List EventValue) → HoldsStoreFor image e → ReaderReflects g reader e
  pub found : (e doubtful : List EventValue) → HoldsOneOf image e doubtful
      → ReflectsOneOf g reader e doubtful
  pub reads : AreTreesOf image (g.view (trees_of reader)).trees
  pub version : AreOfVersion (g.view (trees_of reader)).trees
