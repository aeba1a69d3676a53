-- What the trees of two files are read as.
use Rattle.std.proofs.Common.{◌≡◌, List, sym, subst}
use Rattle.std.proofs.Math.Logic.{∥∥₁_map}
use Rattle.sqlite_trees.specs.declared.store.Store.{Ghosts}
use Rattle.sqlite_trees.specs.Tree.{Trees}
use Rattle.sqlite_wal.specs.Recovery.{Image}
use Rattle.sqlite.specs.Files.{HoldsDatabase}
use Rattle.esc_scan.specs.Opening.{AreTreesOf, ReadsStore}
use Rattle.esc_store.specs.Reading.{AreOfVersion, trees_of}
use Rattle.esc_store.specs.ReadingLaws.{are_read_as}
use Rattle.esc_events.specs.Events.{EventValue}
use Rattle.esc_store.specs.declared.reader.StoreReader.{StoreReader}
use Rattle.esc_desk.specs.Crashes.{IsStoreFor}
use Rattle.esc_desk.specs.Readers.{ReaderReflects}
use Rattle.esc_recovery.specs.ReadImages.{AreReadFor, IsReaderFrom}
use Rattle.esc_recovery.proofs.Founds.{pick}

-- trees that are read as the store of two files are read as one of the events for which that stands
read_for : (image : Image) (trees : Trees) → ReadsStore image trees → (db : Trees)
    → ∥ HoldsDatabase image db ∥₁ → (e : List EventValue) → IsStoreFor db e → AreReadFor trees e
read_for image trees reads db held e is = record {
  kept = is.kept;
  rows = are_read_as image trees db is.kept reads held is.store;
  stands_for = is.stands_for;
}

-- a reader over these trees, which are what the two files read as, and of this version, is one of the
-- store of the two files
pub reader_from : {S : Type 0} (g : Ghosts S) (image : Image) (trees : Trees) (reader : StoreReader S)
    → ReadsStore image trees × AreTreesOf image trees
    → ((e : List EventValue) → AreReadFor trees e → ReaderReflects g reader e)
    → AreOfVersion trees → (g.view (trees_of reader)).trees ≡ trees → IsReaderFrom g image reader
reader_from g image trees reader (reads, read) reflects current same = record {
  serves = λ e it. reflects e (read_for image trees reads it.0 it.1 e it.2);
  found = λ e doubtful one. ∥∥₁_map one (λ it.
      let found = pick it.0 e doubtful it.2 in
      (found.0, found.1, reflects found.0 (read_for image trees reads it.0 ∣ it.1 ∣₁ found.0 found.2)));
  reads = subst (AreTreesOf image) (sym same) read;
  version = subst AreOfVersion (sym same) current;
}
