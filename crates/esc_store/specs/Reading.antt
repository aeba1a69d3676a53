-- What a reader of a store's trees stands for.
use Rattle.std.specs.Prelude.{◌≡◌, pos, List, Some, Result, OnOk}
use Rattle.sqlite_value.specs.declared.value.Value.TheVariants.{Int}
use Rattle.sqlite_trees.specs.declared.store.Store.{Ghosts}
use Rattle.sqlite_trees.specs.Tree.{Trees}
use Rattle.sqlite_trees.specs.View.{View, IsClean, IsQuiet}
use Rattle.sqlite_trees.specs.declared.error.StoreError.TheVariants.{OutOfMemory}
use Rattle.esc_manifest.specs.declared.row.MRow.{MRow}
use Rattle.esc_sql.specs.Content.{content_in}
use Rattle.esc_scan.specs.KeyIndex.{ShowsStore}
use Rattle.esc_scan.specs.Versions.{version_in}
use Rattle.esc_scan.specs.declared.parked.ParkedSize.{ParkedSize}
use Rattle.esc_scan.specs.declared.rows.ScanError.{ScanError}
use Rattle.esc_scan.specs.declared.rows.ScanError.TheVariants.{Store as of_store, Foreign}
use Rattle.esc_store.specs.declared.cause.Cause.TheVariants.{Trees as tree_error, ForeignTree}
use Rattle.esc_store.specs.declared.fault.StoreFault.{StoreFault}
use Rattle.esc_store.specs.declared.fault.StoreFault.TheVariants.{Failed, NoMemory}
use Rattle.esc_store.specs.declared.parked.ParkedBody.{ParkedBody}
use Rattle.esc_store.specs.declared.reader.StoreReader.{StoreReader}
use Rattle.esc_store.specs.StoreState.{StoreState}
use Rattle.esc_store.specs.StoreTables.{IsStore}

-- the table of the version in these trees has version 2 in its first row
abbrev pub AreOfVersion : Trees → Type 0
AreOfVersion trees = version_in trees ≡ Some (Int (pos 2))

-- trees are read as a store that keeps k: each is the rows of a table of such a store, and one is
-- its index of keys
pub record AreReadAs (trees : Trees) (k : StoreState) : Type 0 where
  pub store : Trees
  pub kept : IsStore store k
  pub shows : ShowsStore trees store (content_in store)

-- the trees of a reader
abbrev pub trees_of : {S : Type 0} → StoreReader S → S
trees_of reader = reader.trees

-- the rows that a reader lists
abbrev pub rows_listed_by : {S : Type 0} → StoreReader S → List MRow
rows_listed_by reader = reader.manifest

-- a store of trees gave back what was written to it so far
abbrev pub AreHonest : {S : Type 0} → Ghosts S → S → Type 0
AreHonest g trees = IsClean (g.view trees)

-- the same of a reader's trees
abbrev pub IsHonestReader : {S : Type 0} → Ghosts S → StoreReader S → Type 0
IsHonestReader g reader = AreHonest g reader.trees

-- a reader of this manifest, over trees that show this, stands for k
pub record IsReaderFor (v : View) (manifest : List MRow) (k : StoreState) : Type 0 where
  pub listed : manifest ≡ k.listed
  pub rows : IsClean v → AreReadAs v.trees k

-- a reader stands for this: its manifest is that of k, and its trees are read as a store that keeps
-- k, if they gave back what was written to them
unfoldable pub ReaderRepresents : {S : Type 0} → Ghosts S → StoreReader S → StoreState → Type 0
ReaderRepresents g reader k = IsReaderFor (g.view reader.trees) reader.manifest k

-- nothing is committed to trees, and a crash leaves nothing new
abbrev pub AreUnwritten : {S : Type 0} → Ghosts S → S → S → Type 0
AreUnwritten g old new = IsQuiet g.view g.faults g.recovers g.is_shielded old new

-- what a read leaves as it was: the manifest and what is committed, whatever it returns, and, where
-- it succeeds, what the reader stands for
pub record IsReadOnly {S X E : Type 0} (g : Ghosts S) (old new : StoreReader S)
    (result : Result X E) : Type 0 where
  pub manifest : new.manifest ≡ old.manifest
  pub unwritten : AreUnwritten g old.trees new.trees
  pub stands : OnOk result ((k : StoreState) → ReaderRepresents g old k → ReaderRepresents g new k)

-- an error of a scan as a fault: out of memory, or the cause of a failure
abbrev pub fault_of_scan : ScanError → StoreFault
fault_of_scan (of_store OutOfMemory) = NoMemory
fault_of_scan (of_store error) = Failed (tree_error error)
fault_of_scan Foreign = Failed ForeignTree

-- a parked body, as a scan reads it
abbrev pub parked_read : ParkedSize → ParkedBody
parked_read it = record { digest = it.digest.items; bytes = it.size }
