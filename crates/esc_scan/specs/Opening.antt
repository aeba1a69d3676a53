-- What the two files of a store read as by its trees.
use Rattle.std.specs.Prelude.{◌≡◌, ℕ, ◌+◌, ◌<◌, true, pos, List, [], length, slice_index_or}
use Rattle.std.specs.Prelude.{IsTrue}
use Rattle.sqlite_disk.specs.declared.Disk.{Ghosts}
use Rattle.sqlite_pages.specs.PageMap.{PageMap}
use Rattle.sqlite_wal.specs.Recovery.{Image}
use Rattle.sqlite_wal.specs.Reads.{AreClean}
use Rattle.sqlite_pool.specs.Stored.{Recovers, stored_size}
use Rattle.sqlite_value.specs.declared.value.Value.TheVariants.{Int}
use Rattle.sqlite_value.specs.Order.{Row, column}
use Rattle.sqlite_trees.specs.Tree.{Trees}
use Rattle.sqlite_trees.specs.View.{IsClean}
use Rattle.sqlite_store.specs.declared.catalog.Wanted.{Wanted}
use Rattle.sqlite_store.specs.Catalog.{reals_at}
use Rattle.sqlite_store.specs.declared.store.open.Unopened.{Unopened}
use Rattle.sqlite_store.specs.FileStore.{view, IsReady}
use Rattle.sqlite_store.specs.Listing.{file_trees, IsOurs}
use Rattle.sqlite_store.specs.Unopened.{state_of, image, Shows}
use Rattle.sqlite.specs.Opening.{HoldsAt}
use Rattle.sqlite.specs.Files.{HoldsDatabase, NamesSize, image_of}
use Rattle.esc_sql.specs.Schema.{info_table, object_keys}
use Rattle.esc_sql.specs.StoreTable.{StoreTable, schema_table}
use Rattle.esc_sql.specs.Content.{Content, AreStoreTrees}
use Rattle.esc_scan.specs.KeyIndex.{ShowsStore}
use Rattle.esc_scan.specs.Reads.{HasTable, HasIndex}
use Rattle.esc_scan.specs.declared.opening.Opened.{Opened}
use Rattle.esc_scan.specs.declared.opening.Opened.TheVariants as opened

-- the schema that the files are opened with has the nine tables of a store, and the index of the
-- objects' keys
pub record HasTables (ours : List Wanted) : Type 0 where
  pub info : HasTable ours info_table
  pub tables : (t : StoreTable) → HasTable ours (schema_table t)
  pub keys : HasIndex ours object_keys
  pub no_reals : reals_at ours object_keys.tree ≡ 0

-- where the files hold a store with this content, the trees are those of version 2 with its rows,
-- and have its index of keys
abbrev pub ReadsStoreAt : ℕ → Image → Trees → Type 0
ReadsStoreAt size image trees =
    (db : Trees) (c : Content) → HoldsAt size image db → AreStoreTrees db c → ShowsStore trees db c

-- the trees are what the files recover to in pages of this length, by this list of tables and
-- indexes, which is the one that the files keep
pub record AreTreesBy (size : ℕ) (image : Image) (wanted : List Wanted) (trees : Trees)
    : Type 0 where
  pub pages : PageMap
  pub found : Recovers size image pages
  pub ours : ∥ IsOurs size true wanted pages ∥₁
  pub reads : trees ≡ file_trees size wanted pages

-- the same by a list with the nine tables of a store
abbrev pub AreTreesAt : ℕ → Image → Trees → Type 0
AreTreesAt size image trees =
    (wanted : List Wanted) × HasTables wanted × AreTreesBy size image wanted trees

-- the same in pages of the length that the files name: whatever the files hold, these trees are
-- what they read as
abbrev pub AreTreesOf : Image → Trees → Type 0
AreTreesOf image trees = (size : ℕ) × NamesSize image size × AreTreesAt size image trees

-- sixteen rows with the rowids from 1 to 16
abbrev pub AreNumbered : List Row → Type 0
AreNumbered rows = (length rows ≡ 16)
    × ((at : ℕ) → at < 16 → column (slice_index_or rows at []) 0 ≡ Int (pos (at + 1)))

-- the files were recovered, and recover to the same pages as before
pub record IsRecovered {D : Type 0} {g : Ghosts D} (old new : Unopened D g) : Type 0 where
  pub size : (state_of new).page_size ≡ (state_of old).page_size
  pub pages : PageMap
  pub found : Recovers (state_of old).page_size (image old) pages
  pub again : Recovers (state_of old).page_size (image new) pages
  pub shows : Shows new pages

-- pages of this length keep no sums: a database in the files whose stored pages have the length
-- has pages of it
abbrev pub IsPlain : ℕ → Image → Type 0
IsPlain n image =
    (db : Trees) (held : HoldsDatabase image db) → stored_size held.0 ≡ n → held.0 ≡ n

-- the same in pages of the length that the files have
abbrev pub ReadsStore : Image → Trees → Type 0
ReadsStore image trees =
    (db : Trees) (c : Content) → ∥ HoldsDatabase image db ∥₁ → AreStoreTrees db c
    → ShowsStore trees db c

-- what database the old files held, the new ones hold
abbrev pub IsHeldBy : Image → Image → Type 0
IsHeldBy old new = (db : Trees) → HoldsDatabase old db → HoldsDatabase new db

-- the same for a database with pages of this length
abbrev pub IsHeldAt : ℕ → Image → Image → Type 0
IsHeldAt size old new = (db : Trees) → HoldsAt size old db → HoldsAt size new db

module _ {D : Type 0} {g : Ghosts D} where
  -- the disk gave back what was written to it
  abbrev pub IsHonestOpening : Opened D g → Type 0
  IsHonestOpening (opened.Trees store) = IsClean (view store)
  IsHonestOpening (opened.Refused files) = AreClean g files.log files.db

  -- the trees are open for reading, or the files can be opened again
  abbrev pub IsOfUse : Opened D g → Type 0
  IsOfUse (opened.Trees store) = IsReady store
  IsOfUse (opened.Refused files) = IsTrue (g.is_usable files.log) × IsTrue (g.is_usable files.db)

  -- the trees are what the files read as, and those of the store that the files held, if they held
  -- one; or the files hold what they held
  abbrev pub IsOpeningOf : Image → Opened D g → Type 0
  IsOpeningOf image (opened.Trees store) =
      ReadsStore image (view store).trees × AreTreesOf image (view store).trees
  IsOpeningOf image (opened.Refused files) = IsHeldBy image (image_of g files)

  -- the same, where the database has pages of this length
  abbrev pub IsOpeningAt : ℕ → Image → Opened D g → Type 0
  IsOpeningAt size image (opened.Trees store) =
      ReadsStoreAt size image (view store).trees × AreTreesAt size image (view store).trees
  IsOpeningAt size image (opened.Refused files) = IsHeldAt size image (image_of g files)
