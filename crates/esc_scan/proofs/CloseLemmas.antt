-- What files hold that are given back.
use Rattle.std.proofs.Common.{◌≡◌, ℕ, true, IsTrue, sym, ap, subst, ◌∙◌, inl, inr}
use Rattle.sqlite_disk.specs.declared.Disk.{Ghosts}
use Rattle.sqlite_wal.specs.Files.{seen_image}
use Rattle.sqlite_wal.specs.Reads.{AreClean}
use Rattle.sqlite_wal.specs.Recovery.{Image}
use Rattle.sqlite_wal.proofs.LogLemmas.{SeenMayStay}
use Rattle.sqlite_pages.specs.PageMap.{PageMap}
use Rattle.sqlite_pool.specs.Stored.{Recovers, RecoversAs}
use Rattle.sqlite_pool.specs.StoredLaws.{carried, recovers_once}
use Rattle.sqlite_pool.proofs.StateLemmas.{settled, seen_may_be_left}
use Rattle.sqlite_store.specs.Listing.{file_trees, IsOurs}
use Rattle.sqlite_store.specs.declared.store.open.Unopened.{Unopened}
use Rattle.sqlite_store.specs.Unopened.{state_of, image, files_of, Opens}
use Rattle.sqlite.proofs.OpenLemmas.{pool_files}
use Rattle.sqlite_trees.specs.Tree.{Trees}
use Rattle.esc_scan.specs.Opening.{AreTreesAt, IsHeldAt, IsRecovered}

-- files that recover to the same pages hold the same
pub still_held : (size : ℕ) (old new : Image) (pages : PageMap)
    → Recovers size old pages → Recovers size new pages → IsHeldAt size old new
still_held size old new pages found again db held =
    let same = recovers_once size old held.pages pages held.found found in
    record {
      pages = pages;
      wanted = held.wanted;
      schema = held.schema;
      found = again;
      ours = subst (IsOurs size true held.wanted) same held.ours;
      reads = held.reads ∙ ap (file_trees size held.wanted) same;
      sound = held.sound;
    }

module _ {D : Type 0} {g : Ghosts D} (it : Unopened D g) (log db : D) (are : (log, db) ≡ files_of it) where
  pub closed_clean : AreClean g log db → IsTrue (state_of it).is_clean
  closed_clean now = (pool_files it.pool).1 ∙ subst (λ (p : D × D). AreClean g p.0 p.1) are now

  pub closed_image : image it ≡ seen_image g log db
  closed_image = ap (λ (p : D × D). seen_image g p.0 p.1) (sym are)

-- once files were recovered, an open that fails leaves what they hold
pub held_after : {D : Type 0} {g : Ghosts D} (stays : SeenMayStay g) (old mid left : Unopened D g)
    → IsRecovered old mid → Opens mid (state_of left)
    → IsTrue (state_of left).is_clean → IsHeldAt (state_of old).page_size (image old) (image left)
held_after stays old mid left was opens clean =
    let n = (state_of old).page_size in
    let now : Recovers n (image left) was.pages =
    elim (opens.crash (image left) (seen_may_be_left left.pool stays clean)).same [
      | inl may ↦ subst (Recovers n (image left))
          was.shows.committed (subst (λ k. Recovers k (image left) (state_of mid).committed)
          was.size ((settled mid.pool stays was.shows.clean.is_open).durable (image left) may))
      | inr same ↦ carried n (image mid) (image left)
          (subst (λ k. RecoversAs k (image mid) (image left)) was.size same) was.pages was.again
    ] in
    still_held n (image old) (image left) was.pages was.found now

-- what files read as once they were recovered, they read as before
pub trees_before : {D : Type 0} {g : Ghosts D} (old mid : Unopened D g) (trees : Trees) → IsRecovered old mid
    → AreTreesAt (state_of mid).page_size (image mid) trees → AreTreesAt (state_of old).page_size (image old) trees
trees_before old mid trees was at =
    let n = (state_of old).page_size in
    let (wanted, tables, by) = subst (λ k. AreTreesAt k (image mid) trees) was.size at in
    let same = recovers_once n (image mid) by.pages was.pages by.found was.again in (
      wanted,
      tables,
      record {
        pages = was.pages;
        found = was.found;
        ours = subst (λ p. ∥ IsOurs n true wanted p ∥₁) same by.ours;
        reads = by.reads ∙ ap (file_trees n wanted) same;
      },
    )
