-- From files with pages of a length to the two files, whatever the length is.
use Rattle.std.proofs.Common.{◌≡◌, ℕ, ◌≤◌, List, length, slice_index, Option, Some, Result, Ok, Err}
use Rattle.std.proofs.Common.{IsTrue, IfOk, IfSome, sym, ap, subst, subst₂, ◌∙◌, arith}
use Rattle.std.proofs.Math.Logic.{∥∥₁_elim}
use Rattle.sqlite_disk.specs.declared.Disk.{Ghosts}
use Rattle.sqlite_disk.specs.declared.Files.{Files}
use Rattle.sqlite_wal.specs.declared.page_size.PageSize.{PageSize}
use Rattle.sqlite_wal.specs.Format.{be32}
use Rattle.sqlite_wal.specs.PageSize.{bytes_of, size_in_file, Names, IsPageSize}
use Rattle.sqlite_wal.specs.Recovery.{Image, IsIgnored}
use Rattle.sqlite_wal.specs.Recovery as raw
use Rattle.sqlite_wal.specs.Files.{seen_image}
use Rattle.sqlite_wal.specs.Reads.{are_clean, AreClean, OnlyReads}
use Rattle.sqlite_wal.proofs.CleanLemmas.{both_clean}
use Rattle.sqlite_pool.specs.Stored.{reserved, stored_size}
use Rattle.sqlite_pool.proofs.ProbeLemmas.{reserved_word}
use Rattle.sqlite_pool.proofs.ResealLemmas.{adopts_of}
use Rattle.sqlite_trees.specs.Tree.{Trees}
use Rattle.sqlite_trees.specs.Props.{rows_set}
use Rattle.sqlite.specs.Opening.{HoldsAt}
use Rattle.sqlite.specs.declared.error.Error.{Error}
use Rattle.sqlite.specs.Files.{HoldsDatabase, NamesSize, image_of}
use Rattle.sqlite.proofs.FileLemmas.{probe_size, reads_then, same_image}
use Rattle.sqlite.proofs.OpenLemmas.{pool_files}
use Rattle.sqlite_store.specs.declared.store.open.Unopened.{Unopened}
use Rattle.sqlite_store.specs.Unopened.{state_of, files_of, image}
use Rattle.esc_scan.specs.declared.opening.Opened.{Opened}
use Rattle.esc_scan.specs.declared.opening.Opened.TheVariants as opened
use Rattle.esc_scan.specs.Opening.{IsHonestOpening, IsPlain, IsOpeningAt, IsOpeningOf}
use Rattle.esc_scan.proofs.ReadLaws.{plain_holds}

-- a header that reserves no byte is that of pages without sums
pub plain_word : (image : Image) (n letter word : ℕ)
    → ((pages : raw.Pages) (first : List ℕ) → raw.Recovers n image pages → pages 1 ≡ Some first
    → length first ≡ n → (letter ≡ slice_index first 0) × (word ≡ be32 first 20))
    → word ≡ 0x0040_2020 → IsPlain n image
plain_word image n letter word tells is db held same =
    let size = held.0 in
    let few : reserved size ≤ 8 = grind arith in
    let found = held.2.found in
    let page = reserved_word size _ _ found (omega (arith, held.1.0)) held.2.ours.file.sound in
    let told = (tells found.stored page.0 (subst (λ k. raw.Recovers k image found.stored)
    same found.found) page.1 (page.2 ∙ same)).1 ∙ page.3 in
    let none : reserved size ≡ 0 = omega (arith, told, is) in
    omega (arith, same, none)

-- each database in the files has pages of this length
abbrev pub HoldsOnlyAt : ℕ → Image → Type 0
HoldsOnlyAt size image =
    (db : Trees) → HoldsDatabase image db → IsPageSize (stored_size size) × HoldsAt size image db

-- the two files, of the page length that they name
pub holds_plain : (image : Image) (found : Option PageSize) (by_log : ¬ IsIgnored image.log → Names
    found (be32 image.log 8)) (by_file : IsIgnored image.log → Names found (size_in_file image.db))
    (size : PageSize) → found ≡ Some size → IsPlain (bytes_of size) image → HoldsOnlyAt (bytes_of size) image
holds_plain image found by_log by_file size is plain db held =
    let same = plain db held (probe_size image found by_log by_file db held size is) in (
      subst (λ n. IsPageSize (stored_size n)) same held.1,
      subst (λ n. HoldsAt n image db)
          same (plain_holds image db held (rw same (omega (arith, size.aligned)))),
    )

-- files with pages of a length hold a database
pub holds_database : (size : ℕ) (image : Image) (db : Trees)
    → IsPageSize (stored_size size) → HoldsAt size image db → HoldsDatabase image db
holds_database size image db valid held = (
  size,
  valid,
  record {
    pages = held.pages;
    wanted = held.wanted;
    schema = held.schema;
    found = adopts_of size image held.pages held.found;
    ours = held.ours;
    reads = held.reads;
    sound = held.sound;
  },
)

-- the length that was probed is the one that is named
named : (found : Option PageSize) (size : PageSize) (n : ℕ) → found ≡ Some size → Names found n → bytes_of size ≡ n
named found size n is names = subst (λ f. IfSome f (λ s. bytes_of s ≡ n)) is names.1

-- an opening at one length, which the files name, is one of the files
pub opened_from : {D : Type 0} {g : Ghosts D} (size : ℕ) (image : Image) → NamesSize image size
    → HoldsOnlyAt size image → (it : Opened D g) → IsOpeningAt size image it → IsOpeningOf image it
opened_from size image names only (opened.Trees store) at = (
  λ db c held is. record {
    rows = record {
      info = ∥∥₁_elim held (rows_set _ _) (λ h. (at.0 db c (only db h).1 is).rows.info);
      tables = λ t. ∥∥₁_elim held (rows_set _ _) (λ h. (at.0 db c (only db h).1 is).rows.tables t);
    };
    keys = ∥∥₁_elim held (rows_set _ _) (λ h. (at.0 db c (only db h).1 is).keys);
  },
  (size, names, at.1),
)
opened_from size image names only (opened.Refused files) at = λ db held. let (valid, now) = only db held in
    holds_database size _ db valid (at db now)

-- files whose length of a page was probed are opened as the two files
module _ {D : Type 0} {g : Ghosts D} (start probed now : Files D)
    (log : OnlyReads g start.log probed.log) (db : OnlyReads g start.db probed.db)
    (later_log : OnlyReads g probed.log now.log) (later_db : OnlyReads g probed.db now.db)
    (found : Option PageSize) (size : PageSize) (is : found ≡ Some size)
    (by_log : AreClean g probed.log probed.db
    → ¬ IsIgnored (g.seen start.log) → Names found (be32 (g.seen start.log) 8))
    (by_file : AreClean g probed.log probed.db
    → IsIgnored (g.seen start.log) → Names found (size_in_file (g.seen start.db)))
    (plain : AreClean g now.log now.db → IsPlain (bytes_of size) (image_of g probed))
    (fresh : Unopened D g) (files : files_of fresh ≡ (now.log, now.db))
    (sized : (state_of fresh).page_size ≡ bytes_of size) where
  opened_of : (it : Opened D g) → IsTrue (state_of fresh).is_clean
      → IsOpeningAt (state_of fresh).page_size (image fresh) it → IsOpeningOf (image_of g start) it
  opened_of it clean at =
      let last : AreClean g now.log now.db =
      sym ((pool_files fresh.pool).1 ∙ ap (λ (f : D × D). are_clean g f.0 f.1) files) ∙ clean in
      let first = both_clean _ _ _ _ later_log.clean later_db.clean last in
      let seen : image fresh ≡ image_of g start = ap (λ (f : D × D). seen_image g f.0 f.1) files
      ∙ same_image (reads_then log later_log) (reads_then db later_db) in
      let only = holds_plain (image_of g start) found (by_log first)
      (by_file first) size is (subst (IsPlain (bytes_of size)) (same_image log db) (plain last)) in
      let names : NamesSize (image_of g start) (bytes_of size) = (
        λ kept. named found size _ is (by_log first kept),
        λ ignored. named found size _ is (by_file first ignored),
      ) in
      opened_from (bytes_of size) (image_of g start) names only it (subst₂ (λ n i. IsOpeningAt n i it) sized seen at)

  pub opened_or : (result : Result (Opened D g) Error)
      → IfOk result (λ it. IsHonestOpening it → IsTrue (state_of fresh).is_clean)
      → IfOk result (λ it. IsHonestOpening it → IsOpeningAt (state_of fresh).page_size (image fresh) it)
      → IfOk result (λ it. IsHonestOpening it → IsOpeningOf (image_of g start) it)
  opened_or (Ok it) honest at = λ now. opened_of it (honest now) (at now)
  opened_or (Err e) honest at = tt
