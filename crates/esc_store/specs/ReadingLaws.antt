-- What the trees of a store's files are read as, and a reader from one read to the next.
use Rattle.std.specs.Prelude.{Result, Ok, Err}
use Rattle.std.proofs.Common.{arith, ◌∙◌}
use Rattle.std.proofs.lemmas.Result.{on_ok_weaker}
use Rattle.sqlite_trees.specs.declared.store.Store.{Ghosts}
use Rattle.sqlite_catalog.proofs.QuietLemmas.{quiet_then}
use Rattle.sqlite_trees.specs.Tree.{Trees}
use Rattle.sqlite_wal.specs.Recovery.{Image}
use Rattle.sqlite.specs.Files.{HoldsDatabase}
use Rattle.esc_sql.specs.Content.{content_in}
use Rattle.esc_scan.specs.Opening.{ReadsStore}
use Rattle.esc_store.specs.declared.reader.StoreReader.{StoreReader}
use Rattle.esc_store.specs.Reading.{AreHonest, AreReadAs, AreUnwritten, IsHonestReader, IsReadOnly}
use Rattle.esc_store.specs.ResultLaws.{on_any}
use Rattle.esc_store.specs.StoreState.{StoreState}
use Rattle.esc_store.specs.StoreTables.{IsStore}

-- the trees of files that hold a store that keeps k are read as a store that keeps k
pub are_read_as : (image : Image) (trees db : Trees) (k : StoreState) → ReadsStore image trees
    → ∥ HoldsDatabase image db ∥₁ → IsStore db k → AreReadAs trees k
unfolding IsStore
are_read_as image trees db k reads held kept = record {
  store = db;
  kept = kept;
  shows = reads db (content_in db) held kept.tables;
}

-- trees that are honest after a call to which nothing is committed were honest before it
pub unwritten_honest : {S : Type 0} (g : Ghosts S) {a b : S} → AreUnwritten g a b → AreHonest g b
    → AreHonest g a
unwritten_honest g p clean = omega (arith, clean, p.clean)

module _ {S : Type 0} {g : Ghosts S} {a b : StoreReader S} {X E : Type 0} where
  -- a reader that is honest after a read was honest before it
  pub reader_was_honest : {r : Result X E} → IsReadOnly g a b r → IsHonestReader g b
      → IsHonestReader g a
  reader_was_honest read clean = omega (arith, clean, read.unwritten.clean)

  -- a read that succeeded, whatever is made of what it returned
  pub read_only_made : {x : X} {Y F : Type 0} {r : Result Y F} → IsReadOnly {E = E} g a b (Ok x)
      → IsReadOnly g a b r
  read_only_made {r = r} read = record {
    manifest = read.manifest;
    unwritten = read.unwritten;
    stands = on_any r read.stands;
  }

  -- a read that failed, whatever the error becomes
  pub read_only_failed : {e : E} {Y F : Type 0} {f : F} → IsReadOnly {X = X} g a b (Err e)
      → IsReadOnly {X = Y} g a b (Err f)
  read_only_failed read = record {
    manifest = read.manifest;
    unwritten = read.unwritten;
    stands = tt;
  }

  -- a read that succeeded, and then another
  pub read_only_then : {x : X} {c : StoreReader S} {Y F : Type 0} {r : Result Y F}
      → IsReadOnly {E = E} g a b (Ok x) → IsReadOnly g b c r → IsReadOnly g a c r
  read_only_then {r = r} p q = record {
    manifest = q.manifest ∙ p.manifest;
    unwritten = quiet_then p.unwritten q.unwritten;
    stands = on_ok_weaker r (λ stands k h. stands k (p.stands k h)) q.stands;
  }
