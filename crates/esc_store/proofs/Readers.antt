-- Reads of a store's trees.
use Rattle.esc_store.proofs.Common.{◌≡◌, inl, List, refl, sym, ap, subst, ◌∙◌, arith, Result, Ok, Err}
use Rattle.esc_store.proofs.Common.{IfOk, IfOk-at_ok, Ghosts, Database, Content, content_in}
use Rattle.esc_store.proofs.Common.{HoldsContent, StoreState, IsBooks, IsRegistry, MRow, listed_from}
use Rattle.esc_store.proofs.Common.{IsStore}
use Rattle.sqlite_catalog.proofs.QuietLemmas.{quiet_then}
use Rattle.sqlite_trees.specs.Tree.{Trees}
use Rattle.sqlite_trees.specs.View.{View, IsClean}
use Rattle.esc_sql.specs.Content.{HoldsRows}
use Rattle.esc_sql.specs.Schema.{store_schema}
use Rattle.esc_scan.specs.KeyIndex.{HasKeys}
use Rattle.esc_scan.specs.Scanning.{IsScan, OnlyCursors}
use Rattle.esc_scan.proofs.Scans.{only_then}
use Rattle.esc_store.specs.Reading.{AreReadAs, AreHonest, IsHonestReader, IsReadOnly}
use Rattle.esc_store.specs.Reading.{ReaderRepresents}
use Rattle.esc_store.specs.ResultLaws.{on_any}
use Rattle.esc_store.specs.declared.reader.StoreReader.{StoreReader}

-- trees that are read as a store have its index of keys
pub has_keys : (trees : Trees) (k : StoreState) (read : AreReadAs trees k) → HasKeys trees (content_in read.store)
unfolding IsStore
has_keys trees k read = (read.store, read.kept.tables, read.shows.keys)

-- rows of a store that keeps k, of which this is said; these trees have their index of keys
pub record IsSaid (trees : Trees) (k : StoreState) (Says : Content → Type 0) : Type 0 where
  pub database : Database
  pub content : Content
  pub holds : HoldsContent database content
  pub keys : HasKeys trees content
  pub books : IsBooks content k
  pub registry : IsRegistry content k.registry
  pub says : Says content

module _ {S X E : Type 0} {g : Ghosts S} {old new : S} {P : Content → X → Type 0} where
  pub was_honest : {r : Result X E} → IsScan g old new P r → AreHonest g new → AreHonest g old
  was_honest scan clean = omega (arith, clean, scan.quiet.clean)

  -- what a scan says, of the rows of the store that the trees are read as
  pub said_of : {r : Result X E} → IsScan g old new P r → AreHonest g new
      → (k : StoreState) → AreReadAs (g.view old).trees k
      → IfOk r (λ x. IsSaid (g.view old).trees k (λ c. P c x))
  unfolding IsStore
  said_of {r = Ok x} scan clean k read = record {
    database = record { schema = store_schema; trees = read.store };
    content = content_in read.store;
    holds = record { schema_is = refl; store = read.kept.tables };
    keys = has_keys _ k read;
    books = read.kept.books;
    registry = read.kept.registry;
    says = scan.said clean _ read.shows.rows;
  }
  said_of {r = Err e} scan clean k read = tt

-- a scan that succeeded has changed no tree
pub same_trees : {S X E : Type 0} {g : Ghosts S} {old new : S} {P : Content → X → Type 0} {x : X}
    → IsScan {E = E} g old new P (Ok x) → AreHonest g new → (g.view new).trees ≡ (g.view old).trees
same_trees scan clean = ap (λ (v : View). v.trees) (scan.only clean)

module _ {S : Type 0} {g : Ghosts S} where
  module _ {X E : Type 0} {old new : StoreReader S} {P : Content → X → Type 0} where
    -- after a scan that succeeded
    pub read_only : {Y F : Type 0} {x : X} {result : Result Y F} → new.manifest ≡ old.manifest
        → IsScan {E = E} g old.trees new.trees P (Ok x) → IsReadOnly g old new result
    unfolding ReaderRepresents
    read_only {result = result} manifest scan = record {
      manifest = manifest;
      unwritten = scan.quiet;
      stands = on_any result (λ k was. record {
        listed = manifest ∙ was.listed;
        rows = λ clean. subst (λ trees. AreReadAs trees k)
            (sym (same_trees scan clean)) (was.rows (was_honest scan clean));
      });
    }

  -- a scan, and what is made of what it says
  pub scan_then : {X Y E F : Type 0} {old new : S} {P : Content → X → Type 0}
      {Q : Content → Y → Type 0} {x : X} {result : Result Y F} → IsScan {E = E} g old new P (Ok x)
      → IfOk result (λ y. (c : Content) → P c x → Q c y) → IsScan g old new Q result
  scan_then {result = Ok y} scan made = record {
    quiet = scan.quiet;
    only = scan.only;
    said = λ clean c rows. made c (scan.said clean c rows);
  }
  scan_then {result = Err e} scan made = record { quiet = scan.quiet; only = λ clean. tt; said = λ clean. tt }

  -- a scan after another that succeeded
  pub scan_after : {X Y E F : Type 0} {old mid new : S}
      {P : Content → X → Type 0} {Q : Content → Y → Type 0} {x : X} {result : Result Y F}
      → IsScan {E = E} g old mid P (Ok x) → IsScan g mid new Q result → IsScan g old new Q result
  scan_after {old = old} {mid = mid} {new = new} {result = Ok y} first scan = record {
    quiet = quiet_then first.quiet scan.quiet;
    only = λ clean. only_then (g.view old)
        (g.view mid) (g.view new) (first.only (was_honest scan clean)) (scan.only clean);
    said = λ clean c rows. scan.said clean
        c (subst (λ trees. HoldsRows trees c) (sym (same_trees first (was_honest scan clean))) rows);
  }
  scan_after {result = Err e} first scan =
      record { quiet = quiet_then first.quiet scan.quiet; only = λ clean. tt; said = λ clean. tt }

  -- a reader of the manifest that was read
  pub starts : {E : Type 0} {old new : S} {manifest : List MRow} → IsScan {E = E}
      g old new (λ c m. (rows : List MRow) → c.listed ≡ listed_from 0 rows → m ≡ rows) (Ok manifest)
      → AreHonest g new → (k : StoreState) → AreReadAs (g.view old).trees k
      → ReaderRepresents g (record { trees = new; manifest = manifest }) k
  unfolding ReaderRepresents
  starts scan clean k read =
      let said = said_of scan clean k read in
      record {
        listed = said.says k.listed said.books.listed;
        rows = λ clean. subst (λ trees. AreReadAs trees k) (sym (same_trees scan clean)) read;
      }

  -- nothing was read
  pub unread : {Y F : Type 0} {reader : StoreReader S} {result : Result Y F} → IsReadOnly g reader reader result
  unread {result = result} = record {
    manifest = refl;
    unwritten = record {
      shield = λ h. h;
      clean = omega arith;
      counts = omega arith;
      closes = λ clean up. inl up;
      outcomes = λ db h. h;
    };
    stands = on_any result (λ k h. h);
  }

  -- what a scan says, of the rows of the store that a reader stands for
  pub told_of : {X E : Type 0} {new : S} {P : Content → X → Type 0}
      {r : Result X E} (old : StoreReader S) → IsScan g old.trees new P r → AreHonest g new
      → (k : StoreState) → ReaderRepresents g old k
      → IfOk r (λ x. IsSaid (g.view old.trees).trees k (λ c. P c x))
  unfolding ReaderRepresents
  told_of old scan clean k stands = said_of scan clean k (stands.rows (was_honest scan clean))

-- a reader's manifest is the one that is listed
pub listed_is : {S : Type 0} (g : Ghosts S) (reader : StoreReader S) (k : StoreState)
    → ReaderRepresents g reader k → reader.manifest ≡ k.listed
unfolding ReaderRepresents
listed_is g reader k stands = stands.listed
