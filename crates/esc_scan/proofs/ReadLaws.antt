-- The trees that two schemas read from one file are the same where the schemas agree on the shape.
use Rattle.std.proofs.Common.{◌≡◌, ℕ, zero, suc, ◌+◌, ◌<◌, pos, eqb, true, false, List, [], ◌∷◌}
use Rattle.std.proofs.Common.{map, get_or, refl, sym, ap, subst, ◌∙◌, arith, if◌then◌else◌, ◌%◌}
use Rattle.std.proofs.Common.{◌≢◌, ne_eqb, eq-eqb, inl, inr, None, Some, true≢false}
use Rattle.std.proofs.lemmas.Bool.{cases_Bool}
use Rattle.sqlite_value.specs.declared.value.Value.{Value}
use Rattle.sqlite_value.specs.declared.value.Value.TheVariants.{Null, Int}
use Rattle.sqlite_value.specs.Order.{Row, column}
use Rattle.sqlite_pages.specs.PageMap.{PageMap}
use Rattle.sqlite_pool.specs.File.{in_use, version_in}
use Rattle.sqlite_schema.specs.declared.schema.Table.{Table as TableOf}
use Rattle.sqlite_schema.specs.declared.schema.Index.{Index as IndexOf}
use Rattle.sqlite_schema.specs.declared.schema.Schema.{Schema}
use Rattle.sqlite_rules.specs.Lists.{Has}
use Rattle.sqlite_rules.proofs.ListLemmas.{all_has}
use Rattle.sqlite_trees.specs.declared.store.Shape.{Shape}
use Rattle.sqlite_trees.specs.declared.store.Shape.TheVariants.{Table, Index}
use Rattle.sqlite_trees.specs.Tree.{Trees}
use Rattle.sqlite_trees.specs.View.{View}
use Rattle.sqlite_trees.specs.Objects.{catalog_tree, number_in}
use Rattle.sqlite_catalog.specs.Listing.{Lists, IsSound}
use Rattle.sqlite_catalog.specs.Reading.{IsTableShaped, IsIndexShaped}
use Rattle.sqlite_catalog.proofs.ReadLemmas.{shaped_of}
use Rattle.sqlite_store.specs.declared.catalog.Wanted.{Wanted}
use Rattle.sqlite_store.specs.Catalog.{is_present, shape_at, reals_at}
use Rattle.sqlite_store.specs.Db.{rows_at, roots_of, trees_in, shown, thawed}
use Rattle.sqlite_store.specs.Exact.{entries_of, AreRootsFor}
use Rattle.sqlite_store.specs.Listed.{catalog_rows, is_listed}
use Rattle.sqlite_store.specs.Listing.{listed_from, reals_if_present, file_trees, all_trees, all_shapes}
use Rattle.sqlite_store.specs.Listing.{all_reals, IsOurs}
use Rattle.sqlite_catalog.proofs.LayoutLemmas as LL
use Rattle.sqlite_schema.specs.Rules.{table_reals, index_reals}
use Rattle.sqlite.specs.Files.{HoldsDatabase}
use Rattle.sqlite_pool.proofs.ResealLemmas.{plain_adopts}
use Rattle.sqlite.specs.Opening.{HoldsAt}
use Rattle.sqlite_wal.specs.Recovery.{Image}
use Rattle.sqlite_pool.specs.Stored.{Recovers}
use Rattle.sqlite_pool.specs.StoredLaws.{recovers_once}
use Rattle.esc_scan.specs.Reads.{HasReals, ReadsTables, ReadsIndexes}
use Rattle.sqlite_store.proofs.ExactLemmas.{roots_fit}
use Rattle.sqlite_store.proofs.ListingLemmas.{listing_shaped, named_shape, named_reals, named_tree, past_version}

-- the root page of the object with this rowid
pick : ℕ → List Row → Value
pick id [] = Null
pick id (r ∷ rows) = if eqb (number_in (column r 0)) id then column r 4 else pick id rows

pick_at : (from : ℕ) (schema : List Wanted) (roots : List ℕ) (at : ℕ)
    → AreRootsFor schema roots → is_present (shape_at schema at) ≡ true
    → pick (from + at) (entries_of from schema roots) ≡ Int (pos (get_or roots at 0))
unfolding pick
pick_at from [] roots at fit present = absurd (true≢false (sym present))
pick_at from (w ∷ schema) [] at fit present = absurd fit
pick_at from (w ∷ schema) (r ∷ roots) zero fit present =
    rw (present, eq-eqb from (from + 0) (omega arith)) refl
pick_at from (w ∷ schema) (r ∷ roots) (suc at) fit present =
    let e : from + 1 + at ≡ from + suc at = omega arith in
    let rest = subst (λ n. pick n (entries_of (from + 1) schema roots) ≡ Int (pos (get_or roots at 0)))
    e (pick_at (from + 1) schema roots at fit.2 present) in
    elim (cases_Bool (is_present w.shape)) [
      | inl on ↦ rw (on, ne_eqb from (from + suc at) (omega arith)) rest
      | inr off ↦ rw off rest
    ]

module _ (size t : ℕ) (pages : PageMap) (low : t < 65536) where
  roots_same : (ours wanted : List Wanted) → IsOurs size true ours pages → IsOurs size true wanted pages
      → is_present (shape_at ours t) ≡ true → is_present (shape_at wanted t) ≡ true
      → get_or (roots_of size ours (in_use size pages)) t 0 ≡ get_or (roots_of size wanted (in_use size pages)) t 0
  unfolding roots_of
  roots_same ours wanted a b here there =
      let x = ap (pick (1 + t)) (a.numbered refl).listed
      ∙ pick_at 1 ours (roots_of size ours (in_use size pages)) t (roots_fit _ ours) here in
      let y = ap (pick (1 + t)) (b.numbered refl).listed
      ∙ pick_at 1 wanted (roots_of size wanted (in_use size pages)) t (roots_fit _ wanted) there in
      ap number_in (sym x ∙ y)

  named : (schema : List Wanted) → file_trees size schema pages t ≡ trees_in size schema (in_use size pages) t
  named schema = past_version t (omega arith) (all_trees size schema (in_use size pages))
      (version_in pages) ∙ named_tree t (omega arith) size schema _

  -- what a tree reads as is told by its shape, its REAL columns and its root
  read_as : Shape → ℕ → ℕ → List Row
  read_as shape reals root = map (shown (thawed shape) reals) (rows_at size (in_use size pages) (thawed shape) root)

  told : (schema : List Wanted) → trees_in size schema (in_use size pages) t ≡ read_as
      (shape_at schema t) (reals_at schema t) (get_or (roots_of size schema (in_use size pages)) t 0)
  unfolding trees_in read_as
  told schema = refl

  pub tree_same : (ours wanted : List Wanted) → IsOurs size true ours pages → IsOurs size true wanted pages
      → is_present (shape_at ours t) ≡ true
      → shape_at ours t ≡ shape_at wanted t → reals_at ours t ≡ reals_at wanted t
      → file_trees size ours pages t ≡ file_trees size wanted pages t
  tree_same ours wanted a b here shape reals =
      let root = roots_same ours wanted a b here (sym (ap is_present shape) ∙ here) in
      named ours ∙ told ours ∙ ap
      (λ s. read_as s (reals_at ours t) (get_or (roots_of size ours (in_use size pages)) t 0)) shape
      ∙ ap (λ r. read_as (shape_at wanted t) r (get_or (roots_of size ours (in_use size pages)) t 0)) reals
      ∙ ap (read_as (shape_at wanted t) (reals_at wanted t)) root ∙ sym (told wanted) ∙ sym (named wanted)

-- a table is one of the wanted ones
abbrev pub IsTableAt : List Wanted → TableOf → Type 0
IsTableAt wanted table = (table.tree < 65536)
    × (shape_at wanted table.tree ≡ Table) × (reals_at wanted table.tree ≡ table_reals table)

-- an index is one of the wanted ones
abbrev pub IsIndexAt : List Wanted → Schema → IndexOf → Type 0
IsIndexAt wanted schema index = (index.tree < 65536) × (shape_at wanted index.tree ≡ Index index.order)
    × HasReals schema index (reals_at wanted index.tree)

-- the schema that a database lists shapes the trees
module _ (size : ℕ) (wanted : List Wanted) (pages : PageMap) (schema : Schema)
    (db : Trees) (is : db ≡ file_trees size wanted pages) (sound : IsSound schema db) where
  lists : Lists (listed_from 0 wanted) schema
  lists = subst (λ xs. Lists xs schema) (ap (λ d. d catalog_tree) is ∙ catalog_rows size wanted _) sound.lists

  abbrev as_listed : View
  as_listed = record {
    trees = λ _. listed_from 0 wanted;
    committed = db;
    cursors = λ _. None;
    shape = all_shapes wanted;
    reals = all_reals wanted;
    committed_shape = all_shapes wanted;
    committed_reals = all_reals wanted;
    marks = [];
    is_numbered = true;
    has_sums = false;
    is_open = true;
    is_broken = false;
    is_clean = true;
  }

  pub shaped_by : (table : TableOf) → Has schema.tables table → IsTableAt wanted table
  shaped_by table has =
      let shaped = shaped_of as_listed schema (is_listed wanted) (listing_shaped 0 wanted) lists in
      let it = all_has (IsTableShaped as_listed) schema.tables table shaped.tables has in
      let low = (LL.table_row (is_listed wanted) (listing_shaped 0 wanted).0 lists.listed table has).2.described.low in
      let shape = sym (named_shape table.tree (omega arith) wanted) ∙ it.0 in (
        low,
        shape,
        sym (ap (λ s. reals_if_present s (reals_at wanted table.tree)) shape)
            ∙ sym (named_reals table.tree (omega arith) wanted) ∙ it.1,
      )

  pub index_shaped_by : (index : IndexOf) → Has schema.indexes index → IsIndexAt wanted schema index
  index_shaped_by index has =
      let shaped = shaped_of as_listed schema (is_listed wanted) (listing_shaped 0 wanted) lists in
      let it = all_has (IsIndexShaped as_listed schema.tables) schema.indexes index shaped.indexes has in
      let low = (LL.index_row (is_listed wanted) (listing_shaped 0 wanted).0 lists.listed index has).2.described.low in
      let shape = sym (named_shape index.tree (omega arith) wanted) ∙ it.0 in (
        low,
        shape,
        (
          it.1.0,
          it.1.1,
          sym (ap (λ s. reals_if_present s (reals_at wanted index.tree))
              shape) ∙ sym (named_reals index.tree (omega arith) wanted) ∙ it.1.2,
        ),
      )

-- what is read of the wanted tables is what the files hold
pub reads_tables : (size : ℕ) (image : Image) (ours : List Wanted) (pages : PageMap)
    → Recovers size image pages → IsOurs size true ours pages
    → ReadsTables size image ours (file_trees size ours pages)
reads_tables size image ours pages found file db schema held sound table has at =
    let same = recovers_once size image held.pages pages held.found found in
    let theirs = subst (IsOurs size true held.wanted) same held.ours in
    let reads = held.reads ∙ ap (file_trees size held.wanted) same in
    let there = shaped_by size held.wanted pages schema db reads sound table has in
    tree_same size table.tree pages at.low ours held.wanted file theirs (ap is_present at.shape)
    (at.shape ∙ sym there.1) (at.reals ∙ sym there.2)
    ∙ sym (ap (λ d. d table.tree) reads)

some_table : (a b : TableOf) → Some a ≡ Some b → a ≡ b
some_table a b e = cc

one_reals : (schema : Schema) (index : IndexOf) (a b : ℕ)
    → HasReals schema index a → HasReals schema index b → a ≡ b
one_reals schema index a b x y =
    x.2 ∙ ap (λ (t : TableOf). index_reals (table_reals t) index.columns)
    (some_table _ _ (sym x.1 ∙ y.1)) ∙ sym y.2

-- what is read of the wanted indexes is what the files hold
pub reads_indexes : (size : ℕ) (image : Image) (ours : List Wanted) (pages : PageMap)
    → Recovers size image pages → IsOurs size true ours pages
    → ReadsIndexes size image ours (file_trees size ours pages)
reads_indexes size image ours pages found file db schema held sound index has bits at =
    let same = recovers_once size image held.pages pages held.found found in
    let theirs = subst (IsOurs size true held.wanted) same held.ours in
    let reads = held.reads ∙ ap (file_trees size held.wanted) same in
    let there = index_shaped_by size held.wanted pages schema db reads sound index has in
    tree_same size index.tree pages at.low ours held.wanted file theirs (ap is_present at.shape)
    (at.shape ∙ sym there.1) (one_reals schema index _ _ bits there.2)
    ∙ sym (ap (λ d. d index.tree) reads)

-- from the premise that the contracts of `Connection` have: the two files hold a database, here one without sums
pub plain_holds : (image : Image) (db : Trees) (held : HoldsDatabase image db)
    → held.0 % 16 ≢ 8 → HoldsAt held.0 image db
plain_holds image db held plain = record {
  pages = held.2.pages;
  wanted = held.2.wanted;
  schema = held.2.schema;
  found = plain_adopts held.0 image held.2.pages plain held.2.found;
  ours = held.2.ours;
  reads = held.2.reads;
  sound = held.2.sound;
}
