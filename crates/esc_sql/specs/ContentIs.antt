-- A store has one content, which its trees determine.
use Rattle.std.specs.Prelude.{◌≡◌, ℕ, List, [], ◌∷◌, map, Option, Some, None, refl}
use Rattle.std.proofs.Common.{ap, ◌∙◌}
use Rattle.sqlite_value.specs.Order.{Row}
use Rattle.sqlite_trees.specs.Tree.{Trees}
use Rattle.esc_sql.specs.Schema.{object_tree, undo_tree, parked_tree, moment_tree}
use Rattle.esc_sql.specs.Rows.{ListedRow, ReceiptRow, UndoRow, number_or_null, text_or_null}
use Rattle.esc_sql.specs.Rows.{blob_or_null}
use Rattle.esc_sql.specs.StoreTable.{StoreTable, Listed, Receipts, Held, Steps, Objects, Undo}
use Rattle.esc_sql.specs.StoreTable.{Parked, Moment, RowOf, tree_of, stored_row}
use Rattle.esc_sql.specs.Content.{Content, HoldsRows, rows_of, content_in, listed_in, receipt_in}
use Rattle.esc_sql.specs.Content.{held_in, step_in, object_in, undo_in, parked_in, moment_in}
use Rattle.esc_sql.specs.Content.{number_in, bytes_in, unless_null}

number_back : (o : Option ℕ) → unless_null number_in (number_or_null o) ≡ o
number_back None = refl
number_back (Some n) = refl

text_back : (o : Option (List ℕ)) → unless_null bytes_in (text_or_null o) ≡ o
text_back None = refl
text_back (Some t) = refl

blob_back : (o : Option (List ℕ)) → unless_null bytes_in (blob_or_null o) ≡ o
blob_back None = refl
blob_back (Some b) = refl

listed_back : (r : ListedRow) → listed_in (stored_row Listed r) ≡ r
listed_back r = ap (λ p. record r { prev = p }) (text_back r.prev)

receipt_back : (r : ReceiptRow) → receipt_in (stored_row Receipts r) ≡ r
receipt_back r =
    ap (λ f. record r {
      fault = f;
      row = unless_null number_in (number_or_null r.row);
      again = unless_null number_in (number_or_null r.again);
      orphans = unless_null number_in (number_or_null r.orphans);
    }) (number_back r.fault)
    ∙ ap (λ w. record r {
      row = w;
      again = unless_null number_in (number_or_null r.again);
      orphans = unless_null number_in (number_or_null r.orphans);
    }) (number_back r.row)
    ∙ ap (λ a. record r { again = a; orphans = unless_null number_in (number_or_null r.orphans) })
    (number_back r.again)
    ∙ ap (λ n. record r { orphans = n }) (number_back r.orphans)

undo_back : (u : UndoRow) → undo_in (stored_row Undo u) ≡ u
undo_back u = ap (λ b. record u { bytes = b }) (blob_back u.bytes)

each_back : {X : Type 0} (stored : X → Row) (read : Row → X) → ((x : X) → read (stored x) ≡ x)
    → (xs : List X) → map read (map stored xs) ≡ xs
each_back stored read back [] = refl
each_back stored read back (x ∷ xs) = ap (λ y. y ∷ map read (map stored xs)) (back x)
    ∙ ap (λ ys. x ∷ ys) (each_back stored read back xs)

table_is : {X : Type 0} (stored : X → Row) (read : Row → X) → ((x : X) → read (stored x) ≡ x)
    → (rows : List Row) (xs : List X) → rows ≡ map stored xs → map read rows ≡ xs
table_is stored read back rows xs has = ap (map read) has ∙ each_back stored read back xs

module _ (trees : Trees) (c : Content) (h : HoldsRows trees c) where
  read_back : (t : StoreTable) (read : Row → RowOf t) → ((x : RowOf t) → read (stored_row t x) ≡ x)
      → map read (trees (tree_of t)) ≡ rows_of c t
  read_back t read back = table_is (stored_row t) read back _ (rows_of c t) (h.tables t)

  -- the content of a store is what `content_in` returns of its trees
  pub content_is : content_in trees ≡ c
  content_is =
      ap (λ x. record (content_in trees) { listed = x }) (read_back Listed listed_in listed_back)
      ∙ ap (λ x. record (content_in trees) { listed = c.listed; receipts = x })
      (read_back Receipts receipt_in receipt_back)
      ∙ ap (λ x. record (content_in trees) { listed = c.listed; receipts = c.receipts; held = x })
      (read_back Held held_in (λ r. refl))
      ∙ ap (λ x. record c {
        steps = x;
        objects = map object_in (trees object_tree);
        undo = map undo_in (trees undo_tree);
        parked = map parked_in (trees parked_tree);
        moment = map moment_in (trees moment_tree);
      }) (read_back Steps step_in (λ r. refl))
      ∙ ap (λ x. record c {
        objects = x;
        undo = map undo_in (trees undo_tree);
        parked = map parked_in (trees parked_tree);
        moment = map moment_in (trees moment_tree);
      }) (read_back Objects object_in (λ r. refl))
      ∙ ap (λ x. record c {
        undo = x;
        parked = map parked_in (trees parked_tree);
        moment = map moment_in (trees moment_tree);
      }) (read_back Undo undo_in undo_back)
      ∙ ap (λ x. record c { parked = x; moment = map moment_in (trees moment_tree) })
      (read_back Parked parked_in (λ r. refl))
      ∙ ap (λ x. record c { moment = x }) (read_back Moment moment_in (λ r. refl))
