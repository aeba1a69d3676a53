-- The trees of a store's tables are the rows of its content.
use Rattle.std.proofs.Common.{inl, inr, refl, ◌∙◌, ℕ, List}
use Rattle.sqlite_wal.specs.Recovery.{Image}
use Rattle.sqlite_rules.specs.Lists.{Has}
use Rattle.sqlite_trees.specs.Tree.{Trees}
use Rattle.sqlite_store.specs.declared.catalog.Wanted.{Wanted}
use Rattle.esc_sql.specs.Schema.{store_schema, info_table, object_keys, object_table}
use Rattle.esc_sql.specs.StoreTable.{StoreTable, Listed, Receipts, Held, Steps, Objects, Undo, Parked}
use Rattle.esc_sql.specs.StoreTable.{Moment, schema_table}
use Rattle.esc_scan.specs.Reads.{ReadsTables, ReadsIndexes}
use Rattle.esc_scan.specs.Opening.{HasTables, ReadsStoreAt}

is_listed : (t : StoreTable) → Has store_schema.tables (schema_table t)
is_listed Listed = inr (inl refl)
is_listed Receipts = inr (inr (inl refl))
is_listed Held = inr (inr (inr (inl refl)))
is_listed Steps = inr (inr (inr (inr (inl refl))))
is_listed Objects = inr (inr (inr (inr (inr (inl refl)))))
is_listed Undo = inr (inr (inr (inr (inr (inr (inl refl))))))
is_listed Parked = inr (inr (inr (inr (inr (inr (inr (inl refl)))))))
is_listed Moment = inr (inr (inr (inr (inr (inr (inr (inr (inl refl))))))))

is_indexed : Has store_schema.indexes object_keys
is_indexed = inr (inr (inr (inr (inl refl))))

-- what is read of the wanted tables is the store's content, and its index of keys is read
pub reads_store : (size : ℕ) (image : Image) (ours : List Wanted) (trees : Trees)
    → ReadsTables size image ours trees → ReadsIndexes size image ours trees → HasTables ours
    → ReadsStoreAt size image trees
reads_store size image ours trees reads indexes has db c held store = record {
  rows = record {
    info = reads db store_schema held store.sound info_table (inl refl) has.info ∙ store.rows.info;
    tables = λ t. reads db store_schema held store.sound (schema_table t)
        (is_listed t) (has.tables t) ∙ store.rows.tables t;
  };
  keys = indexes db store_schema held store.sound object_keys is_indexed
      (object_table, refl, has.no_reals) has.keys;
}
