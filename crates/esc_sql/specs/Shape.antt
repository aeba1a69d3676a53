-- The parts of a schema that rows of data describe.
use Rattle.std.specs.Prelude.{◌≡◌, ◌≤◌, ℕ, Bool, true, false, pos, List, [], ◌∷◌, length, map}
use Rattle.std.specs.Prelude.{slice_index_or, Option, Some, None}
use Rattle.sqlite_value.specs.declared.keys.Collation.TheVariants.{Binary as binary}
use Rattle.sqlite_value.specs.declared.value.Value.TheVariants.{Null, Int}
use Rattle.sqlite_sql.specs.declared.ops.BinaryOp.TheVariants.{Compare}
use Rattle.sqlite_sql.specs.declared.ops.CompareOp.TheVariants.{Eq}
use Rattle.sqlite_sql.specs.Term.{Term}
use Rattle.sqlite_schema.specs.declared.code.Op.{Op}
use Rattle.sqlite_schema.specs.declared.code.Op.TheVariants.{Literal, Column, Binary}
use Rattle.sqlite_schema.specs.declared.schema.Column.{Column as TableColumn}
use Rattle.sqlite_schema.specs.declared.schema.Reference.{Reference}
use Rattle.sqlite_schema.specs.declared.schema.Table.{Table}
use Rattle.sqlite_schema.specs.declared.schema.Index.{Index}
use Rattle.esc_sql.specs.Schema.{rising, required, optional, refers_to, first_is_one, no_stamps}
use Rattle.esc_sql.specs.Schema.{automatic}
use Rattle.esc_sql.specs.declared.shape.ColumnShape.{ColumnShape}
use Rattle.esc_sql.specs.declared.shape.ColumnShape.TheVariants.{Required, Optional}
use Rattle.esc_sql.specs.declared.shape.ReferenceShape.{ReferenceShape}
use Rattle.esc_sql.specs.declared.shape.TableShape.{TableShape}
use Rattle.esc_sql.specs.declared.shape.IndexShape.{IndexShape}

-- the node with this index of a term's nodes
abbrev pub node_at : List Op → ℕ → Op
node_at ops at = slice_index_or ops at (Literal Null)

-- the node compares the first column with 1
pub record IsFirstOne (ops : List Op) (root : ℕ) : Type 0 where
  pub left : ℕ
  pub right : ℕ
  pub deep : 2 ≤ length ops
  pub is : node_at ops root ≡ Binary (Compare Eq binary) left right
  pub left_is : node_at ops left ≡ Column 1 0
  pub right_is : node_at ops right ≡ Literal (Int (pos 1))

abbrev pub described_column : ColumnShape → TableColumn
described_column (Required name kind) = required name.now kind
described_column (Optional name kind) = optional name.now kind

abbrev pub described_reference : ReferenceShape → Reference
described_reference r = refers_to r.place r.parent.now

-- no reference, or one
abbrev pub references_of : Option ReferenceShape → List Reference
references_of None = []
references_of (Some r) = described_reference r ∷ []

-- no CHECK, or that the first column is 1
abbrev pub checks_of : Bool → List Term
checks_of true = first_is_one ∷ []
checks_of false = []

-- the order of each key rises
abbrev pub described_table : TableShape → Table
described_table t = record {
  name = t.name.now;
  tree = t.tree;
  columns = map described_column t.columns.now;
  key = t.rowid;
  primary = t.primary.now;
  uniques = map (λ k. k.now) t.uniques.now;
  orders = map (λ _. rising) t.uniques.now;
  checks = checks_of t.is_single;
  references = references_of t.reference;
  computed = [];
  stamps = no_stamps;
  is_counted = false;
}

abbrev pub described_index : IndexShape → Index
described_index i = automatic i.name.now i.tree i.table i.columns.now
