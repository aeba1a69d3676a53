-- What is told of the version's row.
use Rattle.std.specs.Prelude.{◌≡◌, ℤ, Option, option_map, slice_get}
use Rattle.sqlite_value.specs.declared.value.Value.{Value}
use Rattle.sqlite_value.specs.declared.value.Value.TheVariants.{Int}
use Rattle.sqlite_value.specs.Order.{Row, column}
use Rattle.sqlite_trees.specs.Tree.{Trees}
use Rattle.esc_sql.specs.Schema.{info_tree}
use Rattle.esc_scan.specs.declared.version.StoredVersion.{StoredVersion}

abbrev pub version_read : StoredVersion → ℤ
version_read it = it.version

-- the version that a row of the table tells
abbrev pub RowTellsVersion : Row → StoredVersion → Type 0
RowTellsVersion row it = column row 2 ≡ Int it.version

-- the version in the first row of its table, if there is one
abbrev pub version_in : Trees → Option Value
version_in trees = option_map (λ (r : Row). column r 2) (slice_get (trees info_tree) 0)
