-- What a column makes of a value of its own type, and what a parameter is.
use Rattle.esc_sql.proofs.Common.{◌≡◌, ℕ, ℤ, List, Option, option_map, Null, Int, Text, Blob}
use Rattle.esc_sql.proofs.Common.{number_or_null, blob_or_null, arith}
use Rattle.sqlite.specs.Ops.{unary}
use Rattle.sqlite.specs.Cast.{cast}
use Rattle.sqlite_rules.specs.Cast.{as_integer}
use Rattle.sqlite.specs.Values.{bound_value, or_null}
use Rattle.esc_sql.specs.Rows.{text_or_null}
use Rattle.sqlite.specs.Kind.TheVariants as kind

-- a column keeps NULL
pub cast_null : cast kind.Integer Null ≡ Null
unfolding unary
cast_null = grind arith

-- a column of integers keeps an integer
pub cast_int : (n : ℤ) → cast kind.Integer (Int n) ≡ Int n
unfolding unary
cast_int n = grind arith

-- a row's number is its integer
pub rowid_int : (n : ℤ) → as_integer (Int n) ≡ Int n
unfolding unary
rowid_int n = grind arith

-- a column of integers keeps a number or NULL
pub cast_number : (o : Option ℕ) → cast kind.Integer (number_or_null o) ≡ number_or_null o
cast_number o = grind (arith, cast_null, cast_int)

-- a column of texts keeps a text or NULL
pub cast_text : (o : Option (List ℕ)) → cast kind.Text (text_or_null o) ≡ text_or_null o
cast_text o = grind arith

-- a column of blobs keeps a blob or NULL
pub cast_blob : (o : Option (List ℕ)) → cast kind.Blob (blob_or_null o) ≡ blob_or_null o
cast_blob o = grind arith

-- a number or NULL is bound as it is
pub bound_number : (o : Option ℕ) → bound_value (number_or_null o) ≡ number_or_null o
bound_number o = grind arith

-- a text or NULL is bound as it is
pub bound_text : {X : Type 0} (f : X → List ℕ) (o : Option X)
    → bound_value (or_null (λ x. Text (f x)) o) ≡ text_or_null (option_map f o)
bound_text f o = grind arith

-- a blob or NULL is bound as it is
pub bound_blob : {X : Type 0} (f : X → List ℕ) (o : Option X)
    → bound_value (or_null (λ x. Blob (f x)) o) ≡ blob_or_null (option_map f o)
bound_blob f o = grind arith
