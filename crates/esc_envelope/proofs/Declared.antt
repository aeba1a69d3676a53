-- What is known of an envelope that was read: its tables have their forms, and its refusals are 5
-- to 7.
use Rattle.std.proofs.Common.{◌≡◌, ◌∙◌, ℕ, suc, ◌≤◌, ◌<◌, Bool, true, false, cond, List, []}
use Rattle.std.proofs.Common.{◌∷◌, length, Option, Some, None, refl, sym, ap, subst, arith}
use Rattle.std.specs.Prelude.{All, codes, option_and_then, ◌&&◌, nat_lt, nat_le}
use Rattle.std.specs.List.{list_all}
use Rattle.std.specs.Str.{bytes_eq}
use Rattle.std.proofs.lemmas.Bool.Decides.{nat_tests}
use Rattle.std.proofs.lemmas.List.Elements.{All-nil, All-cons}
use Rattle.std.proofs.lemmas.List.Quantifiers.{position-Some}
use Rattle.std.proofs.lemmas.Bool.{and_parts}
use Rattle.std.proofs.lemmas.Option.{same_Some}
use Rattle.serde_json.specs.Data.{Data}
use Rattle.serde_json.specs.Find.{get, as_str}
use Rattle.esc_envelope.specs.EnvelopeValue.{TableValue}
use Rattle.esc_envelope.specs.Id.{is_id}
use Rattle.esc_envelope.specs.Members.{text_at, array_in, if_id}
use Rattle.esc_envelope.specs.SequenceLaws.{Bound, bound}
use Rattle.esc_envelope.specs.Sequences.{◌>>=◌}
use Rattle.esc_envelope.specs.DeclaredTables.{all_of, are_distinct, is_table_name, if_name, name_of}
use Rattle.esc_envelope.specs.DeclaredTables.{kind_of, parent_of, field_of, if_distinct, fields_in}
use Rattle.esc_envelope.specs.DeclaredTables.{fields_of, text_index, key_index, IsTable, table_of}
use Rattle.esc_envelope.specs.DeclaredTables.{have_distinct_names, have_one_parent, AreContents}
use Rattle.esc_envelope.specs.DeclaredTables.{AreDeletes, if_contents, if_deletes, contents_in}
use Rattle.esc_envelope.specs.DeclaredTables.{deletes_in}

-- ---- one step after another

then_bound : {A B : Type 0} (o : Option A) (f : A → Option B) (y : B)
    → option_and_then f o ≡ Some y → Bound o f y
then_bound None f y h = absurd cc
then_bound (Some x) f y h = record { it = x; was = refl; goes = h }

-- what passes a test is given back
abbrev Kept : {A : Type 0} → Bool → A → A → Type 0
Kept b x y = (b ≡ true) × (x ≡ y)

kept : {A : Type 0} (b : Bool) (x y : A) → cond b (Some x) None ≡ Some y → Kept b x y
kept true x y h = (refl, same_Some x y h)
kept false x y h = absurd cc

kept_then : {A : Type 0} (b : Bool) (o : Option A) (y : A)
    → cond b o None ≡ Some y → (b ≡ true) × (o ≡ Some y)
kept_then true o y h = (refl, h)
kept_then false o y h = absurd cc

-- ---- one table

-- what f makes of each has P, where f makes nothing else
all_made : {A B : Type 0} (f : A → Option B) (P : B → Type 0) → ((x : A) (y : B) → f x ≡ Some y → P y)
    → (xs : List A) (ys : List B) → all_of f xs ≡ Some ys → (length ys ≡ length xs) × All P ys
unfolding all_of
all_made f P each [] ys h = let none : [] ≡ ys = same_Some [] ys h in
    subst (λ zs. (length zs ≡ 0) × All P zs) none (refl, All-nil P)
all_made f P each (x ∷ xs) ys h =
    let first = bound (f x) (λ y. all_of f xs >>= (λ zs. Some (y ∷ zs))) ys h in
    let others = bound (all_of f xs) (λ zs. Some (first.it ∷ zs)) ys first.goes in
    let rest = all_made f P each xs others.it others.was in
    let same : first.it ∷ others.it ≡ ys = same_Some (first.it ∷ others.it) ys others.goes in
    subst (λ zs. (length zs ≡ length (x ∷ xs)) × All P zs)
    same (ap suc rest.0, All-cons P first.it others.it (each x first.it first.was) rest.1)

all_pass : {A : Type 0} (test : A → Bool) (xs : List A)
    → All (λ x. test x ≡ true) xs → list_all test xs ≡ true
all_pass test [] h = refl
all_pass test (x ∷ xs) h = let first : test x ≡ true = h 0 x (omega arith) in
    rw first (all_pass test xs (λ k d below. h (suc k) d (omega (arith, below))))

named : (json : Data) (name : List ℕ) → name_of json ≡ Some name → is_table_name name ≡ true
named json name h =
    let text = then_bound (text_at (codes "name") json) if_name name h in
    let k = kept (is_table_name text.it) text.it name text.goes in
    ap is_table_name (sym k.1) ∙ k.0

an_id : (value : Data) (field : List ℕ) → field_of value ≡ Some field → is_id field ≡ true
an_id value field h =
    let text = then_bound (as_str value) if_id field h in
    let k = kept (is_id text.it) text.it field text.goes in
    ap is_id (sym k.1) ∙ k.0

record AreFields (fields : List (List ℕ)) : Type 0 where
  formed : list_all is_id fields ≡ true
  few : length fields ≤ 64
  distinct : are_distinct fields ≡ true

are_fields_in : (values : List Data) (fields : List (List ℕ))
    → fields_in values ≡ Some fields → AreFields fields
are_fields_in values fields h =
    let sized = kept_then (nat_lt 0 (length values) && nat_le (length values) 64)
    (option_and_then if_distinct (all_of field_of values)) fields h in
    let small : nat_le (length values) 64 ≡ true =
    (and_parts (nat_lt 0 (length values)) (nat_le (length values) 64) sized.0).1 in
    let made = then_bound (all_of field_of values) if_distinct fields sized.1 in
    let once = kept (are_distinct made.it) made.it fields made.goes in
    let each = all_made field_of (λ field. is_id field ≡ true) an_id values made.it made.was in
    let size : length fields ≡ length values = ap length (sym once.1) ∙ each.0 in
    record {
      formed = ap (list_all is_id) (sym once.1) ∙ all_pass is_id made.it each.1;
      few = grind (arith, nat_tests);
      distinct = ap are_distinct (sym once.1) ∙ once.0;
    }

are_fields : (json : Data) (fields : List (List ℕ)) → fields_of json ≡ Some fields → AreFields fields
are_fields json fields h =
    let values = then_bound (option_and_then array_in (get (codes "fields") json)) fields_in fields h in
    are_fields_in values.it fields values.goes

is_key : (json : Data) (fields : List (List ℕ)) (key : ℕ)
    → key_index json fields ≡ Some key → key < length fields
is_key json fields key h =
    let text = then_bound (text_at (codes "key") json) (text_index fields) key h in
    (position-Some (λ other. bytes_eq other text.it) fields key [] text.goes).0

-- the parts of a table that were read make one
pub is_table_of : (json : Data) (t : TableValue) → name_of json ≡ Some t.name
    → fields_of json ≡ Some t.fields → key_index json t.fields ≡ Some t.key → IsTable t
is_table_of json t name fields key =
    let f = are_fields json t.fields fields in
    record {
      named = named json t.name name;
      formed = f.formed;
      few = f.few;
      distinct = f.distinct;
      keyed = is_key json t.fields t.key key;
    }

-- a table that is read is one
pub is_table : (json : Data) (t : TableValue) → table_of json ≡ Some t → IsTable t
unfolding table_of
is_table json t h =
    let name = bound (name_of json) _ t h in
    let kind = bound (kind_of json) _ t name.goes in
    let parent = bound (parent_of json) _ t kind.goes in
    let fields = bound (fields_of json) _ t parent.goes in
    let key = bound (key_index json fields.it) _ t fields.goes in
    let file = bound (text_at (codes "file") json) _ t key.goes in
    subst IsTable (same_Some _ t file.goes) (is_table_of json _ name.was fields.was key.was)

-- ---- the tables

-- tables of contents that are read are such
pub are_contents : (values : List Data) (tables : List TableValue)
    → contents_in values ≡ Some tables → All IsTable tables × AreContents tables
are_contents values tables h =
    let made = then_bound (all_of table_of values) if_contents tables h in
    let right = kept (have_distinct_names made.it && have_one_parent made.it) made.it tables made.goes in
    subst (λ ts. All IsTable ts × AreContents ts) right.1 (
      (all_made table_of IsTable is_table values
          made.it made.was).1,
      and_parts (have_distinct_names made.it) (have_one_parent made.it) right.0,
    )

-- tables of deletes that are read are such
pub are_deletes : (values : List Data) (tables : List TableValue)
    → deletes_in values ≡ Some tables → All IsTable tables × AreDeletes tables
are_deletes values tables h =
    let made = then_bound (all_of table_of values) if_deletes tables h in
    let right = kept (have_distinct_names made.it && list_all (λ t. t.parent) made.it) made.it tables made.goes in
    subst (λ ts. All IsTable ts × AreDeletes ts)
    right.1 (
      (all_made table_of IsTable is_table values made.it made.was).1,
      and_parts (have_distinct_names made.it) (list_all (λ t. t.parent) made.it) right.0,
    )
