-- The tables of a kind are found as its objects come.
use Rattle.std.proofs.Common.{◌≡◌, ℕ, Bool, true, false, cond, ◌||◌, List, [], ◌∷◌, ◌++◌, map}
use Rattle.std.proofs.Common.{refl, sym, ap, ◌∙◌, true≢false}
use Rattle.std.specs.List.{filter, flat_map, list_any}
use Rattle.std.specs.Str.{bytes_eq}
use Rattle.std.proofs.lemmas.List.{map_push}
use Rattle.std.proofs.lemmas.List.Folds.{list_any-append}
use Rattle.std.proofs.lemmas.List.Sums.{fold-append}
use Rattle.std.proofs.lemmas.Slice.Eq.{bytes_eq-Decides}
use Rattle.esc_envelope.specs.declared.kind.Kind.{Kind}
use Rattle.esc_envelope.specs.Kinds.{is_kind}
use Rattle.esc_tables.specs.ObjectValue.{RowValue}
use Rattle.esc_apply.specs.ObjectStreams.{Entry}
use Rattle.esc_bundle.specs.ListLaws.{list_any_map}
use Rattle.esc_check.specs.Export.{is_of_table}
use Rattle.esc_table_files.specs.Layouts.{TableNameValue, LayoutValue, parent_table, child_table}
use Rattle.esc_table_files.specs.Layouts.{names_in, row_fields, rows_named, entry_fields, kind_layouts}
use Rattle.esc_table_files.specs.Gathering.{with_name, with_names, bare, with_fields, finished}
use Rattle.esc_table_files.specs.Gathering.{bare_tables, is_child, with_table, with_tables}
use Rattle.esc_table_files.proofs.Names.{once_each}
use Rattle.esc_table_files.proofs.Gathered.{all_finished, from_bare}

-- neither holds
neither : (a b : Bool) → (a || b) ≡ false → (a ≡ false) × (b ≡ false)
neither true b is = absurd (true≢false is)
neither false b is = (refl, is)

-- ---- tables by their names

-- whether there is a table of a name
named : (kind : Kind) (n : List ℕ) (names : List (List ℕ))
    → list_any (is_child n) (bare_tables kind names) ≡ list_any (bytes_eq n) names
named kind n names = list_any_map (is_child n) bare (map (child_table kind) names)
    ∙ list_any_map (λ t. is_child n (bare t)) (child_table kind) names

-- one table more is that of one name more
one_named : (kind : Kind) (n : List ℕ) (names : List (List ℕ))
    → bare_tables kind names ++ bare (child_table kind n) ∷ [] ≡ bare_tables kind (names ++ n ∷ [])
one_named kind n names =
    sym (ap (λ (ts : List TableNameValue). map bare (parent_table kind ∷ ts)) (map_push (child_table kind) names n)
    ∙ ap (λ (ls : List LayoutValue). bare (parent_table kind) ∷ ls)
    (map_push bare (map (child_table kind) names) (child_table kind n)))

-- tables are gathered as their names are
by_names : (kind : Kind) (names more : List (List ℕ))
    → with_tables kind (bare_tables kind names) more ≡ bare_tables kind (with_names names more)
by_names kind names [] = refl
by_names kind names (n ∷ ns) = first (by_names kind names ns)
    (by_names kind (names ++ n ∷ []) ns) (list_any (bytes_eq n) names) refl
  where
    first : with_tables kind (bare_tables kind names) ns ≡ bare_tables kind (with_names names ns)
        → with_tables kind (bare_tables kind (names ++ n ∷ [])) ns
        ≡ bare_tables kind (with_names (names ++ n ∷ []) ns)
        → (b : Bool) → list_any (bytes_eq n) names ≡ b
        → with_tables kind (bare_tables kind names) (n ∷ ns) ≡ bare_tables kind (with_names names (n ∷ ns))
    first as_is grown true known = rw (named kind n names, known) as_is
    first as_is grown false new = rw (named kind n names, new)
        (ap (λ (ls : List LayoutValue). with_tables kind ls ns) (one_named kind n names) ∙ grown)

-- before the first object, all tables and columns are still to come
pub all_to_come : (kind : Kind) (es : List Entry) → map (finished es)
    (with_tables kind (bare_tables kind []) (flat_map (names_in kind) es)) ≡ kind_layouts kind es
all_to_come kind es =
    let names = flat_map (names_in kind) es in
    ap (map (finished es)) (by_names kind [] names ∙ ap (bare_tables kind) (once_each names))
    ∙ from_bare es (parent_table kind ∷ map (child_table kind) _)

-- ---- a table that is found later has no row yet

-- no row of these is of a table of another name
no_rows : (n : List ℕ) (rs : List RowValue)
    → list_any (bytes_eq n) (map (λ r. r.table) rs) ≡ false → filter (is_of_table n) rs ≡ []
no_rows n [] none = refl
no_rows n (r ∷ rs) none =
    let others = neither (bytes_eq n r.table) (list_any (bytes_eq n) (map (λ q. q.table) rs)) none in
    first (bytes_eq r.table n) refl others.0 (no_rows n rs others.1)
  where
    first : (b : Bool) → bytes_eq r.table n ≡ b → bytes_eq n r.table ≡ false
        → filter (is_of_table n) rs ≡ [] → filter (is_of_table n) (r ∷ rs) ≡ []
    first true same other rest =
        let is : r.table ≡ n = (bytes_eq-Decides r.table n).0 same in
        absurd (true≢false (sym ((bytes_eq-Decides n r.table).1 (sym is)) ∙ other))
    first false differs other rest = rw differs rest

-- an object whose child rows have other names has no field in a table
no_fields : (kind : Kind) (n : List ℕ) (e : Entry)
    → list_any (bytes_eq n) (names_in kind e) ≡ false → entry_fields (child_table kind n) e ≡ []
no_fields kind n e none = by_kind (is_kind e.0.kind kind) refl
  where
    by_kind : (b : Bool) → is_kind e.0.kind kind ≡ b → entry_fields (child_table kind n) e ≡ []
    by_kind false other = rw other refl
    by_kind true same =
        let others : list_any (bytes_eq n) (map (λ r. r.table) e.1.children) ≡ false = rw same at none in
        rw same (ap (flat_map row_fields) (no_rows n e.1.children others))

-- whether there is a table of a name, once these were added
among : (kind : Kind) (n : List ℕ) (ls : List LayoutValue) (ns : List (List ℕ))
    → list_any (is_child n) (with_tables kind ls ns) ≡ (list_any (is_child n) ls || list_any (bytes_eq n) ns)
among kind n ls [] = or_none (list_any (is_child n) ls)
  where
    or_none : (b : Bool) → b ≡ (b || false)
    or_none true = refl
    or_none false = refl
among kind n ls (m ∷ ms) = first (list_any (is_child m) ls) refl (among kind n ls ms)
    (among kind n (ls ++ bare (child_table kind m) ∷ []) ms)
  where
    grouped : (a b d : Bool) → ((a || (b || false)) || d) ≡ (a || (b || d))
    grouped true b d = refl
    grouped false true d = refl
    grouped false false d = refl

    there : (b : Bool) → bytes_eq n m ≡ b → list_any (is_child m) ls ≡ true
        → (list_any (is_child n) ls || list_any (bytes_eq n) ms)
        ≡ (list_any (is_child n) ls || (bytes_eq n m || list_any (bytes_eq n) ms))
    there false other known = rw other refl
    there true same known =
        let is : n ≡ m = (bytes_eq-Decides n m).0 same in
        let has : list_any (is_child n) ls ≡ true = ap (λ (k : List ℕ). list_any (is_child k) ls) is ∙ known in
        rw has refl

    first : (b : Bool) → list_any (is_child m) ls ≡ b
        → list_any (is_child n) (with_tables kind ls ms) ≡ (list_any (is_child n) ls || list_any (bytes_eq n) ms)
        → list_any (is_child n) (with_tables kind (ls ++ bare (child_table kind m) ∷ []) ms)
        ≡ (list_any (is_child n) (ls ++ bare (child_table kind m) ∷ []) || list_any (bytes_eq n) ms)
        → list_any (is_child n) (with_tables kind ls (m ∷ ms))
        ≡ (list_any (is_child n) ls || (bytes_eq n m || list_any (bytes_eq n) ms))
    first true known as_is grown = rw known (as_is ∙ there (bytes_eq n m) refl known)
    first false new as_is grown = rw new
        (grown
        ∙ ap (λ (b : Bool). b || list_any (bytes_eq n) ms)
        (list_any-append (is_child n) ls (bare (child_table kind m) ∷ []))
        ∙ grouped (list_any (is_child n) ls) (bytes_eq n m) (list_any (bytes_eq n) ms))

-- once the tables of an object's child rows are there, those that come later have none of its rows
none_later : (kind : Kind) (e : Entry) (ls : List LayoutValue) (n : List ℕ)
    → list_any (is_child n) (with_tables kind ls (names_in kind e)) ≡ false
    → entry_fields (child_table kind n) e ≡ []
none_later kind e ls n new =
    no_fields kind n e (neither (list_any (is_child n) ls)
    (list_any (bytes_eq n) (names_in kind e)) (sym (among kind n ls (names_in kind e)) ∙ new)).1

-- so the fields of an object can be added before these tables are
fields_first : (kind : Kind) (e : Entry) (ls : List LayoutValue) (ns : List (List ℕ))
    → ((n : List ℕ) → list_any (is_child n) ls ≡ false → entry_fields (child_table kind n) e ≡ [])
    → with_tables kind (map (with_fields e) ls) ns ≡ map (with_fields e) (with_tables kind ls ns)
fields_first kind e ls [] none = refl
fields_first kind e ls (n ∷ ns) none =
    first (list_any (is_child n) ls) refl (fields_first kind e ls ns none)
    (fields_first kind e (ls ++ bare (child_table kind n) ∷ []) ns
    (λ m new. none m (neither (list_any (is_child m) ls)
    _ (sym (list_any-append (is_child m) ls (bare (child_table kind n) ∷ [])) ∙ new)).0))
  where
    added : list_any (is_child n) ls ≡ false
        → map (with_fields e) ls ++ bare (child_table kind n)
        ∷ [] ≡ map (with_fields e) (ls ++ bare (child_table kind n) ∷ [])
    added new =
        ap (λ (fields : List (List ℕ)). map (with_fields e) ls ++ (record {
          table = child_table kind n;
          columns = with_names [] fields;
        }) ∷ []) (sym (none n new))
        ∙ sym (map_push (with_fields e) ls (bare (child_table kind n)))

    first : (b : Bool) → list_any (is_child n) ls ≡ b
        → with_tables kind (map (with_fields e) ls) ns ≡ map (with_fields e) (with_tables kind ls ns)
        → with_tables kind (map (with_fields e) (ls ++ bare (child_table kind n) ∷ [])) ns
        ≡ map (with_fields e) (with_tables kind (ls ++ bare (child_table kind n) ∷ []) ns)
        → with_tables kind (map (with_fields e) ls) (n ∷ ns)
        ≡ map (with_fields e) (with_tables kind ls (n ∷ ns))
    first true known as_is grown = rw (list_any_map (is_child n) (with_fields e) ls, known) as_is
    first false new as_is grown = rw (list_any_map (is_child n) (with_fields e) ls, new)
        (ap (λ (those : List LayoutValue). with_tables kind those ns) (added new) ∙ grown)

-- the tables and columns of the first object that is left, and then those of the others
pub object_gathered : (kind : Kind) (e : Entry) (es : List Entry) (ls : List LayoutValue)
    → map (finished es) (with_tables kind (map (with_fields e) (with_tables kind ls (names_in kind e)))
    (flat_map (names_in kind) es))
    ≡ map (finished (e ∷ es)) (with_tables kind ls (flat_map (names_in kind) (e ∷ es)))
object_gathered kind e es ls =
    let known = with_tables kind ls (names_in kind e) in
    let later = flat_map (names_in kind) es in
    ap (map (finished es)) (fields_first kind e known later (none_later kind e ls))
    ∙ all_finished e es (with_tables kind known later)
    ∙ ap (map (finished (e ∷ es))) (sym (fold-append (with_table kind) ls (names_in kind e) later))
