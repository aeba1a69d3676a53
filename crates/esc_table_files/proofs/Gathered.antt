-- Names are gathered, and lines written, from one row after another.
use Rattle.std.proofs.Common.{◌≡◌, ℕ, ◌+◌, ◌<◌, List, [], ◌∷◌, ◌++◌, length, get_or, drop}
use Rattle.std.proofs.Common.{map, refl, sym, ap, ◌∙◌}
use Rattle.std.specs.List.{fold, flat_map}
use Rattle.std.proofs.lemmas.List.{drop_more}
use Rattle.std.proofs.lemmas.List.Sums.{fold-append}
use Rattle.esc_tables.specs.ObjectValue.{RowValue}
use Rattle.esc_apply.specs.ObjectStreams.{Entry}
use Rattle.esc_table_files.specs.Layouts.{TableNameValue, LayoutValue, entry_fields, layout_of}
use Rattle.esc_table_files.specs.Gathering.{with_name, with_names, bare, with_fields, finished}
use Rattle.esc_table_files.proofs.Names.{once_each}

-- one more of those that are left is gathered
pub one_added : {A B : Type 0} (f : B → A → B)
    (old new whole : B) (left rest : List A) (n : A) → left ≡ n ∷ rest
    → fold f old left ≡ whole → new ≡ f old n → fold f new rest ≡ whole
one_added f old new whole left rest n parts known wrote =
    ap (λ b. fold f b rest) wrote ∙ ap (fold f old) (sym parts) ∙ known

-- one more name of those that are left is gathered
pub name_added : (old new whole left rest : List (List ℕ)) (n : List ℕ) → left ≡ n ∷ rest
    → with_names old left ≡ whole → new ≡ with_name old n → with_names new rest ≡ whole
name_added old new whole left rest n parts known wrote =
    ap (λ (ns : List (List ℕ)). with_names ns rest) wrote ∙ ap (with_names old) (sym parts) ∙ known

-- so are some more
pub names_added : (old new whole left piece rest : List (List ℕ)) → left ≡ piece ++ rest
    → with_names old left ≡ whole → new ≡ with_names old piece → with_names new rest ≡ whole
names_added old new whole left piece rest parts known wrote =
    ap (λ (ns : List (List ℕ)). with_names ns rest) wrote
    ∙ sym (fold-append with_name old piece rest) ∙ ap (with_names old) (sym parts) ∙ known

-- the first of the rows that are left, and the others
pub next_row : (rows : List RowValue) (i : ℕ) (x : RowValue)
    → i < length rows → x ≡ get_or rows i x → drop i rows ≡ x ∷ drop (i + 1) rows
next_row rows i x within is = drop_more rows i x within ∙ ap (λ (y : RowValue). y ∷ drop (i + 1) rows) (sym is)

-- a table has the fields of the first object that is left, and then those of the others
pub object_finished : (e : Entry) (es : List Entry) (l : LayoutValue)
    → finished es (with_fields e l) ≡ finished (e ∷ es) l
object_finished e es l = λ i. record {
  table = l.table;
  columns = sym (fold-append with_name l.columns (entry_fields l.table e) (flat_map (entry_fields l.table) es)) i;
}

-- the fields of one object more, in each layout
pub all_finished : (e : Entry) (es : List Entry) (ls : List LayoutValue)
    → map (finished es) (map (with_fields e) ls) ≡ map (finished (e ∷ es)) ls
all_finished e es [] = refl
all_finished e es (l ∷ ls) = λ i. object_finished e es l i ∷ all_finished e es ls i

-- once no object is left, a table is finished
pub none_left : (ls : List LayoutValue) → map (finished []) ls ≡ ls
none_left [] = refl
none_left (l ∷ ls) = ap (λ (rest : List LayoutValue). l ∷ rest) (none_left ls)

-- before the first, all columns are still to come
pub from_bare : (es : List Entry) (ts : List TableNameValue)
    → map (finished es) (map bare ts) ≡ map (layout_of es) ts
from_bare es [] = refl
from_bare es (t ∷ ts) =
    λ i. record { table = t; columns = once_each (flat_map (entry_fields t) es) i } ∷ from_bare es ts i
