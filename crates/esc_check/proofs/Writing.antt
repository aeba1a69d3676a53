-- A text is written piece by piece.
use Rattle.std.proofs.Common.{◌≡◌, ℕ, ◌+◌, ◌<◌, Bool, List, [], ◌∷◌, ◌++◌, length, get_or}
use Rattle.std.proofs.Common.{take, drop, map, true, false, Option, None, Some, slice_get, refl, sym}
use Rattle.std.proofs.Common.{ap, ◌∙◌}
use Rattle.std.proofs.Common.{append-nil, append_assoc}
use Rattle.std.specs.Io.KnownBytes.{Appends}
use Rattle.std.specs.Prelude.{count_by}
use Rattle.std.proofs.lemmas.List.{drop_more, take_more}
use Rattle.std.proofs.lemmas.List.Concat.{flat_map-append}
use Rattle.std.proofs.lemmas.List.Sums.{count_by_more_yes}
use Rattle.std.proofs.lemmas.Slice.Eq.{bytes_eq-Decides}
use Rattle.esc_envelope.specs.declared.kind.Kind.{Kind}
use Rattle.esc_envelope.specs.Kinds.{is_kind}
use Rattle.esc_tables.specs.KeyName.{KeyName}
use Rattle.esc_tables.specs.ObjectValue.{RowValue, ObjectValue}
use Rattle.esc_csv.specs.Lines.{Line, line_text, text_of}
use Rattle.esc_check.proofs.Cells.{Cell, cells_from}
use Rattle.esc_check.specs.Export.{cell_line, row_lines, is_of_table, number_behind, child_lines}
use Rattle.esc_check.specs.Export.{object_lines, is_of, export_lines}

-- the text of two lists of lines
pub text_of-append : (a b : List Line) → text_of (a ++ b) ≡ text_of a ++ text_of b
text_of-append a b = flat_map-append line_text a b

-- the lines of cells
abbrev pub cells_text : KeyName → ℕ → List ℕ → List Cell → List ℕ
cells_text k n table cells = text_of (map (cell_line k n table) cells)

-- one more cell is written
pub cells_more : (k : KeyName) (n : ℕ) (table : List ℕ) (cells : List Cell) (i : ℕ) (x : Cell)
    → Some x ≡ slice_get cells i
    → cells_text k n table (drop i cells)
    ≡ line_text (cell_line k n table x) ++ cells_text k n table (drop (i + 1) cells)
cells_more k n table cells i x is = ap (cells_text k n table) (cells_from cells i x is)

-- the first of the child rows that are left, and the others
pub children_more : (k : KeyName) (rows : List RowValue) (i : ℕ) (x : RowValue)
    → i < length rows → x ≡ get_or rows i x
    → text_of (child_lines k (take i rows) (drop i rows))
    ≡ text_of (row_lines k (number_behind (take i rows) x) x)
    ++ text_of (child_lines k (take (i + 1) rows) (drop (i + 1) rows))
unfolding child_lines
children_more k rows i x within is =
    let next : take (i + 1) rows ≡ take i rows ++ x ∷ [] =
    take_more rows i x within ∙ ap (λ (y : RowValue). take i rows ++ y ∷ []) (sym is) in
    ap (λ (l : List RowValue). text_of (child_lines k (take i rows) l))
    (drop_more rows i x within ∙ ap (λ (y : RowValue). y ∷ drop (i + 1) rows) (sym is))
    ∙ text_of-append (row_lines k (number_behind (take i rows) x) x)
    (child_lines k (take i rows ++ x ∷ []) (drop (i + 1) rows))
    ∙ ap (λ (l : List RowValue). text_of (row_lines k (number_behind (take i rows) x) x)
    ++ text_of (child_lines k l (drop (i + 1) rows))) (sym next)

-- no rows have no lines
pub children_end : (k : KeyName) (earlier : List RowValue) → child_lines k earlier [] ≡ []
unfolding child_lines
children_end k earlier = refl

-- a write after others
pub appended_more : (first mid last : Option (List ℕ)) (text piece : List ℕ)
    → Appends first mid text → Appends mid last piece
    → Appends first last (text ++ piece)
appended_more None mid last text piece before now = _
appended_more (Some xs) None last text piece before now = absurd before
appended_more (Some xs) (Some ys) None text piece before now = absurd now
appended_more (Some xs) (Some ys) (Some zs) text piece before now =
    now ∙ ap (λ (l : List ℕ). l ++ piece) before ∙ append_assoc xs text piece

-- the text of the objects that are left is that of the first, and then that of the others
pub next_object : (kind : Kind)
    (e : KeyName × ObjectValue) (es left : List (KeyName × ObjectValue)) → left ≡ e ∷ es
    → text_of (export_lines kind left) ≡ text_of (export_lines kind (e ∷ [])) ++ text_of (export_lines kind es)
next_object kind e es left is =
    ap (λ (l : List (KeyName × ObjectValue)). text_of (export_lines kind l)) is ∙ parts (is_of kind e) refl
  where
    parts : (b : Bool) → is_of kind e ≡ b
        → text_of (export_lines kind (e ∷ es))
        ≡ text_of (export_lines kind (e ∷ [])) ++ text_of (export_lines kind es)
    parts true same = rw (same, append-nil (object_lines e.0 e.1))
        (text_of-append (object_lines e.0 e.1) (export_lines kind es))
    parts false other = rw other refl

-- the lines of one object: its own, or none if it is of another kind
pub one_object : (kind : Kind) (k : KeyName) (o : ObjectValue) → is_kind k.kind kind ≡ true
    → text_of (export_lines kind ((k, o) ∷ [])) ≡ text_of (object_lines k o)
one_object kind k o same = rw (same, append-nil (object_lines k o)) refl

-- an object of another kind has no lines
pub no_object : (kind : Kind) (k : KeyName) (o : ObjectValue) → is_kind k.kind kind ≡ false
    → text_of (export_lines kind ((k, o) ∷ [])) ≡ []
no_object kind k o other = rw other refl

-- a table has one more row where one of its rows follows
pub counted : (rows : List RowValue) (i : ℕ) (x : RowValue)
    → i < length rows → x ≡ get_or rows i x → count_by (is_of_table x.table) (take (i + 1) rows)
    ≡ count_by (is_of_table x.table) (take i rows) + 1
counted rows i x within is =
    let own : is_of_table x.table x ≡ true = (bytes_eq-Decides x.table x.table).1 refl in
    count_by_more_yes (is_of_table x.table) rows i x within
    (ap (is_of_table x.table) (sym is) ∙ own)

-- a row's number among those of its table
pub numbered : (rows : List RowValue) (i : ℕ) (x : RowValue) → i < length rows → x ≡ get_or rows i x
    → count_by (is_of_table x.table) (take i rows) + 1 ≡ number_behind (take i rows) x
numbered rows i x within is =
    sym (counted rows i x within is)
    ∙ ap (count_by (is_of_table x.table))
    (take_more rows i x within ∙ ap (λ (y : RowValue). take i rows ++ y ∷ []) (sym is))
