-- The texts of tables are written piece by piece.
use Rattle.std.proofs.Common.{◌≡◌, ℕ, List, [], ◌∷◌, ◌++◌, Option, None, Some, refl, sym, ap}
use Rattle.std.proofs.Common.{◌∙◌, subst, append_assoc, append-nil}
use Rattle.std.specs.List.{flat_map}
use Rattle.std.specs.Io.KnownBytes.{Appends}
use Rattle.std.proofs.lemmas.List.Concat.{flat_map-append}
use Rattle.esc_apply.specs.ObjectStreams.{Entry}
use Rattle.esc_csv.specs.Lines.{line_text, text_of}
use Rattle.esc_table_files.specs.Layouts.{LayoutValue, entry_lines, table_csv}
use Rattle.esc_table_files.specs.Writing.{HasGrown, heading_csv}

-- a write after others
appended_more : (first mid last : Option (List ℕ)) (text piece : List ℕ)
    → Appends first mid text → Appends mid last piece
    → Appends first last (text ++ piece)
appended_more None mid last text piece before now = _
appended_more (Some xs) None last text piece before now = absurd before
appended_more (Some xs) (Some ys) None text piece before now = absurd now
appended_more (Some xs) (Some ys) (Some zs) text piece before now =
    now ∙ ap (λ (l : List ℕ). l ++ piece) before ∙ append_assoc xs text piece

-- the text of the objects that are left is that of the first, and then that of the others
next_object : (l : LayoutValue) (e : Entry) (es left : List Entry) → left ≡ e ∷ es
    → text_of (flat_map (entry_lines l) left) ≡ text_of (entry_lines l e) ++ text_of (flat_map (entry_lines l) es)
next_object l e es left is =
    ap (λ (all : List Entry). text_of (flat_map (entry_lines l) all)) is
    ∙ flat_map-append line_text (entry_lines l e) (flat_map (entry_lines l) es)

module _ {A : Type 0} (table : A → LayoutValue) (contents : A → Option (List ℕ)) where
  -- what is written of a table, with the lines of the objects that are left, is its text
  abbrev pub Begun : List Entry → List Entry → A → A → Type 0
  Begun es left a b = (table b ≡ table a)
      × ((text : List ℕ) × Appends (contents a) (contents b) text
      × (text ++ text_of (flat_map (entry_lines (table a)) left) ≡ table_csv (table a) es))

  pub begun : (es : List Entry) (a b : A) → HasGrown table contents heading_csv a b → Begun es es a b
  begun es a b grown = (grown.0, (heading_csv (table a), grown.1, refl))

  pub goes_on : (es left rest : List Entry) (e : Entry) → left ≡ e ∷ rest → (a b d : A) → Begun es left a b
      → HasGrown table contents (λ l. text_of (entry_lines l e)) b d → Begun es rest a d
  goes_on es left rest e is a b d before grown =
      let text = before.1.0 in
      let piece = text_of (entry_lines (table a) e) in
      let now : Appends (contents b) (contents d) piece = subst (λ (l : LayoutValue). Appends
      (contents b) (contents d) (text_of (entry_lines l e))) before.0 grown.1 in (
        grown.0 ∙ before.0,
        (
          text ++ piece,
          appended_more (contents a) (contents b) (contents d) text piece before.1.1 now,
          append_assoc text piece (text_of (flat_map (entry_lines (table a)) rest))
              ∙ ap (λ (t : List ℕ). text ++ t) (sym (next_object (table a) e rest left is))
              ∙ before.1.2,
        ),
      )

  pub ended : (es left : List Entry)
      → left ≡ [] → (a b : A) → Begun es left a b → HasGrown table contents (λ l. table_csv l es) a b
  ended es left none a b so_far =
      let text = so_far.1.0 in
      let whole : text ≡ table_csv (table a) es =
      sym (append-nil text) ∙ ap (λ (ls : List Entry). text
      ++ text_of (flat_map (entry_lines (table a)) ls)) (sym none) ∙ so_far.1.2 in
      (so_far.0, subst (λ (t : List ℕ). Appends (contents a) (contents b) t) whole so_far.1.1)
