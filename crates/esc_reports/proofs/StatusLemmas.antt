-- The status report, kind by kind.
use Rattle.std.proofs.Common.{◌≡◌, ℕ, List, ◌∷◌, ◌++◌, sym, ap, ◌∙◌, append_assoc}
use Rattle.esc_envelope.specs.declared.kind.Kind.{Kind}
use Rattle.esc_envelope.specs.Kinds.{kind_name}
use Rattle.esc_reports.specs.StatusText.{number_line, objects_text}

-- the line of the first kind that is left
objects_more : (counts left : List (Kind × ℕ)) (kind : Kind) (n : ℕ) (name : List ℕ)
    → counts ≡ (kind, n) ∷ left → name ≡ kind_name kind
    → objects_text counts ≡ number_line name n ++ objects_text left
objects_more counts left kind n name is named =
    ap objects_text is ∙ ap (λ (word : List ℕ). number_line word n ++ objects_text left) (sym named)

-- that line has been written
pub kind_written : (old new whole name : List ℕ) (counts left : List (Kind × ℕ)) (kind : Kind) (n : ℕ)
    → counts ≡ (kind, n) ∷ left → name ≡ kind_name kind
    → old ++ objects_text counts ≡ whole
    → new ≡ old ++ number_line name n → new ++ objects_text left ≡ whole
kind_written old new whole name counts left kind n is named known wrote =
    ap (λ (text : List ℕ). text ++ objects_text left) wrote
    ∙ append_assoc old (number_line name n) (objects_text left)
    ∙ ap (λ (text : List ℕ). old ++ text) (sym (objects_more counts left kind n name is named))
    ∙ known
