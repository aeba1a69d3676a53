-- Laws of what was read piece by piece.
use Rattle.std.proofs.Common.{◌≡◌, ℕ, List, [], ◌∷◌, ◌++◌, take, refl, sym, ◌∙◌, ap, subst}
use Rattle.std.proofs.Common.{append_assoc, append-nil, Some, None, Ok, Err}
use Rattle.esc_request.specs.Pieces.{Pieces, AddsPiece, AddsPieces, with_pieces, AreAwaited}
use Rattle.esc_request.specs.Pieces.{ReadsWhile}

adds_none : (p : Pieces) → AddsPieces p p []
adds_none None = tt
adds_none (Some ps) = sym (append-nil ps)

-- nothing was read
pub read_no_piece : (Waits : List ℕ → Type 0) (p : Pieces) (bytes : List ℕ) → ReadsWhile Waits p p bytes bytes
read_no_piece Waits p bytes = record { pieces = []; added = adds_none p; awaited = tt; came = refl }

adds_then : (a b c : Pieces) (ps qs : List (List ℕ))
    → AddsPieces a b ps → AddsPieces b c qs → AddsPieces a c (ps ++ qs)
adds_then None b c ps qs p q = tt
adds_then (Some x) None c ps qs p q = absurd p
adds_then (Some x) (Some y) None ps qs p q = absurd q
adds_then (Some x) (Some y) (Some z) ps qs p q = q ∙ ap (λ (l : List (List ℕ)). l ++ qs) p ∙ append_assoc x ps qs

awaited_then : (Waits : List ℕ → Type 0) (bytes : List ℕ) (ps qs : List (List ℕ)) → AreAwaited
    Waits bytes ps → AreAwaited Waits (with_pieces bytes ps) qs → AreAwaited Waits bytes (ps ++ qs)
awaited_then Waits bytes [] qs p q = q
awaited_then Waits bytes (x ∷ ps) qs p q = (p.0, awaited_then Waits (bytes ++ x) ps qs p.1 q)

with_pieces_then : (bytes : List ℕ) (ps qs : List (List ℕ))
    → with_pieces bytes (ps ++ qs) ≡ with_pieces (with_pieces bytes ps) qs
with_pieces_then bytes [] qs = refl
with_pieces_then bytes (x ∷ ps) qs = with_pieces_then (bytes ++ x) ps qs

-- what was read, and then read on
pub read_then : (Waits : List ℕ → Type 0) (a b c : Pieces) (first second third : List ℕ) → ReadsWhile
    Waits a b first second → ReadsWhile Waits b c second third → ReadsWhile Waits a c first third
read_then Waits a b c first second third p q = record {
  pieces = p.pieces ++ q.pieces;
  added = adds_then a b c p.pieces q.pieces p.added q.added;
  awaited = awaited_then Waits first p.pieces q.pieces
      p.awaited (subst (λ (bytes : List ℕ). AreAwaited Waits bytes q.pieces) (sym p.came) q.awaited);
  came = with_pieces_then first p.pieces q.pieces
      ∙ ap (λ (bytes : List ℕ). with_pieces bytes q.pieces) p.came ∙ q.came;
}

adds_one : (E : Type 0) (a b : Pieces) (buffer : List ℕ) (n : ℕ)
    → AddsPiece {E = E} a b (Ok n) buffer → AddsPieces a b (take n buffer ∷ [])
adds_one E None b buffer n is = tt
adds_one E (Some x) None buffer n is = absurd is
adds_one E (Some x) (Some y) buffer n is = is

adds_no : {E : Type 0} (a b : Pieces) (buffer : List ℕ) (e : E) → AddsPiece a b (Err e) buffer → AddsPieces a b []
adds_no None b buffer e is = tt
adds_no (Some x) None buffer e is = absurd is
adds_no (Some x) (Some y) buffer e is = is ∙ sym (append-nil x)

-- one more piece
pub read_piece : (E : Type 0) (Waits : List ℕ → Type 0) (a b c : Pieces) (first bytes buffer : List ℕ)
    (n : ℕ) → ReadsWhile Waits a b first bytes → Waits bytes → AddsPiece {E = E} b c (Ok n) buffer
    → ReadsWhile Waits a c first (bytes ++ take n buffer)
read_piece E Waits a b c first bytes buffer n so_far waits is =
    read_then Waits a b c first bytes (bytes ++ take n buffer) so_far (record {
      pieces = take n buffer
          ∷ [];
      added = adds_one E b c buffer n is;
      awaited = (waits, tt);
      came = refl;
    })

-- a read that failed
pub read_failed : {E : Type 0} (Waits : List ℕ → Type 0)
    (a b c : Pieces) (first bytes buffer : List ℕ) (e : E)
    → ReadsWhile Waits a b first bytes → AddsPiece b c (Err e) buffer → ReadsWhile Waits a c first bytes
read_failed Waits a b c first bytes buffer e so_far is =
    read_then Waits a b c first bytes bytes
    so_far (record { pieces = []; added = adds_no b c buffer e is; awaited = tt; came = refl })

-- what is awaited after some bytes, for a reason that they add to
pub awaited_after : (P Q : List ℕ → Type 0) (more : List ℕ)
    → ((tail : List ℕ) → P tail → Q (more ++ tail))
    → (bytes : List ℕ) (ps : List (List ℕ)) → AreAwaited P bytes ps → AreAwaited Q (more ++ bytes) ps
awaited_after P Q more so bytes [] p = tt
awaited_after P Q more so bytes (x ∷ ps) p = (
  so bytes p.0,
  subst (λ (l : List ℕ). AreAwaited Q l ps)
      (sym (append_assoc more bytes x)) (awaited_after P Q more so (bytes ++ x) ps p.1),
)

-- what was read for a reason was read for a weaker one
pub read_weaker : (P Q : List ℕ → Type 0) → ((bytes : List ℕ) → P bytes → Q bytes)
    → (a b : Pieces) (first last : List ℕ) → ReadsWhile P a b first last → ReadsWhile Q a b first last
read_weaker P Q so a b first last read = record {
  pieces = read.pieces;
  added = read.added;
  awaited = awaited_after P Q [] so first read.pieces read.awaited;
  came = read.came;
}
