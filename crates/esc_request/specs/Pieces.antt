-- The pieces in which the bytes of a source come, one for each read.
use Rattle.std.specs.Prelude.{◌≡◌, ℕ, List, [], ◌∷◌, ◌++◌, take, ⊤, Option, Some, None, Result}
use Rattle.std.specs.Prelude.{MatchResult}

-- the pieces that came so far, where they are known
abbrev pub Pieces : Type 0
Pieces = Option (List (List ℕ))

-- a read added the piece that it gave; one that failed added none
abbrev pub AddsPiece : {E : Type 0} → Pieces → Pieces → Result ℕ E → List ℕ → Type 0
AddsPiece None new result buffer = ⊤
AddsPiece (Some old) None result buffer = ⊥
AddsPiece (Some old) (Some new) result buffer =
    MatchResult result (λ n. new ≡ old ++ take n buffer ∷ []) (λ _. new ≡ old)

-- these pieces were added
abbrev pub AddsPieces : Pieces → Pieces → List (List ℕ) → Type 0
AddsPieces None new more = ⊤
AddsPieces (Some old) None more = ⊥
AddsPieces (Some old) (Some new) more = new ≡ old ++ more

-- these bytes, and then those of pieces
abbrev pub with_pieces : List ℕ → List (List ℕ) → List ℕ
with_pieces bytes [] = bytes
with_pieces bytes (piece ∷ pieces) = with_pieces (bytes ++ piece) pieces

-- each piece was read while this held of the bytes before it
abbrev pub AreAwaited : (List ℕ → Type 0) → List ℕ → List (List ℕ) → Type 0
AreAwaited Waits bytes [] = Unit {0}
AreAwaited Waits bytes (piece ∷ pieces) = Waits bytes × AreAwaited Waits (bytes ++ piece) pieces

-- a source was read while this held of the bytes that had come: first these, and in the end those
pub record ReadsWhile (Waits : List ℕ → Type 0) (old new : Pieces) (first last : List ℕ) : Type 0
  where
    pub pieces : List (List ℕ)
    pub added : AddsPieces old new pieces
    pub awaited : AreAwaited Waits first pieces
    pub came : with_pieces first pieces ≡ last
