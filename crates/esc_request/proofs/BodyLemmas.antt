-- A buffer whose front was there before the rest was read.
use Rattle.std.proofs.Common.{◌≡◌, ℕ, ◌≤◌, List, ◌++◌, length, take, [], ◌∷◌, sym, ◌∙◌}
use Rattle.std.proofs.Common.{ap, subst, refl, arith, le_refl, inl, inr, min, Option, Some, None}
use Rattle.std.proofs.Common.{IfSome}
use Rattle.std.specs.Io.KnownBytes.{Consumes, prepend_known}
use Rattle.std.proofs.lemmas.List.{length-take-le, length-take, length-append, take-append-le, take-take}
use Rattle.std.proofs.lemmas.Bool.{cases_lt}
use Rattle.std.proofs.Math.Seq.{take-append_seam, take-length}
use Rattle.esc_request.specs.Body.{IsShorter}
use Rattle.esc_request.specs.Pieces.{Pieces, AreAwaited, ReadsWhile}

-- the first bytes of an input don't depend on how much of its front was kept, as long as it is
-- enough
same_front : (front rest : List ℕ) (here size : ℕ)
    → here ≡ min (length front) size → take size (take here front ++ rest) ≡ take size (front ++ rest)
same_front front rest here size is = elim (cases_lt size (length front)) [
  | inl less ↦ enough (omega arith) (omega arith)
  | inr more ↦ all (omega arith)
]
  where
    all : here ≡ length front → take size (take here front ++ rest) ≡ take size (front ++ rest)
    all same = ap (λ (bytes : List ℕ). take size (bytes ++ rest))
        (ap (λ (n : ℕ). take n front) same ∙ take-length front)

    enough : here ≡ size → size ≤ length front
        → take size (take here front ++ rest) ≡ take size (front ++ rest)
    enough same long =
        let fits : size ≤ length (take size front) = omega (arith, length-take-le size front long) in
        ap (λ (n : ℕ). take size (take n front ++ rest)) same
        ∙ take-append-le size (take size front) rest fits
        ∙ take-take size size front (le_refl size)
        ∙ sym (take-append-le size front rest long)

-- a full buffer has the first bytes of the input
pub whole_is : (before after : Option (List ℕ)) (front buffer : List ℕ) (here size : ℕ)
    → here ≡ min (length front) size → length buffer ≡ size
    → Consumes (prepend_known (take here front) before) after buffer → IfSome
    (prepend_known front before) (λ input. (size ≤ length input) × (buffer ≡ take size input))
whole_is None after front buffer here size is long took = tt
whole_is (Some rest) None front buffer here size is long took = absurd took
whole_is (Some rest) (Some left) front buffer here size is long took =
    let cut : take size (take here front ++ rest) ≡ buffer = ap (take size) took
    ∙ ap (λ (n : ℕ). take n (buffer ++ left)) (sym long) ∙ take-append_seam buffer left in
    let total : length (take here front ++ rest) ≡ length (buffer ++ left) = ap length took in
    let fits : size ≤ length (front ++ rest) = omega (
      arith,
      length-append (take here front) rest,
      length-append buffer left,
      length-append front rest,
      length-take here front,
    ) in
    (fits, sym cut ∙ same_front front rest here size is)

-- what was read after the first bytes of a front was read after all of it: where that is longer than
-- the body nothing was read
awaited_on : (front : List ℕ) (here size : ℕ)
    → here ≡ min (length front) size → (pieces : List (List ℕ))
    → AreAwaited (IsShorter size) (take here front) pieces → AreAwaited (IsShorter size) front pieces
awaited_on front here size is [] awaited = tt
awaited_on front here size is (piece ∷ pieces) awaited =
    let short = awaited.0 in
    let all : here ≡ length front = omega (arith, is, short, length-take here front) in
    subst (λ (bytes : List ℕ). AreAwaited (IsShorter size) bytes (piece ∷ pieces))
    (ap (λ (n : ℕ). take n front) all ∙ take-length front) awaited

-- what was read before and what is read now are the body
pub read_on : (a b : Pieces) (front kept last : List ℕ) (here size long : ℕ) → here ≡ min (length front)
    size → long ≡ size → kept ≡ take here front → ReadsWhile (IsShorter long) a b kept last
    → (end : List ℕ) × ReadsWhile (IsShorter size) a b front end
read_on a b front kept last here size long is same begins read = (
  _,
  record {
    pieces = read.pieces;
    added = read.added;
    awaited = awaited_on front here size is read.pieces
        (subst (λ (n : ℕ). AreAwaited (IsShorter n) (take here front) read.pieces) same (subst
        (λ (bytes : List ℕ). AreAwaited (IsShorter long) bytes read.pieces) begins read.awaited));
    came = refl;
  },
)
