-- Bytes that came into a buffer piece by piece, and when no head can come of them.
use Rattle.std.proofs.Common.{◌≡◌, ℕ, ◌≤◌, ◌+◌, List, ◌++◌, length, take, drop, sym, ◌∙◌}
use Rattle.std.proofs.Common.{ap, subst, arith, Option, Some, None, IfSome, Ok}
use Rattle.std.proofs.lemmas.List.{take-append-le, take-append-drop, length-take-le}
use Rattle.std.proofs.Math.Seq.{take-append_seam, take-append-add}
use borrow.Rule.Slice.PartMut.{put_mid, post_of}
use Rattle.std.proofs.KnownBytes.{Consumes-trans}
use Rattle.std.specs.Io.KnownBytes.{Consumes}
use Rattle.httparse.specs.Grammar.{HasNoRequest, print_request}
use Rattle.esc_request.specs.Head.{HasNoHead}
use Rattle.esc_request.specs.Pieces.{Pieces, AddsPiece, ReadsWhile}
use Rattle.esc_request.specs.PieceLaws.{read_piece}

-- of two beginnings of one list the longer begins with the shorter
longer_begins : (long more short rest : List ℕ) → long ++ more ≡ short ++ rest
    → length short ≤ length long → long ≡ short ++ drop (length short) long
longer_begins long more short rest same fits =
    let cut : take (length short) long ≡ short = sym (take-append-le (length short) long more fits)
    ∙ ap (take (length short)) same ∙ take-append_seam short rest in
    sym (take-append-drop (length short) long) ∙ ap (λ (front : List ℕ). front ++ drop (length short) long) cut

-- 8,192 bytes that are the front of no head are the front of none, whatever follows
pub none_at_limit : (front more : List ℕ)
    → 8192 ≤ length front → HasNoRequest front → HasNoHead (front ++ more)
none_at_limit front more long none h rest has =
    let size = has.size in
    let within : length (print_request h) ≤ length front = omega arith in
    none h (drop (length (print_request h)) front)
    (has.reads.0, longer_begins front more (print_request h) rest has.reads.1 within)

-- what holds of each input that begins so holds of what a reader had that gave this front
pub of_front : (before after : Option (List ℕ)) (front : List ℕ) (P : List ℕ → Type 0)
    → Consumes before after front → ((more : List ℕ) → P (front ++ more)) → IfSome before P
of_front None after front P took holds = tt
of_front (Some all) None front P took holds = absurd took
of_front (Some all) (Some rest) front P took holds = subst P (sym took) (holds rest)

-- the part of a buffer after its filled front is filled further
filled_more : (filled count : ℕ) (buffer part : List ℕ) (k : ℕ)
    → filled ≤ length buffer → count ≤ length part
    → take (filled + count) (put_mid filled k buffer part) ≡ take filled buffer ++ take count part
filled_more filled count buffer part k within fits =
    let behind = post_of filled k buffer in
    let front : length (take filled buffer) ≡ filled = length-take-le filled buffer within in
    ap (λ (n : ℕ). take (n + count) (take filled buffer ++ (part ++ behind))) (sym front)
    ∙ take-append-add (take filled buffer) (part ++ behind) count
    ∙ ap (λ (bytes : List ℕ). take filled buffer ++ bytes) (take-append-le count part behind fits)

-- what was read into it makes the front longer
pub taken_more : (first second third : Option (List ℕ))
    (filled count : ℕ) (buffer part : List ℕ) (k : ℕ) → filled ≤ length buffer → count ≤ length part
    → Consumes first second (take filled buffer) → Consumes second third (take count part)
    → Consumes first third (take (filled + count) (put_mid filled k buffer part))
taken_more first second third filled count buffer part k within fits before read =
    subst (Consumes first third) (sym (filled_more filled count buffer part k within fits))
    (Consumes-trans first second third _ _ before read)

-- so does its piece
pub read_more : (E : Type 0) (Waits : List ℕ → Type 0) (a b c : Pieces) (first : List ℕ)
    (filled count : ℕ) (buffer part : List ℕ) (k : ℕ) → filled ≤ length buffer → count ≤ length part
    → ReadsWhile Waits a b first (take filled buffer)
    → Waits (take filled buffer) → AddsPiece {E = E} b c (Ok count) part
    → ReadsWhile Waits a c first (take (filled + count) (put_mid filled k buffer part))
read_more E Waits a b c first filled count buffer part k within fits read waits adds =
    subst (ReadsWhile Waits a c first) (sym (filled_more filled count buffer part k within fits))
    (read_piece E Waits a b c first (take filled buffer) part count read waits adds)
