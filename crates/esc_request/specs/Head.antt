-- The head of a request: RFC 9112's, in the grammar of httparse, within this project's limits.
use Rattle.std.specs.Prelude.{ℕ, ◌≤◌, List, length, drop}
use Rattle.httparse.specs.Grammar.{RequestHead, ReadsRequest, HasNoRequest, MayBecomeRequest}
use Rattle.httparse.specs.Grammar.{print_request}
use Rattle.httparse.specs.Spans.{IsRequestAt}
use Rattle.httparse.specs.declared.spans.HeaderSpan.{HeaderSpan}
use Rattle.httparse.specs.declared.spans.RequestSpans.{RequestSpans}

-- the input is this head, of at most 8,192 bytes and 32 header lines, and then the rest
pub record HasHead (input : List ℕ) (h : RequestHead) (rest : List ℕ) : Type 0 where
  pub reads : ReadsRequest input h rest
  pub size : length (print_request h) ≤ 8192
  pub lines : length h.fields ≤ 32

-- no beginning of the input is such a head
abbrev pub HasNoHead : List ℕ → Type 0
HasNoHead input = (h : RequestHead) (rest : List ℕ) → HasHead input h rest → ⊥

-- the spans show such a head at the front of these bytes
abbrev pub ShowsHead : List ℕ → List HeaderSpan → RequestSpans → Type 0
ShowsHead bytes lines spans = (h : RequestHead) × IsRequestAt bytes lines spans h
    × HasHead bytes h (drop spans.len bytes)

-- no head is whole in these bytes, and more may follow that make one
abbrev pub IsUnfinished : List ℕ → Type 0
IsUnfinished bytes = HasNoRequest bytes × MayBecomeRequest bytes
