-- What the statements on parked bodies and on the moment do, and what their queries say.
use Rattle.std.specs.Ordering.{nat_cmp}
use Rattle.std.specs.declared.cmp.Ordering.{Ordering}
use Rattle.std.specs.declared.cmp.Ordering.TheVariants.{Less}
use Rattle.std.specs.Cmp.Lexicographic.{slice_cmp}
use Rattle.std.specs.List.{Contains}
use Rattle.std.specs.Option.{option_to_list}
use Rattle.std.specs.Prelude.{◌≡◌, ◌↔◌, ℕ, ℤ, List, [], ◌∷◌, map, find, Some, None, IsSome}
use Rattle.std.specs.Prelude.{bytes_eq, if◌then◌else◌, length, pos}
use Rattle.sqlite_value.specs.declared.value.Value.TheVariants.{Int, Blob}
use Rattle.sqlite_value.specs.Order.{Row}
use Rattle.sqlite.specs.Effect.{Database}
use Rattle.sqlite_trees.specs.Tree.{IsAscending}
use Rattle.sqlite_keyed.specs.Lists.{sort_by}
use Rattle.esc_sql.specs.Rows.{ParkedRow, MomentRow}
use Rattle.esc_sql.specs.Content.{Content, HoldsContent, parked_at, is_parked_at}

-- ---- parked bodies

-- the body is parked under the digest, where none was, and each other digest keeps its body
abbrev pub PutsParked : List ℕ → List ℕ → Database → Database → Type 0
PutsParked digest body old new =
    (c : Content) → HoldsContent old c
    → (ps : List ParkedRow) × HoldsContent new (record c { parked = ps })
    × (parked_at digest c.parked ≡ None)
    × ((d : List ℕ)
    → parked_at d ps ≡ (if bytes_eq digest d then Some body else parked_at d c.parked))

-- no body is parked under the digest, and each other digest keeps its body
abbrev pub RemovesParked : List ℕ → Database → Database → Type 0
RemovesParked digest old new =
    (c : Content) → HoldsContent old c
    → (ps : List ParkedRow) × HoldsContent new (record c { parked = ps })
    × ((d : List ℕ) → parked_at d ps ≡ (if bytes_eq digest d then None else parked_at d c.parked))

abbrev pub by_digest : ParkedRow → ParkedRow → Ordering
by_digest a b = slice_cmp nat_cmp a.digest b.digest

-- the digests under which a body is parked, in byte order, each once
pub record ListsParked (c : Content) (found : List (List ℕ)) : Type 0 where
  pub rising : IsAscending (λ a b. slice_cmp nat_cmp a b ≡ Less) found
  pub each : (d : List ℕ) → Contains found d ↔ IsSome (parked_at d c.parked)

-- ---- the moment

abbrev pub without_moment : Content → Content
without_moment c = record c { moment = [] }

abbrev pub moment_row : ℤ → MomentRow
moment_row watermark = record { watermark = watermark }

-- the moment is set, where none was
abbrev pub SetsMoment : ℤ → Database → Database → Type 0
SetsMoment watermark old new = (c : Content) → HoldsContent old c
    → HoldsContent new (record c { moment = moment_row watermark ∷ [] }) × (c.moment ≡ [])

-- ---- the rows of each result

abbrev pub shown_parked : ParkedRow → Row
shown_parked p = Blob p.body ∷ []

abbrev pub ShowsParked : List ℕ → Content → List Row → Type 0
ShowsParked digest c rows = rows
    ≡ map shown_parked (option_to_list (find (is_parked_at digest) c.parked))

abbrev pub shown_length : ParkedRow → Row
shown_length p = Int (pos (length p.body)) ∷ []

abbrev pub ShowsLength : List ℕ → Content → List Row → Type 0
ShowsLength digest c rows = rows
    ≡ map shown_length (option_to_list (find (is_parked_at digest) c.parked))

abbrev pub shown_digest : List ℕ → Row
shown_digest digest = Blob digest ∷ []

abbrev pub parked_digest : ParkedRow → List ℕ
parked_digest p = p.digest

abbrev pub ShowsDigests : Content → List Row → Type 0
ShowsDigests c rows = rows ≡ map shown_digest (map parked_digest (sort_by by_digest c.parked))

abbrev pub shown_moment : MomentRow → Row
shown_moment m = Int m.watermark ∷ []

abbrev pub ShowsMoment : Content → List Row → Type 0
ShowsMoment c rows = rows ≡ map shown_moment c.moment
