-- How long a client is waited for (this project's profile).
use Rattle.std.specs.Prelude.{ℕ, ◌≡◌, ◌+◌, ◌-◌, ◌*◌, ◌/◌, ◌^◌, ◌≤◌, min}
use Rattle.std.specs.Duration.{as_nanos}
use Rattle.esc_client.specs.declared.budget.TimeBudget.{TimeBudget}

-- the seconds that a client is granted in all, by the bytes that have come or gone: ten, and one
-- more for each 65,536 bytes, up to `most`
abbrev pub granted_seconds : ℕ → ℕ → ℕ
granted_seconds most bytes = min most (10 + bytes / 65_536)

-- the seconds that a client is granted at most
abbrev pub most_seconds : TimeBudget → ℕ
most_seconds budget = budget.most

-- the nanoseconds that a single wait may last
abbrev pub pause : TimeBudget → ℕ
pause budget = as_nanos budget.pause

-- the bytes that have come or gone
abbrev pub moved : TimeBudget → ℕ
moved budget = budget.bytes

-- the nanoseconds that a client has been waited for
abbrev pub waited : TimeBudget → ℕ
waited budget = as_nanos budget.waited

-- the nanoseconds that a client is granted by the bytes so far
abbrev pub granted : TimeBudget → ℕ
granted budget = granted_seconds (most_seconds budget) (moved budget) * 1_000_000_000

-- the budget is spent: a client has been waited for as long as it is granted
abbrev pub IsSpent : TimeBudget → Type 0
IsSpent budget = granted budget ≤ waited budget

-- the nanoseconds that the next wait may last
abbrev pub next_wait : TimeBudget → ℕ
next_wait budget = min (pause budget) (granted budget - waited budget)

-- so many bytes more have come or gone, counted up to 2^64 - 1
abbrev pub HasMoved : ℕ → TimeBudget → TimeBudget → Type 0
HasMoved bytes old new = moved new ≡ min (moved old + bytes) (2 ^ 64 - 1)

-- no byte has come or gone, and the client has not been waited for
abbrev pub IsNewBudget : TimeBudget → Type 0
IsNewBudget budget = (moved budget ≡ 0) × (waited budget ≡ 0)
