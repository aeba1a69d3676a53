use Rattle.std.proofs.Common.{◌≡◌, ◌+◌, ℕ, sum_by}
use Rattle.esc_envelope.specs.declared.kind.Kind.{Kind}
use Rattle.esc_desk.proofs.reader.total.Given as goal

abbrev pub invariant-loop-count : goal.invariant-loop-count
invariant-loop-count l = l.total + sum_by (λ n. n) l.count-iterator ≡ sum_by (λ (c : Kind × ℕ). c.1) l.counts.entries
