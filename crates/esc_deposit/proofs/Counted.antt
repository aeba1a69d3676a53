-- Numbers of objects, one run after another.
use Rattle.std.proofs.Common.{◌≡◌, ℕ, ◌+◌, List, ◌++◌, cond, sym, ap}
use Rattle.std.proofs.lemmas.List.Sums.{sum_by-append}
use Rattle.esc_envelope.specs.declared.kind.Kind.{Kind}
use Rattle.esc_envelope.specs.Kinds.{is_kind}
use Rattle.esc_apply.specs.ObjectStreams.{Entry}
use Rattle.esc_deposit.specs.FullBundle.{counted_kind, entry_count}

-- the objects of a kind in both are those in each
pub counted_more : (es run : List Entry) (kind : Kind)
    → (kind, entry_count es kind + entry_count run kind) ≡ counted_kind (es ++ run) kind
counted_more es run kind =
    ap (λ (n : ℕ). (kind, n)) (sym (sum_by-append (λ (e : Entry). cond (is_kind e.0.kind kind) 1 0) es run))
