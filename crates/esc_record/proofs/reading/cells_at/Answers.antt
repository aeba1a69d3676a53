use Rattle.std.proofs.Common.{sym, subst, ap, ◌∙◌, ◌+◌, ◌∷◌, [], map}
use Rattle.std.proofs.lemmas.List.{map-append}
use Rattle.std.specs.Str.{is_utf8}
use Rattle.esc_record.specs.Reading.{cell_in_front}
use Rattle.esc_record.proofs.Readings.{Reads, no_more, one_more}
use Rattle.esc_record.proofs.reading.cells_at.Goals as goal

pub returns-in_default : goal.returns-in_default
returns-in_default c = no_more
    _ _ _ _ _ _ c.loop.invariant c.loop-test.true (sym (rw c.in_default.is at c.cell_at.ensures))

pub loop-preserved : goal.loop-preserved
loop-preserved c =
    subst (λ done. Reads (cell_in_front is_utf8)
    c.args.count c.args.bytes.now (c.loop.counter + 1) done c.in-Some.behind.now)
    (sym (ap (map (λ p. (p.0.now, p.1.now))) c.in_ok-push.ensures.items
    ∙ map-append (λ p. (p.0.now, p.1.now)) c.loop.cells.items (c.in-Some.cell ∷ [])))
    (one_more _ _ _ _ _ _ _ _ c.loop.invariant c.loop-test.true (sym (rw c.in-Some.is at c.cell_at.ensures)))
