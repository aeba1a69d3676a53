use Rattle.std.proofs.Common.{◌≡◌, sym, subst}
use Rattle.esc_apply.specs.ObjectStreams.{GivesFirst, InOrder}
use Rattle.esc_http.specs.Exports.{entries_of}
use Rattle.esc_http.proofs.ExportLemmas.{gives_one}
use Rattle.esc_http.proofs.lines.OneObjects.next.Goals as goal

pub returns-clause-given : goal.returns-clause-given
returns-clause-given c = λ honest es listed.
    subst (λ o. GivesFirst (λ l. (l ≡ entries_of c.take.new.self) × InOrder l) es o) (sym c.take.ensures.value)
    (gives_one c.args.self.now.entry _ es c.take.ensures.after listed.0)
