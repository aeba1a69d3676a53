use Rattle.esc_store.proofs.Common.{◌∙◌, if_ok}
use Rattle.esc_store.proofs.Sure.{read_settled}
use Rattle.esc_store.proofs.Following.{follows_look, says_look}
use Rattle.esc_store.proofs.records.Change+S.find_notes.Goals as goal

pub returns-clause-follows : goal.returns-clause-follows
returns-clause-follows g c = follows_look (read_settled c.settle.ensures c.select_undo-found.ensures.read)

pub returns-clause-found : goal.returns-clause-found
returns-clause-found g c = if_ok c.settle.result _ (λ x is clean s goes.
    let said = says_look (read_settled c.settle.ensures c.select_undo-found.ensures.read) is clean goes in (
      record {
        each = λ n text. said.2.same n text ∙ said.1.images c.args.step n text;
        recorded = said.1.noted c.args.step;
      },
      said.3,
    ))
