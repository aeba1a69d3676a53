use Rattle.std.proofs.Common.{List, ℕ, Bool, false, ap, ap₂, subst, ◌∙◌, None}
use Rattle.std.specs.Prelude.{◌≡◌}
use Rattle.sha2.specs.Sha256.{sha256}
use Rattle.esc_tables.specs.Reading.{reading}
use Rattle.esc_manifest.specs.declared.row.MRow.{MRow}
use Rattle.esc_store.specs.ReplyValue.{reply_alike}
use Rattle.esc_events.specs.Assessment.{assessment}
use Rattle.esc_events.specs.Events.{union}
use Rattle.esc_events.specs.Receipts.{is_among, receipt_by}
use Rattle.esc_events.specs.Taking.{IsNew}
use Rattle.esc_events.specs.ArrivalValue.{an_arrival}
use Rattle.esc_desk.proofs.receiving.receive.Goals as goal

pub returns-clause-received : goal.returns-clause-received
returns-clause-received c = λ e k listed stands cache none.
    let n = c.args.delivery.number.now in
    let body = c.args.delivery.content.body.now in
    let found = c.in_ok-found.found in
    let again = c.is_among-again.ensures ∙ ap₂ is_among c.deref.ensures.value c.held_row.ensures in
    let digest = c.args.delivery.content.is_digest in
    let is : IsNew e (an_arrival n body) k found c.args.cache c.receipt_by-receipt.result = record {
      stood = stands;
      none = subst (λ (d : List ℕ). reply_alike (union e) 1 n d k.receipts ≡ None) digest none;
      found_is = c.in_ok-found.ensures.found
          ∙ ap (λ (x : List MRow). assessment sha256 reading x body) (listed ∙ stands.books.listed);
      cache_is = cache;
      receipt_is = c.receipt_by-receipt.ensures
          ∙ ap₂ (λ (d : List ℕ) (b : Bool). receipt_by n d false found b) digest again;
    } in
    record {
      is_new = is;
      held = c.in_ok-tell.ensures.held;
      told = c.in_ok-tell.ensures.told e n body k c.receipt_by-receipt.result is;
      chain = c.in_ok-tell.ensures.chain;
    }
