use Rattle.esc_store.proofs.Common.{sym, ◌∙◌, Some, option_map, IfOk-at_ok, ImageEntry, stored_image}
use Rattle.esc_store.proofs.Common.{kind_rank, record_of, if_ok}
use Rattle.esc_sql.specs.Changes.{is_image_entry_at}
use Rattle.esc_store.proofs.Gathering.{one_more, tests_alike}
use Rattle.esc_store.proofs.codec.object.add_image.Goals as goal

pub returns-clause-added : goal.returns-clause-added
returns-clause-added c = if_ok c.add_new.result _ (λ x is rows all.
    one_more (λ q e. is_image_entry_at (kind_rank q.kind) q.text e)
    (λ (e : ImageEntry). e.bytes) (option_map record_of)
    (option_map (λ bytes. Some bytes)) rows _ _ (stored_image c.args.stored.now) _ _ all
    (IfOk-at_ok _ is c.add_new.ensures.absent) (IfOk-at_ok _ is c.add_new.ensures.added)
    (λ q. tests_alike _ q _ _ c.in_ok-key.ensures.kind
    (sym c.as_slice.ensures.value ∙ c.in_ok-key.ensures.text)) c.in_ok-before.ensures.before)
