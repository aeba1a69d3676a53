use Rattle.std.proofs.Common.{List, ℕ, take, sym, subst}
use Rattle.std.proofs.lemmas.List.{take_more}
use Rattle.esc_store.specs.ReadingLaws.{reader_was_honest, read_only_then}
use Rattle.esc_store.specs.Holding.{AreFound}
use Rattle.esc_store.proofs.reader.StoreReader.with_found.Goals as goal

pub loop-digest-preserved : goal.loop-digest-preserved
loop-digest-preserved g c =
    let now = c.loop-digest.invariant in
    let i = c.loop-digest.digest-index in
    record {
      same = read_only_then now.same c.in_ok-insert_found.ensures.same;
      found = λ clean k stood up.
          subst (λ (ds : List (List ℕ)). AreFound k c.args.told.items ds c.insert_found.new.rows.items)
          (sym (take_more c.args.digests.now i _ c.loop-digest-test.true))
          (c.in_ok-insert_found.ensures.found
          clean k (now.same.stands k stood) c.args.told.items (take i c.args.digests.now)
          (now.found (reader_was_honest c.in_ok-insert_found.ensures.same clean) k stood up));
    }
