use Rattle.std.proofs.Common.{◌≡◌, ◌+◌, ◌++◌, [], ◌∷◌, take, cond, true, ap, sym, ◌∙◌}
use Rattle.std.proofs.lemmas.List.{take_more}
use Rattle.std.specs.BTreeSet as sorted
use Rattle.esc_tables.specs.KeyName.{KeyName, key_cmp, key_eq}
use Rattle.esc_apply.proofs.Mentions.{skip_delete, add_delete}
use Rattle.esc_apply.proofs.apply.plain_deletes.Goals as goal

pub loop-key-preserved-then-contains_key : goal.loop-key-preserved-then-contains_key
loop-key-preserved-then-contains_key c = record {
  ordered = c.loop-key.invariant.ordered;
  each = λ q.
      let ks = c.args.deletes.now in
      let i = c.loop-key.key-index in
      let k : KeyName = c.key-item.result in
      let more : take (i + 1) ks ≡ take i ks ++ k ∷ [] = take_more ks i k c.loop-key-test.true
      ∙ ap (λ (x : KeyName). take i ks ++ x ∷ []) (sym c.key-item.is) in
      rw more (skip_delete c.args.contents.now.entries (take i ks) k q _ (c.loop-key.invariant.each q)
      (sym c.if-contains_key.ensures));
}

pub loop-key-preserved : goal.loop-key-preserved
loop-key-preserved c = record {
  ordered = c.in_ok-insert.ensures.ordered;
  each = λ q.
      let ks = c.args.deletes.now in
      let i = c.loop-key.key-index in
      let k : KeyName = c.key-item.result in
      let more : take (i + 1) ks ≡ take i ks ++ k ∷ [] = take_more ks i k c.loop-key-test.true
      ∙ ap (λ (x : KeyName). take i ks ++ x ∷ []) (sym c.key-item.is) in
      rw more (c.in_ok-insert.ensures.updates.0 q
      ∙ ap (λ (x : KeyName). cond (key_eq x q) true (sorted.contains key_cmp c.loop-key.plain q))
      c.in_ok-copy.ensures
      ∙ add_delete c.args.contents.now.entries (take i ks) k q _ (c.loop-key.invariant.each q)
      (sym c.if-contains_key.ensures));
}
