use Rattle.std.proofs.Common.{◌≡◌, true, cond, subst, sym, ◌∙◌}
use Rattle.std.specs.BTreeSet as sorted
use Rattle.esc_tables.specs.KeyName.{KeyName, key_cmp, key_eq}
use Rattle.esc_conformity.proofs.Sets.{put_in}
use Rattle.esc_conformity.proofs.examiner.add_taken.Goals as goal

pub returns-in_ok-insert : goal.returns-in_ok-insert
returns-in_ok-insert c = λ q.
    let old = c.args.taken.now in
    put_in old c.args.key.now q c.insert.new.self _ (sym c.contains.ensures ∙ c.if-contains.true)
    (subst (λ (k : KeyName). sorted.contains key_cmp c.insert.new.self q
    ≡ cond (key_eq k q) true (sorted.contains key_cmp old q)) c.in_ok-copy.ensures
    (c.in_ok-insert.ensures.updates.0 q))
