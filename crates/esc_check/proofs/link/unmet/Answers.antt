use Rattle.std.proofs.Common.{not, rules}
use Rattle.std.specs.BTreeSet as sorted
use Rattle.std.proofs.lemmas.Fn.{filter_same}
use Rattle.esc_tables.specs.KeyName.{key_cmp}
use Rattle.esc_check.specs.LinkValue.{LinkValue}
use Rattle.esc_check.proofs.link.unmet.Goals as goal

pub returns : goal.returns
returns c = filter_same _ (λ (l : LinkValue). not (sorted.contains key_cmp c.args.met.now l.to))
    _ (λ x b f k. search rules) _ _ c.retain.ensures.filtered
