use Rattle.std.proofs.Common.{List, ◌++◌, filter, not, ap, ◌∙◌}
use Rattle.std.specs.BTreeSet as sorted
use Rattle.esc_tables.specs.KeyName.{key_cmp}
use Rattle.esc_check.specs.Gathered.{links_of, own_findings}
use Rattle.esc_check.specs.LinkValue.{LinkValue}
use Rattle.esc_check.proofs.WalkLaws.{leads_more}
use Rattle.esc_check.proofs.walk.Verification.take_in.Goals as goal

pub returns : goal.returns
returns c = λ w left whole had.
    let v = c.args.self.now in
    let links = c.in_ok-add_links.ensures ∙ ap (λ (ls : List LinkValue). ls
    ++ links_of c.args.key c.args.object.now) c.new-links.ensures.items in
    let kept = c.unmet.ensures ∙ ap (λ (ls : List LinkValue). filter
    (λ (l : LinkValue). not (sorted.contains key_cmp v.met l.to)) ls) links in
    let own = c.in_ok-check_own.ensures ∙ (λ i. v.found.items
    ++ own_findings (had.moment i) (had.text i) c.args.key c.args.object.now) in
    record {
      order = had.order;
      moment = had.moment;
      text = had.text;
      leads = leads_more _ _ v _ c.args.key c.args.object.now left whole had.order had.leads
          own c.in_ok-meet.ensures c.in_ok-add.ensures
          (c.in_ok-append.ensures.items ∙ ap (λ (ls : List LinkValue). v.waiting.items ++ ls) kept);
    }
