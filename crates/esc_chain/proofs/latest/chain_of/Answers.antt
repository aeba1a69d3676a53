use Rattle.std.proofs.Common.{◌≡◌, ℕ, List, [], ◌∷◌, ◌++◌, reverse, None, sym, ap, subst, ◌∙◌}
use Rattle.std.proofs.Common.{append_assoc}
use Rattle.std.proofs.lemmas.List.{reverse-reverse}
use Rattle.esc_manifest.specs.ManifestRows.{watermark_at}
use Rattle.esc_chain.specs.Chain.{IsLatestBackAt, IsLatestChain}
use Rattle.esc_chain.proofs.Chains.{earlier_falls}
use Rattle.esc_chain.proofs.LatestEnd.{ready_of, moved, rows_have_links, end_in_range, link_read}
use Rattle.esc_chain.proofs.LatestEnd.{to_earlier, bases_first, none_is_latest, last_is_latest, last_of}
use Rattle.esc_chain.proofs.LatestEnd.{no_end}
use Rattle.esc_chain.proofs.Ways.{way_behind, no_way_broken}
use Rattle.esc_chain.proofs.latest.chain_of.Goals as goal

pub last_with_way-requires : goal.last_with_way-requires
last_with_way-requires c =
    let own = ready_of c.requires.1 c.requires.2 in
    let passed = moved own c.deref.ensures.value c.deref-2.ensures.value in
    record { in_range = rows_have_links passed; bases_first = bases_first passed }

pub returns-in_default : goal.returns-in_default
returns-in_default c = λ held range of.
    let last = last_of c.deref.ensures.value
    c.deref-2.ensures.value (no_end _ c.in_default.not-Some) c.in_ok-end.ensures in
    subst (IsLatestChain c.args.manifest.now held)
    (sym c.new-chain.ensures.items) (none_is_latest (ready_of range of) last)

pub loop-chain-init : goal.loop-chain-init
loop-chain-init c =
    let own = ready_of c.requires.1 c.requires.2 in
    let last = last_of c.deref.ensures.value c.deref-2.ensures.value c.in-Some.is c.in_ok-end.ensures in
    record {
      in_range = end_in_range own c.in-Some.end last;
      way = last.0;
      onward = λ rest follows.
          (rest, ap (λ (l : List ℕ). l ++ c.in-Some.end ∷ rest) c.new-chain.ensures.items, follows);
    }

pub loop-chain-smaller : goal.loop-chain-smaller
loop-chain-smaller c =
    let own = ready_of c.requires.1 c.requires.2 in
    let row = c.loop-chain.row in
    let within = c.loop-chain.invariant.in_range in
    let step = to_earlier own row c.in-To.base within (link_read own row within c.index.ensures ∙ c.in-To.is) in
    earlier_falls (watermark_at c.args.manifest.now row)
    c.args.manifest.now c.in-To.base (own.range _ step.1.held) step.2

pub loop-chain-preserved : goal.loop-chain-preserved
loop-chain-preserved c =
    let own = ready_of c.requires.1 c.requires.2 in
    let row = c.loop-chain.row in
    let base = c.in-To.base in
    let known = c.loop-chain.invariant in
    let to = link_read own row known.in_range c.index.ensures ∙ c.in-To.is in
    let step = to_earlier own row base known.in_range to in
    record {
      in_range = own.range base step.1.held;
      way = way_behind c.args.walk.now.links.items row base known.way to;
      onward = λ rest follows.
          let way = known.onward (base ∷ rest) (to, follows) in
          let pushed = ap (λ (l : List ℕ). l ++ base ∷ rest) c.in_ok-push.ensures.items in
          (way.0, pushed ∙ append_assoc c.loop-chain.chain.items (row ∷ []) (base ∷ rest) ∙ way.1, way.2);
    }

pub unreachable-requires : goal.unreachable-requires
unreachable-requires c =
    let own = ready_of c.requires.1 c.requires.2 in
    let row = c.loop-chain.row in
    let known = c.loop-chain.invariant in
    no_way_broken c.args.walk.now.links.items
    row known.way (link_read own row known.in_range c.index.ensures ∙ c.in-Broken.is)

pub returns : goal.returns
returns c = λ held range of.
    let own = ready_of range of in
    let known = c.loop-chain.invariant in
    let last = last_of c.deref.ensures.value c.deref-2.ensures.value c.in-Some.is c.in_ok-end.ensures in
    let way = known.onward [] (link_read own c.loop-chain.row known.in_range c.index.ensures ∙ c.in-Start.is) in
    let turned : reverse c.reverse.new.self.items ≡ c.in-Some.end ∷ way.0 =
    ap reverse c.reverse.ensures.items ∙ reverse-reverse _ ∙ c.in_ok-push.ensures.items ∙ way.1 in
    subst (IsLatestBackAt c.args.manifest.now held None)
    (sym turned) (last_is_latest own c.in-Some.end last way.0 way.2)
