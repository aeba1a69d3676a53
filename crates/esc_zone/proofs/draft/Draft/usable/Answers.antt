use Rattle.std.proofs.Common.{◌∙◌, List, ℕ, string_bytes, sym, subst, ◌+◌, take}
use Rattle.esc_zone.specs.Lists.{GivesEach, GivesOne, Itself}
use Rattle.esc_zone.specs.Drafts.{zone_notes}
use Rattle.esc_zone.specs.Delegations.{IsUsable, texts_of}
use Rattle.esc_zone.specs.Told.{told_lines}
use Rattle.esc_zone.proofs.Listed.{gives_step_of}
use Rattle.esc_zone.proofs.Telling.{told_step}
use Rattle.esc_zone.proofs.draft.Draft.usable.Goals as goal

pub loop-text-preserved : goal.loop-text-preserved
loop-text-preserved c =
    let R = Itself (IsUsable (zone_notes c.args.self.now) c.args.name.now) in
    let one = subst (λ (t : List ℕ). GivesOne R t c.in_ok-host.host) c.as_str.ensures.value
    c.in_ok-host.ensures.used in
    record {
      same = c.in_ok-host.ensures.same ∙ c.loop-text.invariant.same;
      kept = subst (λ (ys : List (List ℕ)).
          GivesEach R (texts_of (take (c.loop-text.text-index + 1) c.args.servers.now)) ys)
          (sym c.in_ok-push_some.ensures)
          (gives_step_of string_bytes R c.args.servers.now c.loop-text.text-index c.text-item.result
          c.loop-text.written.items c.in_ok-host.host c.loop-text-test.true c.text-item.is one
          c.loop-text.invariant.kept);
      told = told_step c.loop-text.text-index (told_lines c.args.sheet.now)
          (told_lines c.loop-text.sheet) (told_lines c.used_server.new.sheet) c.loop-text.written.items
          c.in_ok-host.host c.push_some.new.items.items c.in_ok-push_some.ensures
          c.in_ok-host.ensures.told c.loop-text.invariant.told;
    }
