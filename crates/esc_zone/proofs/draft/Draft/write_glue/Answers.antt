use Rattle.std.proofs.Common.{[], ◌++◌, ◌∷◌, ◌∙◌, sym, List, ℕ}
use Rattle.esc_zone.specs.declared.draft.Server.{Server}
use Rattle.esc_zone.specs.Drafts.{zone_notes}
use Rattle.esc_zone.specs.Passes.{IsGlueText}
use Rattle.esc_zone.proofs.Lines.{no_lines, then_lines}
use Rattle.esc_zone.proofs.Passed.{none_yet, one_more, next_done, all_done, glue_added, none_left}
use Rattle.esc_zone.proofs.Passed.{by_seen, noted_server}
use Rattle.esc_zone.proofs.draft.Draft.write_glue.Goals as goal

pub loop-host-init : goal.loop-host-init
loop-host-init g c =
    let z = zone_notes c.args.self.now in
    let taken = c.take_servers-servers.ensures in
    let all = sym taken.servers ∙ sym c.into_iter-host-iterator.ensures.into_iter_gives.0 in
    record {
      noted = taken.noted;
      fresh = c.new-sheet.ensures;
      lines = no_lines _;
      written = ([], all, none_yet (λ entry. IsGlueText z (noted_server entry)) _);
    }

pub loop-host-preserved : goal.loop-host-preserved
loop-host-preserved g c =
    let held = c.loop-host.invariant in
    let z = zone_notes c.args.self.now in
    let entry : List ℕ × Server = (c.in-Some.host.now, c.in-Some.server.now) in
    let added = glue_added z (zone_notes c.loop-host.self) (noted_server entry) c.loop-host.sheet.records
    c.write_host.new.sheet.records held.noted held.fresh c.in_ok-write_host.ensures.records in
    record {
      noted = c.in_ok-write_host.ensures.noted ∙ held.noted;
      fresh = none_left z c.write_host.new.sheet.records _ added.1 c.in_ok-send.ensures.left;
      lines = then_lines _ _ _ held.lines
          (record { text = _; grown = c.in_ok-send.ensures.sent; lines = c.send.ensures.lines });
      written = (
        held.written.0 ++ entry ∷ [],
        next_done c.args.self.now.servers.entries held.written.0 c.loop-host.host-iterator c.next.new.self entry
            held.written.1 c.in-Some.ensures.steps,
        one_more (λ e. IsGlueText z (noted_server e)) held.written.0 entry _ _ _ _ held.written.2 added.0
            c.in_ok-send.ensures.sent,
      );
    }

pub returns-clause-records : goal.returns-clause-records
returns-clause-records g c =
    let held = c.loop-host.invariant in
    let z = zone_notes c.args.self.now in
    let entries = c.args.self.now.servers.entries in
    by_seen noted_server (IsGlueText z) entries _ _
    (all_done (λ e. IsGlueText z (noted_server e)) entries held.written.0 c.loop-host.host-iterator _ _
    held.written.1 c.in-None.ensures.steps.0 held.written.2)
