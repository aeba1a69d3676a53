use Rattle.std.proofs.Common.{◌≡◌, List, ℕ, sym, subst, ◌∙◌}
use Rattle.std.specs.Prelude.{OnOk}
use Rattle.esc_zone.specs.Delegations.{with_records, server_records}
use Rattle.esc_zone.specs.Drafts.{zone_notes}
use Rattle.esc_zone.specs.Mirrors.{original_notes, servers_like}
use Rattle.esc_zone.proofs.Mirroring.{mirrored}
use Rattle.esc_zone.proofs.draft.Draft.delegate_mirror.Goals as goal

pub returns-in-Some-clause-records : goal.returns-in-Some-clause-records
returns-in-Some-clause-records c =
    let z = zone_notes c.args.self.now in
    let o = original_notes c.args.self.now in
    let text = c.args.text.now in
    let before = c.args.sheet.now.records in
    let after = c.write_mirrored.new.sheet.records in
    let is = c.as_str-original.ensures.value ∙ c.in_ok-original.ensures in
    subst (λ (original : List ℕ). OnOk c.write_mirrored.result (after ≡ with_records before
    (server_records before.ttl text (servers_like z o text original)))) is
    (mirrored c.write_mirrored.result z o text c.in-Some.name c.as_str-original.result.now before
    c.mirror_for.new.sheet.records after (sym c.in-Some.is ∙ c.in_ok-name.ensures.name)
    c.in_ok-name.ensures.same c.write_mirrored.ensures.records)
