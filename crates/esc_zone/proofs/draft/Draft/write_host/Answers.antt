use Rattle.std.proofs.Common.{◌≡◌, Some, false, List, rules, subst}
use Rattle.esc_zone.specs.declared.address.Said.{Said}
use Rattle.esc_zone.specs.Addresses.{said_texts, AreAddresses}
use Rattle.esc_zone.specs.Drafts.{ZoneNotes, zone_notes}
use Rattle.esc_zone.proofs.Gluing.{glue_added}
use Rattle.esc_zone.proofs.draft.Draft.write_host.Goals as goal

pub returns-clause-records : goal.returns-clause-records
returns-clause-records c =
    let z : ZoneNotes = zone_notes c.args.self.now in
    let host = c.args.host.now in
    let addresses = c.in_ok-addresses.addresses.items in
    let used : Some c.in-Some.user ≡ c.args.server.now.user = search rules in
    let given : z.is_given host ≡ false = search rules in
    let are = subst (λ (rows : List Said). AreAddresses (said_texts rows) addresses) c.deref-2.ensures.value
    c.in_ok-addresses.ensures in
    glue_added c.write_used.result z host c.in-Some.user c.args.server.now.user
    (said_texts c.args.server.now.rows.items) addresses c.deref-4.result.now c.args.sheet.now.records
    c.tell_faults.new.sheet.records c.write_used.new.sheet.records used given are c.deref-4.ensures.value
    c.in_ok-tell_faults.ensures.same c.write_used.ensures.records
