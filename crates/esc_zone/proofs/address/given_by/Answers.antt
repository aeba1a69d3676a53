use Rattle.std.proofs.Common.{List, ◌+◌, sym, subst, take, string_bytes}
use Rattle.std.specs.declared.net.ip_addr.IpAddr.{IpAddr}
use Rattle.esc_zone.specs.declared.address.Said.{Said}
use Rattle.esc_zone.specs.Addresses.{IsServersText, said_texts}
use Rattle.esc_zone.specs.Lists.{GivesEach}
use Rattle.esc_zone.proofs.Listed.{gives_step_of}
use Rattle.esc_zone.proofs.Said.{parsed_gives}
use Rattle.esc_zone.proofs.address.given_by.Goals as goal

pub loop-row-preserved : goal.loop-row-preserved
loop-row-preserved c =
    let rows = c.args.rows.now in
    let one = parsed_gives (string_bytes c.row-item.result.text) c.address.result c.ok.result c.ok.ensures.value
    c.address.ensures in
    subst (λ (given : List IpAddr). GivesEach IsServersText (said_texts (take (c.loop-row.row-index + 1) rows)) given)
    (sym c.in_ok-push_some.ensures)
    (gives_step_of (λ (row : Said). string_bytes row.text) IsServersText rows c.loop-row.row-index c.row-item.result
    c.loop-row.given.items c.ok.result c.loop-row-test.true c.row-item.is one c.loop-row.invariant)
