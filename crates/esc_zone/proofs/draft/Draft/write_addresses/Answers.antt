use Rattle.std.proofs.Common.{[], ◌∙◌, ap, sym, get_or}
use Rattle.std.specs.declared.net.ip_addr.IpAddr.{IpAddr}
use Rattle.std.specs.declared.net.ip_addr.IpAddr.TheVariants.{V4}
use Rattle.esc_zone.specs.Records.Data.{address}
use Rattle.esc_zone.specs.Delegations.{with_records}
use Rattle.esc_zone.proofs.Added.{with_one, address_more}
use Rattle.esc_zone.proofs.draft.Draft.write_addresses.Goals as goal

pub loop-address-preserved : goal.loop-address-preserved
loop-address-preserved c =
    let before = c.args.sheet.now.records in
    let addresses = c.args.addresses.now in
    let none : IpAddr = V4 (record { octets = [] }) in
    record {
      state = c.loop-address.invariant.state;
      told = c.loop-address.invariant.told;
      records = with_one before c.loop-address.sheet.records c.add_address.new.self _ c.args.host.now
          (address (get_or addresses c.loop-address.address-index none)) c.loop-address.invariant.records
          c.in_ok-add_address.ensures
          ∙ ap (with_records before) (sym (address_more before.ttl c.args.host.now addresses
          c.loop-address.address-index none c.loop-address-test.true));
    }
