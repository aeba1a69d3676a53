use Rattle.std.proofs.Common.{◌∙◌, ap, sym}
use Rattle.esc_zone.specs.Records.Data.{server}
use Rattle.esc_zone.specs.Delegations.{with_records}
use Rattle.esc_zone.proofs.Added.{with_one, server_more}
use Rattle.esc_zone.proofs.draft.Draft.write_servers.Goals as goal

pub loop-server-preserved : goal.loop-server-preserved
loop-server-preserved c =
    let before = c.args.sheet.now.records in
    record {
      state = c.note_user.ensures.noted ∙ c.loop-server.invariant.state;
      originals = c.note_user.ensures.originals ∙ c.loop-server.invariant.originals;
      told = c.loop-server.invariant.told;
      records = with_one before c.loop-server.sheet.records c.add_server.new.self _ c.args.name.now
          (server c.server-item.result) c.loop-server.invariant.records c.in_ok-add_server.ensures
          ∙ ap (with_records before) (sym (server_more before.ttl c.args.name.now c.args.servers.now
          c.loop-server.server-index c.server-item.result c.loop-server-test.true c.server-item.is));
    }
