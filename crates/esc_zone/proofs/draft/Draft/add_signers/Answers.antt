use Rattle.std.proofs.Common.{◌∙◌, ap, sym}
use Rattle.esc_zone.specs.Records.Data.{signer}
use Rattle.esc_zone.specs.Signers.{ds_value}
use Rattle.esc_zone.specs.Delegations.{with_records}
use Rattle.esc_zone.proofs.Added.{with_one, signer_more}
use Rattle.esc_zone.proofs.draft.Draft.add_signers.Goals as goal

pub loop-ds-preserved : goal.loop-ds-preserved
loop-ds-preserved c =
    let before = c.args.sheet.now.records in
    record {
      state = c.loop-ds.invariant.state;
      told = c.loop-ds.invariant.told;
      originals = c.loop-ds.invariant.originals;
      records = with_one before c.loop-ds.sheet.records c.add_ds.new.self _ c.args.name.now
          (signer (ds_value c.ds-item.result)) c.loop-ds.invariant.records c.in_ok-add_ds.ensures
          ∙ ap (with_records before) (sym (signer_more before.ttl c.args.name.now c.args.signers.now
          c.loop-ds.ds-index c.ds-item.result c.loop-ds-test.true c.ds-item.is));
    }
