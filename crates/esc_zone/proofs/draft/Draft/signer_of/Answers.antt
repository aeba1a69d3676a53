use Rattle.std.proofs.Common.{refl, arith}
use Rattle.esc_zone.specs.Told.{says_signer}
use Rattle.esc_zone.proofs.Faults.{none_given, none_faulty}
use Rattle.esc_zone.proofs.Telling.{one_told}
use Rattle.esc_zone.proofs.draft.Draft.signer_of.Goals as goal

pub returns-in-Ok-None-clause-given : goal.returns-in-Ok-None-clause-given
returns-in-Ok-None-clause-given c =
    none_given c.args.name.now c.args.row.now c.in-Ok-None.field-0 c.in-Ok-None.field-0-is c.in-Ok-None.ensures.given

pub returns-in_ok-leave_out-in-Err : goal.returns-in_ok-leave_out-in-Err
returns-in_ok-leave_out-in-Err c =
    record {
      noted = refl;
      originals = refl;
      records = c.in_ok-leave_out-in-Err.ensures.same;
      given = none_faulty c.args.name.now c.args.row.now
          (c.in-Err.ensures.given c.in_ok-leave_out-in-Err.ensures.fault);
      told =
          let h = one_told (says_signer c.args.row.now) c.in_ok-leave_out-in-Err.ensures.told in
          omega (arith, h);
    }
