use Rattle.std.proofs.lemmas.Result.{on_ok_weaker}
use Rattle.esc_conformity.proofs.Surveyed.{registrar_more, reserved_more}
use Rattle.esc_conformity.proofs.survey.Survey.add.Goals as goal

pub returns : goal.returns
returns c = on_ok_weaker c.add_mark.result (λ marks. λ es had. record {
  registrars = λ q. registrar_more c.args.self.now.registrars _ es
      (c.args.key.now, c.args.object.now) q (had.registrars q) (c.in_ok-add_registrar.ensures q);
  reserved = λ q. reserved_more c.args.self.now.reserved _ es
      (c.args.key.now, c.args.object.now) q (had.reserved q) (c.in_ok-add_reserved.ensures q);
  marks = marks es had.marks;
}) c.add_mark.ensures
