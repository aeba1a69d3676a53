use Rattle.std.proofs.Common.{◌≡◌, ◌∙◌, ◌++◌, List, ap, Err, Some, None, arith}
use Rattle.std.proofs.lemmas.Slice.Eq.{strip_prefix_is}
use Rattle.std.proofs.lemmas.Bool.Decides.{Decides-eqb}
use Rattle.std.proofs.lemmas.Result.{IfOk-weaker, IfErr-weaker}
use Rattle.std.specs.Global.{Vec}
use Rattle.esc_bundle.specs.declared.refusal.Refusal.TheVariants.{BrokenFrame, OverLimit}
use Rattle.esc_bundle.specs.declared.section.Section.{Section}
use Rattle.esc_bundle.specs.Bundle.{Named, views, first_line}
use Rattle.esc_bundle.specs.Frame.{frame}
use Rattle.esc_bundle.proofs.Frames.{frame_over_limit, frame_elsewhere, frame_begins, frame_is_bundle}
use Rattle.esc_bundle.proofs.Frames.{frame_of_bundle, frame_is_fault, frame_of_fault}
use Rattle.esc_bundle.proofs.Answered.{answered}
use Rattle.esc_bundle.proofs.reading.sections.Goals as goal

pub returns-then-body-gt-MOST_BYTES-clause-unframed : goal.returns-then-body-gt-MOST_BYTES-clause-unframed
returns-then-body-gt-MOST_BYTES-clause-unframed c = λ n same. let over : OverLimit ≡ n = cc in
    frame_over_limit c.args.body.now c.if-body-gt-MOST_BYTES.true ∙ ap Err over

pub returns-in-None-clause-unframed : goal.returns-in-None-clause-unframed
returns-in-None-clause-unframed c = λ n same.
    let broken : BrokenFrame ≡ n = cc in
    let other = strip_prefix_is Decides-eqb c.args.body.now first_line None c.in-None.ensures.cases in
    frame_elsewhere c.args.body.now c.if-body-gt-MOST_BYTES.false other ∙ ap Err broken

pub returns-in-Some : goal.returns-in-Some
returns-in-Some c =
    let text : c.args.body.now ≡ first_line ++ c.in-Some.rest.now = strip_prefix_is
    Decides-eqb c.args.body.now first_line (Some c.in-Some.rest) c.in-Some.ensures.cases in
    let begins = frame_begins c.args.body.now c.in-Some.rest.now c.if-body-gt-MOST_BYTES.false text in
    let view : Vec Section → List Named = λ v. views v.items in
    let a = answered view c.gather.result (frame c.args.body.now) (rw begins c.gather.ensures) in
    record {
      found = IfOk-weaker c.gather.result _ _ (λ v is. frame_is_bundle c.args.body.now (views v.items) is) a.given;
      refused = IfErr-weaker c.gather.result
          _ _ (λ e fault n same. frame_is_fault c.args.body.now n (fault n same)) a.refused;
      bundle_found = λ ss is. a.value_given ss (frame_of_bundle c.args.body.now ss is);
      fault_told = λ n is. a.fault_told n (frame_of_fault c.args.body.now n is);
      framed = a.given;
      unframed = a.refused;
      over_limit = λ over. absurd (omega (arith, over, c.if-body-gt-MOST_BYTES.false));
      other_line = λ within other. absurd (other c.in-Some.rest.now text);
    }
