use Rattle.std.proofs.Common.{◌∙◌, ◌+◌, suc, ◌==◌, cond, List, [], ◌++◌, Ok, refl, ap, arith}
use Rattle.esc_apply.specs.ObjectStreams.{Entry}
use Rattle.esc_deposit.specs.FullBundle.{counted_kinds}
use Rattle.esc_deposit.specs.RegistrySeries.{part_with}
use Rattle.esc_deposit.proofs.Written.{none_so_far, one_so_far}
use Rattle.esc_deposit.proofs.series.write_series.Goals as goal

pub loop-length-init : goal.loop-length-init
loop-length-init g c = record {
  count = refl;
  follows = g.met.O.Objects.stays _;
  written = λ honest es lists. (
    es,
    lists,
    none_so_far g.B.Bundles.takes c.args.series.id.now c.args.series.watermark c.args.series.length
        _ _ es c.no_counts-counts.ensures,
  );
}

pub loop-length-preserved : goal.loop-length-preserved
loop-length-preserved g c =
    let objects = g.met.O.Objects in
    let series = c.args.series in
    let number = c.loop-length.number in
    record {
      count = ap (λ n. n + 1) c.loop-length.invariant.count;
      follows = objects.goes_on _ _ _ c.loop-length.invariant.follows c.take_run.ensures.follows;
      written = λ honest es lists.
          let honest_before = objects.was_honest _ _ c.take_run.ensures.follows honest in
          let before = c.loop-length.invariant.written honest_before es lists in
          let took = c.in_ok-run.ensures.run honest before.0 before.1 in
          let put = c.in_ok-put_part.ensures in (
            took.0,
            took.1,
            one_so_far g.B.Bundles.takes series.id.now series.watermark series.length number
                c.loop-length.counts c.in-Some.more _ _ _ es before.0 took.0 c.in_ok-run.run'.items put.0
                (omega (arith, c.loop-length-test.true, c.if-lengths-series.false, c.loop-length.invariant.count))
                before.2 took.2
                (λ fs is. c.in-Some.ensures fs is
                ∙ ap (λ (l : List Entry). counted_kinds (fs ++ l)) c.deref.ensures.value)
                put.1
                (put.2 ∙ ap (λ (l : List Entry). Ok (part_with series.id.now series.watermark series.length number
                (cond (suc number == series.length) c.in-Some.more []) l)) c.deref-in-loop-length.ensures.value),
          );
    }
