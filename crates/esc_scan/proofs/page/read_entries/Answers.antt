use Rattle.std.proofs.Common.{arith, subst, sym, ◌∙◌}
use Rattle.sqlite_catalog.proofs.QuietLemmas.{quiet_then}
use Rattle.sqlite_trees.specs.View.{IsClean}
use Rattle.esc_scan.specs.KeyIndex.{GivesOfKind}
use Rattle.esc_scan.specs.Scanning.{left_of}
use Rattle.esc_scan.specs.ScannedStore.{scanned_store}
use Rattle.esc_scan.proofs.Scans.{HasFirst, first_more, only_then}
use Rattle.esc_scan.proofs.page.read_entries.Goals as goal

pub loop-preserved : goal.loop-preserved
loop-preserved g c =
    let kind = c.args.kind in
    let start = g.S.Store.view (scanned_store c.args.scan.now) in
    let rows = left_of start in
    let old = g.S.Store.view (scanned_store c.loop.scan) in
    let new = g.S.Store.view (scanned_store c.next_of.new.scan) in
    let next = c.in_ok-entry.ensures in
    let clean_before : IsClean new → IsClean old = λ clean. omega (arith, clean, next.quiet.clean) in
    record {
      same = next.same_reference ∙ c.loop.invariant.same;
      live = next.live;
      read = λ clean. subst (HasFirst kind rows new) (sym c.in_ok-push-in-Some.ensures.items)
          (first_more kind rows old new c.loop.entries.items c.in-Some.entry
          (c.loop.invariant.read (clean_before clean))
          (subst (GivesOfKind kind old new) c.in-Some.is (next.next clean)));
      long = omega (arith, c.in_ok-push-in-Some.ensures.len, c.loop.invariant.long);
      only = λ clean. only_then start old new (c.loop.invariant.only (clean_before clean)) (next.only clean);
      quiet = quiet_then c.loop.invariant.quiet next.quiet;
    }
