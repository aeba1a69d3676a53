use Rattle.std.proofs.Common.{sym, subst}
use Rattle.esc_scan.specs.KeyIndex.{EndsKind, IsKeyRead}
use Rattle.esc_scan.specs.ScannedStore.{scanned_store}
use Rattle.esc_scan.specs.Scanning.{ReadsNext}
use Rattle.esc_scan.proofs.page.next_of.Goals as goal

pub returns-then-entry-kind-clause-next : goal.returns-then-entry-kind-clause-next
returns-then-entry-kind-clause-next g c = λ clean.
    let old = g.S.Store.view (scanned_store c.args.scan.now) in
    let new = g.S.Store.view (scanned_store c.next_value.new.self) in
    let next = subst (ReadsNext IsKeyRead old new) c.in-Some.is (c.in_ok-entry.ensures.reads clean) in
    subst (EndsKind c.args.kind) (sym next.1) (c.in-Some.entry, next.2, c.if-entry-kind.true)
