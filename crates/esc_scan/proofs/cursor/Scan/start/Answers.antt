use Rattle.std.proofs.Common.{rules}
use Rattle.std.proofs.lemmas.Result.{on_ok_weaker}
use Rattle.sqlite_trees.specs.Tree.{order_of}
use Rattle.esc_scan.specs.ScannedStore.{scanned_store}
use Rattle.esc_scan.proofs.Scans.{begins}
use Rattle.esc_scan.proofs.cursor.Scan.start.Goals as goal

pub returns-clause-whole : goal.returns-clause-whole
returns-clause-whole g c =
    let v = g.S.Store.view in
    let start = v (scanned_store c.args.self.now) in
    on_ok_weaker c.seek.result (λ ok clean. begins start (v c.seek.new.self) (order_of (start.shape
    c.args.tree)) c.new-key.result c.args.tree (search rules) (ok clean)) c.seek.ensures.ok
