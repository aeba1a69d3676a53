use Rattle.esc_table_files.proofs.Came.{came}
use Rattle.esc_table_files.proofs.Written.{begun, goes_on, ended}
use Rattle.esc_table_files.proofs.Zipped.{zip_weaker, zip_then}
use Rattle.esc_table_files.proofs.table_writer.write_tables.Goals as goal

pub loop-key-init : goal.loop-key-init
loop-key-init g c = record {
  follows = g.met.O.Objects.stays _;
  written = λ honest es lists. (
    es,
    lists,
    zip_weaker _ _ (begun (λ w. w.layout.now)
        (λ w. g.W.Write.contents w.output) es) _ _ c.in_ok-write_headings.ensures,
  );
}

pub returns-in_err-write_object-clause-follows : goal.returns-in_err-write_object-clause-follows
returns-in_err-write_object-clause-follows g c =
    g.met.O.Objects.goes_on _ _ _ c.loop-key.invariant.follows c.next.ensures.follows

pub loop-key-preserved : goal.loop-key-preserved
loop-key-preserved g c =
    let objects = g.met.O.Objects in
    record {
      follows = objects.goes_on _ _ _ c.loop-key.invariant.follows c.next.ensures.follows;
      written = λ honest es lists.
          let before = c.loop-key.invariant.written (objects.was_honest _ _ c.next.ensures.follows honest) es lists in
          let gave = came _ _ c.next.result c.map_err.result c.in_ok-key.field-0
          c.map_err.ensures.cases c.in_ok-key.was c.next.ensures.given honest before.0 before.1 in
          let one = rw c.in-Some.is at gave in (
            one.0,
            one.2,
            zip_then _ _ _
                (goes_on (λ w. w.layout.now) (λ w. g.W.Write.contents w.output)
                es before.0 one.0 (c.in-Some.key, c.in-Some.object) one.1)
                _ _ _ before.2 c.in_ok-write_object.ensures,
          );
    }

pub returns-clause-texts : goal.returns-clause-texts
returns-clause-texts g c = λ honest es lists.
    let before = c.loop-key.invariant.written (g.met.O.Objects.was_honest _ _ c.next.ensures.follows honest) es lists in
    let gave = came _ _ c.next.result c.map_err.result c.in_ok-key.field-0
    c.map_err.ensures.cases c.in_ok-key.was c.next.ensures.given honest before.0 before.1 in
    let none = rw c.in_default.is at gave in
    zip_weaker _ _ (ended (λ w. w.layout.now) (λ w. g.W.Write.contents w.output) es before.0 none.0) _ _ before.2
