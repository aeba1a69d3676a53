use Rattle.csv.specs.Records.{fields_of}
use Rattle.esc_csv.proofs.RecordsLeft.{took_record, no_record}
use Rattle.esc_csv.proofs.records.Records.read.Goals as goal

pub invariant_of-self : goal.invariant_of-self
invariant_of-self c = λ _.
    let was = c.self.invariant c.if-self.false in
    let e = c.in-Ok-true.ensures in
    let read = rw c.in-Ok-true.field-0-test at (e.reads was.trim was.ready) in
    (took_record c.self.inside.reader c.read_byte_record.new.self (fields_of c.read_byte_record.new.row)
    was read e.flexible (e.ready was.trim)).0

pub returns-in-Ok-true-clause-next : goal.returns-in-Ok-true-clause-next
returns-in-Ok-true-clause-next c =
    let was = c.self.invariant c.if-self.false in
    let e = c.in-Ok-true.ensures in
    let read = rw c.in-Ok-true.field-0-test at (e.reads was.trim was.ready) in
    rw (← c.self.view_is, c.if-self.false) (took_record c.self.inside.reader c.read_byte_record.new.self
    (fields_of c.read_byte_record.new.row) was read e.flexible (e.ready was.trim)).1

pub returns-in-Ok-false-clause-next : goal.returns-in-Ok-false-clause-next
returns-in-Ok-false-clause-next c =
    let was = c.self.invariant c.if-self.false in
    let e = c.in-Ok-false.ensures in
    let read = rw c.in-Ok-false.field-0-test at (e.reads was.trim was.ready) in
    rw (← c.self.view_is, c.if-self.false) (no_record c.self.inside.reader
    c.read_byte_record.new.self (fields_of c.read_byte_record.new.row) was read)
