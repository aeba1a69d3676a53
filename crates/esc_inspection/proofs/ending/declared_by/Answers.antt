use Rattle.esc_inspection.proofs.ending.declared_by.Goals as goal

pub returns-in-Some : goal.returns-in-Some
returns-in-Some c = rw c.in-Some.is c.entries_of.ensures

pub returns-in-None : goal.returns-in-None
returns-in-None c = rw c.in-None.is c.new.ensures.items
