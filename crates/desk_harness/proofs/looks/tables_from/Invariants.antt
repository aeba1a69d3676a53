use Rattle.desk_harness.proofs.looks.tables_from.Given as goal

abbrev pub decreases-loop-tables : goal.decreases-loop-tables
decreases-loop-tables g l = g.O.Objects.bound l.objects
