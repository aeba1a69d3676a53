use Rattle.esc_table_files.proofs.database.add_objects.Given as goal

abbrev pub decreases-loop-batch : goal.decreases-loop-batch
decreases-loop-batch g l = g.O.Objects.bound l.objects
