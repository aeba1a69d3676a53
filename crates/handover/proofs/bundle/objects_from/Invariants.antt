use Rattle.handover.proofs.bundle.objects_from.Given as goal

abbrev pub decreases-loop-all : goal.decreases-loop-all
decreases-loop-all g l = g.O.Objects.bound l.objects
