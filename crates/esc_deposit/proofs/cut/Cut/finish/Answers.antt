use Rattle.std.proofs.Common.{List, ℕ, subst, sym}
use Rattle.esc_deposit.specs.Cuts.{AreCutInto}
use Rattle.esc_deposit.proofs.Cutting.{all_cut}
use Rattle.esc_deposit.proofs.cut.Cut.finish.Goals as goal

pub returns : goal.returns
returns c = λ es far. subst (λ (l : List ℕ). AreCutInto es l) (sym c.in_ok-push.ensures.items) (all_cut es _ _ _ far)
