use Rattle.esc_bundle.proofs.Frames.{frame_is_bundle, frame_of_bundle, frame_is_fault, frame_of_fault}
use Rattle.esc_bundle.proofs.laws.frame_is_exact.Goals as goal

pub returns : goal.returns
returns c = record {
  bundle = λ body ss. (frame_is_bundle body ss, frame_of_bundle body ss);
  fault = λ body n. (frame_is_fault body n, frame_of_fault body n);
}
