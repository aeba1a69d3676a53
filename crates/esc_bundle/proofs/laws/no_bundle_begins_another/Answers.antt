use Rattle.esc_bundle.proofs.OneReading.{no_front}
use Rattle.esc_bundle.proofs.laws.no_bundle_begins_another.Goals as goal

pub returns : goal.returns
returns c = λ body more ss ts first second. (no_front body more ss ts first second).0
