use Rattle.esc_bundle.proofs.Written.{bundle_of_is_bundle, bundle_of_bundle, no_bundle}
use Rattle.esc_bundle.proofs.Unwritten.{is_unwritten, unwritten_is}
use Rattle.esc_bundle.proofs.laws.bundle_of_is_exact.Goals as goal

pub returns : goal.returns
returns c = record {
  bundle = λ ss body. (bundle_of_is_bundle ss body, bundle_of_bundle ss body);
  fault = no_bundle;
  unwritten = λ ss n. (is_unwritten ss n, unwritten_is ss n);
}
