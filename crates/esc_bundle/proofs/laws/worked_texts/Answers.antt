use Rattle.std.proofs.Common.{refl}
use Rattle.esc_bundle.specs.Reading.{stands_at, length_at, section_at, end_at, next_at}
use Rattle.esc_bundle.specs.Frame.{frame_after, frame}
use Rattle.esc_bundle.specs.Writing.{bundle_of}
use Rattle.esc_bundle.proofs.laws.worked_texts.Goals as goal

pub returns : goal.returns
unfolding stands_at length_at section_at end_at next_at frame_after frame bundle_of
returns c = record {
  shortest = refl;
  two = refl;
  empty = refl;
  no_section = refl;
  no_end = refl;
  bytes_after_end = refl;
  leading_zero = refl;
  other_first = refl;
  wrong_name = refl;
  zero_before_name = refl;
  repeated = refl;
  too_long = refl;
  limit_before_first = refl;
  nothing_to_write = refl;
}
