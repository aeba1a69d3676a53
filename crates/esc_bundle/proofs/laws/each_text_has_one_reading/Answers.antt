use Rattle.esc_bundle.proofs.OneReading as readings
use Rattle.esc_bundle.proofs.Frames.{bundle_or_fault}
use Rattle.esc_bundle.proofs.laws.each_text_has_one_reading.Goals as goal

pub returns : goal.returns
returns c = record {
  either = bundle_or_fault;
  never_both = readings.no_bundle_fault;
  one_list = readings.one_list;
  one_fault = readings.one_fault;
}
