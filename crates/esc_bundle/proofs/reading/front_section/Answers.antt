use Rattle.esc_bundle.proofs.SectionTexts.{length_takes}
use Rattle.esc_bundle.proofs.reading.front_section.Goals as goal

pub name_text-requires : goal.name_text-requires
name_text-requires c = let told = length_takes _ _ _ _ c.in_ok-size.ensures in told.stands.named
