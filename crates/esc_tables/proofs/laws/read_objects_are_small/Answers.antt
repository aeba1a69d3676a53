use Rattle.esc_tables.proofs.SmallFacts.{small_deposit}
use Rattle.esc_tables.proofs.laws.read_objects_are_small.Goals as goal

pub returns : goal.returns
returns c = small_deposit c.fields_are_no_longer_than_the_text.ensures
    c.declared_tables_have_their_forms.ensures.tables c.frame_is_exact.ensures.bundle
