use Rattle.esc_conformity.proofs.Tests.{same_test}
use Rattle.esc_conformity.proofs.name.is_same.Goals as goal

pub returns : goal.returns
returns c = same_test c.eq_ignore_ascii_case.result _ _ c.eq_ignore_ascii_case.ensures.test
