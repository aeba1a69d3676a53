use Rattle.esc_store.proofs.Common.{◌∙◌, arith, take_all}
use Rattle.esc_store.proofs.codec.manifest.digest_of.Goals as goal

pub returns-in-Some-clause-digest : goal.returns-in-Some-clause-digest
returns-in-Some-clause-digest c = c.in-Some.ensures.cases.0 ∙ take_all 32 c.args.bytes.now (omega arith)
