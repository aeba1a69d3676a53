use Rattle.std.proofs.Common.{rules}
use Rattle.esc_manifest.specs.Manifest.{records_fault, text_fault, manifest_of}
use Rattle.esc_manifest.proofs.reading.manifest_from.Goals as goal

pub returns-in_err-records-clause-refused : goal.returns-in_err-records-clause-refused
unfolding records_fault text_fault manifest_of
returns-in_err-records-clause-refused c = search rules
