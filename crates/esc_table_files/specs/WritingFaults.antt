-- Why a table was not written.
use Rattle.std.specs.Prelude.{⊤}
use Rattle.esc_table_files.specs.declared.writing_fault.WritingFault.{WritingFault}
use Rattle.esc_table_files.specs.declared.writing_fault.WritingFault.TheVariants.{Source, Output}
use Rattle.esc_table_files.specs.declared.writing_fault.WritingFault.TheVariants.{NoMemory}

-- P holds, if the fault is the source's
abbrev pub IfWritingSource : {E : Type 0} → WritingFault E → Type 0 → Type 0
IfWritingSource (Source e) P = P
IfWritingSource (Output e) P = ⊤
IfWritingSource NoMemory P = ⊤

-- P holds of the source's fault, if the fault is the source's
abbrev pub OfWritingSource : {E : Type 0} → (E → Type 0) → WritingFault E → Type 0
OfWritingSource P (Source e) = P e
OfWritingSource P (Output e) = ⊤
OfWritingSource P NoMemory = ⊤
