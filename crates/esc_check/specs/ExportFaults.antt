-- Why an export was not written, or not whole.
use Rattle.std.specs.Prelude.{⊤}
use Rattle.esc_check.specs.declared.export_fault.ExportFault.{ExportFault}
use Rattle.esc_check.specs.declared.export_fault.ExportFault.TheVariants.{Source, Output}
use Rattle.esc_check.specs.declared.export_fault.ExportFault.TheVariants.{NoMemory}

-- P holds, if the fault is the source's
abbrev pub IfExportSource : {E : Type 0} → ExportFault E → Type 0 → Type 0
IfExportSource (Source e) P = P
IfExportSource (Output e) P = ⊤
IfExportSource NoMemory P = ⊤

-- P holds of the source's fault, if the fault is the source's
abbrev pub OfExportSource : {E : Type 0} → (E → Type 0) → ExportFault E → Type 0
OfExportSource P (Source e) = P e
OfExportSource P (Output e) = ⊤
OfExportSource P NoMemory = ⊤
