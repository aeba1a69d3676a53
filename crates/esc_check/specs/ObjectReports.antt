-- Reports over objects that come one at a time.
use Rattle.std.specs.Prelude.{⊤}
use Rattle.esc_check.specs.declared.stream.StreamFault.{StreamFault}
use Rattle.esc_check.specs.declared.stream.StreamFault.TheVariants.{Source, NoMemory}

-- P holds, if the fault is the source's
abbrev pub IfSource : {E : Type 0} → StreamFault E → Type 0 → Type 0
IfSource (Source e) P = P
IfSource NoMemory P = ⊤

-- P holds of the source's fault, if the fault is the source's
abbrev pub OfSource : {E : Type 0} → (E → Type 0) → StreamFault E → Type 0
OfSource P (Source e) = P e
OfSource P NoMemory = ⊤
