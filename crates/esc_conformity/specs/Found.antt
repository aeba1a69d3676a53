-- The keys that are kept for each rule.
use Rattle.std.specs.Prelude.{List}
use Rattle.esc_tables.specs.KeyName.{KeyName}
use Rattle.esc_conformity.specs.declared.found.Flaws.{Flaws}
use Rattle.esc_conformity.specs.declared.rule.Rule.{Rule}
use Rattle.esc_conformity.specs.declared.rule.Rule.TheVariants.{Registrars, Nndns, Roids}
use Rattle.esc_conformity.specs.declared.rule.Rule.TheVariants.{Required, Outside, Digests}
use Rattle.esc_conformity.specs.declared.rule.Rule.TheVariants.{Addresses}

-- the keys for a rule
abbrev pub keys_by : Flaws → Rule → List KeyName
keys_by f Registrars = f.registrars.items
keys_by f Nndns = f.nndns.items
keys_by f Roids = f.roids.items
keys_by f Required = f.required.items
keys_by f Outside = f.outside.items
keys_by f Digests = f.digests.items
keys_by f Addresses = f.addresses.items
