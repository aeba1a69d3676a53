-- How many objects of each kind a walk has met.
use Rattle.std.specs.Prelude.{ℕ}
use Rattle.esc_envelope.specs.declared.kind.Kind.{Kind}
use Rattle.esc_envelope.specs.declared.kind.Kind.TheVariants.{Registrar, Contact, Host, Domain, Idn}
use Rattle.esc_envelope.specs.declared.kind.Kind.TheVariants.{Nndn}
use Rattle.esc_check.specs.declared.came.Came.{Came}

-- how many objects of a kind came
abbrev pub came_of : Came → Kind → ℕ
came_of c Registrar = c.registrars
came_of c Contact = c.contacts
came_of c Host = c.hosts
came_of c Domain = c.domains
came_of c Idn = c.idns
came_of c Nndn = c.nndns
