-- The kinds of objects in order, and their names.
use Rattle.std.specs.Prelude.{ℕ, List, [], ◌∷◌, Bool, ◌==◌, if◌then◌else◌, Option, Some, None}
use Rattle.std.specs.Prelude.{codes}
use Rattle.std.specs.Str.{bytes_eq}
use Rattle.esc_envelope.specs.declared.kind.Kind.{Kind}
use Rattle.esc_envelope.specs.declared.kind.Kind.TheVariants.{Registrar, Contact, Host, Domain, Idn}
use Rattle.esc_envelope.specs.declared.kind.Kind.TheVariants.{Nndn}

-- the index of a kind in the order of kinds, from 0
abbrev pub kind_rank : Kind → ℕ
kind_rank Registrar = 0
kind_rank Contact = 1
kind_rank Host = 2
kind_rank Domain = 3
kind_rank Idn = 4
kind_rank Nndn = 5

-- whether two kinds are equal
abbrev pub is_kind : Kind → Kind → Bool
is_kind k l = kind_rank k == kind_rank l

-- the kinds in their order
unfoldable pub kinds : List Kind
kinds = Registrar ∷ Contact ∷ Host ∷ Domain ∷ Idn ∷ Nndn ∷ []

-- the word for a kind
abbrev pub kind_name : Kind → List ℕ
kind_name Registrar = codes "registrar"
kind_name Contact = codes "contact"
kind_name Host = codes "host"
kind_name Domain = codes "domain"
kind_name Idn = codes "idn"
kind_name Nndn = codes "nndn"

-- the kind with this name, if there is one
abbrev pub kind_named : List ℕ → Option Kind
kind_named name =
    if bytes_eq name (codes "registrar") then Some Registrar
    else (if bytes_eq name (codes "contact") then Some Contact
    else (if bytes_eq name (codes "host") then Some Host
    else (if bytes_eq name (codes "domain") then Some Domain
    else (if bytes_eq name (codes "idn") then Some Idn
    else (if bytes_eq name (codes "nndn") then Some Nndn else None)))))
