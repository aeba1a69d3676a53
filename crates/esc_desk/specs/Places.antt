-- Where the pages of a walk begin.
use Rattle.std.specs.Prelude.{◌≡◌, ℕ, ◌-◌, ◌++◌, Bool, List, [], ◌∷◌, Option, None, Some}
use Rattle.std.specs.Prelude.{if◌then◌else◌, MatchOption}
use Rattle.esc_envelope.specs.declared.kind.Kind.{Kind}
use Rattle.esc_envelope.specs.declared.kind.Kind.TheVariants.{Registrar, Contact, Host, Domain, Idn}
use Rattle.esc_envelope.specs.declared.kind.Kind.TheVariants.{Nndn}
use Rattle.esc_envelope.specs.Kinds.{kind_rank}
use Rattle.esc_apply.specs.ObjectStreams.{Entry}
use Rattle.esc_store.specs.Pages.{last_text}

-- the kind that is walked first
abbrev pub first_kind : Option Kind → Kind
first_kind None = Registrar
first_kind (Some kind) = kind

-- the next kind in the order of kinds, if there is one
abbrev pub later_kind : Kind → Option Kind
later_kind Registrar = Some Contact
later_kind Contact = Some Host
later_kind Host = Some Domain
later_kind Domain = Some Idn
later_kind Idn = Some Nndn
later_kind Nndn = None

-- how many kinds are still to be walked, with this one
abbrev pub kinds_left : Option Kind → ℕ
kinds_left None = 0
kinds_left (Some kind) = 6 - kind_rank kind

-- where the next page begins: in the same kind, after this page's last key; or, if this page is
-- empty, with the next kind, unless one kind is walked alone
abbrev pub IsPlaceBehind : Kind → Bool → List Entry → Option Kind → List ℕ → Type 0
IsPlaceBehind kind alone page next from
    = MatchOption (last_text page) ((next ≡ (if alone then None else later_kind kind))
    × (from ≡ [])) (λ text. (next ≡ Some kind) × (from ≡ text ++ 0 ∷ []))
