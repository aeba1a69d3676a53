-- Laws of kinds: kinds with equal ranks are equal.
use Rattle.std.proofs.Common.{◌≡◌, ◌∙◌, ℕ, zero, suc, refl, sym, ap}
use Rattle.esc_envelope.specs.declared.kind.Kind.{Kind}
use Rattle.esc_envelope.specs.declared.kind.Kind.TheVariants.{Registrar, Contact, Host, Domain, Idn}
use Rattle.esc_envelope.specs.declared.kind.Kind.TheVariants.{Nndn}
use Rattle.esc_envelope.specs.Kinds.{kind_rank}

-- the kind of a rank
abbrev kind_of_rank : ℕ → Kind
kind_of_rank zero = Registrar
kind_of_rank (suc zero) = Contact
kind_of_rank (suc (suc zero)) = Host
kind_of_rank (suc (suc (suc zero))) = Domain
kind_of_rank (suc (suc (suc (suc zero)))) = Idn
kind_of_rank (suc (suc (suc (suc (suc n))))) = Nndn

kind_back : (k : Kind) → kind_of_rank (kind_rank k) ≡ k
kind_back Registrar = refl
kind_back Contact = refl
kind_back Host = refl
kind_back Domain = refl
kind_back Idn = refl
kind_back Nndn = refl

-- kinds with equal ranks are equal
pub one_kind : (a b : Kind) → kind_rank a ≡ kind_rank b → a ≡ b
one_kind a b e = sym (kind_back a) ∙ ap kind_of_rank e ∙ kind_back b
