-- The order of kinds, and the entries of a map that is filled in that order.
use Rattle.std.proofs.Common.{◌≡◌, ℕ, ◌+◌, ◌<◌, List, [], ◌∷◌, ◌++◌, Option, Some, None}
use Rattle.std.proofs.Common.{refl, ap, ◌∙◌, arith}
use Rattle.std.proofs.lemmas.Bool.Decides.{nat_tests}
use Rattle.std.specs.Ordering.{nat_cmp}
use Rattle.std.specs.BTreeMap.{insert_entry}
use Rattle.std.specs.declared.cmp.Ordering.TheVariants.{Greater}
use Rattle.esc_envelope.specs.declared.kind.Kind.{Kind}
use Rattle.esc_envelope.specs.declared.kind.Kind.TheVariants.{Registrar, Contact, Host, Domain, Idn, Nndn}
use Rattle.esc_envelope.specs.contracts.kind.KindOrd.TheImpl as kind_ord
use Rattle.esc_envelope.specs.Kinds.{kind_rank}
use Rattle.esc_envelope.specs.Members.{AreBelow, count_entry}

-- the derived order is that of the ranks
kind_cmp : (a b : Kind) → (kind_ord.cmp-value).it a b ≡ nat_cmp (kind_rank a) (kind_rank b)
kind_cmp Registrar Registrar = refl
kind_cmp Registrar Contact = refl
kind_cmp Registrar Host = refl
kind_cmp Registrar Domain = refl
kind_cmp Registrar Idn = refl
kind_cmp Registrar Nndn = refl
kind_cmp Contact Registrar = refl
kind_cmp Contact Contact = refl
kind_cmp Contact Host = refl
kind_cmp Contact Domain = refl
kind_cmp Contact Idn = refl
kind_cmp Contact Nndn = refl
kind_cmp Host Registrar = refl
kind_cmp Host Contact = refl
kind_cmp Host Host = refl
kind_cmp Host Domain = refl
kind_cmp Host Idn = refl
kind_cmp Host Nndn = refl
kind_cmp Domain Registrar = refl
kind_cmp Domain Contact = refl
kind_cmp Domain Host = refl
kind_cmp Domain Domain = refl
kind_cmp Domain Idn = refl
kind_cmp Domain Nndn = refl
kind_cmp Idn Registrar = refl
kind_cmp Idn Contact = refl
kind_cmp Idn Host = refl
kind_cmp Idn Domain = refl
kind_cmp Idn Idn = refl
kind_cmp Idn Nndn = refl
kind_cmp Nndn Registrar = refl
kind_cmp Nndn Contact = refl
kind_cmp Nndn Host = refl
kind_cmp Nndn Domain = refl
kind_cmp Nndn Idn = refl
kind_cmp Nndn Nndn = refl

rank_above : (m n : ℕ) → n < m → nat_cmp m n ≡ Greater
rank_above m n low = grind (arith, nat_tests)

cmp_above : (a b : Kind) → kind_rank b < kind_rank a → (kind_ord.cmp-value).it a b ≡ Greater
cmp_above a b low = kind_cmp a b ∙ rank_above (kind_rank a) (kind_rank b) low

-- an entry whose kind is above all others goes to the end
pub insert_last : (es : List (Kind × ℕ)) (kind : Kind) (n : ℕ) → AreBelow (kind_rank kind) es
    → insert_entry (kind_ord.cmp-value).it es kind n ≡ es ++ ((kind, n) ∷ [])
insert_last [] kind n below = refl
insert_last (e ∷ es) kind n (low, below) =
    rw (cmp_above kind e.0 low) (ap (λ (l : List (Kind × ℕ)). e ∷ l) (insert_last es kind n below))

-- a count that is added comes after those of lower kinds
pub are_below_push : (rank : ℕ) (es : List (Kind × ℕ)) (kind : Kind) (count : Option ℕ)
    → kind_rank kind ≡ rank → AreBelow rank es → AreBelow (rank + 1) (es ++ count_entry kind count)
are_below_push rank [] kind None same below = tt
are_below_push rank [] kind (Some n) same below = (omega arith, tt)
are_below_push rank (e ∷ es) kind count same (low, below) =
    (omega arith, are_below_push rank es kind count same below)
