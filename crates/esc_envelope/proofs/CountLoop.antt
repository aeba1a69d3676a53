-- One turn of the loop over the kinds.
use Rattle.std.proofs.Common.{◌≡◌, ℕ, zero, suc, true, arith, ◌+◌, ◌<◌, ◌≤◌, List, []}
use Rattle.std.proofs.Common.{◌∷◌, ◌++◌, length, drop, get_or, Option, Some, None, refl, sym, ap, ◌∙◌}
use Rattle.std.proofs.Common.{append_assoc}
use Rattle.std.specs.Prelude.{option_map, is_some}
use Rattle.serde_json.specs.Find.{as_object}
use Rattle.std.proofs.lemmas.List.{drop_more, drop_all, append-nil}
use Rattle.serde_json.specs.Data.{Data}
use Rattle.esc_envelope.specs.declared.kind.Kind.{Kind}
use Rattle.esc_envelope.specs.declared.kind.Kind.TheVariants.{Registrar, Contact, Host, Domain, Idn, Nndn}
use Rattle.esc_envelope.specs.Kinds.{kind_rank, kinds}
use Rattle.esc_envelope.specs.Sequences.{◌>>=◌}
use Rattle.esc_envelope.specs.Members.{AreBelow, declared_count, count_entry, counts_among, counts_in}
use Rattle.esc_envelope.proofs.KindOrder.{are_below_push}

-- the counts that were read
abbrev pub Counted : Type 0
Counted = List (Kind × ℕ)

-- counts to which a count was added, if there is one
abbrev pub added : Counted → Option Counted
added es = Some es

-- the entries so far, and those of the kinds that are left
abbrev pub after_front : Counted → Option Counted → Option Counted
after_front front rest = option_map (λ more. front ++ more) rest

-- what is known before kind i
pub record AreCounted (json : Data) (items : List Kind) (i : ℕ) (es : Counted) : Type 0 where
  pub front : after_front es (counts_among json (drop i items)) ≡ counts_among json items
  pub below : AreBelow i es

-- at the first kind nothing is counted
pub started : (json : Data) (items : List Kind) → AreCounted json items 0 []
started json items = record { front = none (counts_among json items); below = tt }
  where
    none : (rest : Option Counted) → after_front [] rest ≡ rest
    none None = refl
    none (Some more) = refl

one_more : (json : Data) (kind : Kind) (others : List Kind) (count : Option ℕ) (front : Counted)
    → declared_count json kind ≡ Some count
    → after_front front (counts_among json (kind ∷ others))
    ≡ after_front (front ++ count_entry kind count) (counts_among json others)
unfolding counts_among
one_more json kind others count front told = rw told (moved front (count_entry kind count) (counts_among json others))
  where
    moved : (front entry : Counted) (rest : Option Counted) → after_front
        front (rest >>= (λ more. added (entry ++ more))) ≡ after_front (front ++ entry) rest
    moved front entry None = refl
    moved front entry (Some more) = ap (λ (l : Counted). Some l) (sym (append_assoc front entry more))

here_is : (items : List Kind) (i : ℕ) (d : Kind)
    → i < length items → drop i items ≡ get_or items i d ∷ drop (i + 1) items
here_is items i d inside = drop_more items i d inside

-- one more kind is counted
pub next : (json : Data) (items : List Kind) (i : ℕ) (d : Kind) (count : Option ℕ) (es more : Counted)
    → i < length items → kind_rank (get_or items i d) ≡ i
    → declared_count json (get_or items i d) ≡ Some count
    → more ≡ es ++ count_entry (get_or items i d) count
    → AreCounted json items i es → AreCounted json items (i + 1) more
next json items i d count es more inside rank told is known =
    let kind = get_or items i d in
    record {
      front = rw is (sym (one_more json kind (drop (i + 1) items) count es told)
          ∙ ap (λ (l : List Kind). after_front es (counts_among json l))
          (sym (here_is items i d inside)) ∙ known.front);
      below = rw is (are_below_push i es kind count rank known.below);
    }

-- a count that is none refuses all
pub fails : (json : Data) (items : List Kind) (i : ℕ) (d : Kind) (es : Counted)
    → i < length items → declared_count json (get_or items i d) ≡ None
    → AreCounted json items i es → None ≡ counts_among json items
unfolding counts_among
fails json items i d es inside told known =
    let none : after_front es (counts_among json (get_or items i d ∷ drop (i + 1) items)) ≡ None = rw told refl in
    sym none ∙ ap (λ (l : List Kind). after_front es (counts_among json l))
    (sym (here_is items i d inside)) ∙ known.front

-- after the last kind all are counted
pub ended : (json : Data) (items : List Kind) (i : ℕ) (es : Counted)
    → length items ≤ i → AreCounted json items i es → Some es ≡ counts_among json items
unfolding counts_among
ended json items i es past known =
    let none : after_front es (counts_among json (drop i items)) ≡ Some (es ++ []) =
    ap (λ (l : List Kind). after_front es (counts_among json l)) (drop_all i items past) in
    ap (λ (l : Counted). Some l) (sym (append-nil es)) ∙ sym none ∙ known.front

-- the kinds in their order, as the constant has them
pub among_all : (json : Data) → counts_among
    json (Registrar ∷ Contact ∷ Host ∷ Domain ∷ Idn ∷ Nndn ∷ []) ≡ counts_among json kinds
unfolding kinds
among_all json = refl

-- each kind stands at its rank
pub all_ranks : (i : ℕ) (d : Kind)
    → i < 6 → kind_rank (get_or (Registrar ∷ Contact ∷ Host ∷ Domain ∷ Idn ∷ Nndn ∷ []) i d) ≡ i
all_ranks zero d low = refl
all_ranks (suc zero) d low = refl
all_ranks (suc (suc zero)) d low = refl
all_ranks (suc (suc (suc zero))) d low = refl
all_ranks (suc (suc (suc (suc zero)))) d low = refl
all_ranks (suc (suc (suc (suc (suc zero))))) d low = refl
all_ranks (suc (suc (suc (suc (suc (suc i)))))) d low = absurd (omega arith)

-- the counts of an object of JSON
pub counted_of : (json : Data) (o : Option Counted) → is_some (as_object json) ≡ true → o
    ≡ counts_among json (Registrar ∷ Contact ∷ Host ∷ Domain ∷ Idn ∷ Nndn ∷ []) → o ≡ counts_in json
counted_of json o object same = rw object (same ∙ among_all json)
