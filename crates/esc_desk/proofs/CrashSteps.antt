-- What a crash may leave, from one call of the store to the next.
use Rattle.sqlite_trees.specs.declared.store.Store.{Ghosts}
use Rattle.sqlite_trees.specs.Tree.{Trees}
use Rattle.sqlite.specs.State.{State, Survives}
use Rattle.sqlite.proofs.StateLemmas.{survives_then, survives_weaker}
use Rattle.esc_apply.specs.Registry.{State as Tables}
use Rattle.esc_store.specs.StoreState.{StoreState}
use Rattle.esc_store.specs.Representation.{ChangeOf, IsHonest, HasMadeTables, HasMadeTablesIn}

-- nothing was added
pub adds_none : {a b : State} {P : Trees → Type 0} → Survives a b (λ _. ⊥) → Survives a b P
adds_none {P = P} s = survives_weaker _ _ (λ _. ⊥) P (λ _ db none. absurd none) s

-- first a call that added nothing, then this one
pub adds_then : {a b c : State} {P : Trees → Type 0}
    → Survives a b (λ _. ⊥) → Survives b c P → Survives a c P
adds_then {P = P} s t = survives_then _ _ _ (λ _. ⊥) P P (λ _ db none. absurd none) (λ _ db h. h) s t

module _ {S : Type 0} (g : Ghosts S) where
  pub holds_when : (change : ChangeOf S) (tables : Tables)
      → (IsHonest g change.store.now → HasMadeTables g change tables) → HasMadeTables g change tables
  unfolding HasMadeTablesIn
  holds_when change tables h clean = h clean clean

-- what follows for whatever is kept follows here: a search then needn't look into it
pub for_this : (P Q : StoreState → Type 0) (k : StoreState) → P k → ((m : StoreState) → P m → Q m) → Q k
for_this P Q k p h = h k p
