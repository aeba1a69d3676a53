-- Laws of stores and of changes, from one call to the next.
use Rattle.std.specs.Prelude.{ℕ, ◌≤◌, Result, Ok}
use Rattle.std.proofs.Common.{inl, refl, subst, ◌∙◌, le_refl}
use Rattle.std.proofs.Math.Arith.{le-zero}
use Rattle.std.proofs.lemmas.Result.{on_ok_weaker}
use Rattle.sqlite_trees.specs.declared.store.Store.{Ghosts}
use Rattle.sqlite_trees.specs.Tree.{Trees}
use Rattle.sqlite_trees.specs.View.{doubt}
use Rattle.sqlite.specs.State.{State, HasCleanDisk, Survives}
use Rattle.sqlite.proofs.StateLemmas.{survives_then}
use Rattle.esc_store.specs.declared.store.Store.{Store}
use Rattle.esc_store.specs.StoreState.{StoreState}
use Rattle.esc_store.specs.Representation.{ChangeOf, IsHonest, IsAsBefore, IsUncommitted}
use Rattle.esc_store.specs.Representation.{IsChangePart, ChangeFollows}

-- nothing was called
pub survives_same : {s : State} {C : Trees → Type 0} → Survives s s C
survives_same = record {
  clean = le_refl _;
  shield = λ h. h;
  counts = le_refl _;
  limit = refl;
  closes = λ _ up. inl up;
  crash = λ _ db may. inl may;
}

-- a disk that is clean after a call was clean before it
pub was_clean : {old new : State} {C : Trees → Type 0} → Survives old new C → HasCleanDisk new
    → HasCleanDisk old
was_clean {old} survives clean =
    le-zero (subst (λ (n : ℕ). doubt old.is_clean ≤ n) clean survives.clean)

-- a store that is honest after a read was honest before it
pub was_honest : {S : Type 0} {g : Ghosts S} {old new : Store S} → IsAsBefore g old new
    → IsHonest g new → IsHonest g old
was_honest same clean = was_clean same.survives clean

-- as before, and then as before again
pub as_before_then : {S : Type 0} {g : Ghosts S} {a b c : Store S} → IsAsBefore g a b
    → IsAsBefore g b c → IsAsBefore g a c
as_before_then p q = record {
  manifest = q.manifest ∙ p.manifest;
  writes = q.writes ∙ p.writes;
  survives = survives_then _ _ _ _ _ _ (λ _ db none. none) (λ _ db none. none) p.survives q.survives;
  stands = λ k h. q.stands k (p.stands k h);
}

-- a change goes on, and then goes on again
pub goes_then : {S : Type 0} {g : Ghosts S} {a b c : ChangeOf S} → IsUncommitted g a b
    → IsUncommitted g b c → IsUncommitted g a c
goes_then p q = record {
  same_reference = q.same_reference ∙ p.same_reference;
  manifest = q.manifest ∙ p.manifest;
  writes = q.writes ∙ p.writes;
  survives = survives_then _ _ _ _ _ _ (λ _ db none. none) (λ _ db none. none) p.survives q.survives;
  began = λ k h. q.began k (p.began k h);
}

-- nothing was called
pub follows_same : {S : Type 0} (g : Ghosts S) (c : ChangeOf S) → ChangeFollows g c c
follows_same g c = record {
  goes_on = record {
    same_reference = refl;
    manifest = refl;
    writes = refl;
    survives = survives_same;
    began = λ k h. h;
  };
  listed = refl;
  rest = λ before k h. h;
}

-- what follows from what followed before
pub follows_then : {S : Type 0} {g : Ghosts S} {a b c : ChangeOf S} → ChangeFollows g a b
    → ChangeFollows g b c → ChangeFollows g a c
follows_then p q = record {
  goes_on = goes_then p.goes_on q.goes_on;
  listed = q.listed ∙ p.listed;
  rest = λ before k h. q.rest before k (p.rest before k h);
}

-- a change that is honest after a part was honest before it
pub part_was : {S X E : Type 0} {g : Ghosts S} {a b : ChangeOf S} {r : Result X E}
    {f : StoreState → StoreState} → IsChangePart g a b r f → IsHonest g b.store.now
    → IsHonest g a.store.now
part_was p = was_clean p.goes_on.survives

-- one part that succeeded, and then another
pub part_then : {S X Y E F : Type 0} {g : Ghosts S} {a b c : ChangeOf S} {x : X} {q : Result Y F}
    {f h : StoreState → StoreState} → IsChangePart {E = E} g a b (Ok x) f → IsChangePart g b c q h
    → IsChangePart g a c q (λ k. h (f k))
part_then {q = q} p r = record {
  goes_on = goes_then p.goes_on r.goes_on;
  count = r.count ∙ p.count;
  makes = on_ok_weaker q (λ makes clean before k rest.
      makes clean before _ (p.makes (part_was r clean) before k rest)) r.makes;
  holds = on_ok_weaker q (λ holds s h. holds s (p.holds s h)) r.holds;
}
