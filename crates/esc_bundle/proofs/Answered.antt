-- What is promised of a result that gives the value of a definition, or `NoMemory`.
use Rattle.std.proofs.Common.{◌≡◌, ◌⊎◌, ℕ, Result, Ok, Err, refl, sym, ◌∙◌, inl, inr}
use Rattle.std.specs.Prelude.{IfOk, IfErr, MatchResult, IsErrAnd}
use Rattle.esc_bundle.specs.declared.refusal.Refusal.{Refusal}
use Rattle.esc_bundle.specs.declared.fault.Fault.{Fault}
use Rattle.esc_bundle.specs.declared.fault.Fault.TheVariants.{Refused, NoMemory}
use Rattle.esc_bundle.specs.Tests.{GivesOrNoMemory}
use Rattle.esc_bundle.proofs.StepFacts.{done_is, done_or_fault}

-- what is promised of a result, where `told` is what the definition gives
pub record Answered {X Y : Type 0} (view : X → Y) (result : Result X Fault) (told : Result Y Refusal) : Type 0 where
  pub given : IfOk result (λ x. told ≡ Ok (view x))
  pub refused : IfErr result (λ e. (n : Refusal) → e ≡ Refused n → told ≡ Err n)
  pub value_given : (y : Y) → told ≡ Ok y → MatchResult result (λ x. view x ≡ y) (λ e. e ≡ NoMemory)
  pub fault_told : (n : Refusal) → told ≡ Err n → IsErrAnd result (λ e. (e ≡ Refused n) ⊎ (e ≡ NoMemory))

value_or_no_memory : {Y : Type 0} (told : Result Y Refusal) (y : Y) (e : Fault)
    → ((n : Refusal) → e ≡ Refused n → told ≡ Err n) → told ≡ Ok y → e ≡ NoMemory
value_or_no_memory told y (Refused n) refused is = absurd (done_or_fault y n (sym is ∙ refused n refl))
value_or_no_memory told y NoMemory refused is = refl

fault_or_no_memory : {Y : Type 0} (told : Result Y Refusal) (n : Refusal) (e : Fault) → ((m : Refusal)
    → e ≡ Refused m → told ≡ Err m) → told ≡ Err n → (e ≡ Refused n) ⊎ (e ≡ NoMemory)
fault_or_no_memory {Y} told n (Refused m) refused is =
    let same : ◌≡◌ {A = Result Y Refusal} (Err m) (Err n) = sym (refused m refl) ∙ is in inl (cc)
fault_or_no_memory told n NoMemory refused is = inr refl

-- a result that gives the value or NoMemory answers what was asked
pub answered : {X Y : Type 0} (view : X → Y) (result : Result X Fault) (told : Result Y Refusal)
    → GivesOrNoMemory view result told → Answered view result told
answered view (Ok x) told is = record {
  given = is;
  refused = tt;
  value_given = λ y same. done_is (view x) y (sym is ∙ same);
  fault_told = λ n fault. done_or_fault (view x) n (sym is ∙ fault);
}
answered view (Err e) told is = record {
  given = tt;
  refused = is;
  value_given = λ y same. value_or_no_memory told y e is same;
  fault_told = λ n fault. fault_or_no_memory told n e is fault;
}
