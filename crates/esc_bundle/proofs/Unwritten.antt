-- Why no bundle has some sections.
use Rattle.std.proofs.Common.{◌≡◌, ◌⊎◌, ℕ, ◌<◌, ◌≤◌, true, List, [], ◌∷◌, ◌++◌}
use Rattle.std.proofs.Common.{length, Result, Ok, Err, refl, sym, ap, subst, ◌∙◌, arith, inl, inr}
use Rattle.std.specs.Prelude.{IfOk, IfErr, MatchResult, IsErrAnd, nat_le}
use Rattle.std.specs.Global.{Vec}
use Rattle.std.proofs.lemmas.Bool.{cases_lt}
use Rattle.std.proofs.lemmas.Bool.Decides.{nat_tests}
use Rattle.std.proofs.lemmas.List.{append-nil, length-append}
use Rattle.std.proofs.lemmas.Result.{IfOk-weaker, IfErr-weaker}
use Rattle.esc_bundle.specs.declared.refusal.Refusal.{Refusal}
use Rattle.esc_bundle.specs.declared.refusal.Refusal.TheVariants.{BrokenFrame, OverLimit}
use Rattle.esc_bundle.specs.declared.fault.Fault.{Fault}
use Rattle.esc_bundle.specs.declared.fault.Fault.TheVariants.{Refused, NoMemory}
use Rattle.esc_bundle.specs.Bundle.{Named, limit, bundle_text, AreSections, IsBundle}
use Rattle.esc_bundle.specs.Tests.{GivesOrNoMemory}
use Rattle.esc_bundle.specs.Reading.{stands_at}
use Rattle.esc_bundle.specs.Writing.{in_order, within_limit, bundle_of, FaultAmong, IsUnwritten}
use Rattle.esc_bundle.proofs.Answered.{answered}
use Rattle.esc_bundle.proofs.OneReading.{may_follow, move_over}
use Rattle.esc_bundle.proofs.SectionTexts.{sections_push, no_sections}
use Rattle.esc_bundle.proofs.Standing.{stands_takes, stands_again}
use Rattle.esc_bundle.proofs.Written.{in_order_takes, in_order_again, over_limit_is, bundle_of_none}
use Rattle.esc_bundle.proofs.Written.{bundle_of_some, bundle_of_is_bundle, bundle_of_bundle, no_bundle}
use Rattle.esc_bundle.specs.TestLaws.{bind_fault}

within_limit_refuses : (text : List ℕ) (n : Refusal)
    → within_limit text ≡ Err n → (limit < length text) × (n ≡ OverLimit)
unfolding within_limit
within_limit_refuses text n e = elim (cases_lt limit (length text)) [
  | inl over ↦ let four : ◌≡◌ {A = Result (List ℕ) Refusal} (Err n) (Err OverLimit) =
      sym e ∙ over_limit_is text over in (over, cc)
  | inr within ↦ let fits : nat_le (length text) limit ≡ true = grind (arith, nat_tests) in
      absurd (cc (rw fits at e))
]

-- the first that may not be where it is
among : (before ss : List Named) (n : Refusal)
    → AreSections before → in_order before ss ≡ Err n → FaultAmong (before ++ ss) n
unfolding in_order
among before [] n old e = absurd cc
among before (s ∷ ss) n old e = elim (bind_fault (stands_at before s.name (length s.bytes)) _ n e) [
  | inl here ↦ record { before = before; section = s; after = ss; list = refl; sections = old; fault = here }
  | inr (u, stands, later) ↦
      let more = sections_push before s old (stands_takes before s.name (length s.bytes) u stands) in
      subst (λ (all : List Named). FaultAmong all n)
      (sym (move_over before s ss)) (among (before ++ (s ∷ [])) ss n more later)
]

-- sections that are refused have no bundle
pub is_unwritten : (ss : List Named) (n : Refusal) → bundle_of ss ≡ Err n → IsUnwritten ss n
unfolding bundle_of
is_unwritten ss n e = elim (cases_lt 0 (length ss)) [
  | inl some ↦ elim (bind_fault (in_order [] ss)
      (λ all. within_limit (bundle_text all)) n (sym (bundle_of_some ss some) ∙ e)) [
        | inl disorder ↦ inr (inl (among [] ss n no_sections disorder))
        | inr (all, order, long) ↦
            let taken = in_order_takes [] ss all no_sections order in
            let whole = within_limit_refuses (bundle_text all) n long in
            inr (inr (
              subst AreSections taken.1 taken.0,
              some,
              subst (λ (l : List Named). limit < length (bundle_text l)) taken.1 whole.0,
              whole.1,
            ))
      ]
  | inr none ↦
      let empty : length ss ≡ 0 = omega arith in
      let one : ◌≡◌ {A = Result (List ℕ) Refusal} (Err n) (Err BrokenFrame) =
      sym e ∙ bundle_of_none ss empty in
      inl (empty, cc)
]

-- what is in order before the rest
order_at : (before xs ys : List Named)
    → AreSections (before ++ xs) → in_order before (xs ++ ys) ≡ in_order (before ++ xs) ys
unfolding in_order
order_at before [] ys all = ap (λ (b : List Named). in_order b ys) (sym (append-nil before))
order_at before (s ∷ xs) ys all =
    let moved : AreSections ((before ++ (s ∷ [])) ++ xs) = subst AreSections (move_over before s xs) all in
    let rest : in_order (before ++ (s ∷ [])) (xs ++ ys) ≡ in_order (before ++ (s ∷ xs)) ys =
    order_at (before ++ (s ∷ [])) xs ys moved
    ∙ ap (λ (b : List Named). in_order b ys) (sym (move_over before s xs)) in
    rw (stands_again before s.name (length s.bytes) (may_follow before s xs all)) rest

disorder : (before : List Named) (s : Named) (after : List Named) (n : Refusal) → AreSections before
    → stands_at before s.name (length s.bytes) ≡ Err n → in_order [] (before ++ (s ∷ after)) ≡ Err n
unfolding in_order
disorder before s after n old fault = order_at [] before (s ∷ after) old ∙ rw fault refl

-- sections without a bundle are refused
pub unwritten_is : (ss : List Named) (n : Refusal) → IsUnwritten ss n → bundle_of ss ≡ Err n
unwritten_is ss n (inl (none, one)) = bundle_of_none ss none ∙ ap (λ (k : Refusal). Err k) (sym one)
unwritten_is ss n (inr (inl f)) =
    let some : 0 < length ss = rw f.list (omega (arith, length-append f.before (f.section ∷ f.after))) in
    let fault : in_order [] ss ≡ Err n =
    ap (in_order []) f.list ∙ disorder f.before f.section f.after n f.sections f.fault in
    bundle_of_some ss some ∙ rw fault refl
unwritten_is ss n (inr (inr (all, some, long, four))) =
    bundle_of_some ss some ∙ rw (in_order_again [] ss all) (over_limit_is (bundle_text ss) long)
    ∙ ap (λ (k : Refusal). Err k) (sym four)

-- ---- what is promised of a result for a list

-- what is known of a result that makes a bundle
pub record Made (ss : List Named) (result : Result (Vec ℕ) Fault) : Type 0 where
  pub written : IfOk result (λ v. IsBundle v.items ss)
  pub refused : IfErr result
      (λ e. (n : Refusal) → e ≡ Refused n → (body : List ℕ) → IsBundle body ss → ⊥)
  pub bundle_written : (body : List ℕ)
      → IsBundle body ss → MatchResult result (λ v. v.items ≡ body) (λ e. e ≡ NoMemory)
  pub fault_told : (n : Refusal)
      → bundle_of ss ≡ Err n → IsErrAnd result (λ e. (e ≡ Refused n) ⊎ (e ≡ NoMemory))
  pub made : IfOk result (λ v. bundle_of ss ≡ Ok v.items)
  pub unmade : IfErr result (λ e. (n : Refusal) → e ≡ Refused n → bundle_of ss ≡ Err n)
  pub unwritten : IfErr result (λ e. (n : Refusal) → e ≡ Refused n → IsUnwritten ss n)

-- a result that gives the bundle or NoMemory makes it
pub made_of : (ss : List Named) (result : Result (Vec ℕ) Fault)
    → GivesOrNoMemory (λ v. v.items) result (bundle_of ss) → Made ss result
made_of ss result told =
    let a = answered (λ (v : Vec ℕ). v.items) result (bundle_of ss) told in
    record {
      written = IfOk-weaker result _ _ (λ v is. bundle_of_is_bundle ss v.items is) a.given;
      refused = IfErr-weaker result _ _ (λ e fault n same. no_bundle ss n (fault n same)) a.refused;
      bundle_written = λ body is. a.value_given body (bundle_of_bundle ss body is);
      fault_told = a.fault_told;
      made = a.given;
      unmade = a.refused;
      unwritten = IfErr-weaker result _ _ (λ e fault n same. is_unwritten ss n (fault n same)) a.refused;
    }
