-- The function `frame` computes what the relations say.
use Rattle.std.proofs.Common.{◌≡◌, ◌⊎◌, ℕ, zero, suc, ◌+◌, ◌<◌, ◌≤◌, ◌≢◌, true}
use Rattle.std.proofs.Common.{false, List, [], ◌∷◌, ◌++◌, length, drop, Option, Some, None, Result, Ok}
use Rattle.std.proofs.Common.{Err, refl, sym, ap, subst, ◌∙◌, arith, inl, inr, append_assoc}
use Rattle.std.specs.Prelude.{nat_eq, nat_lt, nat_le, ◌&&◌, ◌==◌}
use Rattle.std.specs.List.{starts_with}
use Rattle.std.proofs.lemmas.Bool.{cases_Bool, cases_lt, eqb-true, and_parts}
use Rattle.std.proofs.lemmas.Bool.Decides.{nat_tests, Decides-eqb}
use Rattle.std.proofs.lemmas.Slice.Eq.{starts_is}
use Rattle.std.proofs.lemmas.List.{length_push, drop_at, length-drop, nil_from_length, flat_map_more}
use Rattle.std.proofs.lemmas.Option.{same_Some}
use Rattle.esc_bundle.specs.declared.refusal.Refusal.{Refusal}
use Rattle.esc_bundle.specs.declared.refusal.Refusal.TheVariants.{BrokenFrame, OverLimit}
use Rattle.esc_bundle.specs.Bundle.{Named, limit, first_line, last_line, section_text, beginning_text}
use Rattle.esc_bundle.specs.Bundle.{bundle_text, AreSections, IsBundle}
use Rattle.esc_bundle.specs.Reading.{section_at, end_at, next_at, FaultBehind, IsFault}
use Rattle.esc_bundle.specs.Frame.{frame_after, frame}
use Rattle.esc_bundle.proofs.StepFacts.{check_done, done, done_is}
use Rattle.esc_bundle.proofs.SectionTexts.{section_takes, sections_push, no_sections}
use Rattle.esc_bundle.proofs.OneReading.{more_of, no_more, one_list, no_bundle_fault, one_fault}
use Rattle.esc_bundle.specs.TestLaws.{bind_done}

-- ---- what is at a place

-- the last line alone comes after some sections
pub record Ends (before : List Named) (rest : List ℕ) : Type 0 where
  pub rest_is : rest ≡ last_line
  pub some : 0 < length before

end_takes : (before : List Named) (rest : List ℕ) (x : Option (Named × List ℕ))
    → end_at before rest ≡ Ok x → (length rest ≡ 4) × (0 < length before) × (x ≡ None)
unfolding end_at
end_takes before rest x e =
    let c = check_done ((length rest == 4) && nat_lt 0 (length before)) BrokenFrame _ x e in
    let both = and_parts (length rest == 4) (nat_lt 0 (length before)) c.0 in (
      eqb-true _ _ both.0,
      let one : nat_lt 0 (length before) ≡ true = both.1 in
          grind (arith, nat_tests),
      sym (done_is None x c.1),
    )

last_line_alone : (rest : List ℕ)
    → starts_with nat_eq rest last_line ≡ true → length rest ≡ 4 → rest ≡ last_line
last_line_alone rest begins len =
    let whole : rest ≡ last_line ++ drop 4 rest = (starts_is Decides-eqb rest last_line _ refl).0 begins in
    let nothing : drop 4 rest ≡ [] = nil_from_length _ (omega (arith, length-drop 4 rest)) in
    whole ∙ ap (λ (x : List ℕ). last_line ++ x) nothing

-- where nothing more is read the frame ends
pub next_end_takes : (before : List Named) (rest : List ℕ) → next_at before rest ≡ no_more → Ends before rest
unfolding next_at
next_end_takes before rest e = elim (cases_Bool (starts_with nat_eq rest last_line)) [
  | inl begins ↦ let t = end_takes before rest None (rw begins at e) in
      record { rest_is = last_line_alone rest begins t.0; some = t.1 }
  | inr other ↦ let s = bind_done (section_at before rest) _ None (rw other at e) in
      absurd (let no : ◌≡◌ {A = Option (Named × List ℕ)} (Some s.0) None = done_is _ _ s.2 in cc)
]

-- what is read next is a section
pub next_section_takes : (before : List Named) (rest : List ℕ) (x : Named × List ℕ)
    → next_at before rest ≡ more_of x → section_at before rest ≡ Ok x
unfolding next_at
next_section_takes before rest x e = elim (cases_Bool (starts_with nat_eq rest last_line)) [
  | inl begins ↦ let t = end_takes before rest (Some x) (rw begins at e) in absurd (let no = t.2 in cc)
  | inr other ↦ let s = bind_done (section_at before rest) _ (Some x) (rw other at e) in
      let same : s.0 ≡ x = same_Some s.0 x (done_is _ _ s.2) in s.1 ∙ ap done same
]

-- what one more section leaves
pub record More (body : List ℕ) (before : List Named) (s : Named) (after : List ℕ) : Type 0 where
  pub text : body ≡ beginning_text (before ++ (s ∷ [])) ++ after
  pub sections : AreSections (before ++ (s ∷ []))

-- a section more after those that were read
pub one_more : (body : List ℕ) (before : List Named) (rest : List ℕ) (x : Named × List ℕ)
    → body ≡ beginning_text before ++ rest
    → AreSections before → next_at before rest ≡ more_of x → More body before x.0 x.1
one_more body before rest x e old next =
    let t = section_takes before rest x (next_section_takes before rest x next) in
    record {
      text = e ∙ ap (λ (l : List ℕ). beginning_text before ++ l) t.0
          ∙ sym (append_assoc (beginning_text before) (section_text x.0) x.1)
          ∙ ap (λ (l : List ℕ). l ++ x.1) (flat_map_more section_text first_line before x.0);
      sections = sections_push before x.0 old t.1;
    }

-- no section comes after 64
pub next_has_room : (before : List Named) (rest : List ℕ) (x : Named × List ℕ)
    → next_at before rest ≡ more_of x → length before < 64
next_has_room before rest x next = (section_takes before rest x (next_section_takes before rest x next)).1.room

-- ---- from a place on

-- the equations of `frame_after`
pub frame_at_end : (steps : ℕ) (before : List Named) (rest : List ℕ)
    → next_at before rest ≡ no_more → frame_after (suc steps) before rest ≡ Ok before
unfolding frame_after
frame_at_end steps before rest next = rw next refl

-- a section more takes one step
pub frame_at_section : (steps : ℕ) (before : List Named) (rest : List ℕ) (x : Named × List ℕ)
    → next_at before rest ≡ more_of x
    → frame_after (suc steps) before rest ≡ frame_after steps (before ++ (x.0 ∷ [])) x.1
unfolding frame_after
frame_at_section steps before rest x next = rw next refl

-- a fault ends the reading
pub frame_at_fault : (steps : ℕ) (before : List Named) (rest : List ℕ) (n : Refusal)
    → next_at before rest ≡ Err n → frame_after (suc steps) before rest ≡ Err n
unfolding frame_after
frame_at_fault steps before rest n next = rw next refl

-- what a result says of a body: its sections, or its fault after the first line
abbrev Says : List ℕ → Result (List Named) Refusal → Type 0
Says body (Ok ss) = (body ≡ bundle_text ss) × AreSections ss × (0 < length ss)
Says body (Err n) = FaultBehind body n

at_end : (body : List ℕ) (before : List Named) (rest : List ℕ) → body ≡ beginning_text before ++ rest
    → AreSections before → Ends before rest → Says body (Ok before)
at_end body before rest e old ends =
    (e ∙ ap (λ (l : List ℕ). beginning_text before ++ l) ends.rest_is, old, ends.some)

says_by : (steps : ℕ) (body : List ℕ) (before : List Named)
    (rest : List ℕ) (next : Result (Option (Named × List ℕ)) Refusal) → next_at before rest ≡ next
    → length before + suc steps ≡ 65 → body ≡ beginning_text before ++ rest → AreSections before
    → ((s : Named) (after : List ℕ)
    → More body before s after → Says body (frame_after steps (before ++ (s ∷ [])) after))
    → Says body (frame_after (suc steps) before rest)
says_by steps body before rest (Ok None) next len e old more = rw (frame_at_end steps before rest next)
    (at_end body before rest e old (next_end_takes before rest next))
says_by steps body before rest (Ok (Some x)) next len e old more = rw (frame_at_section
    steps before rest x next) (more x.0 x.1 (one_more body before rest x e old next))
says_by steps body before rest (Err n) next len e old more = rw (frame_at_fault steps before
    rest n next) (record { before = before; rest = rest; text = e; sections = old; fault = next })

says : (steps : ℕ) (body : List ℕ) (before : List Named) (rest : List ℕ)
    → length before + steps ≡ 65 → body ≡ beginning_text before ++ rest
    → AreSections before → Says body (frame_after steps before rest)
says zero body before rest len e old = absurd (omega (arith, len, old.few))
says (suc steps) body before rest len e old = says_by steps body before rest (next_at before rest) refl len e old
    (λ s after m. says steps
    body (before ++ (s ∷ [])) after (omega (arith, len, length_push before s)) m.text m.sections)

-- ---- from the first line on

-- a text over the limit is refused as such
pub frame_over_limit : (body : List ℕ) → limit < length body → frame body ≡ Err OverLimit
unfolding frame
frame_over_limit body lt = let over : nat_le (length body) limit ≡ false = grind (arith, nat_tests) in rw over refl

-- a text without the first line is no frame
pub frame_elsewhere : (body : List ℕ) → length body ≤ limit
    → ((rest : List ℕ) → body ≢ first_line ++ rest) → frame body ≡ Err BrokenFrame
unfolding frame
frame_elsewhere body le other =
    let within : nat_le (length body) limit ≡ true = grind (arith, nat_tests) in
    elim (cases_Bool (starts_with nat_eq body first_line)) [
      | inl begins ↦ absurd (other _ ((starts_is Decides-eqb body first_line _ refl).0 begins))
      | inr no_line ↦ rw (within, no_line) refl
    ]

-- a text with the first line is read from the line after it
pub frame_begins : (body rest : List ℕ)
    → length body ≤ limit → body ≡ first_line ++ rest → frame body ≡ frame_after 65 [] rest
unfolding frame
frame_begins body rest le text =
    let within : nat_le (length body) limit ≡ true = grind (arith, nat_tests) in
    let begins : starts_with nat_eq body first_line ≡ true =
    (starts_is Decides-eqb body first_line _ refl).1 rest text in
    let behind : drop 16 body ≡ rest = ap (drop 16) text ∙ drop_at first_line rest 16 refl in
    rw (within, begins, behind) refl

-- ---- a body has the meaning that `frame` gives it

abbrev Means : List ℕ → Result (List Named) Refusal → Type 0
Means body (Ok ss) = IsBundle body ss
Means body (Err n) = IsFault body n

means_by_says : (body : List ℕ) (r : Result (List Named) Refusal)
    → length body ≤ limit → Says body r → Means body r
means_by_says body (Ok ss) le says_so = record { text = says_so.0; sections = says_so.1; some = says_so.2; size = le }
means_by_says body (Err n) le behind = inr (inr (le, behind))

no_first_line : (body : List ℕ)
    → starts_with nat_eq body first_line ≡ false → (rest : List ℕ) → body ≢ first_line ++ rest
no_first_line body other rest same = let begins : starts_with nat_eq body first_line ≡ true =
    (starts_is Decides-eqb body first_line _ refl).1 rest same in absurd cc

means : (body : List ℕ) → Means body (frame body)
means body = elim (cases_lt limit (length body)) [
  | inl lt ↦ rw (frame_over_limit body lt) (inl (lt, refl))
  | inr le ↦ elim (cases_Bool (starts_with nat_eq body first_line)) [
    | inl begins ↦
        let text : body ≡ first_line ++ drop 16 body = (starts_is Decides-eqb body first_line _ refl).0 begins in
        rw (frame_begins body (drop 16 body) le text)
        (means_by_says body _ le (says 65 body [] (drop 16 body) refl text no_sections))
    | inr other ↦ let lacks = no_first_line body other in
        rw (frame_elsewhere body le lacks) (inr (inl (le, lacks, refl)))
  ]
]

bundle_by : (body : List ℕ) (ss : List Named) (r : Result (List Named) Refusal)
    → Means body r → IsBundle body ss → r ≡ Ok ss
bundle_by body ss (Ok ts) p q = ap done (one_list body ts ss p q)
bundle_by body ss (Err n) p q = absurd (no_bundle_fault body ss n q p)

fault_by : (body : List ℕ) (n : Refusal) (r : Result (List Named) Refusal)
    → Means body r → IsFault body n → r ≡ Err n
fault_by body n (Ok ss) p q = absurd (no_bundle_fault body ss n p q)
fault_by body n (Err m) p q = let same : m ≡ n = one_fault body m n p q in rw same refl

-- what is read as a frame is a bundle of its sections
pub frame_is_bundle : (body : List ℕ) (ss : List Named) → frame body ≡ Ok ss → IsBundle body ss
frame_is_bundle body ss e = subst (Means body) e (means body)

-- a bundle is read as its sections
pub frame_of_bundle : (body : List ℕ) (ss : List Named) → IsBundle body ss → frame body ≡ Ok ss
frame_of_bundle body ss p = bundle_by body ss (frame body) (means body) p

-- what is refused has the fault
pub frame_is_fault : (body : List ℕ) (n : Refusal) → frame body ≡ Err n → IsFault body n
frame_is_fault body n e = subst (Means body) e (means body)

-- a text with a fault is refused by it
pub frame_of_fault : (body : List ℕ) (n : Refusal) → IsFault body n → frame body ≡ Err n
frame_of_fault body n p = fault_by body n (frame body) (means body) p

by_cases : (body : List ℕ) (r : Result (List Named) Refusal)
    → Means body r → ((ss : List Named) × IsBundle body ss) ⊎ ((n : Refusal) × IsFault body n)
by_cases body (Ok ss) p = inl (ss, p)
by_cases body (Err n) p = inr (n, p)

-- every text is a bundle or has a fault
pub bundle_or_fault : (body : List ℕ)
    → ((ss : List Named) × IsBundle body ss) ⊎ ((n : Refusal) × IsFault body n)
bundle_or_fault body = by_cases body (frame body) (means body)
