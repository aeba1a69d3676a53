-- Sections that are written in order.
use Rattle.std.proofs.Common.{◌≡◌, ℕ, ◌+◌, ◌<◌, ◌≤◌, true, false, List, [], ◌∷◌, ◌++◌}
use Rattle.std.proofs.Common.{length, take, drop, get_or, map, Ok, Err, refl, sym, ap, subst, ◌∙◌}
use Rattle.std.proofs.Common.{arith}
use Rattle.std.specs.Prelude.{String, nat_lt, nat_le}
use Rattle.std.specs.Global.{Vec}
use Rattle.std.specs.declared.alloc.Global.{Global}
use Rattle.std.specs.List.{flat_map}
use Rattle.std.proofs.lemmas.Bool.Decides.{nat_tests}
use Rattle.std.proofs.lemmas.Grind.{flat_map-append}
use Rattle.std.proofs.lemmas.List.{flat_map_more, append-nil, drop_more, drop_all, take_all}
use Rattle.std.proofs.lemmas.List.{take-append-drop, length-append, map-append, map_more, length-map}
use Rattle.esc_bundle.specs.declared.refusal.Refusal.{Refusal}
use Rattle.esc_bundle.specs.declared.refusal.Refusal.TheVariants.{BrokenFrame, OverLimit}
use Rattle.esc_bundle.specs.declared.section.Section.{Section}
use Rattle.esc_bundle.specs.Bundle.{Named, view, views, limit, first_line, last_line, section_text}
use Rattle.esc_bundle.specs.Bundle.{beginning_text, bundle_text, AreSections, IsBundle}
use Rattle.esc_bundle.specs.Tests.{◌>>=◌}
use Rattle.esc_bundle.specs.Reading.{stands_at}
use Rattle.esc_bundle.specs.Writing.{named, in_order, within_limit, bundle_of}
use Rattle.esc_bundle.proofs.StepFacts.{check_done, done, done_is, done_or_fault}
use Rattle.esc_bundle.proofs.Standing.{stands_takes, stands_again}
use Rattle.esc_bundle.proofs.SectionTexts.{sections_push, no_sections}
use Rattle.esc_bundle.proofs.OneReading.{may_follow, move_over}
use Rattle.esc_bundle.specs.TestLaws.{bind_done}

-- ---- sections in order

-- what is in order are sections
pub in_order_takes : (before ss all : List Named)
    → AreSections before → in_order before ss ≡ Ok all → AreSections all × (all ≡ before ++ ss)
unfolding in_order
in_order_takes before [] all old e = let same : before ≡ all = done_is before all e in
    (subst AreSections same old, sym same ∙ sym (append-nil before))
in_order_takes before (s ∷ ss) all old e =
    let step = bind_done (stands_at before s.name (length s.bytes)) _ all e in
    let may = stands_takes before s.name (length s.bytes) step.0 step.1 in
    let rest = in_order_takes (before ++ (s ∷ [])) ss all (sections_push before s old may) step.2 in
    (rest.0, rest.1 ∙ sym (move_over before s ss))

-- sections are in order
pub in_order_again : (before ss : List Named)
    → AreSections (before ++ ss) → in_order before ss ≡ Ok (before ++ ss)
unfolding in_order
in_order_again before [] all = ap done (sym (append-nil before))
in_order_again before (s ∷ ss) all =
    let moved : AreSections ((before ++ (s ∷ [])) ++ ss) = subst AreSections (move_over before s ss) all in
    let rest : in_order (before ++ (s ∷ [])) ss ≡ Ok (before ++ (s ∷ ss)) =
    in_order_again (before ++ (s ∷ [])) ss moved ∙ ap done (sym (move_over before s ss)) in
    rw (stands_again before s.name (length s.bytes) (may_follow before s ss all), rest) refl

-- ---- the whole

-- a text within the limit stays
pub within_limit_is : (text : List ℕ) → length text ≤ limit → within_limit text ≡ Ok text
unfolding within_limit
within_limit_is text le = let fits : nat_le (length text) limit ≡ true = grind (arith, nat_tests) in rw fits refl

-- a text over the limit is refused
pub over_limit_is : (text : List ℕ) → limit < length text → within_limit text ≡ Err OverLimit
unfolding within_limit
over_limit_is text lt = let over : nat_le (length text) limit ≡ false = grind (arith, nat_tests) in rw over refl

within_limit_takes : (text body : List ℕ)
    → within_limit text ≡ Ok body → (text ≡ body) × (length text ≤ limit)
unfolding within_limit
within_limit_takes text body e =
    let c = check_done (nat_le (length text) limit) OverLimit _ body e in
    (done_is text body c.1, let fits : nat_le (length text) limit ≡ true = c.0 in grind (arith, nat_tests))

-- no sections have no bundle
pub bundle_of_none : (ss : List Named) → length ss ≡ 0 → bundle_of ss ≡ Err BrokenFrame
unfolding bundle_of
bundle_of_none ss none = let empty : nat_lt 0 (length ss) ≡ false = grind (arith, nat_tests) in rw empty refl

-- sections have the bundle of their text, if they are in order
pub bundle_of_some : (ss : List Named)
    → 0 < length ss → bundle_of ss ≡ (in_order [] ss >>= λ all. within_limit (bundle_text all))
unfolding bundle_of
bundle_of_some ss some = let one : nat_lt 0 (length ss) ≡ true = grind (arith, nat_tests) in rw one refl

-- what is made of sections is a bundle of them
pub bundle_of_is_bundle : (ss : List Named) (body : List ℕ) → bundle_of ss ≡ Ok body → IsBundle body ss
unfolding bundle_of
bundle_of_is_bundle ss body e =
    let some = check_done (nat_lt 0 (length ss)) BrokenFrame _ body e in
    let order = bind_done (in_order [] ss) _ body some.1 in
    let whole = within_limit_takes (bundle_text order.0) body order.2 in
    let all = in_order_takes [] ss order.0 no_sections order.1 in
    let text : bundle_text ss ≡ body = ap bundle_text (sym all.1) ∙ whole.0 in
    record {
      text = sym text;
      sections = subst AreSections all.1 all.0;
      some = let one : nat_lt 0 (length ss) ≡ true = some.0 in grind (arith, nat_tests);
      size = subst (λ (t : List ℕ). length t ≤ limit) whole.0 whole.1;
    }

-- a bundle's sections make it again
pub bundle_of_bundle : (ss : List Named) (body : List ℕ) → IsBundle body ss → bundle_of ss ≡ Ok body
bundle_of_bundle ss body is =
    let fits : length (bundle_text ss) ≤ limit = subst (λ (t : List ℕ). length t ≤ limit) is.text is.size in
    bundle_of_some ss is.some ∙ rw (in_order_again [] ss is.sections)
    (within_limit_is (bundle_text ss) fits ∙ ap done (sym is.text))

-- sections that are refused have no bundle at all
pub no_bundle : (ss : List Named) (n : Refusal)
    → bundle_of ss ≡ Err n → (body : List ℕ) → IsBundle body ss → ⊥
no_bundle ss n fault body is = done_or_fault body n (sym (bundle_of_bundle ss body is) ∙ fault)

-- ---- the steps of `bundle_of` on a list of parts

-- no sections are refused as a broken frame
pub none_made : (list : List (String Global × Vec ℕ)) (n : Refusal)
    → length list ≡ 0 → BrokenFrame ≡ n → bundle_of (map named list) ≡ Err n
none_made list n none one =
    bundle_of_none (map named list) (length-map list named ∙ none) ∙ ap (λ (m : Refusal). Err m) one

-- sections out of order are refused
pub disorder_made : (list : List (String Global × Vec ℕ)) (n : Refusal)
    → 0 < length list → in_order [] (map named list) ≡ Err n → bundle_of (map named list) ≡ Err n
disorder_made list n some fault = bundle_of_some (map named list) (rw (length-map list named) some) ∙ rw fault refl

-- sections in order make their text, within the limit
pub order_made : (list : List (String Global × Vec ℕ)) (all : List Named) → 0 < length list → in_order
    [] (map named list) ≡ Ok all → bundle_of (map named list) ≡ within_limit (bundle_text all)
order_made list all some order = bundle_of_some (map named list) (rw (length-map list named) some) ∙ rw order refl

-- ---- the loops

-- what is in order so far, and then the others
next_part : (list : List (String Global × Vec ℕ)) (i : ℕ) (item : String Global × Vec ℕ)
    → i < length list → item ≡ get_or list i item
    → map named (drop i list) ≡ named item ∷ map named (drop (i + 1) list)
next_part list i item lt is = ap (map named)
    (drop_more list i item lt ∙ ap (λ (x : String Global × Vec ℕ). x ∷ drop (i + 1) list) (sym is))

-- one more section is in order
pub in_order_more : (list : List (String Global × Vec ℕ)) (i : ℕ) (item : String Global × Vec ℕ)
    (before : List Named) (u : Unit {0}) → i < length list → item ≡ get_or list i item
    → stands_at before (named item).name (length (named item).bytes) ≡ Ok u → in_order before (map
    named (drop i list)) ≡ in_order (before ++ (named item ∷ [])) (map named (drop (i + 1) list))
unfolding in_order
in_order_more list i item before u lt is stands = rw (next_part list i item lt is, stands) refl

-- a section that may not stand ends it
pub in_order_stops : (list : List (String Global × Vec ℕ)) (i : ℕ) (item : String Global × Vec ℕ)
    (before : List Named) (n : Refusal) → i < length list → item ≡ get_or list i item
    → stands_at before (named item).name (length (named item).bytes) ≡ Err n
    → in_order before (map named (drop i list)) ≡ Err n
unfolding in_order
in_order_stops list i item before n lt is fault = rw (next_part list i item lt is, fault) refl

-- after the last section all are in order
pub in_order_ends : (list : List (String Global × Vec ℕ)) (i : ℕ) (before : List Named)
    → length list ≤ i → in_order before (map named (drop i list)) ≡ Ok before
unfolding in_order
in_order_ends list i before le = rw (drop_all i list le) refl

-- the text of the first sections
abbrev pub text_of : List Section → ℕ → List ℕ
text_of sections i = beginning_text (views (take i sections))

-- one more section is written
pub text_more : (sections : List Section) (i : ℕ) (d : Section) (text more : List ℕ)
    → i < length sections → text ≡ text_of sections i
    → more ≡ text ++ section_text (view (get_or sections i d)) → more ≡ text_of sections (i + 1)
text_more sections i d text more lt is pushed =
    let s = view (get_or sections i d) in
    let cut : views (take (i + 1) sections) ≡ views (take i sections) ++ (s ∷ []) = map_more view sections i d lt in
    pushed ∙ ap (λ (t : List ℕ). t ++ section_text s) is ∙ flat_map_more
    section_text first_line (views (take i sections)) s ∙ ap beginning_text (sym cut)

-- after the last section the text is whole
pub text_whole : (sections : List Section) (i : ℕ) (text more : List ℕ) → length sections ≤ i
    → text ≡ text_of sections i → more ≡ text ++ last_line → more ≡ bundle_text (views sections)
text_whole sections i text more le is pushed = pushed ∙ ap (λ (t : List ℕ). t ++ last_line) is
    ∙ ap (λ (ss : List Section). bundle_text (views ss)) (take_all i sections le)

part_bounded : (p q : List ℕ) → length (first_line ++ p) ≤ length ((first_line ++ (p ++ q)) ++ last_line)
part_bounded p q = simp length-append (omega arith)

-- the text of the first sections is no longer than the whole
text_bounded : (sections : List Section) (i : ℕ)
    → length (text_of sections i) ≤ length (bundle_text (views sections))
text_bounded sections i =
    let cut : views sections ≡ views (take i sections) ++ views (drop i sections) = ap views
    (sym (take-append-drop i sections)) ∙ map-append view (take i sections) (drop i sections) in
    let texts = flat_map-append section_text (views (take i sections)) (views (drop i sections)) in
    let whole : bundle_text (views sections) ≡ (first_line ++ (flat_map
    section_text (views (take i sections)) ++ flat_map section_text (views (drop i sections))))
    ++ last_line = ap bundle_text cut ∙ ap (λ (t : List ℕ). (first_line ++ t) ++ last_line) texts in
    subst (λ (t : List ℕ). length (text_of sections i) ≤ length t) (sym whole) (part_bounded (flat_map
    section_text (views (take i sections))) (flat_map section_text (views (drop i sections))))

-- where the text is too long already, the whole is
pub over_limit_already : (sections : List Section) (i : ℕ) (text : List ℕ) → text ≡ text_of sections i
    → limit < length text → within_limit (bundle_text (views sections)) ≡ Err OverLimit
over_limit_already sections i text is lt =
    let long : limit < length (text_of sections i) = subst (λ (t : List ℕ). limit < length t) is lt in
    over_limit_is (bundle_text (views sections)) (omega (arith, text_bounded sections i))
