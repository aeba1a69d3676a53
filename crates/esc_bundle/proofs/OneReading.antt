-- The text of a section is read as that section, whatever follows it; so a text has one reading.
use Rattle.std.proofs.Common.{◌≡◌, ◌⊎◌, ℕ, ◌+◌, ◌^◌, ◌<◌, ◌≤◌, ◌≢◌, true, false}
use Rattle.std.proofs.Common.{List, [], ◌∷◌, ◌++◌, length, take, drop, get_or, Option, Some, None}
use Rattle.std.proofs.Common.{Result, Ok, Err, refl, sym, ap, subst, ◌∙◌, arith, inl, inr, append_assoc}
use Rattle.std.specs.Prelude.{nat_eq, nat_lt, not, ◌||◌, ◌==◌, slice_index, IfSome, slice_get}
use Rattle.std.specs.List.{list_all, list_any, flat_map, starts_with}
use Rattle.std.specs.Char.{is_ascii_digit}
use Rattle.std.specs.Fmt.{decimal}
use Rattle.std.specs.Str.{bytes_eq}
use Rattle.std.specs.Str.Parse.{digits_value}
use Rattle.std.proofs.lemmas.Bool.{cases_lt, cases_Bool, and_parts, or_parts, false_from_ne_true}
use Rattle.std.proofs.lemmas.Bool.Decides.{nat_tests, Decides-eqb}
use Rattle.std.proofs.lemmas.Slice.Eq.{bytes_eq-Decides, starts_is}
use Rattle.std.proofs.lemmas.Fmt.{digits_decimal, digits_value-decimal, decimal_nonempty, first_decimal, decimal_digit}
use Rattle.std.proofs.lemmas.List.{length-append, take_at, drop_at, get_or_at, append_cancel_left}
use Rattle.std.proofs.lemmas.List.{get_or_append_left, append-nil, length_push}
use Rattle.std.proofs.lemmas.List.Folds.{list_any_none, list_any-append}
use Rattle.std.proofs.lemmas.List.Concat.{flat_map-cons}
use Rattle.esc_bundle.specs.declared.refusal.Refusal.{Refusal}
use Rattle.esc_bundle.specs.declared.refusal.Refusal.TheVariants.{BrokenFrame}
use Rattle.esc_bundle.specs.Bundle.{Named, limit, first_line, last_line, envelope_name, is_name_byte}
use Rattle.esc_bundle.specs.Bundle.{is_name, is_length, section_text, beginning_text, AreSections}
use Rattle.esc_bundle.specs.Bundle.{IsBundle}
use Rattle.esc_bundle.specs.Reading.{parted, length_at, section_at, end_at, next_at, FaultBehind, IsFault}
use Rattle.esc_bundle.proofs.StepFacts.{done_is, done_or_fault}
use Rattle.esc_bundle.proofs.Standing.{stands_again}
use Rattle.esc_bundle.proofs.SectionTexts.{MayFollow}
use Rattle.esc_bundle.specs.ListLaws.{digits_model}

-- ---- the bytes round the first c

abbrev Lacks : ℕ → List ℕ → Type 0
Lacks c bs = list_any (λ b. b == c) bs ≡ false

parted_again : (c : ℕ) (a b : List ℕ) → Lacks c a → parted c (a ++ (c ∷ b)) ≡ Some (a, b)
parted_again c [] b h = let same : (c == c) ≡ true = grind (arith, nat_tests) in rw same refl
parted_again c (x ∷ a) b h =
    let p = or_parts (x == c) _ h in
    rw (p.0, parted_again c a b p.1) refl

name_byte_apart : (c b : ℕ) → (c ≡ 10) ⊎ (c ≡ 32) → is_name_byte b ≡ true → (b == c) ≡ false
name_byte_apart c b (inl e) h = rw e (grind (arith, nat_tests))
name_byte_apart c b (inr e) h = rw e (grind (arith, nat_tests))

digit_apart : (b : ℕ) → is_ascii_digit b ≡ true → (b == 10) ≡ false
digit_apart b h = grind (arith, nat_tests)

name_lacks : (c : ℕ) (name : List ℕ)
    → (c ≡ 10) ⊎ (c ≡ 32) → list_all is_name_byte name ≡ true → Lacks c name
name_lacks c [] k h = refl
name_lacks c (b ∷ bs) k h = let p = and_parts _ _ h in rw (name_byte_apart c b k p.0, name_lacks c bs k p.1) refl

digits_lack : (ds : List ℕ) → list_all is_ascii_digit ds ≡ true → Lacks 10 ds
digits_lack [] h = refl
digits_lack (b ∷ bs) h = let p = and_parts _ _ h in rw (digit_apart b p.0, digits_lack bs p.1) refl

-- ---- a length's text

is_length-decimal : (n : ℕ) → n ≤ limit → is_length (decimal n) ≡ true
is_length-decimal n small =
    let wide : n < 2 ^ 64 = omega arith in
    let some : nat_lt 0 (length (decimal n)) ≡ true = let k = decimal_nonempty n wide in grind (arith, nat_tests) in
    let digits : list_all is_ascii_digit (decimal n) ≡ true = digits_decimal digits_model n wide in
    let leading : (not (slice_index (decimal n) 0 == 48) || (length (decimal n) == 1)) ≡ true = elim (cases_lt 0 n) [
      | inl above ↦ let k : (slice_index (decimal n) 0 == 48) ≡ false =
          let f = first_decimal n above wide in grind (arith, nat_tests) in rw k refl
      | inr none ↦ let e : n ≡ 0 = omega arith in
          rw e (let d : decimal 0 ≡ 48 ∷ [] = decimal_digit 0 (omega arith) in rw d refl)
    ] in
    rw (some, digits, leading) refl

name_all : (name : List ℕ) → is_name name ≡ true → list_all is_name_byte name ≡ true
name_all name h = (and_parts _ _ h).1

length_again : (before : List Named) (s : Named)
    → MayFollow before s → length_at before s.name (decimal (length s.bytes)) ≡ Ok (length s.bytes)
unfolding length_at
length_again before s may =
    let small = may.small in
    let value : digits_value 10 (decimal (length s.bytes)) ≡ length s.bytes =
    digits_value-decimal digits_model (length s.bytes) (omega arith) in
    rw (is_length-decimal (length s.bytes) small, value, stands_again before s.name (length s.bytes) may) refl

-- the text of a section is read, whatever follows it
pub section_again : (before : List Named) (s : Named) (after : List ℕ)
    → MayFollow before s → section_at before (section_text s ++ after) ≡ Ok (s, after)
unfolding section_at
section_again before s after may =
    let small = may.small in
    let size = decimal (length s.bytes) in
    let name_fits = name_all s.name may.named in
    let digits : list_all is_ascii_digit size ≡ true = digits_decimal digits_model (length s.bytes) (omega arith) in
    let line_lacks : Lacks 10 (s.name ++ (32 ∷ size)) = list_any-append _ s.name (32 ∷ size)
    ∙ rw (name_lacks 10 s.name (inl refl) name_fits, digits_lack size digits) refl in
    let regrouped : section_text s
    ++ after ≡ (s.name ++ (32 ∷ size)) ++ (10 ∷ (s.bytes ++ (10 ∷ after))) = simp append_assoc in
    let lines : parted 10 (section_text s ++ after)
    ≡ Some (s.name ++ (32 ∷ size), s.bytes ++ (10 ∷ after)) = ap (parted 10) regrouped
    ∙ parted_again 10 (s.name ++ (32 ∷ size)) (s.bytes ++ (10 ∷ after)) line_lacks in
    let words : parted 32 (s.name ++ (32 ∷ size)) ≡ Some (s.name, size) =
    parted_again 32 s.name size (name_lacks 32 s.name (inr refl) name_fits) in
    let lt : nat_lt (length s.bytes) (length (s.bytes ++ (10 ∷ after))) ≡ true =
    let k = length-append s.bytes (10 ∷ after) in grind (arith, nat_tests) in
    let feed : slice_index (s.bytes ++ (10 ∷ after)) (length s.bytes) ≡ 10 =
    get_or_at s.bytes 10 after 0 (length s.bytes) refl in
    let front : take (length s.bytes) (s.bytes ++ (10 ∷ after)) ≡ s.bytes =
    take_at s.bytes (10 ∷ after) (length s.bytes) refl in
    let back : drop (length s.bytes + 1) (s.bytes ++ (10 ∷ after)) ≡ after =
    ap (drop (length s.bytes + 1)) (sym (append_assoc s.bytes (10 ∷ []) after))
    ∙ drop_at (s.bytes ++ (10 ∷ [])) after (length s.bytes + 1) (length_push s.bytes 10) in
    rw (lines, words, length_again before s may, lt, feed, front, back) refl

-- ---- the last line and a section begin differently

section_at_end : (more : List ℕ) (before : List Named) → section_at before (last_line ++ more) ≡ Err BrokenFrame
unfolding section_at
section_at_end more before = refl

section_begins : (before : List Named) (rest : List ℕ) (x : Named × List ℕ)
    → section_at before rest ≡ Ok x → starts_with nat_eq rest last_line ≡ false
section_begins before rest x read = elim (cases_Bool (starts_with nat_eq rest last_line)) [
  | inr other ↦ other
  | inl same ↦
      let text : rest ≡ last_line ++ drop 4 rest = (starts_is Decides-eqb rest last_line _ refl).0 same in
      let none : section_at before rest ≡ Err BrokenFrame =
      ap (section_at before) text ∙ section_at_end (drop 4 rest) before in
      absurd (cc)
]

-- a section and what follows it, where the bundle does not end
abbrev pub more_of : Named × List ℕ → Result (Option (Named × List ℕ)) Refusal
more_of x = Ok (Some x)

-- the bundle ends
abbrev pub no_more : Result (Option (Named × List ℕ)) Refusal
no_more = Ok None

-- a section that is there is read as the next one
pub next_section_again : (before : List Named) (rest : List ℕ) (x : Named × List ℕ)
    → section_at before rest ≡ Ok x → next_at before rest ≡ more_of x
unfolding next_at
next_section_again before rest x read = rw (section_begins before rest x read, read) refl

-- the last line is read as the end, if a section is before it
pub next_end_again : (before : List Named) → 0 < length before → next_at before last_line ≡ no_more
unfolding next_at end_at
next_end_again before some = let one : nat_lt 0 (length before) ≡ true = grind (arith, nat_tests) in rw one refl

-- where the last line is there is no section
end_is_no_section : (before : List Named) (more : List ℕ) (x : Named × List ℕ)
    → section_at before (last_line ++ more) ≡ Ok x → ⊥
end_is_no_section before more x read = done_or_fault x BrokenFrame (sym read ∙ section_at_end more before)

-- ---- sections in order

first_of_all : (before : List Named) (s : Named) (more : List Named) → length before ≡ 0
    → IfSome (slice_get (before ++ (s ∷ more)) 0) (λ t. t.name ≡ envelope_name) → s.name ≡ envelope_name
first_of_all [] s more none h = h
first_of_all (b ∷ before) s more none h = absurd (omega arith)

-- each section may come after those before it
pub may_follow : (before : List Named) (s : Named) (more : List Named)
    → AreSections (before ++ (s ∷ more)) → MayFollow before s
may_follow before s more all =
    let at = length before in
    let in_range : at < length (before ++ (s ∷ more)) = omega (arith, length-append before (s ∷ more)) in
    let is_s : get_or (before ++ (s ∷ more)) at s ≡ s = get_or_at before s more s at refl in
    record {
      named = rw is_s at (all.named at s in_range);
      new = list_any_none _ before (λ k d lt.
          let earlier : get_or (before ++ (s ∷ more)) k d ≡ get_or before k d =
          get_or_append_left before (s ∷ more) d k lt in
          let here : get_or (before ++ (s ∷ more)) at d ≡ s = get_or_at before s more d at refl in
          let differ : (get_or before k d).name ≢ s.name = rw (earlier, here) at (all.distinct k at d lt in_range) in
          let test = bytes_eq-Decides (get_or before k d).name s.name in
          false_from_ne_true (bytes_eq (get_or before k d).name s.name) (λ same. differ (test.0 same)));
      room = omega (arith, all.few, length-append before (s ∷ more));
      small = rw is_s at (all.small at s in_range);
      first = λ none. first_of_all before s more none all.first;
    }

-- ---- two readings of one text

-- the sections b go on from the sections a
abbrev GoesOn : List Named → List ℕ → List Named → List ℕ → Type 0
GoesOn a x b y = (s : Named)
    × (more : List Named) × (b ≡ a ++ (s ∷ more)) × (x ≡ flat_map section_text (s ∷ more) ++ y)

abbrev Compared : List Named → List ℕ → List Named → List ℕ → Type 0
Compared a x b y = ((a ≡ b) × (x ≡ y)) ⊎ (GoesOn a x b y ⊎ GoesOn b y a x)

compared_cons : (s : Named) (a : List Named) (x : List ℕ) (b : List Named) (y : List ℕ)
    → Compared a x b y → Compared (s ∷ a) x (s ∷ b) y
compared_cons s a x b y (inl same) = inl (ap (λ (l : List Named). s ∷ l) same.0, same.1)
compared_cons s a x b y (inr (inl longer)) =
    inr (inl (longer.0, longer.1, ap (λ (l : List Named). s ∷ l) longer.2, longer.3))
compared_cons s a x b y (inr (inr longer)) =
    inr (inr (longer.0, longer.1, ap (λ (l : List Named). s ∷ l) longer.2, longer.3))

-- a section moves from what follows to what was read
pub move_over : (before : List Named) (s : Named) (more : List Named)
    → before ++ (s ∷ more) ≡ (before ++ (s ∷ [])) ++ more
move_over before s more = simp append_assoc

compare : (before a : List Named) (x : List ℕ) (b : List Named) (y : List ℕ)
    → AreSections (before ++ a) → AreSections (before ++ b)
    → flat_map section_text a ++ x ≡ flat_map section_text b ++ y → Compared a x b y
compare before [] x [] y p q e = inl (refl, e)
compare before [] x (t ∷ b) y p q e = inr (inl (t, b, refl, e))
compare before (s ∷ a) x [] y p q e = inr (inr (s, a, refl, sym e))
compare before (s ∷ a) x (t ∷ b) y p q e =
    let left : flat_map section_text (s ∷ a) ++ x ≡ section_text s ++ (flat_map section_text a ++ x) =
    ap (λ (l : List ℕ). l ++ x) (flat_map-cons section_text s a)
    ∙ append_assoc (section_text s) (flat_map section_text a) x in
    let right : flat_map section_text (t ∷ b) ++ y ≡ section_text t ++ (flat_map section_text b ++ y) =
    ap (λ (l : List ℕ). l ++ y) (flat_map-cons section_text t b)
    ∙ append_assoc (section_text t) (flat_map section_text b) y in
    let text : section_text s ++ (flat_map section_text a ++ x)
    ≡ section_text t ++ (flat_map section_text b ++ y) = sym left ∙ e ∙ right in
    let read = sym (section_again before s _ (may_follow before s a p))
    ∙ ap (section_at before) text ∙ section_again before t _ (may_follow before t b q) in
    let same : ◌≡◌ {A = Named × List ℕ} (s, flat_map section_text a ++ x)
    (t, flat_map section_text b ++ y) = done_is _ _ read in
    let heads : s ≡ t = ap (λ (r : Named × List ℕ). r.0) same in
    let tails : flat_map section_text a ++ x ≡ flat_map section_text b ++ y =
    ap (λ (r : Named × List ℕ). r.1) same in
    let p2 : AreSections ((before ++ (s ∷ [])) ++ a) = subst AreSections (move_over before s a) p in
    let q2 : AreSections ((before ++ (s ∷ [])) ++ b) = subst (λ (u : Named). AreSections
    ((before ++ (u ∷ [])) ++ b)) (sym heads) (subst AreSections (move_over before t b) q) in
    subst (λ (u : Named). Compared (s ∷ a) x (u ∷ b) y)
    heads (compared_cons s a x b y (compare (before ++ (s ∷ [])) a x b y p2 q2 tails))

-- two beginnings of one text
beginnings : (a : List Named) (x : List ℕ) (b : List Named) (y : List ℕ)
    → AreSections a → AreSections b → beginning_text a ++ x ≡ beginning_text b ++ y → Compared a x b y
beginnings a x b y p q e =
    let cut : flat_map section_text a ++ x ≡ flat_map section_text b ++ y = append_cancel_left first_line _ _ e in
    compare [] a x b y p q cut

-- what goes on with a section is read as one
goes_on : (a b : List Named) (x y : List ℕ)
    → AreSections b → GoesOn a x b y → (p : Named × List ℕ) × (section_at a x ≡ Ok p)
goes_on a b x y q longer =
    let (s, more, list, text) = longer in
    let all : AreSections (a ++ (s ∷ more)) = subst AreSections list q in
    let regrouped : x ≡ section_text s ++ (flat_map section_text more ++ y) =
    text ∙ ap (λ (l : List ℕ). l ++ y) (flat_map-cons section_text s more)
    ∙ append_assoc (section_text s) (flat_map section_text more) y in (
      (s, flat_map section_text more ++ y),
      ap (section_at a) regrouped ∙ section_again a s _ (may_follow a s more all),
    )

-- ---- the laws

-- no bundle begins another
pub no_front : (body more : List ℕ) (ss ts : List Named)
    → IsBundle body ss → IsBundle (body ++ more) ts → (more ≡ []) × (ss ≡ ts)
no_front body more ss ts p q =
    let text : beginning_text ss ++ (last_line ++ more) ≡ beginning_text ts ++ last_line =
    sym (append_assoc (beginning_text ss) last_line more)
    ∙ ap (λ (l : List ℕ). l ++ more) (sym p.text) ∙ q.text in
    elim (beginnings ss (last_line ++ more) ts last_line p.sections q.sections text) [
      | inl same ↦ (append_cancel_left last_line more [] (same.1 ∙ sym (append-nil last_line)), same.0)
      | inr (inl longer) ↦ let g = goes_on ss ts (last_line ++ more) last_line q.sections longer in
          absurd (end_is_no_section ss more g.0 g.1)
      | inr (inr longer) ↦ let g = goes_on ts ss last_line (last_line ++ more) p.sections longer in
          absurd (end_is_no_section ts [] g.0 g.1)
    ]

-- a bundle has one list of sections
pub one_list : (body : List ℕ) (ss ts : List Named) → IsBundle body ss → IsBundle body ts → ss ≡ ts
one_list body ss ts p q =
    (no_front body [] ss ts p (subst (λ (b : List ℕ). IsBundle b ts) (sym (append-nil body)) q)).1

-- where a section is read there is no fault
section_no_fault : (before : List Named) (rest : List ℕ) (n : Refusal)
    → (p : Named × List ℕ) × (section_at before rest ≡ Ok p) → next_at before rest ≡ Err n → ⊥
section_no_fault before rest n g fault =
    done_or_fault (Some g.0) n (sym (next_section_again before rest g.0 g.1) ∙ fault)

end_no_fault : (ss : List Named) (n : Refusal) → 0 < length ss → next_at ss last_line ≡ Err n → ⊥
end_no_fault ss n some fault = done_or_fault None n (sym (next_end_again ss some) ∙ fault)

-- a bundle has no fault
pub no_bundle_fault : (body : List ℕ) (ss : List Named) (n : Refusal) → IsBundle body ss → IsFault body n → ⊥
no_bundle_fault body ss n p (inl long) = let size = p.size in omega arith
no_bundle_fault body ss n p (inr (inl other)) = other.1 (flat_map section_text ss ++ last_line)
    (p.text ∙ append_assoc first_line (flat_map section_text ss) last_line)
no_bundle_fault body ss n p (inr (inr behind)) =
    let f = behind.1 in
    elim (beginnings f.before f.rest ss last_line f.sections p.sections (sym f.text ∙ p.text)) [
      | inl same ↦ end_no_fault ss n p.some (subst (λ (b : List Named). next_at b last_line ≡ Err n)
          same.0 (subst (λ (r : List ℕ). next_at f.before r ≡ Err n) same.1 f.fault))
      | inr (inl longer) ↦ section_no_fault
          f.before f.rest n (goes_on f.before ss f.rest last_line p.sections longer) f.fault
      | inr (inr longer) ↦ let g = goes_on ss f.before last_line f.rest f.sections longer in
          end_is_no_section ss [] g.0 g.1
    ]

first_line_lacks : (body : List ℕ) (n : Refusal)
    → ((r : List ℕ) → body ≢ first_line ++ r) → FaultBehind body n → ⊥
first_line_lacks body n other f = other (flat_map section_text f.before ++ f.rest)
    (f.text ∙ append_assoc first_line (flat_map section_text f.before) f.rest)

abbrev fault_of : Refusal → Result (Option (Named × List ℕ)) Refusal
fault_of n = Err n

one_number : (a b : List Named) (x y : List ℕ) (m n : Refusal)
    → a ≡ b → x ≡ y → next_at a x ≡ Err m → next_at b y ≡ Err n → m ≡ n
one_number a b x y m n lists rests p q =
    let e : fault_of m ≡ fault_of n =
    sym p ∙ ap (next_at a) rests ∙ ap (λ (l : List Named). next_at l y) lists ∙ q in
    cc

one_fault_behind : (body : List ℕ) (m n : Refusal) → FaultBehind body m → FaultBehind body n → m ≡ n
one_fault_behind body m n a b =
    elim (beginnings a.before a.rest b.before b.rest a.sections b.sections (sym a.text ∙ b.text)) [
      | inl same ↦ one_number a.before b.before a.rest b.rest m n same.0 same.1 a.fault b.fault
      | inr (inl longer) ↦ absurd (section_no_fault
          a.before a.rest m (goes_on a.before b.before a.rest b.rest b.sections longer) a.fault)
      | inr (inr longer) ↦ absurd (section_no_fault
          b.before b.rest n (goes_on b.before a.before b.rest a.rest a.sections longer) b.fault)
    ]

-- a text has one fault at most
pub one_fault : (body : List ℕ) (m n : Refusal) → IsFault body m → IsFault body n → m ≡ n
one_fault body m n (inl a) (inl b) = a.1 ∙ sym b.1
one_fault body m n (inl a) (inr (inl b)) = absurd (omega (arith, a.0, b.0))
one_fault body m n (inl a) (inr (inr b)) = absurd (omega (arith, a.0, b.0))
one_fault body m n (inr (inl a)) (inl b) = absurd (omega (arith, a.0, b.0))
one_fault body m n (inr (inl a)) (inr (inl b)) = a.2 ∙ sym b.2
one_fault body m n (inr (inl a)) (inr (inr b)) = absurd (first_line_lacks body n a.1 b.1)
one_fault body m n (inr (inr a)) (inl b) = absurd (omega (arith, a.0, b.0))
one_fault body m n (inr (inr a)) (inr (inl b)) = absurd (first_line_lacks body m b.1 a.1)
one_fault body m n (inr (inr a)) (inr (inr b)) = one_fault_behind body m n a.1 b.1
