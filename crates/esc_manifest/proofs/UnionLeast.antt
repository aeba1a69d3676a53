-- Where the least fault of a union is reported.
use Rattle.std.proofs.Common.{◌≡◌, ◌⊎◌, ℕ, suc, ◌+◌, ◌-◌, ◌<◌, ◌≤◌, Bool, true, false}
use Rattle.std.proofs.Common.{List, ◌++◌, length, take, get_or, Option, Some, None, refl, sym, ap, ap₂}
use Rattle.std.proofs.Common.{◌∙◌, subst, arith, inl, inr}
use Rattle.std.specs.Prelude.{◌==◌, ◌&&◌, ◌||◌, not, position, filter, if◌then◌else◌}
use Rattle.std.specs.List.{list_any, All, AllPairs}
use Rattle.std.proofs.lemmas.Bool.{cases_Bool, cases_lt, eqb-true, and_parts, and_from, or_cases}
use Rattle.std.proofs.lemmas.Bool.{or_parts, or_left, or_right, not-true, not_from_false, and_right}
use Rattle.std.proofs.lemmas.List.{get_or_append_left, get_or-append_right, get_or-take, length-append}
use Rattle.std.proofs.lemmas.List.{length-take, get_or_default}
use Rattle.std.proofs.lemmas.List.Elements.{All-filter, filter_passes}
use Rattle.std.proofs.lemmas.List.Folds.{Any-from_list_any, list_any_at}
use Rattle.std.proofs.lemmas.List.Kept.{AllPairs-filter}
use Rattle.std.proofs.lemmas.List.Quantifiers.{position-Some}
use Rattle.esc_manifest.specs.declared.refusal.ManifestRefusal.{ManifestRefusal}
use Rattle.esc_manifest.specs.declared.refusal.ManifestRefusal.TheVariants.{OverLimit, NotSixFields}
use Rattle.esc_manifest.specs.declared.refusal.ManifestRefusal.TheVariants.{WrongHeading, WrongId}
use Rattle.esc_manifest.specs.declared.refusal.ManifestRefusal.TheVariants.{WrongType, WrongWatermark}
use Rattle.esc_manifest.specs.declared.refusal.ManifestRefusal.TheVariants.{MissingPrev, WrongResend}
use Rattle.esc_manifest.specs.declared.refusal.ManifestRefusal.TheVariants.{WrongDigest}
use Rattle.esc_manifest.specs.declared.refusal.ManifestRefusal.TheVariants.{RepeatedRevision, MovedId}
use Rattle.esc_manifest.specs.declared.refusal.ManifestRefusal.TheVariants.{LatePrev, RepeatedDigest}
use Rattle.esc_manifest.specs.declared.row.MRow.{MRow}
use Rattle.esc_manifest.specs.Accepted.{IsAccepted}
use Rattle.esc_manifest.specs.Extension.{is_listed, new_rows, extended, is_blamed, row_or_whole, blamed}
use Rattle.esc_manifest.specs.LeastFault.{has_fault, IsManifestFault, Contradict, IsBlamed, IsReportedAt}
use Rattle.esc_manifest.specs.ManifestRows.{no_row, row_at}
use Rattle.esc_manifest.specs.PositionLaws.{no_first}
use Rattle.esc_manifest.specs.RowFaults.{has_bad_id, has_bad_watermark, lacks_prev, has_bad_resend}
use Rattle.esc_manifest.specs.RowFaults.{same_revision, moved_id, follows_later, same_digest}
use Rattle.esc_manifest.proofs.AcceptedRows.{HasNoFault, have_no_fault, none_passes, earlier_fails, any_fails}
use Rattle.esc_manifest.proofs.Positions.{fails_at}

-- ---- the test by which a row is blamed, and what it says

abbrev test : ManifestRefusal → List MRow → MRow → Bool
test code m x = not (is_listed m x) && is_blamed code m x

some_row : (passes : MRow → Bool) (m : List MRow)
    → list_any passes m ≡ true → (q : ℕ) × (q < length m) × (passes (row_at m q) ≡ true)
some_row passes m found = let (k, x, lt, is, holds) = Any-from_list_any passes m found in
    (k, lt, ap passes (get_or_default m k no_row x lt ∙ is) ∙ holds)

either_names : (m : List MRow) (x : MRow)
    → (list_any (λ q. follows_later q x) m || list_any (λ q. follows_later x q) m) ≡ true
    → (q : ℕ) × (q < length m)
    × ((follows_later (row_at m q) x ≡ true) ⊎ (follows_later x (row_at m q) ≡ true))
either_names m x holds =
    elim (or_cases (list_any (λ q. follows_later q x) m) (list_any (λ q. follows_later x q) m) holds) [
      | inl e ↦ let (q, lt, is) = some_row (λ q. follows_later q x) m e in (q, lt, inl is)
      | inr e ↦ let (q, lt, is) = some_row (λ q. follows_later x q) m e in (q, lt, inr is)
    ]

contradicts : (code : ManifestRefusal) (m : List MRow) (x : MRow)
    → is_blamed code m x ≡ true → (q : ℕ) × (q < length m) × Contradict code (row_at m q) x
contradicts RepeatedRevision m x holds = let (q, lt, is) = some_row (λ q. same_revision q x) m holds in
    (q, lt, inl (refl, is))
contradicts MovedId m x holds = let (q, lt, is) = some_row (λ q. moved_id q x) m holds in (q, lt, inr (inl (refl, is)))
contradicts LatePrev m x holds = let (q, lt, is) = either_names m x holds in (q, lt, inr (inr (inl (refl, is))))
contradicts RepeatedDigest m x holds = let (q, lt, is) = some_row (λ q. same_digest q x) m holds in
    (q, lt, inr (inr (inr (refl, is))))
contradicts OverLimit m x holds = absurd cc
contradicts NotSixFields m x holds = absurd cc
contradicts WrongHeading m x holds = absurd cc
contradicts WrongId m x holds = absurd cc
contradicts WrongType m x holds = absurd cc
contradicts WrongWatermark m x holds = absurd cc
contradicts MissingPrev m x holds = absurd cc
contradicts WrongResend m x holds = absurd cc
contradicts WrongDigest m x holds = absurd cc

is_blamed_for : (code : ManifestRefusal) (m : List MRow) (x : MRow) (q : ℕ)
    → q < length m → Contradict code (row_at m q) x → is_blamed code m x ≡ true
is_blamed_for code m x q lt (inl (e, is)) = subst (λ (n : ManifestRefusal). is_blamed n m x ≡ true)
    (sym e) (list_any_at (λ q. same_revision q x) m q no_row lt is)
is_blamed_for code m x q lt (inr (inl (e, is))) = subst (λ (n : ManifestRefusal). is_blamed n m x
    ≡ true) (sym e) (list_any_at (λ q. moved_id q x) m q no_row lt is)
is_blamed_for code m x q lt (inr (inr (inl (e, inl is)))) =
    subst (λ (n : ManifestRefusal). is_blamed n m x ≡ true) (sym e) (or_left
    (list_any (λ q. follows_later q x) m) _ (list_any_at (λ q. follows_later q x) m q no_row lt is))
is_blamed_for code m x q lt (inr (inr (inl (e, inr is)))) =
    subst (λ (n : ManifestRefusal). is_blamed n m x ≡ true) (sym e) (or_right
    (list_any (λ q. follows_later q x) m) _ (list_any_at (λ q. follows_later x q) m q no_row lt is))
is_blamed_for code m x q lt (inr (inr (inr (e, is)))) = subst (λ (n : ManifestRefusal). is_blamed n m x
    ≡ true) (sym e) (list_any_at (λ q. same_digest q x) m q no_row lt is)

passes : (code : ManifestRefusal) (m more : List MRow) (k : ℕ)
    → IsBlamed m more code k → test code m (row_at more k) ≡ true
passes code m more k (lt, new, (q, in_m, against)) =
    and_from (not (is_listed m (row_at more k))) (is_blamed code m (row_at more k)) (not_from_false
    (is_listed m (row_at more k)) new) (is_blamed_for code m (row_at more k) q in_m against)

is_blamed_at : (code : ManifestRefusal) (m more : List MRow) (r : ℕ)
    → r < length more → test code m (row_at more r) ≡ true → IsBlamed m more code r
is_blamed_at code m more r lt holds =
    let (new, against) = and_parts (not (is_listed m (row_at more r))) (is_blamed code m (row_at more r)) holds in
    (lt, not-true (is_listed m (row_at more r)) new, contradicts code m (row_at more r) against)

-- ---- the rows of a union

row_left : (xs ys : List MRow) (r : ℕ) → r < length xs → row_at (xs ++ ys) r ≡ row_at xs r
row_left xs ys r lt = get_or_append_left xs ys no_row r lt

row_right : (xs ys : List MRow) (r : ℕ) → length xs ≤ r → row_at (xs ++ ys) r ≡ row_at ys (r - length xs)
row_right xs ys r le = get_or-append_right xs ys (length xs) r no_row refl le

-- no row of a list has this relation to a later one
abbrev Apart : (MRow → MRow → Bool) → List MRow → Type 0
Apart against m = (q r : ℕ) → q < r → r < length m → against (row_at m q) (row_at m r) ≡ false

-- no row of one list has it to a row of the other
abbrev Between : (MRow → MRow → Bool) → List MRow → List MRow → Type 0
Between against xs ys = (q r : ℕ)
    → q < length xs → r < length ys → against (row_at xs q) (row_at ys r) ≡ false

union_apart : (against : MRow → MRow → Bool) (xs ys : List MRow)
    → Apart against xs → Apart against ys → Between against xs ys → Apart against (xs ++ ys)
union_apart against xs ys in_xs in_ys cross q r before lt =
    elim (cases_lt r (length xs)) [
      | inl left ↦ ap₂ against (row_left xs ys q (omega arith)) (row_left xs ys r left) ∙ in_xs q r before left
      | inr right ↦
          let within : r - length xs < length ys = omega (arith, lt, length-append xs ys) in
          elim (cases_lt q (length xs)) [
            | inl left ↦ ap₂ against (row_left xs ys q left) (row_right xs ys r right)
                ∙ cross q (r - length xs) left within
            | inr both ↦ ap₂ against (row_right xs ys q both) (row_right xs ys r right)
                ∙ in_ys (q - length xs) (r - length xs) (omega arith) within
          ]
    ]

union_between : (against : MRow → MRow → Bool) (xs ys : List MRow)
    → Between against xs xs → Between against ys ys
    → Between against xs ys → Between against ys xs → Between against (xs ++ ys) (xs ++ ys)
union_between against xs ys in_xs in_ys cross back q r in_q in_r =
    elim (cases_lt q (length xs)) [
      | inl q_left ↦ elim (cases_lt r (length xs)) [
        | inl r_left ↦ ap₂ against (row_left xs ys q q_left) (row_left xs ys r r_left) ∙ in_xs q r q_left r_left
        | inr r_right ↦ ap₂ against (row_left xs ys q q_left) (row_right xs ys r r_right)
            ∙ cross q (r - length xs) q_left (omega (arith, in_r, length-append xs ys))
      ]
      | inr q_right ↦
          let within : q - length xs < length ys = omega (arith, in_q, length-append xs ys) in
          elim (cases_lt r (length xs)) [
            | inl r_left ↦ ap₂ against (row_right xs ys q q_right) (row_left xs ys r r_left)
                ∙ back (q - length xs) r within r_left
            | inr r_right ↦ ap₂ against (row_right xs ys q q_right) (row_right xs ys r r_right) ∙ in_ys
                (q - length xs) (r - length xs) within (omega (arith, in_r, length-append xs ys))
          ]
    ]

union_free : (fails : MRow → Bool) (xs ys : List MRow)
    → ((r : ℕ) → r < length xs → fails (row_at xs r) ≡ false) → All (λ x. fails x ≡ false) ys
    → (r : ℕ) → r < length (xs ++ ys) → fails (row_at (xs ++ ys) r) ≡ false
union_free fails xs ys in_xs in_ys r lt =
    elim (cases_lt r (length xs)) [
      | inl left ↦ ap fails (row_left xs ys r left) ∙ in_xs r left
      | inr right ↦ ap fails (row_right xs ys r right)
          ∙ in_ys (r - length xs) no_row (omega (arith, lt, length-append xs ys))
    ]

-- ---- the rows of `more` that are new

kept_apart : (against : MRow → MRow → Bool) (keep : MRow → Bool) (more : List MRow)
    → Apart against more → Apart against (filter keep more)
kept_apart against keep more apart q r before lt =
    AllPairs-filter (λ x y. against x y ≡ false) keep more
    (λ i j d less in_j. ap₂ against (get_or_default more i d no_row (omega arith))
    (get_or_default more j d no_row in_j) ∙ apart i j less in_j) q r no_row before lt

-- each new row has a property that all rows have
kept_all : (P : MRow → Type 0) (keep : MRow → Bool) (more : List MRow)
    → ((r : ℕ) → r < length more → P (row_at more r)) → All P (filter keep more)
kept_all P keep more all =
    All-filter keep P more (λ k d lt. subst P (sym (get_or_default more k d no_row lt)) (all k lt))

kept_between : (against : MRow → MRow → Bool) (keep : MRow → Bool) (more : List MRow)
    → Between against more more → Between against (filter keep more) (filter keep more)
kept_between against keep more apart q r in_q in_r =
    kept_all (λ x. against x (row_at (filter keep more) r) ≡ false) keep more
    (λ i lt. kept_all (λ y. against (row_at more i) y ≡ false)
    keep more (λ j in_j. apart i j lt in_j) r no_row in_r) q no_row in_q

not_blamed : (listed blame : Bool) → (not listed && blame) ≡ false → not listed ≡ true → blame ≡ false
not_blamed true blame e new = absurd cc
not_blamed false blame e new = e

-- where no row is blamed, no new row has the fault with a row of m
new_unblamed : (code : ManifestRefusal) (m more : List MRow)
    → position (test code m) more ≡ None → All (λ x. is_blamed code m x ≡ false) (new_rows m more)
new_unblamed code m more none =
    let keep : MRow → Bool = λ x. not (is_listed m x) in
    let each = kept_all (λ x. not (is_listed m x) ≡ true → is_blamed code m x ≡ false) keep more
    (λ r lt new. not_blamed (is_listed m (row_at more r))
    (is_blamed code m (row_at more r)) (fails_at (test code m) more no_row none r lt) new) in
    λ k d lt. each k d lt (filter_passes keep more k d lt)

-- ---- where no row is blamed, the union has no such fault

no_clash : (against : MRow → MRow → Bool) (u : List MRow) → Apart against u
    → (r : ℕ) → r < length u → list_any (λ q. against q (row_at u r)) (take r u) ≡ true → ⊥
no_clash against u apart r lt found =
    let (q, in_q, is) = some_row (λ q. against q (row_at u r)) (take r u) found in
    let before : q < r = omega (arith, simp length-take at in_q) in
    let free : against (row_at (take r u) q) (row_at u r) ≡ false = ap (λ (x : MRow). against
    x (row_at u r)) (get_or-take r u q no_row before) ∙ apart q r before lt in
    absurd cc

module _ (m more : List MRow) (listed : IsAccepted m) (added : IsAccepted more) where
  -- the new rows are apart from each other, and where no row is blamed for this number also from those of m
  earlier_apart : (code : ManifestRefusal) (against : MRow → MRow → Bool)
      → Apart against m → Apart against more → position (test code m) more ≡ None
      → ((x : MRow) → is_blamed code m x ≡ list_any (λ q. against q x) m) → Apart against (extended m more)
  earlier_apart code against in_m in_more none is =
      let new : List MRow = new_rows m more in
      union_apart against m new in_m (kept_apart against (λ x. not (is_listed m x)) more in_more)
      (λ q r in_q in_r. none_passes (λ y. against y (row_at new r))
      m q (sym (is (row_at new r)) ∙ new_unblamed code m more none r no_row in_r) in_q)

  later_apart : position (test LatePrev m) more ≡ None → Between follows_later (extended m more) (extended m more)
  later_apart none =
      let new : List MRow = new_rows m more in
      let parts = λ (r : ℕ) (in_r : r < length new). or_parts (list_any
      (λ q. follows_later q (row_at new r)) m) (list_any (λ q. follows_later (row_at new r) q) m)
      (new_unblamed LatePrev m more none r no_row in_r) in
      union_between follows_later m new
      (any_fails follows_later m (have_no_fault m listed).later)
      (kept_between follows_later (λ x. not (is_listed m x))
      more (any_fails follows_later more (have_no_fault more added).later))
      (λ q r in_q in_r. none_passes (λ y. follows_later y (row_at new r)) m q (parts r in_r).0 in_q)
      (λ q r in_q in_r. none_passes (λ y. follows_later (row_at new q) y) m r (parts q in_q).1 in_r)

  -- no row of the union has a fault by itself
  own_free : (fails : MRow → Bool) → position fails m ≡ None → position fails more ≡ None
      → (r : ℕ) → r < length (extended m more) → fails (row_at (extended m more) r) ≡ false
  own_free fails in_m in_more =
      union_free fails m (new_rows m more) (fails_at fails m no_row in_m)
      (kept_all (λ x. fails x ≡ false) (λ x. not (is_listed m x)) more (fails_at fails more no_row in_more))

  -- where no row is blamed for a refusal, no row of the union has that fault
  unblamed : (code : ManifestRefusal) (r : ℕ) → r < length (extended m more)
      → position (test code m) more ≡ None → has_fault (extended m more) code r ≡ true → ⊥
  unblamed WrongId r lt none holds =
      let is : has_bad_id (row_at (extended m more) r) ≡ true = holds in
      let free = own_free has_bad_id (have_no_fault m listed).ids (have_no_fault more added).ids r lt in
      absurd cc
  unblamed WrongWatermark r lt none holds =
      let is : has_bad_watermark (row_at (extended m more) r) ≡ true = holds in
      let free = own_free has_bad_watermark
      (have_no_fault m listed).watermarks (have_no_fault more added).watermarks r lt in
      absurd cc
  unblamed MissingPrev r lt none holds =
      let is : lacks_prev (row_at (extended m more) r) ≡ true = holds in
      let free = own_free lacks_prev (have_no_fault m listed).prevs (have_no_fault more added).prevs r lt in
      absurd cc
  unblamed WrongResend r lt none holds =
      let is : has_bad_resend (row_at (extended m more) r) ≡ true = holds in
      let free = own_free has_bad_resend (have_no_fault m listed).resends (have_no_fault more added).resends r lt in
      absurd cc
  unblamed RepeatedRevision r lt none holds =
      no_clash same_revision (extended m more) (earlier_apart RepeatedRevision same_revision
      (earlier_fails same_revision m (have_no_fault m listed).revisions) (earlier_fails
      same_revision more (have_no_fault more added).revisions) none (λ x. refl)) r lt holds
  unblamed MovedId r lt none holds =
      no_clash moved_id (extended m more)
      (earlier_apart MovedId moved_id (earlier_fails moved_id m (have_no_fault m listed).places)
      (earlier_fails moved_id more (have_no_fault more added).places) none (λ x. refl)) r lt holds
  unblamed LatePrev r lt none holds =
      let (i, in_u, is) = some_row (λ x. follows_later x (row_at (extended m more) r)) (extended m more) holds in
      let apart = later_apart none i r in_u lt in
      absurd cc
  unblamed RepeatedDigest r lt none holds =
      no_clash same_digest (extended m more) (earlier_apart RepeatedDigest
      same_digest (earlier_fails same_digest m (have_no_fault m listed).digests) (earlier_fails
      same_digest more (have_no_fault more added).digests) none (λ x. refl)) r lt holds
  unblamed OverLimit r lt none holds = absurd cc
  unblamed NotSixFields r lt none holds = absurd cc
  unblamed WrongHeading r lt none holds = absurd cc
  unblamed WrongType r lt none holds = absurd cc
  unblamed WrongDigest r lt none holds = absurd cc

  -- the row that is blamed, if one is
  at_row : (code : ManifestRefusal) (r : ℕ)
      → r < length (extended m more) → has_fault (extended m more) code r ≡ true
      → (o : Option ℕ) → position (test code m) more ≡ o → IsReportedAt m more code (row_or_whole o)
  at_row code r lt holds None is = absurd (unblamed code r lt is holds)
  at_row code r lt holds (Some k) is =
      let (within, here, before) = position-Some (test code m) more k no_row is in
      inr (k, refl, is_blamed_at code m more k within here, λ j blame. no_less j blame (before j))
    where
      no_less : (j : ℕ) → IsBlamed m more code j → (j < k → test code m (row_at more j) ≡ false) → k ≤ j
      no_less j blame before = elim (cases_lt j k) [
        | inl less ↦ let fails = before less in let holds = passes code m more j blame in absurd cc
        | inr after ↦ after
      ]

  of_whole : blamed OverLimit m more ≡ 0
  of_whole = ap row_or_whole (no_first (test OverLimit m)
      more no_row (λ k lt. and_right (not (is_listed m (row_at more k))) false refl))

  pub reported_at : (code : ManifestRefusal) (s : ℕ)
      → IsManifestFault (extended m more) code s → IsReportedAt m more code (blamed code m more)
  reported_at code s (inl (one, whole, many)) =
      inl (one, subst (λ (n : ManifestRefusal). blamed n m more ≡ 0) (sym one) of_whole)
  reported_at code s (inr (r, lt, is, holds)) = at_row code r lt holds (position (test code m) more) refl

-- ---- a fault is reported at one row

never_whole : (code : ManifestRefusal) (q r : MRow) → code ≡ OverLimit → Contradict code q r → ⊥
never_whole code q r one (inl e) = let ten = e.0 in absurd cc
never_whole code q r one (inr (inl e)) = let eleven = e.0 in absurd cc
never_whole code q r one (inr (inr (inl e))) = let twelve = e.0 in absurd cc
never_whole code q r one (inr (inr (inr e))) = let thirteen = e.0 in absurd cc

-- a fault is reported at one row
pub reported_once : (m more : List MRow) (code : ManifestRefusal) (a b : ℕ)
    → IsReportedAt m more code a → IsReportedAt m more code b → a ≡ b
reported_once m more code a b (inl (one, p)) (inl (also, q)) = p ∙ sym q
reported_once m more code a b (inl (one, p)) (inr (r, is, (lt, new, (q, in_m, against)), first)) =
    absurd (never_whole code (row_at m q) (row_at more r) one against)
reported_once m more code a b (inr (r, is, (lt, new, (q, in_m, against)), first)) (inl (one, p)) =
    absurd (never_whole code (row_at m q) (row_at more r) one against)
reported_once m more code a b (inr (r, is, here, first)) (inr (k, at, there, least)) =
    let le = first k there in
    let ge = least r here in
    omega arith
