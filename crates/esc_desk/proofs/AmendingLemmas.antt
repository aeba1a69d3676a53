-- The row of a digest, and what bodies are judged by, where rows are added.
use Rattle.std.proofs.Common.{◌≡◌, inl, inr, ℕ, suc, ◌+◌, ◌<◌, ◌≤◌, Bool, not, true, false}
use Rattle.std.proofs.Common.{cond, Option, Some, None, option_map, IfSome, Result, Ok, Err}
use Rattle.std.proofs.Common.{List, [], ◌∷◌, ◌++◌, length, get_or, eqb, position, refl, sym, ap, ap₂}
use Rattle.std.proofs.Common.{subst, ◌∙◌, arith, true≢false, length-append}
use Rattle.std.specs.List.{position_or_len, prefix_len, find}
use Rattle.std.specs.Str.{bytes_eq}
use Rattle.std.specs.Cmp.{both_ways}
use Rattle.std.specs.Cmp.Lexicographic.{bytes_decides}
use Rattle.std.proofs.lemmas.Grind.{common_steps}
use Rattle.std.proofs.lemmas.List.{get_or_append_left}
use Rattle.std.proofs.lemmas.List.Folds.{prefix_len-append}
use Rattle.std.proofs.lemmas.List.Quantifiers.{position-Some}
use Rattle.std.proofs.lemmas.List.Sums.{fails_before_first}
use Rattle.std.proofs.lemmas.Option.{same_Some, none-some}
use Rattle.std.proofs.lemmas.Bool.{eqb-true}
use Rattle.std.proofs.lemmas.Bool.Decides.{nat_tests}
use Rattle.esc_bundle.specs.declared.refusal.Refusal.{Refusal}
use Rattle.esc_tables.specs.DepositValue.{DepositValue}
use Rattle.esc_tables.specs.Reading.{reading}
use Rattle.esc_manifest.specs.declared.row.MRow.{MRow}
use Rattle.esc_manifest.specs.ManifestRows.{row_at, no_row, id_at, resend_at}
use Rattle.esc_manifest.specs.Accepted.{IsAccepted}
use Rattle.esc_manifest.specs.Extension.{new_rows, extended}
use Rattle.esc_store.specs.ReplyValue.{ReplyValue, ReceiptValue, reply_kept, is_alike, reply_alike}
use Rattle.esc_events.specs.declared.assessment.Assessment.{Assessment}
use Rattle.esc_events.specs.declared.assessment.Assessment.TheVariants.{Differing, Holding}
use Rattle.esc_events.specs.Events.{EventValue, Coming, union_after, comings_after}
use Rattle.esc_events.specs.Events.EventValue.{listed, arrived, moved, arrived_early}
use Rattle.esc_events.specs.Assessment.{assessment, found_at, found, as_listed, row_with_digest, held_row}
use Rattle.esc_events.specs.Receipts.{is_row, holds_row, receipt_by, holds_any, receipt_for, receipts_after}
use Rattle.esc_events.specs.StateAfter.{Among, arrived_body, holds_by, has_digest}
use Rattle.esc_events.specs.Amended.{judged}

-- ---- rows by digest

-- without a first place no place passes
none_passes : {X : Type 0} (p : X → Bool) (xs : List X) (k : ℕ) (d : X)
    → position p xs ≡ None → k < length xs → p (get_or xs k d) ≡ true → ⊥
none_passes p xs k d none lt passes =
    let behind : length xs ≤ position_or_len p xs = grind (arith, common_steps, none) in
    true≢false (sym passes ∙ fails_before_first p xs k d (omega (arith, behind, lt)))

-- the row that has a digest is the one that is found by it
pub row_is : {m : List MRow} → IsAccepted m
    → {r : ℕ} {d : List ℕ} → r < length m → (row_at m r).digest ≡ d → row_with_digest m d ≡ Some r
row_is {m = m} ok {r = r} {d = d} lt is = by_row (row_with_digest m d) refl
  where
    by_row : (o : Option ℕ) → row_with_digest m d ≡ o → o ≡ Some r
    by_row None none = absurd (none_passes (λ (row : MRow). bytes_eq row.digest d)
        m r no_row none lt ((bytes_decides (row_at m r).digest d).1 is))
    by_row (Some q) found =
        let at = position-Some (λ (row : MRow). bytes_eq row.digest d) m q no_row found in
        ap Some (ok.one_digest q r at.0 lt ((bytes_decides (row_at m q).digest d).0 at.1 ∙ sym is))

-- the row that is found by a digest has it
pub row_has : (m : List MRow) {r : ℕ} (d : List ℕ)
    → row_with_digest m d ≡ Some r → (r < length m) × ((row_at m r).digest ≡ d)
row_has m {r = r} d found = let at = position-Some (λ (row : MRow). bytes_eq row.digest d)
    m r no_row found in (at.0, (bytes_decides (row_at m r).digest d).0 at.1)

-- a body that holds row r has the digest of that row
pub row_found : (m : List MRow) (r : ℕ) (row : Option ℕ) (told : Result DepositValue Refusal)
    → is_row r (held_row (found_at m row told)) ≡ true → row ≡ Some r
row_found m r None told is = absurd (true≢false (sym is))
row_found m r (Some q) (Err n) is = absurd (true≢false (sym is))
row_found m r (Some q) (Ok d) is = by_test _ is
  where
    by_test : (t : Bool) → is_row r (held_row (cond t (Holding q d) (Differing q))) ≡ true → Some q ≡ Some r
    by_test true same = ap Some (eqb-true q r same)
    by_test false none = absurd (true≢false (sym none))

-- ---- searches

-- nothing is found where nothing passes
pub find_never : (p : Coming → Bool) (l : List Coming)
    → ((c : Coming) → Among l c → p c ≡ true → ⊥) → find p l ≡ None
find_never p [] never = refl
find_never p (c ∷ l) never = by_test (p c) refl (find_never p l (λ b among. never b (inr among)))
  where
    by_test : (b : Bool) → p c ≡ b → find p l ≡ None → cond b (Some c) (find p l) ≡ None
    by_test true is rest = absurd (never c (inl refl) is)
    by_test false is rest = rest

-- what is judged to be the deposit of a row was there, and is it
pub judged_some : (n : List MRow) (r : ℕ) (o : Option (List ℕ)) (body : List ℕ)
    → judged n r o ≡ Some body → (o ≡ Some body) × (holds_row r (found n r (reading body)) ≡ true)
judged_some n r None body e = absurd (none-some _ e)
judged_some n r (Some b) body e = by_test (holds_row r (found n r (reading b))) refl e
  where
    by_test : (t : Bool) → holds_row r (found n r (reading b)) ≡ t → cond t (Some b) None ≡ Some body
        → (Some b ≡ Some body) × (holds_row r (found n r (reading body)) ≡ true)
    by_test true passes e =
        (e, ap (λ (x : List ℕ). holds_row r (found n r (reading x))) (sym (same_Some _ _ e)) ∙ passes)
    by_test false fails e = absurd (none-some _ e)

-- ---- what bodies hold, where rows are added

-- a digest that was listed is listed at the same row
pub listed_still : (m more : List MRow) (d : List ℕ) (q : ℕ)
    → row_with_digest m d ≡ Some q → row_with_digest (m ++ more) d ≡ Some q
listed_still m more d q then =
    let differs : MRow → Bool = λ row. not (bytes_eq row.digest d) in
    let first : q ≡ prefix_len differs m = grind (arith, common_steps, then) in
    let within : prefix_len differs m < length m = grind (arith, common_steps, then) in
    let whole : prefix_len differs (m ++ more) ≡ cond (eqb (prefix_len differs m) (length m)) (length
    m + prefix_len differs more) (prefix_len differs m) = prefix_len-append differs m more in
    let same : prefix_len differs (m ++ more) ≡ prefix_len differs m = grind (arith, nat_tests, whole, within) in
    grind (arith, common_steps, first, within, same)

found_still : (m more : List MRow) (r : ℕ)
    → r < length m → (t : Result DepositValue Refusal) → found (m ++ more) r t ≡ found m r t
found_still m more r within (Ok d) =
    ap (λ (row : MRow). cond (as_listed row.header d.header) (Holding r d) (Differing r))
    (get_or_append_left m more no_row r within)
found_still m more r within (Err n) = refl

module _ (digest : List ℕ → List ℕ) (reads : List ℕ → Result DepositValue Refusal) where
  -- a listed body is judged by its row
  pub holds_still : (m more : List MRow) (q r : ℕ) (c : Coming) → row_with_digest m (digest c.body)
      ≡ Some q → holds_by digest reads (m ++ more) r c ≡ holds_by digest reads m r c
  holds_still m more q r c at =
      ap (λ (o : Option ℕ). holds_row r (found_at (m ++ more) o (reads c.body)))
      (listed_still m more (digest c.body) q at)
      ∙ ap (holds_row r) (found_still m more q (row_has m (digest c.body) at).0 (reads c.body))
      ∙ ap (λ (o : Option ℕ). holds_row r (found_at m o (reads c.body))) (sym at)

  module _ {m : List MRow} (x : List MRow) (ok : IsAccepted m) (okn : IsAccepted (m ++ x)) where
    -- a digest of a new row was not listed
    pub unlisted_before : (r : ℕ)
        → length m ≤ r → r < length (m ++ x) → row_with_digest m (row_at (m ++ x) r).digest ≡ None
    unlisted_before r new lt = by_row (row_with_digest m (row_at (m ++ x) r).digest) refl
      where
        by_row : (o : Option ℕ) → row_with_digest m (row_at (m ++ x) r).digest ≡ o → o ≡ None
        by_row None is = refl
        by_row (Some q) is =
            let at = row_has m (row_at (m ++ x) r).digest is in
            let same : (row_at (m ++ x) q).digest ≡ (row_at (m ++ x) r).digest =
            ap (λ (row : MRow). row.digest) (get_or_append_left m x no_row q at.0) ∙ at.1 in
            let one : q ≡ r = okn.one_digest q r (omega (arith, at.0, length-append m x)) lt same in
            absurd (omega (arith, at.0, new, one))

    -- an older row is held by the bodies that held it before
    pub holds_same : (r : ℕ)
        → r < length m → (c : Coming) → holds_by digest reads (m ++ x) r c ≡ holds_by digest reads m r c
    holds_same r lt c = both_ways _ _ back there
      where
        there : holds_by digest reads m r c ≡ true → holds_by digest reads (m ++ x) r c ≡ true
        there is = holds_still m x r r c (row_found m r (row_with_digest m (digest c.body)) (reads c.body) is) ∙ is

        back : holds_by digest reads (m ++ x) r c ≡ true → holds_by digest reads m r c ≡ true
        back is =
            let new = row_has (m ++ x) (digest c.body)
            (row_found (m ++ x) r (row_with_digest (m ++ x) (digest c.body)) (reads c.body) is) in
            let old = row_is ok lt
            (ap (λ (row : MRow). row.digest) (sym (get_or_append_left m x no_row r lt)) ∙ new.1) in
            sym (holds_still m x r r c old) ∙ is

  -- a row that a body holds is the manifest's, and has the digest of the body
  pub row_held : (n : List MRow) (r : ℕ) (c : Coming)
      → holds_by digest reads n r c ≡ true → (r < length n) × ((row_at n r).digest ≡ digest c.body)
  row_held n r c is = row_has n (digest c.body) (row_found n r (row_with_digest n (digest c.body)) (reads c.body) is)

  pub digest_is : (n : List MRow) (r : ℕ) (c : Coming)
      → holds_by digest reads n r c ≡ true → digest c.body ≡ (row_at n r).digest
  digest_is n r c is = sym (row_held n r c is).1

  -- no row beyond the list is held
  pub beyond_held : (n : List MRow) (r : ℕ)
      → length n ≤ r → (c : Coming) → holds_by digest reads n r c ≡ true → ⊥
  beyond_held n r far c is = let at = row_held n r c is in omega (arith, at.0, far)

-- ---- a body with the digest of a row is judged at that row

module _ (digest : List ℕ → List ℕ) {n : List MRow} (okn : IsAccepted n) {r : ℕ} (lt : r < length n) where
  abbrev pub d : List ℕ
  d = (row_at n r).digest

  pub judged_at : (c : Coming)
      → digest c.body ≡ d → holds_by digest reading n r c ≡ holds_row r (found n r (reading c.body))
  judged_at c is = ap (λ (o : Option ℕ). holds_row r (found_at n o (reading c.body))) (row_is okn lt (sym is))

  -- of bodies that all are one where they have one digest, the first with its digest is judged for
  -- all
  pub judged_first : (l : List Coming)
      → ((a b : Coming) → Among l a → Among l b → digest a.body ≡ digest b.body → a.body ≡ b.body)
      → judged n r (arrived_body (find (has_digest digest reading d) l))
      ≡ arrived_body (find (holds_by digest reading n r) l)
  judged_first [] apart = refl
  judged_first (c ∷ l) apart = by_digest (has_digest digest reading d c)
      refl (holds_by digest reading n r c) refl (judged_first l (λ a b i j. apart a b (inr i) (inr j)))
    where
      here : has_digest digest reading d c ≡ true → digest c.body ≡ d
      here is = (bytes_decides (digest c.body) d).0 is

      never : digest c.body ≡ d → holds_by digest reading n r c ≡ false
          → (b : Coming) → Among l b → holds_by digest reading n r b ≡ true → ⊥
      never same miss b among is =
          let one : c.body ≡ b.body =
          apart c b (inl refl) (inr among) (same ∙ sym (digest_is digest reading n r b is)) in
          true≢false (sym is
          ∙ ap (λ (x : List ℕ). holds_row r (assessment digest reading n x)) (sym one) ∙ miss)

      by_digest : (t : Bool) → has_digest digest reading d c ≡ t
          → (h : Bool) → holds_by digest reading n r c ≡ h
          → judged n r (arrived_body (find (has_digest digest reading d) l))
          ≡ arrived_body (find (holds_by digest reading n r) l)
          → judged n r (arrived_body (cond t (Some c) (find (has_digest digest reading d) l)))
          ≡ arrived_body (cond h (Some c) (find (holds_by digest reading n r) l))
      by_digest true is true held rest =
          ap (λ (b : Bool). cond b (Some c.body) None) (sym (judged_at c (here is)) ∙ held)
      by_digest true is false miss rest =
          ap (λ (b : Bool). cond b (Some c.body) None) (sym (judged_at c (here is)) ∙ miss)
          ∙ sym (ap arrived_body (find_never (holds_by digest reading n r) l (never (here is) miss)))
      by_digest false other true held rest = absurd (true≢false
          (sym ((bytes_decides (digest c.body) d).1 (digest_is digest reading n r c held)) ∙ other))
      by_digest false other false miss rest = rest

-- ---- replies

-- the row of a receipt, and of each of a list, is one of the first n
abbrev pub IsBelow : ℕ → Option ℕ → Type 0
IsBelow n row = IfSome row (λ q. q < n)

-- receipts tell of rows that are listed
abbrev pub AreBelow : ℕ → List ReceiptValue → Type 0
AreBelow n [] = Unit {0}
AreBelow n (r ∷ rs) = IsBelow n r.row × AreBelow n rs

same_kept : (m x : List MRow) (row : Option ℕ) → IsBelow (length m) row
    → (option_map (id_at (m ++ x)) row ≡ option_map (id_at m) row)
    × (option_map (resend_at (m ++ x)) row ≡ option_map (resend_at m) row)
same_kept m x None below = (refl, refl)
same_kept m x (Some q) below =
    let same : row_at (m ++ x) q ≡ row_at m q = get_or_append_left m x no_row q below in
    (ap (λ (row : MRow). Some row.header.id) same, ap (λ (row : MRow). Some row.header.resend) same)

-- a reply stays where rows are added
pub reply_same : (m x : List MRow) (n : ℕ) (number digest : List ℕ) (rs : List ReceiptValue)
    → AreBelow (length m) rs → reply_alike (m ++ x) n number digest rs ≡ reply_alike m n number digest rs
reply_same m x n number digest [] below = refl
reply_same m x n number digest (r ∷ rs) below =
    let same = same_kept m x r.row below.0 in
    let one : reply_kept (m ++ x) n r ≡ reply_kept m n r =
    λ i. record {
      receipt = n;
      number = r.number;
      verdict = r.verdict;
      id = same.0 i;
      resend = same.1 i;
      again = r.again;
      orphans = r.orphans;
    } in
    ap₂ (λ (a : ReplyValue) (b : Option ReplyValue). cond (is_alike number digest r) (Some a) b)
    one (reply_same m x (suc n) number digest rs below.1)

-- the rows that were listed when an arrival came
longer : (m : List MRow) (e : List EventValue) → length m ≤ length (union_after m e)
longer m [] = omega arith
longer m (listed k ∷ e) = omega (arith, length-append m (new_rows m k), longer (extended m k) e)
longer m (arrived a ∷ e) = longer m e
longer m (moved t ∷ e) = longer m e
longer m (arrived_early a ∷ e) = longer m e

-- an arrival came when no more rows were listed than now
pub rows_short : (m : List MRow) (e : List EventValue) (c : Coming)
    → Among (comings_after m e) c → length c.rows ≤ length (union_after m e)
rows_short m [] c among = absurd among
rows_short m (listed k ∷ e) c among = rows_short (extended m k) e c among
rows_short m (arrived a ∷ e) c (inl is) = subst (λ (x : List MRow). length x ≤ length (union_after m e))
    (sym (ap (λ (b : Coming). b.rows) is)) (longer m e)
rows_short m (arrived a ∷ e) c (inr there) = rows_short m e c there
rows_short m (moved t ∷ e) c among = rows_short m e c among
rows_short m (arrived_early a ∷ e) c (inl is) = subst (λ (x : List MRow). length x
    ≤ length (union_after m e)) (sym (ap (λ (b : Coming). b.rows) is)) (longer m e)
rows_short m (arrived_early a ∷ e) c (inr there) = rows_short m e c there

module _ (digest : List ℕ → List ℕ) (reads : List ℕ → Result DepositValue Refusal) where
  -- the row in the receipt of an arrival where this was found of its body
  abbrev told_row : List Coming → Coming → Assessment → Option ℕ
  told_row before c f = (receipt_by c.number (digest c.body) c.early f (holds_any digest reads before (held_row f))).row

  row_below : (c : Coming) (n : ℕ)
      → length c.rows ≤ n → (before : List Coming) → IsBelow n (receipt_for digest reads before c).row
  row_below c n le before = by_row (row_with_digest c.rows (digest c.body)) refl
    where
      row_told : (q : ℕ) → q < n
          → (t : Result DepositValue Refusal) → IsBelow n (told_row before c (found c.rows q t))
      row_told q lt (Err k) = lt
      row_told q lt (Ok d) = by_test (as_listed (row_at c.rows q).header d.header)
        where
          by_test : (b : Bool) → IsBelow n (told_row before c (cond b (Holding q d) (Differing q)))
          by_test true = lt
          by_test false = lt

      told_at : Option ℕ → Option ℕ
      told_at o = told_row before c (found_at c.rows o (reads c.body))

      by_row : (o : Option ℕ) → row_with_digest c.rows (digest c.body) ≡ o
          → IsBelow n (told_at (row_with_digest c.rows (digest c.body)))
      by_row None is = subst (λ (o : Option ℕ). IsBelow n (told_at o)) (sym is) tt
      by_row (Some q) is =
          let at = row_has c.rows (digest c.body) is in
          subst (λ (o : Option ℕ). IsBelow n (told_at o))
          (sym is) (row_told q (omega (arith, at.0, le)) (reads c.body))

  pub receipts_below : (n : ℕ) (before l : List Coming) → ((c : Coming) → Among l c → length c.rows ≤ n)
      → AreBelow n (receipts_after digest reads before l)
  receipts_below n before [] short = tt
  receipts_below n before (c ∷ l) short = (
    row_below c n (short c (inl refl)) before,
    receipts_below n (before ++ c ∷ []) l (λ b there. short b (inr there)),
  )
