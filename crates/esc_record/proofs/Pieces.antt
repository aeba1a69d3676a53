-- The pieces of a record: what is read is its text, and its text is read, whatever follows.
use Rattle.std.proofs.Common.{◌≡◌, ℕ, zero, suc, ◌+◌, ◌^◌, ◌<◌, ◌≤◌, Bool, true, false}
use Rattle.std.proofs.Common.{List, [], ◌∷◌, ◌++◌, length, take, drop, get_or, Option, None, Some, refl}
use Rattle.std.proofs.Common.{sym, ap, subst, ◌∙◌, arith, append_assoc, inl, inr}
use Rattle.std.specs.Prelude.{nat_lt, if◌then◌else◌}
use Rattle.std.specs.List.{AllByRecursion, flat_map}
use Rattle.std.specs.Int.{from_be_bytes, to_be_bytes, w32}
use Rattle.std.proofs.lemmas.Bool.{cases_Bool, cases_lt}
use Rattle.std.proofs.lemmas.Bool.Decides.{nat_tests}
use Rattle.std.proofs.lemmas.List.{get_or-drop, get_or-take, get_or_past, length-take, take_at, drop_at}
use Rattle.std.proofs.lemmas.List.{take-append-drop, length-append, length-take-le}
use Rattle.std.proofs.lemmas.List.Concat.{flat_map-cons}
use Rattle.std.proofs.lemmas.Nat.{be_bytes_4, from_be_bytes-to_be_bytes_4}
use Rattle.std.proofs.lemmas.Option.{same_Some}
use Rattle.esc_envelope.specs.Sequences.{◌>>=◌}
use Rattle.esc_envelope.specs.SequenceLaws.{bound}
use Rattle.esc_tables.specs.ObjectValue.{RowValue}
use Rattle.esc_record.specs.Record.{number_bytes, text_bytes, cell_bytes, row_bytes}
use Rattle.esc_record.specs.Reading.{cut, number_in_front, many, text_in_front, cell_in_front, row_in_front}

-- each element is a byte
abbrev pub AreBytes : List ℕ → Type 0
AreBytes bytes = (i : ℕ) → get_or bytes i 0 < 256

-- the text of a good thing is read, whatever follows
abbrev pub Again : {A : Type 0}
    → (List ℕ → Option (A × List ℕ)) → (A → List ℕ) → (A → Type 0) → Type 0
Again {A} one text Good = (x : A) (rest : List ℕ) → Good x → one (text x ++ rest) ≡ Some (x, rest)

-- of bytes, what is read is its text and is good, and what is left are bytes
pub record Took {A : Type 0} (text : A → List ℕ)
    (Good : A → Type 0) (bytes : List ℕ) (p : A × List ℕ) : Type 0 where
  pub is : bytes ≡ text p.0 ++ p.1
  pub good : Good p.0
  pub rest : AreBytes p.1

-- what a reader takes is the text of what it gives
abbrev pub Takes : {A : Type 0}
    → (List ℕ → Option (A × List ℕ)) → (A → List ℕ) → (A → Type 0) → Type 0
Takes {A} one text Good =
    (bytes : List ℕ) (p : A × List ℕ) → AreBytes bytes → one bytes ≡ Some p → Took text Good bytes p

bytes_drop : (n : ℕ) (bytes : List ℕ) → AreBytes bytes → AreBytes (drop n bytes)
bytes_drop n bytes are i = rw get_or-drop (are (n + i))

-- ---- so many bytes

-- a text of a known length is cut off again
pub cut_again : (a rest : List ℕ) (n : ℕ) → length a ≡ n → cut n (a ++ rest) ≡ Some (a, rest)
cut_again a rest n is =
    let long : nat_lt (length (a ++ rest)) n ≡ false = let l = length-append a rest in grind (arith, nat_tests) in
    rw (long, take_at a rest n is, drop_at a rest n is) refl

record IsCut (n : ℕ) (bytes : List ℕ) (p : List ℕ × List ℕ) : Type 0 where
  whole : bytes ≡ p.0 ++ p.1
  size : length p.0 ≡ n
  front : p.0 ≡ take n bytes
  back : p.1 ≡ drop n bytes

cut_takes : (n : ℕ) (bytes : List ℕ) (p : List ℕ × List ℕ) → cut n bytes ≡ Some p → IsCut n bytes p
cut_takes n bytes p h = elim (cases_Bool (nat_lt (length bytes) n)) [
  | inl short ↦ let none : None ≡ Some p = rw short at h in absurd cc
  | inr long ↦ (
      let enough : n ≤ length bytes = grind (arith, nat_tests) in
      let e : (take n bytes, drop n bytes) ≡ p = same_Some _ _ (rw long at h) in
      subst (IsCut n bytes) e (record {
        whole = sym (take-append-drop n bytes);
        size = length-take-le n bytes enough;
        front = refl;
        back = refl;
      }))
]

-- ---- numbers

-- a number is read back
pub number_again : Again number_in_front number_bytes (λ n. n < 2 ^ 32)
unfolding number_bytes
number_again n rest small = rw (cut_again (to_be_bytes w32 n) rest 4 refl, from_be_bytes-to_be_bytes_4 n small) refl

small_be : (bytes : List ℕ) → length bytes ≡ 4 → AreBytes bytes → from_be_bytes w32 bytes < 2 ^ 32
small_be bytes four are = let (a, b, c, d) : (get_or bytes 0 0 < 256) × (get_or bytes 1 0 < 256)
    × (get_or bytes 2 0 < 256) × (get_or bytes 3 0 < 256) = (are 0, are 1, are 2, are 3) in omega arith

short_bytes : (n : ℕ) (bytes : List ℕ) → AreBytes bytes → AreBytes (take n bytes)
short_bytes n bytes are i = elim (cases_lt i n) [
  | inl below ↦ rw (get_or-take n bytes i 0 below) (are i)
  | inr past ↦ let e : get_or (take n bytes) i 0 ≡ 0 =
      get_or_past (take n bytes) i 0 (let l = length-take n bytes in omega arith) in rw e (omega arith)
]

-- what is read as a number is its text
pub number_takes : Takes number_in_front number_bytes (λ n. n < 2 ^ 32)
unfolding number_bytes
number_takes bytes p are h =
    let b = bound (cut 4 bytes) (λ q. Some (from_be_bytes w32 q.0, q.1)) p h in
    let k = cut_takes 4 bytes b.it b.was in
    let e : (from_be_bytes w32 b.it.0, b.it.1) ≡ p = same_Some _ _ b.goes in
    let four : AreBytes b.it.0 = rw k.front (short_bytes 4 bytes are) in
    subst (Took number_bytes (λ n. n < 2 ^ 32) bytes) e (record {
      is = k.whole ∙ ap (λ front. front ++ b.it.1) (sym (be_bytes_4 b.it.0 _ k.size four refl));
      good = small_be b.it.0 k.size four;
      rest = rw k.back (bytes_drop 4 bytes are);
    })

-- ---- lists of things

-- many things are read back
pub many_again : {A : Type 0} (one : List ℕ → Option (A × List ℕ))
    (text : A → List ℕ) (Good : A → Type 0) → Again one text Good
    → (xs : List A) (rest : List ℕ)
    → AllByRecursion Good xs → many one (length xs) (flat_map text xs ++ rest) ≡ Some (xs, rest)
many_again one text Good again [] rest all = refl
many_again one text Good again (x ∷ xs) rest all =
    let first : one (flat_map text (x ∷ xs) ++ rest) ≡ Some (x, flat_map text xs ++ rest) =
    ap (λ t. one (t ++ rest)) (flat_map-cons text x xs) ∙ (ap one
    (append_assoc (text x) (flat_map text xs) rest) ∙ again x (flat_map text xs ++ rest) all.0) in
    rw (first, many_again one text Good again xs rest all.1) refl

-- what is known of many things that were read
pub record TookMany {A : Type 0} (text : A → List ℕ)
    (Good : A → Type 0) (n : ℕ) (bytes : List ℕ) (p : List A × List ℕ) : Type 0 where
  pub is : bytes ≡ flat_map text p.0 ++ p.1
  pub size : length p.0 ≡ n
  pub good : AllByRecursion Good p.0
  pub rest : AreBytes p.1

-- what is read as many things is their texts
pub many_takes : {A : Type 0} (one : List ℕ → Option (A × List ℕ))
    (text : A → List ℕ) (Good : A → Type 0) → Takes one text Good
    → (n : ℕ) (bytes : List ℕ) (p : List A × List ℕ)
    → AreBytes bytes → many one n bytes ≡ Some p → TookMany text Good n bytes p
many_takes {A} one text Good takes zero bytes p are h =
    let none : List A × List ℕ = ([], bytes) in
    let e : none ≡ p = same_Some _ _ h in
    subst (TookMany text Good 0 bytes) e (record { is = refl; size = refl; good = tt; rest = are })
many_takes {A} one text Good takes (suc n) bytes p are h =
    let a = bound (one bytes) (λ x. many one n x.1 >>= (λ xs. Some (x.0 ∷ xs.0, xs.1))) p h in
    let b = bound (many one n a.it.1) (λ xs. Some (a.it.0 ∷ xs.0, xs.1)) p a.goes in
    let first = takes bytes a.it are a.was in
    let others = many_takes one text Good takes n a.it.1 b.it first.rest b.was in
    let both : List A × List ℕ = (a.it.0 ∷ b.it.0, b.it.1) in
    let e : both ≡ p = same_Some _ _ b.goes in
    subst (TookMany text Good (suc n) bytes) e (record {
      is = first.is ∙ (ap (λ t. text a.it.0 ++ t) others.is ∙ (sym (append_assoc (text a.it.0) (flat_map
          text b.it.0) b.it.1) ∙ ap (λ t. t ++ b.it.1) (sym (flat_map-cons text a.it.0 b.it.0))));
      size = ap suc others.size;
      good = (first.good, others.good);
      rest = others.rest;
    })

-- ---- texts, cells, rows

-- a text that can be written
abbrev pub IsGoodText : (List ℕ → Bool) → List ℕ → Type 0
IsGoodText is_text t = (length t < 2 ^ 32) × (is_text t ≡ true)

-- a text is read back
pub text_again : (is_text : List ℕ → Bool) → Again (text_in_front is_text) text_bytes (IsGoodText is_text)
text_again is_text t rest good =
    let e : text_bytes t ++ rest ≡ number_bytes (length t) ++ (t ++ rest) =
    append_assoc (number_bytes (length t)) t rest in
    ap (text_in_front is_text) e
    ∙ rw (number_again (length t) (t ++ rest) good.0, cut_again t rest (length t) refl, good.1) refl

-- what is read as a text is its text
pub text_takes : (is_text : List ℕ → Bool) → Takes (text_in_front is_text) text_bytes (IsGoodText is_text)
text_takes is_text bytes p are h =
    let a = bound (number_in_front bytes) (λ n. cut
    n.0 n.1 >>= (λ q. (if is_text q.0 then Some q.0 else None) >>= (λ t. Some (t, q.1)))) p h in
    let b = bound (cut a.it.0 a.it.1)
    (λ q. (if is_text q.0 then Some q.0 else None) >>= (λ t. Some (t, q.1))) p a.goes in
    let n = number_takes bytes a.it are a.was in
    let k = cut_takes a.it.0 a.it.1 b.it b.was in
    elim (cases_Bool (is_text b.it.0)) [
      | inl good ↦ (
          let e : b.it ≡ p = same_Some _ _ (rw good at b.goes) in
          subst (Took text_bytes (IsGoodText is_text) bytes) e (record {
            is = n.is ∙ (ap (λ m. number_bytes m ++ a.it.1) (sym k.size)
                ∙ (ap (λ t. number_bytes (length b.it.0) ++ t) k.whole
                ∙ sym (append_assoc (number_bytes (length b.it.0)) b.it.0 b.it.1)));
            good = (rw k.size n.good, good);
            rest = rw k.back (bytes_drop a.it.0 a.it.1 n.rest);
          }))
      | inr bad ↦ let none : None ≡ Some p = rw bad at b.goes in absurd cc
    ]

-- a cell that can be written
abbrev pub IsGoodCell : (List ℕ → Bool) → List ℕ × List ℕ → Type 0
IsGoodCell is_text cell = IsGoodText is_text cell.0 × IsGoodText is_text cell.1

-- a cell is read back
pub cell_again : (is_text : List ℕ → Bool) → Again (cell_in_front is_text) cell_bytes (IsGoodCell is_text)
unfolding cell_in_front
cell_again is_text c rest good =
    let e : cell_bytes c ++ rest ≡ text_bytes c.0 ++ (text_bytes c.1 ++ rest) =
    append_assoc (text_bytes c.0) (text_bytes c.1) rest in
    ap (cell_in_front is_text) e ∙ rw (
      text_again is_text c.0 (text_bytes c.1 ++ rest) good.0,
      text_again is_text c.1 rest good.1,
    ) refl

-- what is read as a cell is its text
pub cell_takes : (is_text : List ℕ → Bool) → Takes (cell_in_front is_text) cell_bytes (IsGoodCell is_text)
unfolding cell_in_front
cell_takes is_text bytes p are h =
    let a = bound (text_in_front is_text bytes)
    (λ f. text_in_front is_text f.1 >>= (λ v. Some ((f.0, v.0), v.1))) p h in
    let b = bound (text_in_front is_text a.it.1) (λ v. Some ((a.it.0, v.0), v.1)) p a.goes in
    let f = text_takes is_text bytes a.it are a.was in
    let v = text_takes is_text a.it.1 b.it f.rest b.was in
    let both : (List ℕ × List ℕ) × List ℕ = ((a.it.0, b.it.0), b.it.1) in
    let e : both ≡ p = same_Some _ _ b.goes in
    subst (Took cell_bytes (IsGoodCell is_text) bytes) e (record {
      is = f.is ∙ (ap (λ t. text_bytes a.it.0 ++ t) v.is
          ∙ sym (append_assoc (text_bytes a.it.0) (text_bytes b.it.0) b.it.1));
      good = (f.good, v.good);
      rest = v.rest;
    })

-- a row that can be written
pub record IsGoodRow (is_text : List ℕ → Bool) (row : RowValue) : Type 0 where
  pub table : IsGoodText is_text row.table
  pub few : length row.cells < 2 ^ 32
  pub cells : AllByRecursion (IsGoodCell is_text) row.cells

-- a row is read back
pub row_again : (is_text : List ℕ → Bool) → Again (row_in_front is_text) row_bytes (IsGoodRow is_text)
unfolding row_in_front
row_again is_text r rest good =
    let cells = flat_map cell_bytes r.cells in
    let e : row_bytes r ++ rest
    ≡ text_bytes r.table ++ (number_bytes (length r.cells) ++ (cells ++ rest)) =
    append_assoc (text_bytes r.table) (number_bytes (length r.cells) ++ cells) rest
    ∙ ap (λ t. text_bytes r.table ++ t) (append_assoc (number_bytes (length r.cells)) cells rest) in
    ap (row_in_front is_text) e
    ∙ rw (
      text_again is_text r.table (number_bytes (length r.cells) ++ (cells ++ rest)) good.table,
      number_again (length r.cells) (cells ++ rest) good.few,
      many_again (cell_in_front is_text)
          cell_bytes (IsGoodCell is_text) (cell_again is_text) r.cells rest good.cells,
    ) refl

-- what is read as a row is its text
pub row_takes : (is_text : List ℕ → Bool) → Takes (row_in_front is_text) row_bytes (IsGoodRow is_text)
unfolding row_in_front
row_takes is_text bytes p are h =
    let a = bound (text_in_front is_text bytes)
    (λ t. number_in_front t.1 >>= (λ n. many (cell_in_front is_text) n.0 n.1 >>=
    (λ cs. Some (let row : RowValue = record { table = t.0; cells = cs.0 } in (row, cs.1))))) p h in
    let b = bound (number_in_front a.it.1) (λ n. many (cell_in_front is_text) n.0 n.1 >>= (λ cs. Some
    (let row : RowValue = record { table = a.it.0; cells = cs.0 } in (row, cs.1)))) p a.goes in
    let c = bound (many (cell_in_front is_text) b.it.0 b.it.1) (λ cs. Some
    (let row : RowValue = record { table = a.it.0; cells = cs.0 } in (row, cs.1))) p b.goes in
    let t = text_takes is_text bytes a.it are a.was in
    let n = number_takes a.it.1 b.it t.rest b.was in
    let cs = many_takes (cell_in_front is_text) cell_bytes (IsGoodCell is_text)
    (cell_takes is_text) b.it.0 b.it.1 c.it n.rest c.was in
    let row : RowValue = record { table = a.it.0; cells = c.it.0 } in
    let whole : RowValue × List ℕ = (row, c.it.1) in
    let e : whole ≡ p = same_Some _ _ c.goes in
    let cells = flat_map cell_bytes c.it.0 in
    subst (Took row_bytes (IsGoodRow is_text) bytes) e (record {
      is = t.is ∙ (ap (λ x. text_bytes a.it.0 ++ x) (n.is
          ∙ (ap (λ m. number_bytes m ++ b.it.1) (sym cs.size) ∙ (ap (λ x. number_bytes (length c.it.0)
          ++ x) cs.is ∙ sym (append_assoc (number_bytes (length c.it.0)) cells c.it.1))))
          ∙ sym (append_assoc (text_bytes a.it.0) (number_bytes (length c.it.0) ++ cells) c.it.1));
      good = record { table = t.good; few = rw cs.size n.good; cells = cs.good };
      rest = cs.rest;
    })
