-- The fault that is returned of a text is its least.
use Rattle.std.proofs.Common.{◌≡◌, ◌⊎◌, ℕ, suc, ◌+◌, ◌-◌, ◌<◌, ◌≤◌, Bool, true, false}
use Rattle.std.proofs.Common.{List, [], ◌∷◌, length, map, Option, Some, None, Err, refl, sym, ap, subst}
use Rattle.std.proofs.Common.{◌∙◌, arith, inl, inr}
use Rattle.std.specs.Prelude.{nat_lt, position, if◌then◌else◌}
use Rattle.std.proofs.lemmas.Bool.{cases_Bool, cases_lt}
use Rattle.std.proofs.lemmas.Bool.Decides.{nat_tests}
use Rattle.std.proofs.lemmas.List.{length-drop}
use Rattle.esc_manifest.specs.declared.refusal.ManifestRefusal.{ManifestRefusal}
use Rattle.esc_manifest.specs.declared.refusal.ManifestRefusal.TheVariants.{OverLimit, NotSixFields}
use Rattle.esc_manifest.specs.declared.refusal.ManifestRefusal.TheVariants.{WrongHeading, WrongId}
use Rattle.esc_manifest.specs.declared.refusal.ManifestRefusal.TheVariants.{WrongType, WrongWatermark}
use Rattle.esc_manifest.specs.declared.refusal.ManifestRefusal.TheVariants.{MissingPrev, WrongResend}
use Rattle.esc_manifest.specs.declared.refusal.ManifestRefusal.TheVariants.{WrongDigest}
use Rattle.esc_manifest.specs.declared.refusal.ManifestRefusal.TheVariants.{RepeatedRevision, MovedId}
use Rattle.esc_manifest.specs.declared.refusal.ManifestRefusal.TheVariants.{LatePrev, RepeatedDigest}
use Rattle.esc_manifest.specs.Codes.{manifest_number}
use Rattle.esc_manifest.specs.RefusalLaws.{one_manifest_refusal}
use Rattle.esc_manifest.specs.declared.row.MRow.{MRow}
use Rattle.esc_csv.specs.Records.{records_of}
use Rattle.esc_manifest.specs.LeastFault.{IsLeastOf, IsLeastManifestFault, records_below, record_at}
use Rattle.esc_manifest.specs.LeastFault.{is_faulty, IsFaultAbove, IsFaultInText, IsLeastInText}
use Rattle.esc_manifest.specs.Manifest.{most_bytes, has_other_length, lacks_heading, lacks_id}
use Rattle.esc_manifest.specs.Manifest.{lacks_type, lacks_watermark, is_diff_alone, lacks_resend}
use Rattle.esc_manifest.specs.Manifest.{lacks_digest, records_fault, typed_rows, fault_then, text_fault}
use Rattle.esc_manifest.specs.Manifest.{unless, manifest_of}
use Rattle.esc_manifest.specs.RowFaults.{most_manifest_rows, fault_or, rows_fault}
use Rattle.esc_manifest.proofs.LeastFrom.{first_of_list, LeastFrom, AtLeastRow, up, found, step, lower}
use Rattle.esc_manifest.proofs.LeastFrom.{fault_or_is, at_row, least_of, is_least, IsFirst}
use Rattle.esc_manifest.proofs.RowLeast.{rows_least, least_rows, fault_row}
use Rattle.esc_manifest.proofs.WholeReading.{whole_list, are_whole}

-- a record below the heading has M4 to M9 alone
of_record : (fields : List (List ℕ)) (k : ManifestRefusal)
    → is_faulty fields k ≡ true → (4 ≤ manifest_number k) × (manifest_number k ≤ 9)
of_record fields OverLimit holds = absurd cc
of_record fields NotSixFields holds = absurd cc
of_record fields WrongHeading holds = absurd cc
of_record fields WrongId holds = (omega arith, omega arith)
of_record fields WrongType holds = (omega arith, omega arith)
of_record fields WrongWatermark holds = (omega arith, omega arith)
of_record fields MissingPrev holds = (omega arith, omega arith)
of_record fields WrongResend holds = (omega arith, omega arith)
of_record fields WrongDigest holds = (omega arith, omega arith)
of_record fields RepeatedRevision holds = absurd cc
of_record fields MovedId holds = absurd cc
of_record fields LatePrev holds = absurd cc
of_record fields RepeatedDigest holds = absurd cc

-- M4 and on are at records below the heading alone
not_above : (text : List ℕ) (code : ManifestRefusal) (s : ℕ)
    → 3 < manifest_number code → IsFaultAbove text code s → ⊥
not_above text code s over (inl one) = absurd (omega (arith, over, ap manifest_number one.0))
not_above text code s over (inr (inl two)) = absurd (omega (arith, over, ap manifest_number two.0))
not_above text code s over (inr (inr three)) = absurd (omega (arith, over, ap manifest_number three.0))

-- and M1 to M3 at none of those
not_below : (text : List ℕ) (code : ManifestRefusal) (s : ℕ)
    → manifest_number code < 4 → IsFaultInText text code s → IsFaultAbove text code s
not_below text code s lt (inl there) = there
not_below text code s lt (inr (r, below, is, holds)) =
    absurd (omega (arith, lt, (of_record (record_at (records_below text) r) code holds).0))

none_past : (text : List ℕ) → LeastFrom (IsFaultInText text) 10 None
none_past text = record { none = λ e k s le there. past k s le there; some = λ c r e. absurd cc }
  where
    past : (k : ManifestRefusal) (s : ℕ) → 10 ≤ manifest_number k → IsFaultInText text k s → ⊥
    past k s le (inl there) = not_above text k s (omega arith) there
    past k s le (inr (r, below, is, holds)) =
        absurd (omega (arith, le, (of_record (record_at (records_below text) r) k holds).1))

next_number : (text : List ℕ) (code : ManifestRefusal)
    (o : Option ℕ) (next : Option (ManifestRefusal × ℕ)) → 3 < manifest_number code
    → IsFirst (λ r. is_faulty (record_at (records_below text) r) code) (length (records_below text)) o
    → LeastFrom (IsFaultInText text) (manifest_number code + 1) next
    → LeastFrom (IsFaultInText text) (manifest_number code) (fault_or code o next)
next_number text code o next over first later =
    subst (LeastFrom (IsFaultInText text) (manifest_number code)) (sym (fault_or_is code o next))
    (step (IsFaultInText text) code (manifest_number code + 1)
    (up o) next (omega arith) (λ k s more less there. absurd (omega (arith, more, less)))
    (at_row (IsFaultAbove text) (λ c r. is_faulty (record_at (records_below text) r) c)
    (length (records_below text)) code o (λ s. not_above text code s over) first) later)

-- the faults of the records below the heading
abbrev pub below_chain : List ℕ → Option (ManifestRefusal × ℕ)
below_chain text =
    fault_or WrongId (position lacks_id (records_below text))
    (fault_or WrongType (position lacks_type (records_below text))
    (fault_or WrongWatermark (position lacks_watermark (records_below text))
    (fault_or MissingPrev (position is_diff_alone (records_below text))
    (fault_or WrongResend (position lacks_resend (records_below text))
    (fault_or WrongDigest (position lacks_digest (records_below text)) None)))))

below : (text : List ℕ) → LeastFrom (IsFaultInText text) 4 (below_chain text)
below text =
    let n9 = next_number text WrongDigest (position lacks_digest (records_below text))
    None (omega arith) (first_of_list lacks_digest (records_below text) []) (none_past text) in
    let n8 = next_number text WrongResend (position lacks_resend (records_below text)) _ (omega arith)
    (first_of_list lacks_resend (records_below text) []) n9 in
    let n7 = next_number text MissingPrev (position is_diff_alone (records_below text)) _ (omega arith)
    (first_of_list is_diff_alone (records_below text) []) n8 in
    let n6 = next_number text WrongWatermark (position lacks_watermark (records_below text))
    _ (omega arith) (first_of_list lacks_watermark (records_below text) []) n7 in
    let n5 = next_number text WrongType (position lacks_type (records_below text)) _ (omega arith)
    (first_of_list lacks_type (records_below text) []) n6 in
    next_number text WrongId (position lacks_id (records_below text)) _ (omega arith)
    (first_of_list lacks_id (records_below text) []) n5

-- M3
abbrev heading_or : Bool → Option (ManifestRefusal × ℕ) → Option (ManifestRefusal × ℕ)
heading_or lacks next = if lacks then Some (WrongHeading, 0) else next

heading : (text : List ℕ) (lacks : Bool) → lacks_heading (records_of text) ≡ lacks
    → LeastFrom (IsFaultInText text) 3 (heading_or lacks (below_chain text))
heading text true is = found (IsFaultInText text) 3 WrongHeading 0 (inl (inr (inr (refl, refl, is))))
    (λ k s le there. elim (cases_lt 3 (manifest_number k)) [
      | inl over ↦ inl over
      | inr even ↦ inr (one_manifest_refusal WrongHeading k (omega arith), omega arith)
    ])
heading text false is = lower (IsFaultInText text) 3 4 (below_chain text)
    (λ k s le lt there. other k s lt (not_below text k s lt there) le) (below text)
  where
    other : (k : ManifestRefusal) (s : ℕ)
        → manifest_number k < 4 → IsFaultAbove text k s → 3 ≤ manifest_number k → ⊥
    other k s lt (inl one) le = absurd (omega (arith, le, ap manifest_number one.0))
    other k s lt (inr (inl two)) le = absurd (omega (arith, le, ap manifest_number two.0))
    other k s lt (inr (inr three)) le = let holds = three.2 in absurd cc

-- M2
shape : (text : List ℕ) → AtLeastRow (IsFaultInText text) NotSixFields (position has_other_length (records_of text))
shape text = let first = first_of_list has_other_length (records_of text) [] in record {
  none = λ e s there. elim (not_below text NotSixFields s (omega arith) there) [
    | inl one ↦ let other = one.0 in absurd cc
    | inr (inl two) ↦ let fails = first.none e s two.1 in let holds = two.2 in absurd cc
    | inr (inr three) ↦ let other = three.0 in absurd cc
  ];
  some = λ row e. let f = first.some row e in (
    inl (inr (inl (refl, f.0, f.1))),
    λ s there. elim (not_below text NotSixFields s (omega arith) there) [
      | inl one ↦ let other = one.0 in absurd cc
      | inr (inl two) ↦ elim (cases_lt s row) [
        | inl before ↦ let fails = f.2 s before in let holds = two.2 in absurd cc
        | inr after ↦ after
      ]
      | inr (inr three) ↦ let other = three.0 in absurd cc
    ],
  );
}

-- M1
few_low : (text : List ℕ) → length text ≤ most_bytes → length (records_of text) ≤ most_manifest_rows + 1
    → (k : ManifestRefusal) (s : ℕ) → manifest_number k < 2 → IsFaultInText text k s → ⊥
few_low text bytes rows k s lt there = elim (not_below text k s (omega arith) there) [
  | inl one ↦ elim one.2 [ inl long ↦ absurd (omega arith) | inr many ↦ absurd (omega arith) ]
  | inr (inl two) ↦ absurd (omega (arith, lt, ap manifest_number two.0))
  | inr (inr three) ↦ absurd (omega (arith, lt, ap manifest_number three.0))
]

from_one : (text : List ℕ) (k : ManifestRefusal) (s : ℕ)
    → IsFaultInText text k s → (1 < manifest_number k) ⊎ ((OverLimit ≡ k) × (0 ≤ s))
from_one text k s (inl (inl one)) = inr (sym one.0, omega arith)
from_one text k s (inl (inr (inl two))) = inl (omega (arith, ap manifest_number two.0))
from_one text k s (inl (inr (inr three))) = inl (omega (arith, ap manifest_number three.0))
from_one text k s (inr (r, lt, is, holds)) =
    inl (omega (arith, (of_record (record_at (records_below text) r) k holds).0))

many : (text : List ℕ)
    → ((most_bytes < length text) ⊎ (most_manifest_rows + 1 < length (records_of text)))
    → LeastFrom (IsFaultInText text) 0 (Some (OverLimit, 0))
many text over = found (IsFaultInText text) 0 OverLimit 0 (inl (inl (refl, refl, over)))
    (λ k s le there. from_one text k s there)

records_least : (text : List ℕ)
    → length text ≤ most_bytes → LeastFrom (IsFaultInText text) 0 (records_fault (records_of text))
unfolding records_fault
records_least text bytes = elim (cases_Bool (nat_lt (most_manifest_rows + 1) (length (records_of text)))) [
  | inl over ↦ let long : most_manifest_rows + 1 < length (records_of text) =
      grind (arith, nat_tests) in rw over (many text (inr long))
  | inr few ↦
      let within : length (records_of text) ≤ most_manifest_rows + 1 = grind (arith, nat_tests) in
      rw few (lower (IsFaultInText text) 0 2 _ (λ k s le lt. few_low text bytes within k s lt)
      (step (IsFaultInText text) NotSixFields 3 (position has_other_length (records_of text))
      (heading_or (lacks_heading (records_of text)) (below_chain text))
      (omega arith) (λ k s more less there. absurd (omega (arith, more, less)))
      (shape text) (heading text (lacks_heading (records_of text)) refl)))
]

-- ---- the whole

-- the fault of bytes and records
abbrev pub first_fault : List ℕ → Option (ManifestRefusal × ℕ)
first_fault text = if nat_lt most_bytes (length text) then Some (OverLimit, 0) else records_fault (records_of text)

first_least : (text : List ℕ) → LeastFrom (IsFaultInText text) 0 (first_fault text)
first_least text = elim (cases_Bool (nat_lt most_bytes (length text))) [
  | inl over ↦ let long : most_bytes < length text = grind (arith, nat_tests) in rw over (many text (inl long))
  | inr few ↦ let within : length text ≤ most_bytes = grind (arith, nat_tests) in rw few (records_least text within)
]

text_fault_is : (text : List ℕ)
    → text_fault text ≡ fault_then (first_fault text) (rows_fault (typed_rows (records_of text)))
unfolding text_fault
text_fault_is text = elim (cases_Bool (nat_lt most_bytes (length text))) [
  | inl over ↦ rw over refl
  | inr few ↦ rw few refl
]

no_records_fault : (text : List ℕ) → first_fault text ≡ None → records_fault (records_of text) ≡ None
no_records_fault text e = elim (cases_Bool (nat_lt most_bytes (length text))) [
  | inl over ↦ absurd (cc (rw over at e))
  | inr few ↦ rw few at e
]

refused : (o : Option (ManifestRefusal × ℕ)) (m : List MRow) (code : ManifestRefusal) (row : ℕ)
    → unless o m ≡ Err (code, row) → o ≡ Some (code, row)
refused None m code row e = absurd cc
refused (Some f) m code row e = let same : f ≡ (code, row) = cc in ap (λ (p : ManifestRefusal × ℕ). Some p) same

or_next : (o next : Option (ManifestRefusal × ℕ)) (f : ManifestRefusal × ℕ)
    → fault_then o next ≡ Some f → (o ≡ Some f) ⊎ ((o ≡ None) × (next ≡ Some f))
or_next None next f e = inr (refl, e)
or_next (Some g) next f e = inl e

-- the fault that is returned of a text is its least
pub text_least : (text : List ℕ) (code : ManifestRefusal) (row : ℕ)
    → manifest_of text ≡ Err (code, row) → IsLeastInText text code row
unfolding manifest_of
text_least text code row e =
    let fault = sym (text_fault_is text) ∙ refused (text_fault text) (typed_rows (records_of text)) code row e in
    elim (or_next (first_fault text) (rows_fault (typed_rows (records_of text))) (code, row) fault) [
      | inl here ↦ inl (least_of (IsFaultInText text) (first_fault text) (first_least text) code row here)
      | inr (none, next) ↦ inr (
        λ k s. (first_least text).none none k s (omega arith),
        typed_rows (records_of text),
        whole_list (records_below text) (are_whole (records_of text) (no_records_fault text none)),
        rows_least (typed_rows (records_of text)) code row next,
      )
    ]

some_map : (xs ys : List MRow) → map Some xs ≡ map Some ys → xs ≡ ys
some_map [] [] e = refl
some_map [] (y ∷ ys) e = absurd cc
some_map (x ∷ xs) [] e = absurd cc
some_map (x ∷ xs) (y ∷ ys) e =
    let head : x ≡ y = cc in
    let tail : map Some xs ≡ map Some ys = cc in
    ap (λ (z : MRow). z ∷ xs) head ∙ ap (λ (zs : List MRow). y ∷ zs) (some_map xs ys tail)

refused_by : (text : List ℕ) (code : ManifestRefusal) (row : ℕ) → fault_then (first_fault text)
    (rows_fault (typed_rows (records_of text))) ≡ Some (code, row) → manifest_of text ≡ Err (code, row)
unfolding manifest_of
refused_by text code row fault = ap (λ (o : Option (ManifestRefusal × ℕ)). unless
    o (typed_rows (records_of text))) (text_fault_is text ∙ fault)

nothing_first : (text : List ℕ) (o : Option (ManifestRefusal × ℕ)) → LeastFrom (IsFaultInText text) 0 o
    → ((k : ManifestRefusal) (s : ℕ) → IsFaultInText text k s → ⊥) → o ≡ None
nothing_first text None all none = refl
nothing_first text (Some f) all none = absurd (none f.0 f.1 (least_of (IsFaultInText text) (Some f) all f.0 f.1 refl).0)

-- the least fault of a text is returned
pub least_text : (text : List ℕ) (code : ManifestRefusal) (row : ℕ)
    → IsLeastInText text code row → manifest_of text ≡ Err (code, row)
least_text text code row (inl least) =
    let first = is_least (IsFaultInText text) (first_fault text) (first_least text) code row least in
    refused_by text code row (rw first refl)
least_text text code row (inr (none, m, whole, least)) =
    let first = nothing_first text (first_fault text) (first_least text) none in
    let all = whole_list (records_below text) (are_whole (records_of text) (no_records_fault text first)) in
    let same : m ≡ typed_rows (records_of text) = some_map m (typed_rows (records_of text)) (sym whole ∙ all) in
    let next = least_rows (typed_rows (records_of text))
    code row (subst (λ (x : List MRow). IsLeastManifestFault x code row) same least) in
    refused_by text code row (rw first next)

-- ---- the row of a fault

few_records : (text : List ℕ) (code : ManifestRefusal) (row : ℕ) → 1 < manifest_number code
    → IsLeastOf (IsFaultInText text) code row → length (records_of text) ≤ 4097
few_records text code row over least = elim (cases_lt 4097 (length (records_of text))) [
  | inl more ↦ elim (least.1 OverLimit 0 (inl (inl (refl, refl, inr more)))) [
    | inl
        less ↦ absurd (omega arith)
    | inr same ↦ absurd (omega (arith, over, ap manifest_number same.0))
  ]
  | inr within ↦ within
]

own_row : (text : List ℕ) (code : ManifestRefusal) (row : ℕ)
    → IsLeastOf (IsFaultInText text) code row → IsFaultInText text code row → row ≤ 4096
own_row text code row least (inl (inl one)) = omega (arith, one.1)
own_row text code row least (inl (inr (inl two))) = let few = few_records
    text code row (omega (arith, ap manifest_number two.0)) least in let lt = two.1 in omega arith
own_row text code row least (inl (inr (inr three))) = omega (arith, three.1)
own_row text code row least (inr (r, lt, is, holds)) =
    let few = few_records text
    code row (omega (arith, (of_record (record_at (records_below text) r) code holds).0)) least in
    let inside : suc r ≤ length (records_of text) - 1 = simp length-drop at lt in
    omega (arith, is)

-- a fault of a text is at a row that a manifest can have
pub text_row : (text : List ℕ) (code : ManifestRefusal) (row : ℕ) → IsLeastInText text code row → row ≤ 4096
text_row text code row (inl least) = own_row text code row least least.0
text_row text code row (inr (none, m, whole, least)) = fault_row m code row least
