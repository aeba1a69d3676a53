-- The refusal that an envelope has is the least that applies.
use Rattle.std.proofs.Common.{◌≡◌, ◌⊎◌, ℕ, ◌≤◌, List, Option, Some, None, Result, Ok, Err, refl}
use Rattle.std.proofs.Common.{sym, ap, subst, ◌∙◌, arith, inl, inr}
use Rattle.std.specs.Prelude.{IfOk, IfErr, IsErrAnd, codes}
use Rattle.serde_json.specs.Data.{Data}
use Rattle.esc_bundle.specs.declared.fault.Fault.{Fault}
use Rattle.esc_bundle.specs.declared.fault.Fault.TheVariants.{Refused, NoMemory}
use Rattle.esc_bundle.specs.declared.refusal.Refusal.{Refusal}
use Rattle.esc_bundle.specs.declared.refusal.Refusal.TheVariants.{NotJson, WrongMember, WrongTable}
use Rattle.esc_bundle.specs.Codes.{refusal_number}
use Rattle.esc_bundle.specs.RefusalLaws.{one_refusal}
use Rattle.esc_envelope.specs.declared.kind.Kind.{Kind}
use Rattle.esc_envelope.specs.EnvelopeValue.{EnvelopeValue, TableValue}
use Rattle.esc_envelope.specs.HeaderValue.{HeaderValue}
use Rattle.esc_envelope.specs.Members.{header_of, counts_of, array_of}
use Rattle.esc_envelope.specs.DeclaredTables.{contents_in, deletes_in}
use Rattle.esc_envelope.specs.Envelope.{json_of, envelope_in, envelope_of}
use Rattle.esc_envelope.specs.EnvelopeFaults.{LacksMember, LacksTables, IsEnvelopeFault, IsLeastEnvelopeFault}

there : {A : Type 0} (o : Option A) → (o ≡ None) ⊎ ((x : A) × (o ≡ Some x))
there None = inl refl
there (Some x) = inr (x, refl)

-- ---- JSON data, one step after another

no_header : (json : Data) → header_of json ≡ None → envelope_in json ≡ Err WrongMember
unfolding envelope_in
no_header json e = rw e refl

no_counts : (json : Data) (h : HeaderValue)
    → header_of json ≡ Some h → counts_of json ≡ None → envelope_in json ≡ Err WrongMember
unfolding envelope_in
no_counts json h e0 e = rw (e0, e) refl

no_contents : (json : Data) (h : HeaderValue) (counts : List (Kind × ℕ))
    → header_of json ≡ Some h → counts_of json ≡ Some counts
    → array_of (codes "contents") json ≡ None → envelope_in json ≡ Err WrongMember
unfolding envelope_in
no_contents json h counts e0 e1 e = rw (e0, e1, e) refl

no_deletes : (json : Data) (h : HeaderValue) (counts : List (Kind × ℕ)) (cs : List Data)
    → header_of json ≡ Some h → counts_of json ≡ Some counts → array_of (codes "contents") json
    ≡ Some cs → array_of (codes "deletes") json ≡ None → envelope_in json ≡ Err WrongMember
unfolding envelope_in
no_deletes json h counts cs e0 e1 e2 e = rw (e0, e1, e2, e) refl

-- the members that are there
pub record HasMembers (json : Data) : Type 0 where
  pub header : HeaderValue
  pub counts : List (Kind × ℕ)
  pub contents : List Data
  pub deletes : List Data
  pub has_header : header_of json ≡ Some header
  pub has_counts : counts_of json ≡ Some counts
  pub has_contents : array_of (codes "contents") json ≡ Some contents
  pub has_deletes : array_of (codes "deletes") json ≡ Some deletes

wrong_contents : (json : Data) (m : HasMembers json)
    → contents_in m.contents ≡ None → envelope_in json ≡ Err WrongTable
unfolding envelope_in
wrong_contents json m e = rw (m.has_header, m.has_counts, m.has_contents, m.has_deletes, e) refl

wrong_deletes : (json : Data) (m : HasMembers json) (ts : List TableValue)
    → contents_in m.contents ≡ Some ts → deletes_in m.deletes ≡ None → envelope_in json ≡ Err WrongTable
unfolding envelope_in
wrong_deletes json m ts e0 e = rw (m.has_header, m.has_counts, m.has_contents, m.has_deletes, e0, e) refl

envelope_with : (json : Data) (m : HasMembers json) (ts ds : List TableValue)
    → contents_in m.contents ≡ Some ts → deletes_in m.deletes ≡ Some ds
    → envelope_in json ≡ Ok (record { header = m.header; counts = m.counts; contents = ts; deletes = ds })
unfolding envelope_in
envelope_with json m ts ds e0 e1 = rw (m.has_header, m.has_counts, m.has_contents, m.has_deletes, e0, e1) refl

lacks_none : (json : Data) → HasMembers json → LacksMember json → ⊥
lacks_none json m (inl gone) = absurd (cc (m.has_header))
lacks_none json m (inr (inl gone)) = absurd (cc (m.has_counts))
lacks_none json m (inr (inr (inl gone))) = absurd (cc (m.has_contents))
lacks_none json m (inr (inr (inr gone))) = absurd (cc (m.has_deletes))

same_values : {A : Type 0} (o : Option A) (x y : A) → o ≡ Some x → o ≡ Some y → x ≡ y
same_values {A} o x y e f = let same : ◌≡◌ {A = Option A} (Some x) (Some y) = sym e ∙ f in cc

declared : (json : Data) (m : HasMembers json) (ts ds : List TableValue)
    → contents_in m.contents ≡ Some ts → deletes_in m.deletes ≡ Some ds → LacksTables json → ⊥
declared json m ts ds e0 e1 (inl (values, at, gone)) = let same = ap
    contents_in (same_values (array_of (codes "contents") json) m.contents values m.has_contents at) in
    let none = sym e0 ∙ same ∙ gone in absurd cc
declared json m ts ds e0 e1 (inr (values, at, gone)) = let same =
    ap deletes_in (same_values (array_of (codes "deletes") json) m.deletes values m.has_deletes at) in
    let none = sym e1 ∙ same ∙ gone in absurd cc

members_in : (json : Data) → ((envelope_in json ≡ Err WrongMember) × LacksMember json) ⊎ HasMembers json
members_in json = elim (there (header_of json)) [
  | inl gone ↦ inl (no_header json gone, inl gone)
  | inr (h, e0) ↦ elim (there (counts_of json)) [
    | inl gone ↦ inl (no_counts json h e0 gone, inr (inl gone))
    | inr (counts, e1) ↦ elim (there (array_of (codes "contents") json)) [
      | inl gone ↦ inl (no_contents json h counts e0 e1 gone, inr (inr (inl gone)))
      | inr (cs, e2) ↦ elim (there (array_of (codes "deletes") json)) [
        | inl gone ↦ inl (no_deletes json h counts cs e0 e1 e2 gone, inr (inr (inr gone)))
        | inr (ds, e3) ↦ inr (record {
          header = h;
          counts = counts;
          contents = cs;
          deletes = ds;
          has_header = e0;
          has_counts = e1;
          has_contents = e2;
          has_deletes = e3;
        })
      ]
    ]
  ]
]

tables_in : (json : Data) (m : HasMembers json) → ((envelope_in json ≡ Err WrongTable)
    × LacksTables json) ⊎ ((e : EnvelopeValue) × (envelope_in json ≡ Ok e) × (LacksTables json → ⊥))
tables_in json m = elim (there (contents_in m.contents)) [
  | inl gone ↦ inl (wrong_contents json m gone, inl (m.contents, m.has_contents, gone))
  | inr (ts, e0) ↦ elim (there (deletes_in m.deletes)) [
    | inl gone ↦ inl (wrong_deletes json m ts e0 gone, inr (m.deletes, m.has_deletes, gone))
    | inr (ds, e1) ↦ inr (
      record { header = m.header; counts = m.counts; contents = ts; deletes = ds },
      envelope_with json m ts ds e0 e1,
      declared json m ts ds e0 e1,
    )
  ]
]

-- ---- texts

no_json : (text : List ℕ) → json_of text ≡ None → envelope_of text ≡ Err NotJson
unfolding envelope_of
no_json text e = rw e refl

json_there : (text : List ℕ) (json : Data) → json_of text ≡ Some json → envelope_of text ≡ envelope_in json
unfolding envelope_of
json_there text json e = rw e refl

same_json : (text : List ℕ) (a b : Data) → json_of text ≡ Some a → json_of text ≡ Some b → a ≡ b
same_json text = same_values (json_of text)

-- an envelope to which no refusal applies, or the least
abbrev pub Told : List ℕ → Type 0
Told text = ((e : EnvelopeValue) × (envelope_of text ≡ Ok e) × ((n : Refusal) → IsEnvelopeFault text n
    → ⊥)) ⊎ ((n : Refusal) × (envelope_of text ≡ Err n) × IsLeastEnvelopeFault text n)

from_five : (text : List ℕ) (m : Refusal) → IsEnvelopeFault text m → 5 ≤ refusal_number m
from_five text m (inl w) = rw w.0 (omega arith)
from_five text m (inr (inl w)) = rw w.0 (omega arith)
from_five text m (inr (inr w)) = rw w.0 (omega arith)

from_six : (text : List ℕ) (json : Data)
    → json_of text ≡ Some json → (m : Refusal) → IsEnvelopeFault text m → 6 ≤ refusal_number m
from_six text json is m (inl (five, none)) = absurd (cc)
from_six text json is m (inr (inl w)) = rw w.0 (omega arith)
from_six text json is m (inr (inr w)) = rw w.0 (omega arith)

from_seven : (text : List ℕ) (json : Data) → json_of text ≡ Some json
    → HasMembers json → (m : Refusal) → IsEnvelopeFault text m → 7 ≤ refusal_number m
from_seven text json is members m (inl (five, none)) = absurd (cc)
from_seven text json is members m (inr (inl (six, other, at, lacks))) =
    absurd (lacks_none other (subst HasMembers (same_json text json other is at) members) lacks)
from_seven text json is members m (inr (inr s)) = rw s.0 (omega arith)

never : (text : List ℕ) (json : Data) → json_of text ≡ Some json
    → HasMembers json → (LacksTables json → ⊥) → (n : Refusal) → IsEnvelopeFault text n → ⊥
never text json is members right n (inl (five, none)) = absurd (cc)
never text json is members right n (inr (inl (six, other, at, lacks))) =
    lacks_none other (subst HasMembers (same_json text json other is at) members) lacks
never text json is members right n (inr (inr (seven, other, at, lacks))) =
    right (subst LacksTables (sym (same_json text json other is at)) lacks)

-- what a text's envelope or refusal says
pub told : (text : List ℕ) → Told text
told text = elim (there (json_of text)) [
  | inl none ↦ inr (NotJson, no_json text none, (inl (refl, none), from_five text))
  | inr (json, is) ↦ elim (members_in json) [
    | inl (err, lacks) ↦ inr (
      WrongMember,
      json_there text json is ∙ err,
      (inr (inl (refl, json, is, lacks)), from_six text json is),
    )
    | inr members ↦ elim (tables_in json members) [
      | inl (err, lacks) ↦ inr (
        WrongTable,
        json_there text json is ∙ err,
        (inr (inr (refl, json, is, lacks)), from_seven text json is members),
      )
      | inr (e, ok, right) ↦ inl (e, json_there text json is ∙ ok, never text json is members right)
    ]
  ]
]

least_of : (text : List ℕ) (n : Refusal) → Told text → envelope_of text ≡ Err n → IsLeastEnvelopeFault text n
least_of text n (inl (e, ok, none)) err = let both = sym ok ∙ err in absurd cc
least_of text n (inr (m, is, least)) err = let same : ◌≡◌ {A = Result EnvelopeValue Refusal} (Err m)
    (Err n) = sym is ∙ err in let one : m ≡ n = cc in subst (IsLeastEnvelopeFault text) one least

of_least : (text : List ℕ) (n : Refusal) → Told text → IsLeastEnvelopeFault text n → envelope_of text ≡ Err n
of_least text n (inl (e, ok, none)) least = absurd (none n least.0)
of_least text n (inr (m, is, other)) least =
    let one : m ≡ n = one_refusal m n (other.1 n least.0) (least.1 m other.0) in
    is ∙ ap (λ (k : Refusal). Err k) one

-- the refusal that is returned is the least that applies
pub is_least : (text : List ℕ) (n : Refusal) → envelope_of text ≡ Err n → IsLeastEnvelopeFault text n
is_least text n = least_of text n (told text)

-- the least refusal that applies is returned
pub least_is : (text : List ℕ) (n : Refusal) → IsLeastEnvelopeFault text n → envelope_of text ≡ Err n
least_is text n = of_least text n (told text)

-- ---- what is promised of a result for a text

-- a refusal that is returned is that of the text
pub fault_told : (text : List ℕ) (result : Result EnvelopeValue Fault)
    → IfOk result (λ e. envelope_of text ≡ Ok e)
    → IfErr result (λ e. (n : Refusal) → e ≡ Refused n → envelope_of text ≡ Err n)
    → (n : Refusal) → envelope_of text ≡ Err n → IsErrAnd result (λ e. (e ≡ Refused n) ⊎ (e ≡ NoMemory))
fault_told text (Ok e) ok err n is =
    let both : ◌≡◌ {A = Result EnvelopeValue Refusal} (Ok e) (Err n) = sym ok ∙ is in absurd cc
fault_told text (Err (Refused m)) ok err n is = let same : ◌≡◌
    {A = Result EnvelopeValue Refusal} (Err m) (Err n) = sym (err m refl) ∙ is in inl (cc)
fault_told text (Err NoMemory) ok err n is = inr refl
