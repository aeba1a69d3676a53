-- No field of a text's records is longer than the text.
use Rattle.std.proofs.Common.{◌≡◌, ℕ, zero, suc, ◌+◌, ◌≤◌, Bool, true, false, cond, List, []}
use Rattle.std.proofs.Common.{◌∷◌, ◌++◌, length, Option, Some, None, refl, subst, arith, length-append}
use Rattle.std.specs.Prelude.{All}
use Rattle.std.specs.List.{AllByRecursion}
use Rattle.std.proofs.lemmas.List.Elements.{All-from_recursion, All-nil, All-cons}
use Rattle.std.proofs.lemmas.Option.{same_Some}
use Rattle.csv.specs.Machine.{Read, next_record, step, is_end, ends_at_end, fields_after, field_after}
use Rattle.csv.specs.Reading.{records_from, records_next, default_config, is_bom, strip_bom}
use Rattle.csv.specs.declared.parser.Config.{Config}
use Rattle.csv.specs.declared.parser.State.{State}
use Rattle.csv.specs.declared.parser.State.TheVariants as st
use Rattle.csv.specs.declared.parser.Action.{Action}
use Rattle.csv.specs.declared.parser.Action.TheVariants as act
use Rattle.esc_csv.specs.Records.{records_of}

-- ---- one record

abbrev Short : ℕ → List (List ℕ) → Type 0
Short n fields = AllByRecursion (λ f. length f ≤ n) fields

one_more : (n : ℕ) (fields : List (List ℕ)) (field : List ℕ)
    → Short n fields → length field ≤ n → Short n (fields ++ (field ∷ []))
one_more n [] field short fits = (fits, tt)
one_more n (f ∷ fs) field short fits = (short.0, one_more n fs field short.1 fits)

after : (n : ℕ) (a : Action) (fields : List (List ℕ)) (field : List ℕ)
    → Short n fields → length field ≤ n → Short n (fields_after a fields field)
after n act.EndField fields field short fits = one_more n fields field short fits
after n act.EndRecord fields field short fits = one_more n fields field short fits
after n act.Skip fields field short fits = short
after n act.Copy fields field short fits = short

one_byte : (a : Action) (c : ℕ) (field : List ℕ) → length (field_after a c field) ≤ length field + 1
one_byte act.Copy c field = omega (arith, length-append field (c ∷ []))
one_byte act.EndField c field = omega arith
one_byte act.Skip c field = omega arith
one_byte act.EndRecord c field = omega arith

-- the fields of a read are short, and it leaves no more bytes than it had
abbrev ShortRead : ℕ → List ℕ → Read → Type 0
ShortRead n xs p = Short n p.0 × (length p.2 ≤ length xs)

at_end : (n : ℕ) (b : Bool) (q p : Read) → ShortRead n [] q → cond b (Some q) None ≡ Some p → ShortRead n [] p
at_end n true q p short e = subst (ShortRead n []) (same_Some q p e) short
at_end n false q p short e = absurd cc

ends_or_goes_on : (n : ℕ) (rest : List ℕ) (b : Bool) (q : Read) (o : Option Read) (p : Read)
    → ShortRead n rest q → ((r : Read) → o ≡ Some r → ShortRead n rest r)
    → cond b (Some q) o ≡ Some p → ShortRead n rest p
ends_or_goes_on n rest true q o p ended later e = subst (ShortRead n rest) (same_Some q p e) ended
ends_or_goes_on n rest false q o p ended later e = later p e

next_short : (cfg : Config) (n : ℕ) (s : State) (fields : List (List ℕ)) (field xs : List ℕ) (p : Read)
    → Short n fields → length field + length xs ≤ n
    → next_record cfg s fields field xs ≡ Some p → ShortRead n xs p
unfolding next_record
next_short cfg n s fields field [] p short fits e =
    at_end n (ends_at_end s) (fields ++ (field ∷ []), st.StartRecord, [])
    p (one_more n fields field short (omega (arith, fits)), omega arith) e
next_short cfg n s fields field (c ∷ rest) p short fits e =
    let action = (step cfg s c).1 in
    let then_state = (step cfg s c).0 in
    let fields_then = after n action fields field short (omega (arith, fits)) in
    let room : length (field_after action c field) + length rest ≤ n = omega (arith, fits, one_byte action c field) in
    let l = ends_or_goes_on n rest (is_end action) (fields_after action fields field, then_state, rest)
    (next_record cfg then_state (fields_after action fields field)
    (field_after action c field) rest) p
    (fields_then, omega arith)
    (λ r f. next_short cfg n then_state (fields_after action fields field)
    (field_after action c field) rest r fields_then room f) e in
    (l.0, omega (arith, l.1))

-- ---- all records

all_short : (cfg : Config) (turns n : ℕ) (s : State) (xs : List ℕ)
    → length xs ≤ n → (o : Option Read) → next_record cfg s [] [] xs ≡ o
    → AllByRecursion (Short n) (records_next (records_from cfg turns) o)
unfolding records_from
all_short cfg turns n s xs fits None e = tt
all_short cfg zero n s xs fits (Some p) e = ((next_short cfg n s [] [] xs p tt (omega (arith, fits)) e).0, tt)
all_short cfg (suc turns) n s xs fits (Some p) e =
    let l = next_short cfg n s [] [] xs p tt (omega (arith, fits)) e in
    (l.0, all_short cfg turns n p.1 p.2 (omega (arith, l.1, fits)) (next_record cfg p.1 [] [] p.2) refl)

records_short : (cfg : Config) (turns n : ℕ) (s : State) (xs : List ℕ)
    → length xs ≤ n → AllByRecursion (Short n) (records_from cfg turns s xs)
unfolding records_from
records_short cfg zero n s xs fits = tt
records_short cfg (suc turns) n s xs fits = all_short cfg turns n s xs fits (next_record cfg s [] [] xs) refl

no_mark : (b : Bool) (rest all : List ℕ) → length rest ≤ length all → length (cond b rest all) ≤ length all
no_mark true rest all h = h
no_mark false rest all h = omega arith

stripped : (text : List ℕ) → length (strip_bom text) ≤ length text
unfolding strip_bom
stripped [] = omega arith
stripped (a ∷ []) = omega arith
stripped (a ∷ b ∷ []) = omega arith
stripped (a ∷ b ∷ c ∷ rest) = no_mark (is_bom a b c) rest (a ∷ b ∷ c ∷ rest) (omega arith)

each : (n : ℕ) (records : List (List (List ℕ)))
    → AllByRecursion (Short n) records → All (λ r. All (λ f. length f ≤ n) r) records
each n [] h = All-nil (λ r. All (λ f. length f ≤ n) r)
each n (r ∷ rs) h = All-cons (λ r. All (λ f. length f ≤ n) r)
    r rs (All-from_recursion (λ f. length f ≤ n) r h.0) (each n rs h.1)

-- a field is no longer than its text
pub fields_fit : (text : List ℕ) → All (λ r. All (λ f. length f ≤ length text) r) (records_of text)
fields_fit text = each (length text) (records_of text) (records_short default_config
    (length (strip_bom text) + 1) (length text) st.StartRecord (strip_bom text) (stripped text))
