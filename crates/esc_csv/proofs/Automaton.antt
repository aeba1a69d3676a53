-- The steps of the library's reader: a record takes a byte at least, and leaves the reader between
-- two records.
use Rattle.std.proofs.Common.{◌≡◌, ℕ, zero, suc, ◌<◌, ◌≤◌, Bool, true, false, cond, List, []}
use Rattle.std.proofs.Common.{◌∷◌, ◌++◌, length, Option, Some, None, refl, ap, subst, arith, inl, inr}
use Rattle.std.specs.Prelude.{◌==◌, ◌&&◌}
use Rattle.std.proofs.lemmas.Bool.{cases_Bool}
use Rattle.std.proofs.lemmas.Option.{same_Some}
use Rattle.csv.specs.Machine.{Read, next_record, step, in_field, start_field, start_record, after_end}
use Rattle.csv.specs.Machine.{ends_with, is_end, ends_at_end, fields_after, field_after, is_byte}
use Rattle.csv.specs.Reading.{records_from}
use Rattle.csv.specs.declared.parser.Config.{Config}
use Rattle.csv.specs.declared.parser.State.{State}
use Rattle.csv.specs.declared.parser.State.TheVariants as st
use Rattle.csv.specs.declared.parser.Action.{Action}
use Rattle.csv.specs.declared.parser.Action.TheVariants as act
use Rattle.csv.specs.declared.parser.Terminator.{Terminator}
use Rattle.csv.specs.declared.parser.Terminator.TheVariants as term

-- ---- where a record ends, the machine is between two records

abbrev Closes : State × Action → Type 0
Closes p = is_end p.1 ≡ true → ends_at_end p.0 ≡ false

closes_either : (t : Bool) (p q : State × Action) → Closes p → Closes q → Closes (cond t p q)
closes_either true p q a b = a
closes_either false p q a b = b

goes_on : (s : State) (a : Action) → is_end a ≡ false → Closes (s, a)
goes_on s a h e = absurd cc

closes_after : (t : Terminator) (c : ℕ) → ends_at_end (after_end t c) ≡ false
closes_after term.CRLF c = elim (cases_Bool (c == 13)) [ inl e ↦ rw e refl | inr e ↦ rw e refl ]
closes_after (term.Any b) c = refl

in_field_closes : (cfg : Config) (c : ℕ) → Closes (in_field cfg c)
in_field_closes cfg c =
    let ending : State × Action = (after_end cfg.terminator c, act.EndRecord) in
    let copying : State × Action = (st.InField, act.Copy) in
    closes_either (c == cfg.delimiter) (st.StartField, act.EndField)
    (cond (ends_with cfg.terminator c) ending copying) (goes_on st.StartField act.EndField refl)
    (closes_either (ends_with cfg.terminator c) ending copying (λ e. closes_after cfg.terminator c)
    (goes_on st.InField act.Copy refl))

start_field_closes : (cfg : Config) (c : ℕ) → Closes (start_field cfg c)
start_field_closes cfg c = closes_either (cfg.quoting && (c == cfg.quote))
    (st.InQuoted, act.Skip) (in_field cfg c) (goes_on st.InQuoted act.Skip refl) (in_field_closes cfg c)

start_record_closes : (cfg : Config) (c : ℕ) → Closes (start_record cfg c)
start_record_closes cfg c =
    closes_either (ends_with cfg.terminator c) (st.StartRecord, act.Skip) (cond (is_byte cfg.comment c)
    (st.InComment, act.Skip) (start_field cfg c)) (goes_on st.StartRecord act.Skip refl)
    (closes_either (is_byte cfg.comment c) (st.InComment, act.Skip)
    (start_field cfg c) (goes_on st.InComment act.Skip refl) (start_field_closes cfg c))

quoted_closes : (cfg : Config) (c : ℕ) → Closes (step cfg st.InQuoted c)
quoted_closes cfg c =
    let escaped : State × Action = (st.InEscape, act.Skip) in
    let copied : State × Action = (st.InQuoted, act.Copy) in
    closes_either (cfg.quoting && (c == cfg.quote)) (st.AfterQuote, act.Skip) (cond
    (cfg.quoting && is_byte cfg.escape c) escaped copied) (goes_on st.AfterQuote act.Skip refl)
    (closes_either (cfg.quoting && is_byte cfg.escape c)
    escaped copied (goes_on st.InEscape act.Skip refl) (goes_on st.InQuoted act.Copy refl))

step_closes : (cfg : Config) (s : State) (c : ℕ) → Closes (step cfg s c)
step_closes cfg st.StartRecord c = start_record_closes cfg c
step_closes cfg st.StartField c = start_field_closes cfg c
step_closes cfg st.InField c = in_field_closes cfg c
step_closes cfg st.InQuoted c = quoted_closes cfg c
step_closes cfg st.InEscape c = goes_on st.InQuoted act.Copy refl
step_closes cfg st.AfterQuote c = closes_either (cfg.quoting && cfg.double_quote && (c == cfg.quote))
    (st.InQuoted, act.Copy) (in_field cfg c) (goes_on st.InQuoted act.Copy refl) (in_field_closes cfg c)
step_closes cfg st.InComment c = closes_either (c == 10) (st.StartRecord, act.Skip)
    (st.InComment, act.Skip) (goes_on st.StartRecord act.Skip refl) (goes_on st.InComment act.Skip refl)
step_closes cfg st.AfterCr c = closes_either (c == 10) (st.StartRecord, act.Skip)
    (start_record cfg c) (goes_on st.StartRecord act.Skip refl) (start_record_closes cfg c)

-- ---- a record takes at least a byte, and leaves the machine between two records

abbrev Leaves : List ℕ → Read → Type 0
Leaves xs p = (length p.2 ≤ length xs) × (ends_at_end p.1 ≡ false)

leaves_at_end : (b : Bool) (fields : List (List ℕ)) (p : Read)
    → cond b (Some (fields, st.StartRecord, [])) None ≡ Some p → Leaves [] p
leaves_at_end true fields p e = subst (Leaves []) (same_Some (fields, st.StartRecord, []) p e) (omega arith, refl)
leaves_at_end false fields p e = absurd cc

leaves_either : (rest : List ℕ) (b : Bool) (q : Read) (o : Option Read) (p : Read)
    → (b ≡ true → Leaves rest q)
    → ((r : Read) → o ≡ Some r → Leaves rest r) → cond b (Some q) o ≡ Some p → Leaves rest p
leaves_either rest true q o p at_end later e = subst (Leaves rest) (same_Some q p e) (at_end refl)
leaves_either rest false q o p at_end later e = later p e

-- what a record leaves is the end of the text
pub leaves : (cfg : Config) (s : State) (fields : List (List ℕ)) (field xs : List ℕ) (p : Read)
    → next_record cfg s fields field xs ≡ Some p → Leaves xs p
unfolding next_record
leaves cfg s fields field [] p e = leaves_at_end (ends_at_end s) (fields ++ (field ∷ [])) p e
leaves cfg s fields field (c ∷ rest) p e =
    let action = (step cfg s c).1 in
    let then_state = (step cfg s c).0 in
    let l = leaves_either rest (is_end action) (fields_after action fields field, then_state, rest)
    (next_record cfg then_state (fields_after action fields field)
    (field_after action c field) rest) p (λ h. (omega arith, step_closes cfg s c h))
    (λ r f. leaves cfg then_state _ _ rest r f) e in
    (omega (arith, l.0), l.1)

-- a record takes a byte at least
pub takes_a_byte : (cfg : Config) (s : State) (xs : List ℕ) (p : Read)
    → ends_at_end s ≡ false → next_record cfg s [] [] xs ≡ Some p → length p.2 < length xs
unfolding next_record
takes_a_byte cfg s [] p h e = absurd (cc (rw h at e))
takes_a_byte cfg s (c ∷ rest) p h e =
    let action = (step cfg s c).1 in
    let then_state = (step cfg s c).0 in
    let l = leaves_either rest (is_end action) (fields_after action [] [], then_state, rest)
    (next_record cfg then_state (fields_after action [] []) (field_after action c []) rest)
    p (λ h. (omega arith, step_closes cfg s c h)) (λ r f. leaves cfg then_state _ _ rest r f) e in
    omega (arith, l.0)

-- ---- more turns than bytes give no more records

-- records are the same for any bound that is large enough
pub turns_at : (cfg : Config) (n m : ℕ) (s : State) (xs : List ℕ)
    → ends_at_end s ≡ false → length xs < n → length xs < m → (o : Option Read)
    → next_record cfg s [] [] xs ≡ o → records_from cfg n s xs ≡ records_from cfg m s xs
unfolding records_from
turns_at cfg zero m s xs between a b o e = absurd (omega arith)
turns_at cfg (suc n) zero s xs between a b o e = absurd (omega arith)
turns_at cfg (suc n) (suc m) s xs between a b None e = rw e refl
turns_at cfg (suc n) (suc m) s xs between a b (Some p) e =
    let shorter = takes_a_byte cfg s xs p between e in
    let l = leaves cfg s [] [] xs p e in
    rw e (ap (λ (records : List (List (List ℕ))). p.0 ∷ records) (turns_at cfg n m p.1
    p.2 l.1 (omega (arith, shorter)) (omega (arith, shorter)) (next_record cfg p.1 [] [] p.2) refl))
