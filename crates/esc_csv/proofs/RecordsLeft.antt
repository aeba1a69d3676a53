-- A read of a text takes the first of the records that are left.
use Rattle.std.proofs.Common.{◌≡◌, ℕ, ◌+◌, true, false, List, [], ◌∷◌, length, Option, Some, None}
use Rattle.std.proofs.Common.{refl, ap, ◌∙◌, arith, inl, add-one}
use Rattle.std.specs.Borrow.{Bor}
use Rattle.csv.specs.Machine.{Read, next_record, ends_at_end}
use Rattle.csv.specs.Reading.{records_from, default_config, ReadsNext, NextIs, ReadRecord, pending_of}
use Rattle.csv.specs.Reading.{is_flexible, took_first}
use Rattle.csv.specs.declared.parser.State.{State}
use Rattle.csv.specs.declared.reader.Reader.{Reader}
use Rattle.esc_csv.specs.Between.{records_at, records_left, unread, IsReading}
use Rattle.esc_csv.proofs.Automaton.{leaves, takes_a_byte, turns_at}

-- ---- the records that are left, from a state of the library's reader

-- at the end no records are left
pub none_left : (s : State) (xs : List ℕ)
    → next_record default_config s [] [] xs ≡ None → records_at s xs ≡ []
unfolding records_from
none_left s xs e = rw (add-one, e) refl

-- a record that is read is the first of those left
pub one_less : (s : State) (xs : List ℕ) (p : Read) → ends_at_end s ≡ false
    → next_record default_config s [] [] xs ≡ Some p → records_at s xs ≡ p.0 ∷ records_at p.1 p.2
unfolding records_from
one_less s xs p between e =
    let shorter = takes_a_byte default_config s xs p between e in
    let l = leaves default_config s [] [] xs p e in
    rw (add-one (length xs), e) (ap (λ (records : List (List (List ℕ))). p.0 ∷ records)
    (turns_at default_config (length xs) (length p.2 + 1) p.1 p.2 l.1 (omega (arith, shorter))
    (omega arith) (next_record default_config p.1 [] [] p.2) refl))

-- what a read that found a record says of the texts before and after it
abbrev Took : State → List ℕ → Option (List ℕ) → List (List ℕ) → State → Type 0
Took s xs after fields s2 = (ys : List ℕ)
    × (after ≡ Some ys) × (records_at s xs ≡ fields ∷ records_at s2 ys) × (ends_at_end s2 ≡ false)

took_next : (s : State) (xs ys : List ℕ) (fields : List (List ℕ)) (s2 : State)
    → ends_at_end s ≡ false → (o : Option Read) → next_record default_config s [] [] xs ≡ o
    → NextIs o true fields s2 ys → Took s xs (Some ys) fields s2
took_next s xs ys fields s2 between None e h = absurd cc
took_next s xs ys fields s2 between (Some p) e h =
    let l = leaves default_config s [] [] xs p e in
    (ys, refl, rw (h.1, h.2, h.3) (one_less s xs p between e), rw h.2 l.1)

took : (s : State) (xs : List ℕ) (after : Option (List ℕ)) (fields : List (List ℕ)) (s2 : State)
    → ends_at_end s ≡ false → ReadsNext default_config s (Some xs) after true fields s2
    → Took s xs after fields s2
took s xs None fields s2 between h = absurd h
took s xs (Some ys) fields s2 between h =
    took_next s xs ys fields s2 between (next_record default_config s [] [] xs) refl h

ended_next : (s : State) (xs ys : List ℕ) (fields : List (List ℕ)) (s2 : State) → (o : Option Read)
    → next_record default_config s [] [] xs ≡ o → NextIs o false fields s2 ys → records_at s xs ≡ []
ended_next s xs ys fields s2 None e h = none_left s xs e
ended_next s xs ys fields s2 (Some p) e h = absurd (cc (h.0))

ended : (s : State) (xs : List ℕ) (after : Option (List ℕ)) (fields : List (List ℕ)) (s2 : State)
    → ReadsNext default_config s (Some xs) after false fields s2 → records_at s xs ≡ []
ended s xs None fields s2 h = absurd h
ended s xs (Some ys) fields s2 h = ended_next s xs ys fields s2 (next_record default_config s [] [] xs) refl h

-- ---- the same of a reader of a slice

-- what a slice still has to give
abbrev pub slice_rest : Bor (List ℕ) → Option (List ℕ)
slice_rest s = Some s.now

-- a read that returns a record took the first one left
pub took_record : (old new : Reader (Bor (List ℕ))) (fields : List (List ℕ))
    → IsReading old → ReadRecord slice_rest old new true fields → is_flexible new ≡ is_flexible old
    → took_first new ≡ true → IsReading new × (records_left old ≡ fields ∷ records_left new)
took_record old new fields was read flexible first =
    let reads : ReadsNext default_config old.state (Some was.rest) (pending_of (slice_rest new.rdr) new)
    true fields new.state = rw (← was.config, ← was.source) read.0 in
    let t = took old.state was.rest (pending_of (slice_rest new.rdr) new) fields new.state was.between reads in
    let source : unread new ≡ Some t.0 = rw read.1 t.1 in (
      record {
        trim = read.3 ∙ was.trim;
        ready = inl first;
        config = read.2 ∙ was.config;
        flexible = flexible ∙ was.flexible;
        between = t.3;
        rest = t.0;
        source = source;
      },
      rw (was.source, source) t.2,
    )

-- a read that returns none had none left
pub no_record : (old new : Reader (Bor (List ℕ))) (fields : List (List ℕ))
    → IsReading old → ReadRecord slice_rest old new false fields → records_left old ≡ []
no_record old new fields was read =
    let reads : ReadsNext default_config old.state (Some was.rest) (pending_of (slice_rest new.rdr) new)
    false fields new.state = rw (← was.config, ← was.source) read.0 in
    rw was.source (ended old.state was.rest (pending_of (slice_rest new.rdr) new) fields new.state reads)
