-- The envelope of a body, and of the deposit that the body is.
use Rattle.std.proofs.Common.{◌≡◌, ◌∙◌, ℕ, List, [], ◌∷◌, refl, sym, ap, Ok, Err}
use Rattle.std.specs.Prelude.{Result, IfOk, IfErr, MatchResult}
use Rattle.esc_bundle.specs.declared.refusal.Refusal.{Refusal}
use Rattle.esc_bundle.specs.declared.fault.Fault.{Fault}
use Rattle.esc_bundle.specs.declared.fault.Fault.TheVariants.{Refused, NoMemory}
use Rattle.esc_bundle.specs.Bundle.{Named}
use Rattle.esc_bundle.specs.Frame.{frame}
use Rattle.esc_bundle.specs.TestLaws.{bind_done}
use Rattle.esc_envelope.specs.EnvelopeValue.{EnvelopeValue}
use Rattle.esc_envelope.specs.Envelope.{envelope_of}
use Rattle.esc_tables.specs.DepositValue.{DepositValue}
use Rattle.esc_tables.specs.Reading.{deposit_of_files, deposit_in, sections_deposit, reading}
use Rattle.esc_tables.specs.Reading.{sections_envelope, bundled_envelope}
use Rattle.esc_tables.proofs.ExactFacts.{parts_of, same_ok}

-- a body that is no frame has no envelope
pub unframed : (body : List ℕ) (n : Refusal) → frame body ≡ Err n → bundled_envelope body ≡ Err n
unfolding bundled_envelope
unframed body n wrong = rw wrong refl

-- the envelope of a body is that of its first section
pub same_envelope : (body : List ℕ) (first : Named) (files : List Named)
    → frame body ≡ Ok (first ∷ files) → bundled_envelope body ≡ envelope_of first.bytes
unfolding bundled_envelope sections_envelope
same_envelope body first files framed = rw framed refl

-- ---- header and counts of a deposit are its envelope's

abbrev Heads : EnvelopeValue → DepositValue → Type 0
Heads e d = (e.header ≡ d.header) × (e.counts ≡ d.counts)

made_heads : (files : List Named) (e : EnvelopeValue) (d : DepositValue)
    → d ≡ deposit_of_files files e → Heads e d
unfolding deposit_of_files
made_heads files e d made =
    (sym (ap (λ (x : DepositValue). x.header) made), sym (ap (λ (x : DepositValue). x.counts) made))

first_heads : (body : List ℕ) (ss : List Named) (d : DepositValue) → frame body ≡ Ok ss
    → sections_deposit ss ≡ Ok d → (e : EnvelopeValue) × (bundled_envelope body ≡ Ok e) × Heads e d
unfolding sections_deposit
first_heads body [] d framed h = absurd cc
first_heads body (first ∷ files) d framed h =
    let step = bind_done (envelope_of first.bytes) (deposit_in files) d h in (
      step.0,
      same_envelope body first files framed ∙ step.1,
      made_heads files step.0 d (parts_of files step.0 d step.2).2,
    )

envelope_heads : (body : List ℕ) (d : DepositValue)
    → reading body ≡ Ok d → (e : EnvelopeValue) × (bundled_envelope body ≡ Ok e) × Heads e d
unfolding reading
envelope_heads body d h = let step = bind_done (frame body) sections_deposit d h in
    first_heads body step.0 d step.1 step.2

same_heads : (e f : EnvelopeValue) (d : DepositValue) → e ≡ f → Heads f d → Heads e d
same_heads e f d same heads = (
  ap (λ (x : EnvelopeValue). x.header) same ∙ heads.0,
  ap (λ (x : EnvelopeValue). x.counts) same ∙ heads.1,
)

-- what returns the envelope of a body returns that of its deposit, if it is one
pub heads_deposit : (body : List ℕ) (r : Result EnvelopeValue Fault)
    → IfOk r (λ e. bundled_envelope body ≡ Ok e)
    → IfErr r (λ e. (n : Refusal) → e ≡ Refused n → bundled_envelope body ≡ Err n)
    → (d : DepositValue) → reading body ≡ Ok d
    → MatchResult r (λ e. (e.header ≡ d.header) × (e.counts ≡ d.counts)) (λ e. e ≡ NoMemory)
heads_deposit body (Ok e) told refused d read =
    let found = envelope_heads body d read in
    same_heads e found.0 d (same_ok e found.0 (sym told ∙ found.1)) found.2
heads_deposit body (Err (Refused n)) told refused d read =
    let found = envelope_heads body d read in
    let right : bundled_envelope body ≡ Ok found.0 = found.1 in
    let wrong : bundled_envelope body ≡ Err n = refused n refl in
    absurd cc
heads_deposit body (Err NoMemory) told refused d read = refl
