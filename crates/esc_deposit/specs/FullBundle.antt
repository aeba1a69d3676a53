-- The tables of a registry as one deposit (RFC 8909, section 2, and this project's profile).
use Rattle.std.specs.Prelude.{◌≡◌, ℕ, ℤ, List, [], ◌∷◌, count_by, None, Ok}
use Rattle.esc_envelope.specs.declared.kind.Kind.{Kind}
use Rattle.esc_envelope.specs.declared.kind.Kind.TheVariants.{Registrar, Contact, Host, Domain, Idn}
use Rattle.esc_envelope.specs.declared.kind.Kind.TheVariants.{Nndn}
use Rattle.esc_envelope.specs.declared.place.DepositType.TheVariants.{Full}
use Rattle.esc_envelope.specs.HeaderValue.{HeaderValue}
use Rattle.esc_envelope.specs.Kinds.{is_kind}
use Rattle.esc_tables.specs.DepositValue.{DepositValue}
use Rattle.esc_tables.specs.Reading.{reading}
use Rattle.esc_apply.specs.ObjectStreams.{Entry}

-- how many objects are of a kind
abbrev pub entry_count : List Entry → Kind → ℕ
entry_count es kind = count_by (λ (e : Entry). is_kind e.0.kind kind) es

-- a kind with the number of its objects
abbrev pub counted_kind : List Entry → Kind → Kind × ℕ
counted_kind es kind = (kind, entry_count es kind)

-- each kind with the number of its objects
abbrev pub counted_kinds : List Entry → List (Kind × ℕ)
counted_kinds es =
    counted_kind es Registrar ∷ counted_kind es Contact ∷ counted_kind es Host
    ∷ counted_kind es Domain ∷ counted_kind es Idn ∷ counted_kind es Nndn ∷ []

-- what a Full of a moment says of itself, the first time that it is generated
abbrev pub first_full_header : List ℕ → ℤ → HeaderValue
first_full_header id watermark = record {
  id = id;
  place = record { watermark = watermark; kind = Full };
  prev = None;
  resend = 0;
}

-- the Full of these objects, which declares how many there are of each kind
abbrev pub full_of : List ℕ → ℤ → List Entry → DepositValue
full_of id watermark es = record {
  header = first_full_header id watermark;
  counts = counted_kinds es;
  deletes = [];
  contents = es;
  orphans = 0;
}

-- the body is read as the Full of these objects
abbrev pub IsFullOf : List ℕ → ℤ → List Entry → List ℕ → Type 0
IsFullOf id watermark es body = reading body ≡ Ok (full_of id watermark es)
