-- The tables of a registry as a series of bundles (this project's profile of RFC 8909, section 2).
use Rattle.std.specs.Prelude.{◌≡◌, ℕ, zero, suc, ◌-◌, ◌<◌, ◌==◌, if◌then◌else◌, ℤ, pos, ◌-ℤ◌, List}
use Rattle.std.specs.Prelude.{[], ◌∷◌, ◌++◌, map, flat_map, length, Option, None, Some, Ok, codes}
use Rattle.std.specs.Fmt.{decimal}
use Rattle.esc_envelope.specs.declared.kind.Kind.{Kind}
use Rattle.esc_envelope.specs.declared.place.DepositType.TheVariants.{Full}
use Rattle.esc_envelope.specs.HeaderValue.{HeaderValue}
use Rattle.esc_tables.specs.DepositValue.{DepositValue}
use Rattle.esc_tables.specs.Reading.{reading}
use Rattle.esc_apply.specs.ObjectStreams.{Entry}
use Rattle.esc_series.specs.Series.{part_type}
use Rattle.esc_deposit.specs.FullBundle.{counted_kinds}

-- the id of the part with this number, from 0, of so many: the last one has the deposit's own, and
-- each other one has that with its number, from 1, and how many there are
abbrev pub part_id : List ℕ → ℕ → ℕ → List ℕ
part_id id of number =
    if suc number == of then id
    else id ++ codes "." ++ decimal (suc number) ++ codes "of" ++ decimal of

-- the id of the part before, of each part but the first
abbrev pub prev_part : List ℕ → ℕ → ℕ → Option (List ℕ)
prev_part id of zero = None
prev_part id of (suc number) = Some (part_id id of number)

-- the moment of a part: the last one has the deposit's own, and each other one is a nanosecond
-- before the next
abbrev pub part_moment : ℤ → ℕ → ℕ → ℤ
part_moment watermark of number = watermark -ℤ pos (of - suc number)

-- what a part of a Full says of itself, the first time that it is generated
abbrev pub part_header : List ℕ → ℤ → ℕ → ℕ → HeaderValue
part_header id watermark of number = record {
  id = part_id id of number;
  place = record { watermark = part_moment watermark of number; kind = part_type Full number };
  prev = prev_part id of number;
  resend = 0;
}

-- what a part declares: the last one how many objects of each kind the registry has, the others
-- nothing, since they have some of the objects
abbrev pub part_counts : List Entry → ℕ → ℕ → List (Kind × ℕ)
part_counts es of number = if suc number == of then counted_kinds es else []

-- a part with these counts and these objects
abbrev pub part_with : List ℕ → ℤ → ℕ → ℕ → List (Kind × ℕ) → List Entry → DepositValue
part_with id watermark of number counts run = record {
  header = part_header id watermark of number;
  counts = counts;
  deletes = [];
  contents = run;
  orphans = 0;
}

-- the objects of runs, one run after another
abbrev pub run_objects : List (List Entry) → List Entry
run_objects runs = flat_map (λ run. run) runs

-- the parts of the objects es from this number on, one for each of these runs
abbrev pub parts_from : List ℕ → ℤ → List Entry → ℕ → ℕ → List (List Entry) → List DepositValue
parts_from id watermark es of number [] = []
parts_from id watermark es of number (run ∷ runs) =
    part_with id watermark of number (part_counts es of number) run
    ∷ parts_from id watermark es of (suc number) runs

-- a registry as a series: its objects in runs, each of which is one part
abbrev pub registry_series : List ℕ → ℤ → List (List Entry) → List DepositValue
registry_series id watermark runs = parts_from id watermark (run_objects runs) (length runs) 0 runs

-- the bodies are read as a series of these objects
pub record AreSeriesOf (id : List ℕ) (watermark : ℤ) (es : List Entry) (bodies : List (List ℕ))
    : Type 0 where
  pub runs : List (List Entry)
  pub some : 0 < length runs
  pub whole : run_objects runs ≡ es
  pub read : map reading bodies ≡ map Ok (registry_series id watermark runs)

-- bodies are taken one after another, each by a step of this kind, from a beginning to an end
abbrev pub TakesAll : {S : Type 0} → (S → List ℕ → S → Type 0) → S → List (List ℕ) → S → Type 0
TakesAll Takes a [] b = a ≡ b
TakesAll {S} Takes a (body ∷ bodies) b =
    (next : S) × Takes a body next × TakesAll Takes next bodies b
