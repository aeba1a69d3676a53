-- A Full of the tables, listed alone and held, leaves these tables.
use Rattle.std.proofs.Common.{◌≡◌, ℕ, zero, suc, ℤ, Bool, true, false, cond, List, [], ◌∷◌, map, Option, None, Some}
use Rattle.std.proofs.Common.{Result, Ok, refl, sym, ap, subst, ◌∙◌, is_some, true≢false, arith, append-nil, inl, inr}
use lib.IntN.{+ℤ_idr}
use Rattle.std.specs.List.{list_any}
use Rattle.std.specs.Map.{lookup, keys_of}
use Rattle.std.proofs.lemmas.Map.Made.{is_some-lookup}
use Rattle.sha2.specs.Sha256.{sha256}
use Rattle.esc_bundle.specs.declared.refusal.Refusal.{Refusal}
use Rattle.esc_manifest.specs.declared.row.MRow.{MRow}
use Rattle.esc_tables.specs.DepositValue.{DepositValue}
use Rattle.esc_tables.specs.KeyName.{KeyName, key_eq}
use Rattle.esc_tables.specs.Reading.{reading}
use Rattle.esc_apply.specs.ObjectStreams.{Entry}
use Rattle.esc_apply.specs.Tables.{tables, mentions, says}
use Rattle.esc_events.specs.ArrivalValue.{ArrivalValue, an_arrival}
use Rattle.esc_events.specs.Events.{EventValue, Coming}
use Rattle.esc_events.specs.Events.EventValue.{listed, arrived}
use Rattle.esc_events.specs.LatestTables.{AreEntries}
use Rattle.esc_events.specs.StateAfter.{IsApart}
use Rattle.esc_deposit.specs.FullBundle.{full_of, IsFullOf}
use Rattle.esc_deposit.specs.RegistrySeries.{registry_series, AreSeriesOf}
use Rattle.esc_handover.specs.Restored.{FullHasItsObjects, FullIsRestored, full_row, held_alone, part_row}
use Rattle.esc_handover.specs.Restored.{series_then, HaveCome}
use Rattle.esc_handover.proofs.SeriesRestoring.{PartsHaveObjects, series_restored}

-- ---- the tables of a Full

-- nothing is where nothing is found
none_there : {X : Type 0} (o : Option X) → is_some o ≡ false → o ≡ None
none_there None e = refl
none_there (Some x) e = absurd (true≢false e)

-- the tables of one deposit: what it says, where it mentions a key
of_one : (b : Bool) (d : DepositValue) (q : KeyName)
    → mentions q d ≡ b → tables (d ∷ []) q ≡ cond b (says q d) None
of_one true d q is = rw is refl
of_one false d q is = rw is refl

-- a Full of the tables has their objects
pub full_objects : FullHasItsObjects
full_objects id w es q = by_mention (list_any (key_eq q) (keys_of es)) refl
  where
    by_mention : (b : Bool) → list_any (key_eq q) (keys_of es) ≡ b
        → tables (full_of id w es ∷ []) q ≡ lookup (key_eq q) es
    by_mention true is = of_one true (full_of id w es) q is
    by_mention false is = of_one false (full_of id w es) q is
        ∙ sym (none_there (lookup (key_eq q) es) (is_some-lookup (key_eq q) es ∙ is))

-- ---- a Full as the series of one part

-- one run makes that Full alone
abbrev pub OneRunIsFull : Type 0
OneRunIsFull = (id : List ℕ) (w : ℤ) (es : List Entry) → registry_series id w (es ∷ []) ≡ full_of id w es ∷ []

module _ (id : List ℕ) (w : ℤ) (es : List Entry) (body number : List ℕ) where
  abbrev came : List ArrivalValue
  came = an_arrival number body ∷ []

  -- its row is that of the one part
  same_row : part_row id w 1 0 body ≡ full_row id w body
  same_row = ap (λ (v : ℤ). full_row id v body) (+ℤ_idr w)

  -- so are the events
  same_events : series_then id w (body ∷ []) came ≡ held_alone id w body number
  same_events = ap (λ (row : MRow). listed (row ∷ []) ∷ arrived (an_arrival number body) ∷ []) same_row

  -- and the body is a series of one part
  one_series : OneRunIsFull → IsFullOf id w es body → AreSeriesOf id w es (body ∷ [])
  one_series one full = record {
    runs = es ∷ [];
    some = omega arith;
    whole = append-nil es;
    read = ap (λ (r : Result DepositValue Refusal). r ∷ []) full
        ∙ ap (λ (ds : List DepositValue). map Ok ds) (sym (one id w es));
  }

  -- which came
  it_came : HaveCome (body ∷ []) came
  it_came zero d below = (0, an_arrival number body, omega arith, refl, refl)
  it_came (suc k) d below = absurd (omega (arith, below))

  -- no other body came
  apart : IsApart sha256 reading (series_then id w (body ∷ []) came)
  apart a b (inl is) (inl same) digest = ap (λ (c : Coming). c.body) is ∙ sym (ap (λ (c : Coming). c.body) same)
  apart a b (inl is) (inr never) digest = absurd never
  apart a b (inr never) there digest = absurd never

-- a store that holds it alone has the same tables
pub full_restored : PartsHaveObjects → OneRunIsFull → FullIsRestored
full_restored objects one id w es body number order full =
    let restored = series_restored objects id w es (body ∷ []) (came id w es body number) order
    (one_series id w es body number one full) (it_came id w es body number) (apart id w es body number) in
    subst (λ (e : List EventValue). AreEntries e es) (same_events id w es body number) restored
