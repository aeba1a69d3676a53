-- The objects of a store as one list by key.
use Rattle.std.proofs.Common.{◌≡◌, Bool, true, false, cond, List, [], ◌∷◌, filter, refl, ap, ◌∙◌}
use Rattle.std.specs.List.{flat_map}
use Rattle.sha2.specs.Sha256.{sha256}
use Rattle.esc_envelope.specs.declared.kind.Kind.{Kind}
use Rattle.esc_tables.specs.DepositValue.{DepositValue}
use Rattle.esc_tables.specs.Reading.{reading}
use Rattle.esc_apply.specs.ObjectStreams.{Entry, InOrder}
use Rattle.esc_apply.specs.Registry.{IsEntriesOf}
use Rattle.esc_apply.specs.Tables.{tables}
use Rattle.esc_check.specs.Export.{export_heading, object_lines, is_of, export_text}
use Rattle.esc_csv.specs.Lines.{text_of}
use Rattle.esc_store.specs.StoreState.{StoreState}
use Rattle.esc_events.specs.Events.{EventValue}
use Rattle.esc_events.specs.LatestTables.{AreEntries}
use Rattle.esc_desk.specs.Laws.{TablesAreOfEvents}
use Rattle.esc_events.specs.StateAfter.{IsApart, IsStateAfter, deposits_of, held_body}

-- the tables of any deposits have a listing by key
abbrev pub AreListed : Type 0
AreListed = (ds : List DepositValue) → (es : List Entry) × InOrder es × IsEntriesOf (tables ds) es

-- so have those of the state after these events
pub listing : (e : List EventValue) (kept : StoreState) → AreListed → TablesAreOfEvents
    → IsStateAfter sha256 reading e kept
    → IsApart sha256 reading e → (es : List Entry) × AreEntries e es × InOrder es
listing e kept listed of_events stands_for apart =
    let entries = listed (deposits_of reading (held_body sha256 reading e) kept.steps) in
    let latest = (of_events e kept stands_for apart).latest in
    (entries.0, record { chain = kept.steps; latest = latest; objects = entries.2 }, entries.1)

filter_again : {X : Type 0} (p : X → Bool) (xs : List X) → filter p (filter p xs) ≡ filter p xs
filter_again p [] = refl
filter_again {X} p (x ∷ xs) = by_test (p x) refl (filter_again p xs)
  where
    by_test : (b : Bool) → p x ≡ b → filter p (filter p xs) ≡ filter p xs
        → filter p (cond b (x ∷ filter p xs) (filter p xs)) ≡ cond b (x ∷ filter p xs) (filter p xs)
    by_test true e rest = ap (λ t. cond t (x ∷ filter p (filter p xs)) (filter p (filter p xs))) e
        ∙ ap (λ (ys : List X). x ∷ ys) rest
    by_test false e rest = rest

-- the export of a kind is made of the objects of that kind
pub export_of_kind : (kind : Kind) (es : List Entry)
    → export_text kind (filter (is_of kind) es) ≡ export_text kind es
export_of_kind kind es = ap (λ (kept : List Entry). text_of (export_heading
    ∷ flat_map (λ (e : Entry). object_lines e.0 e.1) kept)) (filter_again (is_of kind) es)
