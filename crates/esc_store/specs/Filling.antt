-- Objects that are put many at a time, after what their keys had is noted.
use Rattle.std.specs.Prelude.{◌≡◌, ℕ, List, None, Some, map, All}
use Rattle.sqlite_trees.specs.declared.store.Store.{Ghosts}
use Rattle.esc_envelope.specs.Kinds.{kind_rank}
use Rattle.esc_tables.specs.KeyName.{KeyName}
use Rattle.esc_tables.specs.ObjectValue.{ObjectValue}
use Rattle.esc_record.specs.Record.{record_of}
use Rattle.esc_apply.specs.declared.registry.Keys.{Keys}
use Rattle.esc_apply.specs.declared.registry.Keys.TheVariants.{Vacant}
use Rattle.esc_apply.specs.ObjectStreams.{Entry}
use Rattle.esc_apply.specs.Registry.{State, written}
use Rattle.esc_apply.specs.Changes.{with_object, changed_by, CanBePut}
use Rattle.esc_sql.specs.Changes.{ObjectEntry, ImageEntry}
use Rattle.esc_store.specs.Pages.{AreRowsOf}
use Rattle.esc_store.specs.TypedRows.{record_at_key}
use Rattle.esc_store.specs.Representation.{ChangeOf, HasMadeTables, IsHonest, store_in}

-- these objects are put, and what their keys had is noted for the step
abbrev pub after_filling : State → ℕ → List Entry → State
after_filling s step es = changed_by s step (map with_object es)

-- what the keys of these objects had is noted for the step, and the objects are to be put
abbrev pub after_noting : State → ℕ → List Entry → State
after_noting s step es = record { content = s.content; undo = (after_filling s step es).undo }

-- a change has put the object whose record is these bytes, at the key of this kind and text
abbrev pub PutsRecord : {S : Type 0} → Ghosts S → ℕ → List ℕ → List ℕ → ChangeOf S → ChangeOf S
    → Type 0
PutsRecord g kind text bytes old new = (s : State) (k : KeyName) (o : ObjectValue)
    → kind ≡ kind_rank k.kind → text ≡ k.text → record_of o ≡ Some bytes
    → HasMadeTables g old s → HasMadeTables g new (written s k (Some o))

-- the before-image that says what the row's key has in this state
abbrev pub image_now : State → ObjectEntry → ImageEntry
image_now s r = record { kind = r.kind; key = r.key; bytes = record_at_key s.content r.kind r.key }

-- the keys of these rows have no object, if keys are said to be free
abbrev pub AreFree : Keys → State → List ObjectEntry → Type 0
AreFree targets s rows = targets ≡ Vacant
    → All (λ (r : ObjectEntry). record_at_key s.content r.kind r.key ≡ None) rows

-- a change gave before-images that say what the keys of these rows have
abbrev pub AreImagesNow : {S : Type 0} → Ghosts S → Keys → List ObjectEntry → List ImageEntry
    → ChangeOf S → ChangeOf S → Type 0
AreImagesNow g targets rows images old new = IsHonest g (store_in new) → (s : State)
    → AreFree targets s rows → HasMadeTables g old s
    → (images ≡ map (image_now s) rows) × HasMadeTables g new s

-- a change has put the objects of these rows, and noted for the step what their keys had
abbrev pub FillsRows : {S : Type 0} → Ghosts S → ℕ → Keys → List ObjectEntry → ChangeOf S
    → ChangeOf S → Type 0
FillsRows g step targets rows old new = IsHonest g (store_in new) → (s : State) (es : List Entry)
    → AreRowsOf es rows → CanBePut targets s step (map with_object es) → HasMadeTables g old s
    → HasMadeTables g new (after_filling s step es)

-- a change has put the objects of these rows, if it was noted for a step what their keys had
abbrev pub PutsRows : {S : Type 0} → Ghosts S → List ObjectEntry → ChangeOf S → ChangeOf S → Type 0
PutsRows g rows old new = (s : State) (step : ℕ) (es : List Entry) → AreRowsOf es rows
    → HasMadeTables g old (after_noting s step es) → HasMadeTables g new (after_filling s step es)
