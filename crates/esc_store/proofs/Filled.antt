-- Rows of objects that are put many at a time, after what their keys had is noted.
use Rattle.esc_store.proofs.Common.{◌≡◌, ℕ, Bool, true, false, cond, ◌&&◌, List, [], ◌∷◌, ◌++◌}
use Rattle.esc_store.proofs.Common.{map, Option, None, Some, is_some, refl, sym, ap, subst, ◌∙◌, arith}
use Rattle.esc_store.proofs.Common.{◌<◌, ◌+◌, length, drop, get_or, ◌==◌, same_key}
use Rattle.esc_store.proofs.Common.{IsSome, IfSome, cases_Bool, inl, inr, option_or, unwrap_or}
use Rattle.esc_store.proofs.Common.{AllByRecursion, All-from_recursion, get_or-map, length-map, lookup}
use Rattle.esc_store.proofs.Common.{keys_of, append-nil, map-append, kind_rank, option_and_then}
use Rattle.esc_store.proofs.Common.{KeyName, key_eq, keys_alike, ObjectValue, record_of, Entry, State}
use Rattle.esc_store.proofs.Common.{Keys, with_object, CanBePut, Content, NewObject, new_entry}
use Rattle.esc_store.proofs.Common.{ObjectEntry, drop_more}
use Rattle.esc_store.proofs.Common.{ImageEntry, is_entry_at, entry_at, entry_row, record_row, AreRowsOf}
use Rattle.esc_store.proofs.Common.{kind_numbered, record_at_key, IsRegistry, after_filling}
use Rattle.esc_store.proofs.Common.{after_noting, image_now, map_push, GainsObjects, GainsImages}
use Rattle.esc_store.proofs.Common.{AreFree, Objects, Undo}
use Rattle.std.proofs.Common.{append_assoc, All}
use Rattle.esc_apply.specs.Changes.{Change, AreNew}
pub use Rattle.esc_apply.specs.ChangeLaws.{Fills, fills_more, fills_last, Returns, returns_last, written_by-noted}
use Rattle.esc_apply.specs.ChangeLaws.{content-changed_by, undo-new}
use Rattle.esc_sql.specs.Changes.{image_entry_at}
use Rattle.esc_apply.specs.declared.registry.Keys.TheVariants.{Vacant, Unknown}
use Rattle.std.proofs.lemmas.List.Elements.{All-head, All-get_or}
pub use Rattle.esc_store.specs.StandingLaws.{follows_same, follows_then}
use Rattle.esc_store.proofs.Gathering.{tests_alike}
use Rattle.esc_store.proofs.Registries.{no_kind, record_found, record_here, has_record, Replaces, Reads}
use Rattle.esc_store.proofs.Registries.{ReadsNote, reads_note, none_both, objects_then, images_then}

-- ---- rows of entries
abbrev pub RowOf : Type 0
RowOf = ℕ × List ℕ × Option (List ℕ)

-- a row's kind, key and record are its entry's
pub parts : (e : Entry) (r : ObjectEntry) → entry_row e ≡ record_row r
    → (r.kind ≡ kind_rank e.0.kind) × (r.key ≡ e.0.text) × (record_of e.1 ≡ Some r.bytes)
parts e r same = (
  sym (ap (λ (t : RowOf). t.0) same),
  sym (ap (λ (t : RowOf). t.1) same),
  ap (λ (t : RowOf). t.2) same,
)

other_rows : (e : Entry) (es : List Entry) (r : ObjectEntry) (rows : List ObjectEntry)
    → AreRowsOf (e ∷ es) (r ∷ rows) → (entry_row e ≡ record_row r) × (r.kind ≡ kind_rank e.0.kind)
    × (r.key ≡ e.0.text) × (record_of e.1 ≡ Some r.bytes) × AreRowsOf es rows
other_rows e es r rows are =
    let all : entry_row e ∷ map entry_row es ≡ record_row r ∷ map record_row rows = are.same in
    let same : entry_row e ≡ record_row r = cc in
    let (kinds, texts, bytes) = parts e r same in (same, kinds, texts, bytes, record { same = cc })

-- a key of the table is a row's exactly if it is its entry's
row_test : (e : Entry) (r : ObjectEntry) → r.kind ≡ kind_rank e.0.kind
    → r.key ≡ e.0.text → (q : KeyName) → is_entry_at (kind_rank q.kind) q.text r ≡ key_eq q e.0
row_test e r kinds texts q = sym (tests_alike e.0 q r.kind r.key kinds texts) ∙ keys_alike.symm e.0 q

-- what is to be put at a key that has this, if anything is: an object, its record, and the before-image
data Alike (x : Option ObjectValue) (a : Option (Option ObjectValue))
    (b : Option (List ℕ)) (d : Option (Option (List ℕ))) : Type 0 where
  neither : a ≡ None → b ≡ None → d ≡ None → Alike x a b d
  both : (o : ObjectValue) (bytes : List ℕ) → a ≡ Some (Some o) → b ≡ Some bytes
      → d ≡ Some (option_and_then record_of x) → record_of o ≡ Some bytes → Alike x a b d

module _ (s : State) where
  rows_found : (es : List Entry) (rows : List ObjectEntry) → AreRowsOf es rows → (q : KeyName)
      → Alike (s.content q) (lookup (key_eq q) (map with_object es)) (entry_at (kind_rank q.kind)
      q.text rows) (image_entry_at (kind_rank q.kind) q.text (map (image_now s) rows))
  rows_found [] [] are q = neither refl refl refl
  rows_found (e ∷ es) (r ∷ rows) are q =
      let (same, kinds, texts, bytes, others) = other_rows e es r rows are in
      rw (row_test e r kinds texts q) (elim (cases_Bool (key_eq q e.0)) [
        | inl is ↦ rw is (both e.1 r.bytes
            refl refl (ap Some (record_found s kinds texts (sym (same_key q e.0 is)) refl)) bytes)
        | inr other ↦ rw other (rows_found es rows others q)
      ])
  rows_found _ _ are q = let no = are.same in absurd cc

  -- no row is of a kind that there isn't
  no_row : (es : List Entry) (rows : List ObjectEntry)
      → AreRowsOf es rows → (n : ℕ) (text : List ℕ) → kind_numbered n ≡ None
      → (entry_at n text rows ≡ None) × (image_entry_at n text (map (image_now s) rows) ≡ None)
  no_row [] [] are n text none = (refl, refl)
  no_row (e ∷ es) (r ∷ rows) are n text none =
      let (same, kinds, texts, bytes, others) = other_rows e es r rows are in
      let off : is_entry_at n text r ≡ false = rw (kinds, texts) (no_kind e.0 n text none) in
      rw off (no_row es rows others n text none)
  no_row _ _ are n text none = let no = are.same in absurd cc

-- ---- keys that are free

-- a row's key has no object
abbrev HasNone : State → ObjectEntry → Type 0
HasNone s r = record_at_key s.content r.kind r.key ≡ None

free_each : (s : State) (es : List Entry) (rows : List ObjectEntry) → AreRowsOf es rows → AllByRecursion
    (λ k. s.content k ≡ None) (keys_of (map with_object es)) → AllByRecursion (HasNone s) rows
free_each s es [] are free = tt
free_each s (e ∷ es) (r ∷ rows) are free =
    let (same, kinds, texts, bytes, others) = other_rows e es r rows are in (
      rw (kinds, texts) (record_here s.content e.0 ∙ ap (option_and_then record_of) free.0),
      free_each s es rows others free.1,
    )
free_each s [] (r ∷ rows) are free = let no = are.same in absurd cc

-- the rows of objects that can be put are free
pub free_rows : (targets : Keys) (s : State) (step : ℕ) {es : List Entry} {rows : List ObjectEntry}
    → AreRowsOf es rows → CanBePut targets s step (map with_object es) → AreFree targets s rows
free_rows Vacant s step {es} {rows} are can is = All-from_recursion (HasNone s) rows (free_each s es rows are can.free)
free_rows Unknown s step are can is = absurd cc

-- the row of one object that can be put is free
pub one_free : (targets : Keys) (s : State) (step : ℕ) (e : Entry) (r : ObjectEntry) → entry_row e
    ≡ record_row r → CanBePut targets s step (with_object e ∷ []) → targets ≡ Vacant → HasNone s r
one_free targets s step e r same can is = All-head (HasNone s) r [] (free_rows targets
    s step {es = e ∷ []} {rows = r ∷ []} (record { same = ap (λ (t : RowOf). t ∷ []) same }) can is)

-- no row has the key of a new object
pub row_free : (s : State) (rows : List NewObject) (at : ℕ) (r : NewObject) → at < length rows
    → r ≡ get_or rows at r → All (HasNone s) (map new_entry rows) → HasNone s (new_entry r)
row_free s rows at r lt is all =
    subst (HasNone s) (get_or-map new_entry rows at r (new_entry r) lt ∙ ap new_entry (sym is))
    (All-get_or (HasNone s) (map new_entry rows) at (new_entry r) (omega (arith, lt, length-map rows new_entry)) all)

-- objects that can be put are new
pub is_new : (targets : Keys) (s : State) (step : ℕ) (es : List Entry)
    → CanBePut targets s step (map with_object es) → AreNew s step (map with_object es)
is_new Vacant s step es can = can.new
is_new Unknown s step es can = can

-- ---- rows put at once

module _ {es : List Entry} {rows : List ObjectEntry} (are : AreRowsOf es rows)
    {s : State} {step : ℕ} (new : AreNew s step (map with_object es)) where
  abbrev final : State
  final = after_filling s step es

  pub note_all : {images : List ImageEntry} {c c' : Content}
      → images ≡ map (image_now s) rows → Replaces Undo (GainsImages step images) c c'
      → IsRegistry c s → IsRegistry c' (after_noting s step es)
  note_all is set it = images_then final.undo set.only
      (λ p n text none was. set.are.same p n text
      ∙ none_both (step == p) (rw (is, (no_row s es rows are n text none).1) was) was)
      (λ p q was. rw (
        set.are.same p (kind_rank q.kind) q.text,
        is,
        undo-new s step (map with_object es)
            new.once p q,
      ) (noted (step == p) (rows_found s es rows are q) (it.recorded q) was)) it
    where
      noted : {x : Option ObjectValue} {a : Option (Option ObjectValue)} {b : Option (List ℕ)}
          {d y : Option (Option (List ℕ))} {z : Option (Option ObjectValue)} (t : Bool)
          → Alike x a b d → IfSome x (λ o. IsSome (record_of o))
          → ReadsNote z y → ReadsNote (cond (t && is_some a) (Some x) z) (cond t (option_or d y) y)
      noted true (neither p q r) has was = rw (p, r) was
      noted true (both o bytes p q r is) has was = rw (p, r) (reads_note (refl, has))
      noted false found has was = was

  pub put_all : {c c' : Content} → Replaces Objects (GainsObjects rows) c c'
      → IsRegistry c (after_noting s step es) → IsRegistry c' (after_filling s step es)
  put_all set = objects_then final.content set.only
      (λ n text none was. set.are.same n text ∙ rw (no_row s es rows are n text none).0 was)
      (λ q was. rw (
        set.are.same (kind_rank q.kind) q.text,
        content-changed_by
            s step (map with_object es) new.once q,
      ) (found (rows_found s es rows are q) was))
    where
      found : {x : Option ObjectValue}
          {a : Option (Option ObjectValue)} {b y : Option (List ℕ)} {d : Option (Option (List ℕ))}
          → Alike x a b d → Reads x y → Reads (unwrap_or a x) (option_or b y)
      found (neither p q r) was = rw (p, q) was
      found (both o bytes p q r is) was = rw (p, q) (sym is, has_record o bytes is)

-- ---- one part after another

-- the entries of these rows are still to be put, and then those after them, and this holds of what is left
pub record Pending (Left : List Change → Type 0) (rows : List ObjectEntry) (after : List Entry) : Type 0 where
  pub entries : List Entry
  pub are : AreRowsOf entries rows
  pub left : Left (map with_object (entries ++ after))

module _ {L : List Change → Type 0} where
  pub pending_none : {rows : List NewObject} {es after : List Entry}
      → rows ≡ [] → after ≡ es → L (map with_object es) → Pending L (map new_entry rows) after
  pending_none none is left = rw (none, is) (record { entries = []; are = record { same = refl }; left = left })

  pub pending_rows : {es : List Entry} {rows : List ObjectEntry}
      → AreRowsOf es rows → L (map with_object es) → Pending L rows []
  pending_rows {es} are left = record {
    entries = es;
    are = are;
    left = subst (λ (l : List Entry). L (map with_object l)) (sym (append-nil es)) left;
  }

  -- the next entry becomes a row
  pub pending_more : (rows : List NewObject) {now : List NewObject} (r : NewObject) {e : Entry}
      {left after : List Entry} → now ≡ rows ++ r ∷ [] → left ≡ e ∷ after → entry_row e ≡ record_row
      (new_entry r) → Pending L (map new_entry rows) left → Pending L (map new_entry now) after
  pending_more rows r {e} {after = after} more is same going = record {
    entries = going.entries ++ e ∷ [];
    are = record {
      same = rw (
        more,
        map_push entry_row going.entries e,
        map_push new_entry rows r,
        map_push record_row (map new_entry rows) (new_entry r),
        going.are.same,
        same,
      ) refl;
    };
    left = subst (λ (l : List Entry). L (map with_object l)) (ap (λ (l : List Entry). going.entries
        ++ l) is ∙ sym (append_assoc going.entries (e ∷ []) after)) going.left;
  }

  -- the first row is put
  pub pending_next : {M : List Change → Type 0} (rows : List NewObject)
      {at : ℕ} {r : NewObject} {after : List Entry}
      → at < length rows → r ≡ get_or rows at r → Pending L (map new_entry (drop at rows)) after
      → ((e : Entry) (es : List Change) → entry_row e ≡ record_row (new_entry r)
      → L (with_object e ∷ es) → M es) → Pending M (map new_entry (drop (at + 1) rows)) after
  pending_next {M} rows {at} {r} {after} lt is going put = first going.entries
      (subst (λ (l : List NewObject). AreRowsOf going.entries (map new_entry l)) (drop_more rows at r lt
      ∙ ap (λ (x : NewObject). x ∷ drop (at + 1) rows) (sym is)) going.are) going.left where
        first : (es : List Entry) → AreRowsOf es (new_entry r ∷ map new_entry (drop (at + 1) rows))
            → L (map with_object (es ++ after)) → Pending M (map new_entry (drop (at + 1) rows)) after
        first [] are left = let no = are.same in absurd cc
        first (e ∷ es) are left = let (same, kinds, texts, bytes, others) =
            other_rows e es (new_entry r) (map new_entry (drop (at + 1) rows)) are in
            record { entries = es; are = others; left = put e (map with_object (es ++ after)) same left }

  -- none is left
  pub pending_last : {rows : List NewObject} {after : List Entry}
      → rows ≡ [] → after ≡ [] → Pending L (map new_entry rows) after → L []
  pending_last {rows} {after} no_rows no_more going = last going.entries
      (subst (λ (l : List NewObject). AreRowsOf going.entries (map new_entry l)) no_rows going.are)
      (subst (λ (l : List Entry). L (map with_object (going.entries ++ l))) no_more going.left) where
        last : (es : List Entry) → AreRowsOf es [] → L (map with_object (es ++ [])) → L []
        last [] are left = left
        last (e ∷ es) are left = let no = are.same in absurd cc

-- all rows are put
pub filling_all : (Before After : State → Type 0)
    {targets : Keys} {end : State} {step : ℕ} {rows all left : List NewObject} {after : List Entry}
    → all ≡ rows → left ≡ [] → Pending (Fills Before targets end step) (map new_entry rows) after
    → ((t : State) (es : List Entry) → AreRowsOf es (map new_entry all)
    → CanBePut targets t step (map with_object es) → Before t → After (after_filling t step es))
    → Pending (Fills After targets end step) (map new_entry left) after
filling_all Before After {targets} {end} {step} {after = after} same none going put = pending_none none refl
    (fills_more Before After targets end step (map with_object going.entries)
    (map with_object after) (map with_object (going.entries ++ after))
    (map-append with_object going.entries after) going.left
    (λ t held can. put t going.entries (rw same going.are) can held))
