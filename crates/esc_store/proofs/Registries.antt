-- What the statements on objects and before-images do to tables and before-images by keys.
use Rattle.esc_store.proofs.Common.{◌≡◌, ℕ, Bool, true, false, cond, List, [], ◌++◌, Option, None, Some}
use Rattle.esc_store.proofs.Common.{refl, sym, ap, ap₂, subst, ◌∙◌, arith, ◌==◌, ◌&&◌}
use Rattle.esc_store.proofs.Common.{if◌then◌else◌, option_map, IsSome, IfSome, option_and_then}
use Rattle.esc_store.proofs.Common.{eqb-true}
use Rattle.esc_store.proofs.Common.{nat_tests, bytes_eq-Decides, Database, Kind, Registrar, kind_rank}
use Rattle.esc_store.proofs.Common.{one_kind, KeyName, key_eq, ObjectValue, record_of, append-nil}
use Rattle.esc_store.proofs.Common.{State, Befores}
use Rattle.esc_store.proofs.Common.{written, noted, ObjectRow, Content, content_in, HoldsContent}
use Rattle.esc_store.proofs.Common.{object_at, image_at, StoreState, kind_numbered, record_at_key}
use Rattle.esc_store.proofs.Common.{image_kept, IsBooks, IsRegistry, Undo}
use Rattle.std.proofs.lemmas.Option.{same_Some}
use Rattle.std.proofs.lemmas.Bool.{false_from_ne_true}
use Rattle.std.proofs.lemmas.Bool.Decides.{same_from_decides, Decides-and, Decides-eqb}
use Rattle.std.specs.Bool.{Decides}
use Rattle.esc_apply.specs.Registry.{nothing, with_key, taken, ObjectsByKey}
use Rattle.esc_tables.specs.KeyLaws.{key_itself, one_key as same_key}
use Rattle.esc_sql.specs.Content.{is_same_key, is_same_image, rows_of, with_rows}
use Rattle.esc_sql.specs.StoreTable.{StoreTable, RowOf, Objects}
use Rattle.esc_sql.specs.Changes.{AddsObject, PutsImage}
use Rattle.esc_sql.specs.Rows.{UndoRow}
use Rattle.esc_store.specs.TypedRows.{at_stored_key}
pub use Rattle.esc_store.proofs.Following.{moved, follows_step, holds_step, holds_all, become_turns}
use Rattle.esc_store.proofs.Parts.{Turns, turning, books_as}

-- ---- kinds by number

-- a kind is read back from its number
pub kind_back : (kind : Kind) → kind_numbered (kind_rank kind) ≡ Some kind
kind_back Registrar = refl
kind_back _ = refl

-- a number of a kind is its own
pub number_of_kind : (n : ℕ) (kind : Kind) → kind_numbered n ≡ Some kind → n ≡ kind_rank kind
number_of_kind n Registrar h = grind (arith, nat_tests)
number_of_kind n _ h = grind (arith, nat_tests)

-- what holds of the number of each kind, and of the numbers of none
by_kind : (P : ℕ → Type 0) → ((n : ℕ) → kind_numbered n ≡ None → P n)
    → ((kind : Kind) → P (kind_rank kind)) → (n : ℕ) → P n
by_kind P none some n = at (kind_numbered n) refl where
  at : (o : Option Kind) → kind_numbered n ≡ o → P n
  at None is = none n is
  at (Some kind) is = subst P (sym (number_of_kind n kind is)) (some kind)

-- ---- a function of keys by kind's number and bytes

same_key_is : (n : ℕ) (text : List ℕ) (m : ℕ) (other : List ℕ)
    → Decides (is_same_key n text m other) ((n ≡ m) × (text ≡ other))
same_key_is n text m other = Decides-and _ _ (Decides-eqb n m) (bytes_eq-Decides text other)

-- a number of no kind is in no key
pub no_kind : (k : KeyName) (n : ℕ) (text : List ℕ)
    → kind_numbered n ≡ None → is_same_key (kind_rank k.kind) k.text n text ≡ false
no_kind k n text none = false_from_ne_true _ (λ is.
    let some : None ≡ Some k.kind = sym none ∙ (ap kind_numbered
    (sym ((same_key_is (kind_rank k.kind) k.text n text).0 is).0) ∙ kind_back k.kind) in absurd cc)

-- a key is the same as itself
pub itself : (n : ℕ) (text : List ℕ) → is_same_key n text n text ≡ true
itself n text = (same_key_is n text n text).1 (refl, refl)

same_names : (k q : KeyName) → is_same_key (kind_rank k.kind) k.text (kind_rank q.kind) q.text ≡ true → k ≡ q
same_names k q h =
    let (kinds, texts) = (same_key_is (kind_rank k.kind) k.text (kind_rank q.kind) q.text).0 h in
    let name : Kind → List ℕ → KeyName = λ kind text. record { kind = kind; text = text } in
    ap₂ name (one_kind k.kind q.kind kinds) texts

-- two keys are equal where their numbers and texts are
pub same_tests : (k q : KeyName) → key_eq k q ≡ is_same_key (kind_rank k.kind) k.text (kind_rank q.kind) q.text
same_tests k q = same_from_decides {P = k ≡ q} _ _
    (same_key k q, λ is. subst (λ (x : KeyName). key_eq k x ≡ true) is (key_itself k)) (
      same_names k q,
      λ is. subst (λ (x : KeyName). is_same_key (kind_rank k.kind)
          k.text (kind_rank x.kind) x.text ≡ true) is (itself (kind_rank k.kind) k.text),
    )

-- what is at a key's own number and bytes
key_back : {X : Type 0} (f : KeyName → Option X) (q : KeyName) → at_stored_key f (kind_rank q.kind) q.text ≡ f q
key_back f q = ap (option_and_then (λ kind. f (record { kind = kind; text = q.text }))) (kind_back q.kind)

-- the record at a key is that of its object
pub record_here : (f : ObjectsByKey) (q : KeyName)
    → record_at_key f (kind_rank q.kind) q.text ≡ option_and_then record_of (f q)
record_here f q = ap (option_and_then record_of) (key_back f q)

-- the before-image at a key is that of its object
pub image_here : (f : Befores) (q : KeyName)
    → image_kept f (kind_rank q.kind) q.text ≡ option_map (λ o. option_and_then record_of o) (f q)
image_here f q = ap (option_map (λ o. option_and_then record_of o)) (key_back f q)

-- what is found by a key's number and text is the record of the object there
pub record_found : (s : State) {q k : KeyName} {kind : ℕ} {key : List ℕ} {found : Option (List ℕ)}
    → kind ≡ kind_rank q.kind → key ≡ q.text
    → q ≡ k → found ≡ record_at_key s.content kind key → found ≡ option_and_then record_of (s.content k)
record_found s kinds keys same is = is ∙ rw (kinds, keys, same) (record_here s.content _)

-- ---- what a statement turns a store's content into

-- these rows are in place of those before, and all else is as it was
pub record Replaces (t : StoreTable) (P : List (RowOf t) → List (RowOf t) → Type 0) (c c' : Content) : Type 0 where
  pub rows : List (RowOf t)
  pub only : c' ≡ with_rows c t rows
  pub are : P (rows_of c t) rows

-- a write of one table's rows turns the content into one with these
pub replacing : (t : StoreTable) (P : List (RowOf t) → List (RowOf t) → Type 0) (old new : Database)
    → ((c : Content) → HoldsContent old c → (rows : List (RowOf t))
    × HoldsContent new (with_rows c t rows) × P (rows_of c t) rows) → Turns (Replaces t P) old new
replacing t P old new made = turning (λ tables. let m = made (content_in old.trees) tables in
    (with_rows (content_in old.trees) t m.0, m.1, record { rows = m.0; only = refl; are = m.2 }))

-- objects and before-images are no part of the books
pub books_stay : {k : StoreState} {os : List ObjectRow} {us : List UndoRow} {c c' : Content}
    → c' ≡ record c { objects = os; undo = us } → IsBooks c k → IsBooks c' k
books_stay only books = books_as only books.listed books.receipts books.held books.parked books.moment books.steps

-- ---- what the rows at a key say

-- an object has a record, of these bytes, or there is neither
abbrev pub Reads : Option ObjectValue → Option (List ℕ) → Type 0
Reads x y = (y ≡ option_and_then record_of x) × IfSome x (λ o. IsSome (record_of o))

-- the same of what was noted of a key, if anything was
abbrev pub ReadsNote : Option (Option ObjectValue) → Option (Option (List ℕ)) → Type 0
ReadsNote x y = (y ≡ option_map (λ o. option_and_then record_of o) x)
    × ((o : ObjectValue) → x ≡ Some (Some o) → IsSome (record_of o))

-- what reads an object reads its note
pub reads_note : {x : Option ObjectValue} {y : Option (List ℕ)} → Reads x y → ReadsNote (Some x) (Some y)
reads_note {x} (is, has) = (
  ap Some is,
  λ o same. subst
      (λ (y : Option ObjectValue). IfSome y (λ v. IsSome (record_of v))) (same_Some x (Some o) same) has,
)

-- what is so of both branches is so of either
pub at_branch : {X Y : Type 0} (P : X → Y → Type 0) (b : Bool) {x x' : X} {y y' : Y}
    → P x y → P x' y' → P (cond b x x') (cond b y y')
at_branch P true p q = p
at_branch P false p q = q

-- nothing is there in either branch
pub none_both : {X : Type 0} (b : Bool) {x y : Option X} → x ≡ None → y ≡ None → cond b x y ≡ None
none_both b = at_branch (λ (_ : Bool) y. y ≡ None) b {x = b} {x' = b}

-- other objects, by what the rows at each key say, and at the numbers of no kind
pub objects_then : {s : State} (f : ObjectsByKey) {os : List ObjectRow} {c c' : Content}
    → c' ≡ record c { objects = os } → ((n : ℕ) (text : List ℕ)
    → kind_numbered n ≡ None → object_at n text c.objects ≡ None → object_at n text os ≡ None)
    → ((q : KeyName) → Reads (s.content q) (object_at (kind_rank q.kind) q.text c.objects)
    → Reads (f q) (object_at (kind_rank q.kind) q.text os))
    → IsRegistry c s → IsRegistry c' (record s { content = f })
objects_then {s} f {os} {c} only none some it =
    subst (λ x. IsRegistry x (record s { content = f })) (sym only) (record {
      objects = λ n text. by_kind (λ m. object_at m text os ≡ record_at_key f m text)
          (λ m is. none m text is (it.objects m text ∙ rw is refl) ∙ rw is refl)
          (λ kind. (now (record { kind = kind; text = text })).0
          ∙ sym (record_here f (record { kind = kind; text = text }))) n;
      images = it.images;
      recorded = λ q. (now q).1;
      noted = it.noted;
    }) where
      now : (q : KeyName) → Reads (f q) (object_at (kind_rank q.kind) q.text os)
      now q = some q (it.objects (kind_rank q.kind) q.text ∙ record_here s.content q, it.recorded q)

-- the same of before-images
pub images_then : {s : State} (f : ℕ → Befores) {us : List UndoRow} {c c' : Content}
    → c' ≡ record c { undo = us } → ((p n : ℕ) (text : List ℕ)
    → kind_numbered n ≡ None → image_at p n text c.undo ≡ None → image_at p n text us ≡ None)
    → ((p : ℕ) (q : KeyName) → ReadsNote (s.undo p q) (image_at p (kind_rank q.kind) q.text c.undo)
    → ReadsNote (f p q) (image_at p (kind_rank q.kind) q.text us))
    → IsRegistry c s → IsRegistry c' (record s { undo = f })
images_then {s} f {us} {c} only none some it = subst (λ x. IsRegistry x (record s { undo = f })) (sym only) (record {
  objects = it.objects;
  images = λ p n text. by_kind (λ m. image_at p m text us ≡ image_kept (f p) m text)
      (λ m is. none p m text is (it.images p m text ∙ rw is refl) ∙ rw is refl)
      (λ kind. (now p (record { kind = kind; text = text })).0
      ∙ sym (image_here (f p) (record { kind = kind; text = text }))) n;
  recorded = it.recorded;
  noted = λ p q. (now p q).1;
}) where
  now : (p : ℕ) (q : KeyName) → ReadsNote (f p q) (image_at p (kind_rank q.kind) q.text us)
  now p q = some p q (it.images p (kind_rank q.kind) q.text ∙ image_here (s.undo p) q, it.noted p q)

-- ---- objects

-- at this key the objects have these bytes, or none, and the others stay
abbrev pub SetsAt : ℕ → List ℕ → Option (List ℕ) → List ObjectRow → List ObjectRow → Type 0
SetsAt kind key w before after = (n : ℕ) (text : List ℕ)
    → object_at n text after ≡ (if is_same_key kind key n text then w else object_at n text before)

-- adding an object sets it at its key
pub adding : (kind : ℕ) (key bytes : List ℕ) (old new : Database) → AddsObject kind key bytes old new
    → Turns (Replaces Objects (SetsAt kind key (Some bytes))) old new
adding kind key bytes old new made = replacing
    Objects (SetsAt kind key (Some bytes)) old new (λ c holds. let m = made c holds in (m.0, m.1, m.3))

-- the registry with an object set at its key
pub set_registry : {s : State} (k : KeyName) (o : Option ObjectValue)
    {kind : ℕ} {key : List ℕ} {w : Option (List ℕ)} {c c' : Content} → kind ≡ kind_rank k.kind
    → key ≡ k.text → option_and_then record_of o ≡ w → IfSome o (λ x. IsSome (record_of x))
    → Replaces Objects (SetsAt kind key w) c c' → IsRegistry c s → IsRegistry c' (written s k o)
set_registry {s} k o kinds keys bytes has set = objects_then (with_key s.content k o) set.only
    (λ n text none was. set.are n text ∙ rw (kinds, keys, no_kind k n text none) was)
    (λ q was. rw (set.are (kind_rank q.kind) q.text, kinds, keys, ← same_tests k q)
    (at_branch Reads (key_eq k q) (sym bytes, has) was))

-- an object with these bytes has a record
pub has_record : (o : ObjectValue) (bytes : List ℕ) → record_of o ≡ Some bytes → IsSome (record_of o)
has_record o bytes h = rw h refl

-- ---- before-images

-- before this step the key had these bytes, or none, and the other before-images stay
abbrev pub NotesAt : ℕ → ℕ → List ℕ → Option (List ℕ) → List UndoRow → List UndoRow → Type 0
NotesAt step kind key w before after = (p n : ℕ) (text : List ℕ) → image_at p n text after
    ≡ (if is_same_image step kind key p n text then Some w else image_at p n text before)

-- noting a before-image sets it at its key
pub noting : (step kind : ℕ) (key : List ℕ) (w : Option (List ℕ)) (old new : Database)
    → PutsImage step kind key w old new → Turns (Replaces Undo (NotesAt step kind key w)) old new
noting step kind key w old new made = replacing
    Undo (NotesAt step kind key w) old new (λ c holds. let m = made c holds in (m.0, m.1, m.3))

-- the registry with one more before-image
pub note_registry : {s : State} (step : ℕ) (k : KeyName) (o : Option ObjectValue)
    {kind : ℕ} {key : List ℕ} {w : Option (List ℕ)} {c c' : Content} → kind ≡ kind_rank k.kind
    → key ≡ k.text → option_and_then record_of o ≡ w → IfSome o (λ x. IsSome (record_of x))
    → Replaces Undo (NotesAt step kind key w) c c' → IsRegistry c s → IsRegistry c' (noted s step k o)
note_registry {s} step k o {w = w} kinds keys bytes has set = images_then (noted s step k o).undo set.only
    (λ p n text none was. set.are p n text ∙ rw (kinds, keys, no_kind k n text none) (off (step == p) was))
    (λ p q was. rw (set.are p (kind_rank q.kind) q.text, kinds, keys, ← same_tests k q)
    (here p q (step == p) refl was))
  where
    off : (b : Bool) {y : Option (Option (List ℕ))} → y ≡ None → cond (b && false) (Some w) y ≡ None
    off true was = was
    off false was = was

    here : (p : ℕ) (q : KeyName) (b : Bool) {y : Option (Option (List ℕ))} → (step == p) ≡ b → ReadsNote
        (s.undo p q) y → ReadsNote (cond b (cond (key_eq k q) (Some o) (s.undo step q)) (s.undo p q))
        (cond (b && key_eq k q) (Some w) y)
    here p q true {y} is was = at_branch ReadsNote (key_eq k q) (reads_note (sym bytes, has))
        (subst (λ (m : ℕ). ReadsNote (s.undo m q) y) (sym (eqb-true step p is)) was)
    here p q false is was = was

-- the before-images of one step are gone
abbrev pub DropsAt : ℕ → List UndoRow → List UndoRow → Type 0
DropsAt step before after = (p n : ℕ) (text : List ℕ)
    → image_at p n text after ≡ (if step == p then None else image_at p n text before)

-- the registry without the before-images of a step
pub drop_registry : (s : State) (step : ℕ) (c c' : Content)
    → Replaces Undo (DropsAt step) c c' → IsRegistry c s → IsRegistry c' (taken s step)
drop_registry s step c c' set = images_then (taken s step).undo set.only
    (λ p n text none was. set.are p n text ∙ none_both (step == p) refl was)
    (λ p q was. rw (set.are p (kind_rank q.kind) q.text)
    (at_branch ReadsNote (step == p) (refl, λ o is. absurd cc) was))

-- ---- nothing at any key

-- what gives nothing of anything gives nothing
pub never : {X Y : Type 0} (f : X → Option Y) (o : Option X)
    → ((x : X) → f x ≡ None) → option_and_then f o ≡ None
never f None nowhere = refl
never f (Some x) nowhere = nowhere x

-- no before-image is kept where there are none
pub nothing_kept : (n : ℕ) (text : List ℕ) → image_kept nothing n text ≡ None
nothing_kept n text = ap (option_map (λ w. option_and_then record_of w)) (never
    (λ (kind : Kind). nothing (record { kind = kind; text = text })) (kind_numbered n) (λ _. refl))

-- no record is there where there is no object
pub nothing_there : (n : ℕ) (text : List ℕ) → record_at_key (λ q. None) n text ≡ None
nothing_there n text = ap (option_and_then record_of)
    (never {Y = ObjectValue} (λ (kind : Kind). None) (kind_numbered n) (λ _. refl))

-- ---- objects by their records

-- no record begins another: the law `no_record_begins_another`
abbrev pub AreAlone : Type 0
AreAlone = (o p : ObjectValue) (bytes more : List ℕ)
    → record_of o ≡ Some bytes → record_of p ≡ Some (bytes ++ more) → (more ≡ []) × (o ≡ p)

-- of one record there is one object
pub one_object : AreAlone → (x : ObjectValue) (bytes : List ℕ) (o : Option ObjectValue)
    → record_of x ≡ Some bytes → Some bytes ≡ option_and_then record_of o → Some x ≡ o
one_object alone x bytes None h is = let no : Some bytes ≡ None = is in absurd cc
one_object alone x bytes (Some y) h is = ap Some (alone x y bytes [] h (sym is ∙ ap Some (sym (append-nil bytes)))).1
