-- How a cursor moves, and what has been read on its way.
use Rattle.std.proofs.Common.{◌≡◌, ℕ, List, [], ◌∷◌, ◌++◌, Option, Some, None, refl, sym, ap}
use Rattle.std.proofs.Common.{◌∙◌}
use Rattle.std.specs.List.{AllByRecursion}
use Rattle.std.proofs.lemmas.List.{append_assoc}
use Rattle.sqlite_value.specs.Order.{Row}
use Rattle.sqlite_value.specs.declared.keys.Order.{Order}
use Rattle.sqlite_trees.specs.Tree.{from_key, sought}
use Rattle.sqlite_trees.specs.declared.store.Direction.TheVariants.{Forward}
use Rattle.sqlite_trees.specs.View.{View, with_cursor}
use Rattle.esc_sql.specs.Reading.{AreRead}
use Rattle.esc_scan.specs.declared.page.KeyEntry.{KeyEntry}
use Rattle.esc_scan.specs.KeyIndex.{GivesOfKind, IsKeyRead}
use Rattle.esc_scan.specs.Scanning.{left_of, OnlyCursors, ReadsNext, ReadsFirst}

-- from no key on, each row comes
from_all : (o : Order) (rows : List Row) → from_key o [] rows ≡ rows
from_all o [] = refl
from_all o (r ∷ rows) = refl

-- a cursor at the start has all rows before it
pub begins : (start now : View) (o : Order) (key : Row) (tree : ℕ) → key ≡ [] → now
    ≡ with_cursor start 0 (sought o Forward key (start.trees tree)) → left_of now ≡ start.trees tree
begins start now o key tree none was =
    ap left_of (was ∙ ap (λ k. with_cursor start 0 (sought o Forward k (start.trees tree))) none)
    ∙ from_all o (start.trees tree)

-- where nothing has moved at all
pub only_same : (old new : View) → new ≡ old → OnlyCursors old new
only_same old new e = e ∙ sym (ap (λ (v : View). let w : View = record old { cursors = v.cursors } in w) e)

-- two calls that move cursors alone
pub only_then : (a b c : View) → OnlyCursors a b → OnlyCursors b c → OnlyCursors a c
only_then a b c p q = q ∙ ap (λ (v : View). let w : View = record v { cursors = c.cursors } in w) p

-- one more row, and what it was read as
pub one_more : {V : Type 0} (IsRead : Row → V → Type 0) (rows : List Row) (vs : List V) (row : Row)
    (v : V) → AreRead IsRead rows vs → IsRead row v → AreRead IsRead (rows ++ row ∷ []) (vs ++ v ∷ [])
one_more IsRead [] [] row v all last = (last, tt)
one_more IsRead (r ∷ rows) (w ∷ vs) row v all last = (all.0, one_more IsRead rows vs row v all.1 last)
one_more IsRead _ _ row v all last = absurd all

-- a scan of these rows, begun at a view, has read these values of those that it has given
pub record HasRead {V : Type 0} (IsRead : Row → V → Type 0)
    (rows : List Row) (now : View) (vs : List V) : Type 0 where
  pub given : List Row
  pub whole : given ++ left_of now ≡ rows
  pub read : AreRead IsRead given vs

-- one more row was read
pub read_more : {V : Type 0} (IsRead : Row → V → Type 0)
    (rows : List Row) (old new : View) (vs : List V) (v : V) → HasRead IsRead rows old vs
    → ReadsNext IsRead old new (Some v) → HasRead IsRead rows new (vs ++ v ∷ [])
read_more IsRead rows old new vs v h next = record {
  given = h.given ++ next.0 ∷ [];
  whole = append_assoc h.given (next.0 ∷ []) (left_of new) ∙ ap (λ l. h.given ++ l) (sym next.1) ∙ h.whole;
  read = one_more IsRead h.given vs next.0 v h.read next.2;
}

-- the first of the rows left
pub first_read : {V : Type 0} (IsRead : Row → V → Type 0)
    (rows : List Row) (old new : View) (found : Option V)
    → left_of old ≡ rows → ReadsNext IsRead old new found → ReadsFirst IsRead rows found
first_read IsRead rows old new None is next = sym is ∙ next.0
first_read IsRead rows old new (Some v) is next = (next.0, left_of new, sym is ∙ next.1, next.2)

-- ---- the first entries of a kind

-- a scan of these rows has read these entries of those that it has given, each of this kind
pub record HasFirst (kind : ℕ) (rows : List Row) (now : View) (read : List KeyEntry) : Type 0 where
  pub has : HasRead IsKeyRead rows now read
  pub of_kind : AllByRecursion (λ (it : KeyEntry). it.kind ≡ kind) read

all_more : {X : Type 0} (P : X → Type 0) (xs : List X) (x : X) → AllByRecursion P xs → P x
    → AllByRecursion P (xs ++ x ∷ [])
all_more P [] x all last = (last, tt)
all_more P (y ∷ xs) x all last = (all.0, all_more P xs x all.1 last)

-- one more entry of the kind
pub first_more : (kind : ℕ) (rows : List Row) (old new : View) (read : List KeyEntry) (it : KeyEntry)
    → HasFirst kind rows old read → GivesOfKind kind old new (Some it)
    → HasFirst kind rows new (read ++ it ∷ [])
first_more kind rows old new read it h next = record {
  has = read_more IsKeyRead rows old new read it h.has next.0;
  of_kind = all_more (λ (e : KeyEntry). e.kind ≡ kind) read it h.of_kind next.1;
}
