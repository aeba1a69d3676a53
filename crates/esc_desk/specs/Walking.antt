-- What a walk still returns.
use Rattle.std.specs.Prelude.{◌≡◌, ℕ, ◌==◌, Bool, false, not, List, filter, length, ◌++◌, Option}
use Rattle.std.specs.Prelude.{None, Some, if◌then◌else◌, Result, OnOk}
use Rattle.std.specs.Map.{lookup}
use Rattle.std.specs.Ordering.{nat_cmp, is_ge, match_ordering}
use Rattle.std.specs.Cmp.Lexicographic.{slice_cmp}
use Rattle.std.specs.Vec.Iter.{into_iter_items}
use Rattle.esc_envelope.specs.declared.kind.Kind.{Kind}
use Rattle.esc_envelope.specs.Kinds.{kind_rank}
use Rattle.esc_tables.specs.KeyName.{KeyName, key_eq}
use Rattle.esc_apply.specs.ObjectStreams.{Entry, InOrder}
use Rattle.esc_apply.specs.Registry.{ObjectsByKey}
use Rattle.esc_store.specs.StoreState.{StoreState}
use Rattle.esc_desk.specs.declared.pages.Pages.{Pages}

-- the entries of one kind, or all
abbrev pub of_kinds : Option Kind → List Entry → List Entry
of_kinds None es = es
of_kinds (Some kind) es = filter (λ (e : Entry). kind_rank e.0.kind == kind_rank kind) es

-- the keys from this place on: those of the kind whose texts are not below `from` and, unless one
-- kind is walked alone, those of each later kind; without a kind there are none
abbrev pub is_behind : Option Kind → List ℕ → Bool → KeyName → Bool
is_behind None from alone q = false
is_behind (Some kind) from alone q =
    let is_from = is_ge (slice_cmp nat_cmp q.text from) in
    match_ordering (nat_cmp (kind_rank q.kind) (kind_rank kind)) false is_from (not alone)

-- the entries that the content has from this place on, by key, and nothing else
pub record AreBehind (content : ObjectsByKey) (kind : Option Kind) (from : List ℕ) (alone : Bool)
    (es : List Entry) : Type 0 where
  pub order : InOrder es
  pub each : (q : KeyName)
      → lookup (key_eq q) es ≡ (if is_behind kind from alone q then content q else None)

-- these are all the entries of a content, in the order of their keys
pub record AreAllOf (content : ObjectsByKey) (es : List Entry) : Type 0 where
  pub order : InOrder es
  pub each : (q : KeyName) → lookup (key_eq q) es ≡ content q

module _ {R : Type 0} (Represents : R → StoreState → Type 0) where
  -- these entries are still to come: the page at hand, and then what the tables have after it
  pub record AreToCome (store : R) (pages : Pages) (es : List Entry) : Type 0 where
    pub order : InOrder es
    pub kept : StoreState
    pub stands : Represents store kept
    pub behind : List Entry
    pub are_behind : AreBehind kept.registry.content pages.kind pages.from.items pages.alone behind
    pub are_all : es ≡ into_iter_items pages.page ++ behind

  -- and the walk tells how many they are
  pub record AreCountedToCome (store : R) (pages : Pages) (es : List Entry) : Type 0 where
    pub come : AreToCome store pages es
    pub count : pages.left ≡ length es

  -- a read of a walk, by what was read before it and after it: this follows whatever it returned;
  -- where it succeeded, each state is stood for that was
  pub record IsPageRead {X E : Type 0} (Follows : R → R → Type 0) (old new : R)
      (result : Result X E) : Type 0 where
    pub follows : Follows old new
    pub stands : OnOk result ((k : StoreState) → Represents old k → Represents new k)

-- how many objects a walk still returns at most
abbrev pub most_left : Pages → ℕ
most_left pages = pages.left
