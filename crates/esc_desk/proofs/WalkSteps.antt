-- What a walk is still to give, from call to call.
use Rattle.std.proofs.Common.{◌≡◌, ℕ, suc, ◌+◌, ◌-◌, slice_get, List, [], ◌∷◌, ◌++◌, length, Option}
use Rattle.std.proofs.Common.{Some, None, refl, sym, ap, subst, ◌∙◌, arith}
use Rattle.std.specs.Map.{lookup, keys_of}
use Rattle.std.specs.Option.{is_some}
use Rattle.std.specs.Prelude.{MatchOption}
use Rattle.std.specs.Vec.Iter.{into_iter_items, into_iter_len}
use Rattle.std.specs.declared.vec.IntoIter.{IntoIter}
use Rattle.std.proofs.lemmas.Map.Keys.{sorted_tail}
use Rattle.std.proofs.lemmas.List.{nil_from_length}
use Rattle.sha2.specs.Sha256.{sha256}
use Rattle.esc_envelope.specs.declared.kind.Kind.{Kind}
use Rattle.esc_tables.specs.KeyName.{KeyName, key_cmp, key_eq}
use Rattle.esc_tables.specs.Reading.{reading}
use Rattle.esc_manifest.specs.Accepted.{IsAccepted}
use Rattle.esc_chain.specs.Chain.{InRange}
use Rattle.esc_chain.specs.Laws.{OneLatestChainAt}
use Rattle.esc_apply.specs.ObjectStreams.{Entry, GivesFirst, InOrder}
use Rattle.esc_apply.specs.Registry.{ObjectsByKey}
use Rattle.esc_store.specs.StoreState.{StoreState}
use Rattle.esc_store.specs.Pages.{IsPage, last_text}
use Rattle.esc_desk.specs.declared.pages.Pages.{Pages}
use Rattle.esc_events.specs.Events.{EventValue, union, last_moment}
use Rattle.esc_events.specs.LatestTables.{AreEntries, tables_of_chain}
use Rattle.esc_events.specs.StateAfter.{kept_arrivals, IsApart, IsStateAfter, holds_by, held_rows}
use Rattle.esc_desk.proofs.HeldRows.{contains_held}
use Rattle.esc_desk.proofs.Members.{one_of}
use Rattle.esc_desk.proofs.Moving.{chain_of}
use Rattle.esc_desk.proofs.MovingLemmas.{held_within}
use Rattle.esc_desk.specs.Places.{first_kind, IsPlaceBehind}
use Rattle.esc_desk.specs.Walking.{of_kinds, AreAllOf, AreBehind, AreCountedToCome, AreToCome}
use Rattle.esc_desk.proofs.ReadLemmas.{same_content}
use Rattle.esc_desk.proofs.EntryLists.{no_first}
use Rattle.esc_desk.proofs.Walks.{page_turned, from_the_first}

-- ---- the rows that are held are listed

-- the rows that are held are rows
pub held_in_range : (e : List EventValue) → InRange (union e) (held_rows sha256 reading e)
held_in_range e r held =
    let holds = sym (contains_held sha256 reading (union e) (kept_arrivals sha256 reading e) r) ∙ held in
    let x = one_of (holds_by sha256 reading (union e) r) (kept_arrivals sha256 reading e) holds in
    held_within sha256 reading (union e) r x.0 x.2

-- the entries of the tables after the events are the objects of a store that stands for them
pub entries_kept : {e : List EventValue} {es : List Entry} {k : StoreState}
    → OneLatestChainAt → IsAccepted (union e) → IsApart sha256 reading e
    → IsStateAfter sha256 reading e k
    → AreEntries e es → InOrder es → AreAllOf k.registry.content es
entries_kept {e} {es} {k} law accepted apart stood entries order =
    let rows = held_rows sha256 reading e in
    let one : entries.chain ≡ k.steps =
    law (union e) rows rows (last_moment e) entries.chain k.steps accepted (held_in_range e)
    (λ r. (λ held. held, λ held. held)) entries.latest (chain_of e k stood apart) in
    let same : tables_of_chain e entries.chain ≡ k.registry.content =
    ap (tables_of_chain e) one ∙ sym (same_content e k stood apart) in
    record { order = order; each = λ q. entries.objects.each q ∙ ap (λ (f : ObjectsByKey). f q) same }

-- ---- the page at hand

-- an iterator at its end gives nothing more
pub no_items : {X Z : Type 0} (it : IntoIter X Z) → into_iter_len it ≡ 0 → into_iter_items it ≡ []
no_items it is = nil_from_length (into_iter_items it) (sym it.rest.ok.0 ∙ is)

no_entries : (es : List Entry) → ((q : KeyName) → lookup (key_eq q) es ≡ None) → es ≡ []
no_entries [] none = refl
no_entries (e ∷ es) none = absurd (no_first e es None refl (none e.0))

-- pages that stand at the same place
abbrev pub AtOnePlace : Pages → Pages → Type 0
AtOnePlace pages later =
    (later.kind ≡ pages.kind) × (later.from.items ≡ pages.from.items) × (later.alone ≡ pages.alone)

module _ {R : Type 0} {Represents : R → StoreState → Type 0}
    {store : R} {pages : Pages} {es : List Entry} (come : AreToCome Represents store pages es) where
  -- an object was given
  pub given : (later : Pages) (e : Entry)
      → into_iter_items pages.page ≡ e ∷ into_iter_items later.page → AtOnePlace pages later
      → (rest : List Entry) × (es ≡ e ∷ rest) × AreToCome Represents store later rest
  given later e items place =
      let rest = into_iter_items later.page ++ come.behind in
      let all : es ≡ e ∷ rest = come.are_all ∙ ap (λ (xs : List Entry). xs ++ come.behind) items in (
        rest,
        all,
        record {
          order = sorted_tail key_cmp e.0 (keys_of rest) (subst InOrder all come.order);
          kept = come.kept;
          stands = come.stands;
          behind = come.behind;
          are_behind = rw (place.0, place.1, place.2) come.are_behind;
          are_all = refl;
        },
      )

  -- none was left to give
  pub ended : (later : Pages) → into_iter_items pages.page ≡ []
      → pages.kind ≡ None → into_iter_items later.page ≡ [] → AtOnePlace pages later
      → (es ≡ []) × AreToCome Represents store later []
  ended later items none empty place =
      let content = come.kept.registry.content in
      let nothing : come.behind ≡ [] = no_entries come.behind (λ q. (rw none at come.are_behind).each q) in
      let all : es ≡ [] = come.are_all ∙ ap (λ (xs : List Entry). xs ++ come.behind) items ∙ nothing in
      let behind = subst (λ (xs : List Entry). AreBehind
      content pages.kind pages.from.items pages.alone xs) nothing come.are_behind in (
        all,
        record {
          order = subst InOrder all come.order;
          kept = come.kept;
          stands = come.stands;
          behind = [];
          are_behind = rw (place.0, place.1, place.2) behind;
          are_all = ap (λ (xs : List Entry). xs ++ []) (sym empty);
        },
      )

module _ {R : Type 0} (Represents : R → StoreState → Type 0) where
  -- what was given is counted
  pub counted : (store : R) (later : Pages) (es : List Entry) (o : Option Entry) (left : ℕ)
      → GivesFirst (AreToCome Represents store later) es o
      → MatchOption o (later.left ≡ left) (λ _. left ≡ later.left + 1) → left ≡ length es
      → GivesFirst (AreCountedToCome Represents store later) es o
  counted store later es None left gives same count =
      (gives.0, record { come = gives.1; count = same ∙ count ∙ ap length gives.0 })
  counted store later es (Some e) left gives fewer count =
      let all : length es ≡ suc (length gives.0) = ap length gives.1 in
      (gives.0, gives.1, record { come = gives.2; count = omega (arith, fewer, count, all) })

  -- the page at hand was used up, and the one after it was read
  pub turned : (old new : R) (pages later : Pages) (es : List Entry) (kind : Kind) (page : List Entry)
      → ((k : StoreState) → Represents old k → Represents new k)
      → AreToCome Represents old pages es → into_iter_items pages.page ≡ [] → pages.kind ≡ Some kind
      → ((k : StoreState) → Represents old k → IsPage k.registry.content kind pages.from.items page)
      → IsPlaceBehind kind pages.alone page later.kind later.from.items
      → into_iter_items later.page ≡ page → later.alone ≡ pages.alone
      → AreToCome Represents new later es
  turned old new pages later es kind page stays come items is told placed at_hand alone =
      let content = come.kept.registry.content in
      let here : AreBehind content (Some kind) pages.from.items pages.alone come.behind = rw is at come.are_behind in
      let x = page_turned later.kind later.from.items (told come.kept come.stands) placed here in
      record {
        order = come.order;
        kept = come.kept;
        stands = stays come.kept come.stands;
        behind = x.0;
        are_behind = rw alone x.2;
        are_all =
            come.are_all
            ∙ ap (λ (xs : List Entry). xs ++ come.behind) items
            ∙ x.1
            ∙ ap (λ (xs : List Entry). xs ++ x.0) (sym at_hand);
      }

  -- before the first page
  pub begins : (store : R) (pages : Pages) (kind : Option Kind) (k : StoreState) (es : List Entry)
      → Represents store k → AreAllOf k.registry.content es
      → into_iter_items pages.page ≡ []
      → pages.kind ≡ Some (first_kind kind) → pages.from.items ≡ [] → pages.alone ≡ is_some kind
      → AreToCome Represents store pages (of_kinds kind es)
  begins store pages kind k es stands all items is from alone =
      let are = from_the_first k.registry.content kind es all in
      record {
        order = are.order;
        kept = k;
        stands = stands;
        behind = of_kinds kind es;
        are_behind = rw (is, from, alone) are;
        are_all = ap (λ (xs : List Entry). xs ++ of_kinds kind es) (sym items);
      }

-- ---- the last entry of a page

-- the last entry of a page has its last key
pub last_found : (page : List Entry) (e : Entry)
    → slice_get page (length page - 1) ≡ Some e → last_text page ≡ Some e.0.text
last_found [] e is = absurd cc
last_found (f ∷ []) e is = let same : f ≡ e = cc in ap (λ (x : Entry). Some x.0.text) same
last_found (f ∷ h ∷ page) e is =
    let place : suc (length (h ∷ page) - 1) ≡ length (f ∷ h ∷ page) - 1 = omega arith in
    last_found (h ∷ page) e (ap (λ (n : ℕ). slice_get (f ∷ h ∷ page) n) place ∙ is)
