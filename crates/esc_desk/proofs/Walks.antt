-- What is still to come of a walk, from page to page.
use Rattle.std.proofs.Common.{◌≡◌, ℕ, zero, suc, ◌≤◌, ◌==◌, ◌&&◌, Bool, true, false, not, cond}
use Rattle.std.proofs.Common.{List, [], ◌∷◌, ◌++◌, filter, Option, Some, None}
use Rattle.std.proofs.Common.{refl, sym, ap, ap₂, subst, ◌∙◌, arith, true≢false, Ordering, Less, Equal}
use Rattle.std.proofs.Common.{Greater, is_eq}
use Rattle.std.specs.Map.{lookup}
use Rattle.std.specs.Option.{option_or, is_some}
use Rattle.std.specs.Prelude.{MatchOption}
use Rattle.std.specs.Ordering.{nat_cmp, is_le, is_ge, is_gt, match_ordering, ordering_then, ordering_reverse}
use Rattle.std.specs.Cmp.Lexicographic.{slice_cmp, nat_list_cmp_total}
use Rattle.std.proofs.lemmas.Bool.{and_parts}
use Rattle.std.proofs.lemmas.Bool.Decides.{nat_tests}
use Rattle.std.proofs.lemmas.Map.Entries.{lookup-filter-keys}
use Rattle.std.specs.Cmp.{upto}
use Rattle.esc_envelope.specs.declared.kind.Kind.{Kind}
use Rattle.esc_envelope.specs.declared.kind.Kind.TheVariants.{Registrar, Contact, Host, Domain, Idn, Nndn}
use Rattle.esc_envelope.specs.Kinds.{kind_rank}
use Rattle.esc_tables.specs.KeyName.{KeyName, key_cmp, key_eq}
use Rattle.esc_tables.specs.ObjectValue.{ObjectValue}
use Rattle.esc_apply.specs.ObjectStreams.{Entry, InOrder}
use Rattle.esc_apply.specs.Registry.{ObjectsByKey}
use Rattle.esc_tables.specs.KeyLaws.{one_key as same_key}
use Rattle.esc_store.specs.Pages.{IsPage, last_text, is_on_page}
use Rattle.esc_store.specs.StoreState.{of_kind}
use Rattle.esc_desk.specs.Places.{first_kind, later_kind, IsPlaceBehind}
use Rattle.esc_desk.specs.Walking.{of_kinds, is_behind, AreAllOf, AreBehind}
use Rattle.esc_desk.proofs.EntryLists.{Pass, in_order, rises, rises-filter, rises-append, all_passed}
use Rattle.esc_desk.proofs.EntryLists.{lookup-append, is_found, each_found, same_entries, pass_too}

-- ---- the bytes after some bytes

above_nothing : (a : List ℕ) → is_ge (slice_cmp nat_cmp a []) ≡ true
above_nothing [] = refl
above_nothing (x ∷ a) = refl

abbrev is_from : List ℕ → List ℕ → Bool
is_from first a = is_ge (slice_cmp nat_cmp a first)

abbrev is_up_to : List ℕ → List ℕ → Bool
is_up_to last a = is_le (slice_cmp nat_cmp a last)

abbrev is_past : List ℕ → List ℕ → Bool
is_past last a = is_from (last ++ 0 ∷ []) a

-- a text is at the first bytes after others just where it is not up to those
past_is : (last a : List ℕ) → is_past last a ≡ not (is_up_to last a)
past_is [] [] = refl
past_is [] (zero ∷ a) = above_nothing a
past_is [] (suc x ∷ a) = let up : nat_cmp (suc x) 0 ≡ Greater = grind (arith, nat_tests) in rw up refl
past_is (y ∷ last) [] = refl
past_is (y ∷ last) (x ∷ a) = by_order (nat_cmp x y) (past_is last a)
  where
    by_order : (o : Ordering) → is_past last a ≡ not (is_up_to last a)
        → is_ge (ordering_then o (slice_cmp nat_cmp a (last ++ 0 ∷ [])))
        ≡ not (is_le (ordering_then o (slice_cmp nat_cmp a last)))
    by_order Less more = refl
    by_order Equal more = more
    by_order Greater more = refl

-- ---- a page and what comes after it

-- how a key's kind stands to another
abbrev place : Kind → KeyName → Ordering
place kind q = nat_cmp (kind_rank q.kind) (kind_rank kind)

-- what a content has of a key, if that is from this place on
abbrev left : ObjectsByKey → Option Kind → List ℕ → Bool → KeyName → Option ObjectValue
left content kind from alone q = cond (is_behind kind from alone q) (content q) None

module _ (content : ObjectsByKey) (kind : Kind) (from : List ℕ) (alone : Bool) where
  same_kind : (q : KeyName) (o : Ordering) → place kind q ≡ o → (kind_rank kind == kind_rank q.kind) ≡ is_eq o
  same_kind q o e = ap_back (kind_rank kind) (kind_rank q.kind) ∙ ap is_eq e
    where
      ap_back : (n r : ℕ) → (n == r) ≡ is_eq (nat_cmp r n)
      ap_back n r = grind (arith, nat_tests)

  module _ (last : List ℕ) where
    abbrev on_page : KeyName → Bool
    on_page q = is_on_page kind from (Some last) q

    abbrev behind : KeyName → Bool
    behind q = is_behind (Some kind) (last ++ 0 ∷ []) alone q

    -- what there is from a place on is on the page or comes after it
    abbrev Joined : KeyName → Type 0
    Joined q = left content (Some kind) from alone q
        ≡ option_or (cond (on_page q) (content q) None) (cond (behind q) (left content (Some kind) from alone q) None)

    joined : (q : KeyName) → Joined q
    joined q = by_order (place kind q) refl
      where
        twice : (b : Bool) (o : Option ObjectValue) → cond b o None ≡ cond b (cond b o None) None
        twice true o = refl
        twice false o = refl

        split : (past up here : Bool) (o : Option ObjectValue) → past ≡ not up
            → cond here o None ≡ option_or (cond (here && up) o None) (cond past (cond here o None) None)
        split past up here o is = rw is (by_tests up here o)
          where
            none : (o : Option ObjectValue) → o ≡ option_or o None
            none None = refl
            none (Some x) = refl

            by_tests : (up here : Bool) (o : Option ObjectValue)
                → cond here o None ≡ option_or (cond (here && up) o None) (cond (not up) (cond here o None) None)
            by_tests true true o = none o
            by_tests true false o = refl
            by_tests false true o = refl
            by_tests false false o = refl

        by_order : (o : Ordering) → place kind q ≡ o → Joined q
        by_order Less e = rw (same_kind q Less e, e) refl
        by_order Equal e =
            rw (same_kind q Equal e, e) (split (is_past last q.text)
            (is_up_to last q.text) (is_from from q.text) (content q) (past_is last q.text))
        by_order Greater e = rw (same_kind q Greater e, e) (twice (not alone) (content q))

    -- a key of the page is of its kind, from its first bytes on and up to its last
    parts : (q : KeyName) → on_page q ≡ true
        → ((kind_rank kind == kind_rank q.kind) ≡ true)
        × (is_from from q.text ≡ true) × (is_up_to last q.text ≡ true)
    parts q on =
        let first = and_parts (kind_rank kind == kind_rank q.kind && is_from from q.text) (is_up_to last q.text) on in
        let rest = and_parts (kind_rank kind == kind_rank q.kind) (is_from from q.text) first.0 in
        (rest.0, rest.1, first.1)

    -- after the last, so not up to it
    above_last : (a : List ℕ) → is_past last a ≡ true → slice_cmp nat_cmp last a ≡ Less
    above_last a past = nat_list_cmp_total.antisymm last a
        ∙ by_order (slice_cmp nat_cmp a last) (sym (past_is last a) ∙ past)
      where
        by_order : (o : Ordering) → not (is_le o) ≡ true → ordering_reverse o ≡ Less
        by_order Less above = absurd (true≢false (sym above))
        by_order Equal above = absurd (true≢false (sym above))
        by_order Greater above = refl

    up_to_then : (a b : List ℕ)
        → is_up_to last a ≡ true → slice_cmp nat_cmp last b ≡ Less → slice_cmp nat_cmp a b ≡ Less
    up_to_then a b up low = by_order (slice_cmp nat_cmp a last) refl
      where
        by_order : (o : Ordering) → slice_cmp nat_cmp a last ≡ o → slice_cmp nat_cmp a b ≡ Less
        by_order Less e = nat_list_cmp_total.trans a last b e low
        by_order Equal e = nat_list_cmp_total.congr a last b e ∙ low
        by_order Greater e = absurd (true≢false (sym (rw e at up)))

    -- a key of the page is below each that comes after it
    below : (a b : KeyName) → on_page a ≡ true → behind b ≡ true → key_cmp a b ≡ Less
    below a b on past =
        let is = parts a on in
        let ranks : kind_rank kind ≡ kind_rank a.kind = grind (arith, nat_tests, is.0) in
        by_order ranks is.2 (place kind b) refl past
      where
        by_order : kind_rank kind ≡ kind_rank a.kind
            → is_up_to last a.text ≡ true → (o : Ordering) → place kind b ≡ o
            → match_ordering (place kind b) false (is_past last b.text) (not alone) ≡ true → key_cmp a b ≡ Less
        by_order ranks up Less e there = absurd (true≢false (sym (rw e at there)))
        by_order ranks up Equal e there =
            let past : is_past last b.text ≡ true = rw e at there in
            let kinds : place b.kind a ≡ Equal = grind (arith, nat_tests, ranks, e) in
            rw kinds (up_to_then a.text b.text up (above_last b.text past))
        by_order ranks up Greater e there =
            let kinds : place b.kind a ≡ Less = grind (arith, nat_tests, ranks, e) in
            rw kinds refl

    -- a page whose keys are these
    abbrev IsHere : List Entry → Type 0
    IsHere page = (q : KeyName) → lookup (key_eq q) page ≡ cond (on_page q) (content q) None

    on_page_all : (page : List Entry) → IsHere page → Pass (λ (e : Entry). on_page e.0) page
    on_page_all page each =
        pass_too (is_found page) (λ (e : Entry). on_page e.0)
        (λ e found. by_test (on_page e.0) (content e.0) (ap is_some (sym (each e.0)) ∙ found)) page (each_found page)
      where
        by_test : (b : Bool) (o : Option ObjectValue) → is_some (cond b o None) ≡ true → b ≡ true
        by_test true o is = refl
        by_test false o is = is

    -- the page's last key is not below its first bytes
    last_from : (page : List Entry)
        → last_text page ≡ Some last → Pass (λ (e : Entry). on_page e.0) page → is_from from last ≡ true
    last_from [] is all = absurd cc
    last_from (e ∷ []) is all =
        let same : e.0.text ≡ last = cc in
        subst (λ (t : List ℕ). is_from from t ≡ true) same (parts e.0 all.0).1
    last_from (e ∷ f ∷ page) is all = last_from (f ∷ page) is all.1

    past_from : (a : List ℕ) → is_from from last ≡ true → is_past last a ≡ true → is_from from a ≡ true
    past_from a here past =
        let low = above_last a past in
        let first : is_gt (slice_cmp nat_cmp from last) ≡ false =
        ap is_gt (nat_list_cmp_total.antisymm from last) ∙ by_first (slice_cmp nat_cmp last from) here in
        let through : is_gt (slice_cmp nat_cmp from a) ≡ false =
        upto nat_list_cmp_total from last a first (ap is_gt low) in
        ap is_ge (nat_list_cmp_total.antisymm a from) ∙ by_last (slice_cmp nat_cmp from a) through
      where
        by_first : (o : Ordering) → is_ge o ≡ true → is_gt (ordering_reverse o) ≡ false
        by_first Less is = absurd (true≢false (sym is))
        by_first Equal is = refl
        by_first Greater is = refl

        by_last : (o : Ordering) → is_gt o ≡ false → is_ge (ordering_reverse o) ≡ true
        by_last Less is = refl
        by_last Equal is = refl
        by_last Greater is = absurd (true≢false is)

    -- what comes after the page came after its first bytes
    abbrev StillBehind : KeyName → Type 0
    StillBehind q = cond (behind q) (left content (Some kind) from alone q) None ≡ cond (behind q) (content q) None

    still_behind : (q : KeyName) → is_from from last ≡ true → StillBehind q
    still_behind q here = by_order (place kind q) refl
      where
        tested : (past ge : Bool) (o : Option ObjectValue)
            → (past ≡ true → ge ≡ true) → cond past (cond ge o None) None ≡ cond past o None
        tested true ge o is = rw (is refl) refl
        tested false ge o is = refl

        by_order : (o : Ordering) → place kind q ≡ o → StillBehind q
        by_order Less e = rw e refl
        by_order Equal e = rw e (tested (is_past last q.text) (is_from from q.text) (content q) (past_from q.text here))
        by_order Greater e = rw e (tested (not alone) (not alone) (content q) (λ is. is))

    -- the page comes first, and then what comes after it
    pub split : (page es : List Entry) → last_text page ≡ Some last
        → IsPage content kind from page → AreBehind content (Some kind) from alone es
        → (rest : List Entry) × (es ≡ page ++ rest) × AreBehind content (Some kind) (last ++ 0 ∷ []) alone rest
    split page es is told are =
        let passes : Entry → Bool = λ (e : Entry). behind e.0 in
        let rest = filter passes es in
        let found : (q : KeyName) → lookup (key_eq q) rest ≡ cond (behind q) (lookup (key_eq q) es) None =
        λ q. lookup-filter-keys (key_eq q) behind (behind q) (λ k same. ap behind (sym (same_key q k same))) es in
        let on : IsHere page = λ q. told.each q ∙ ap (λ l. cond (is_on_page kind from l q) (content q) None) is in
        let all = on_page_all page on in
        let up = rises-filter passes es (rises es are.order) in
        let whole = rises-append (λ (e : Entry). on_page e.0) passes (λ a b. below a.0 b.0) page rest
        (rises page told.order) up all (all_passed passes es) in
        let lookups : (q : KeyName) → lookup (key_eq q) es ≡ lookup (key_eq q) (page ++ rest) = λ q.
        are.each q
        ∙ joined q
        ∙ ap₂ option_or (sym (on q)) (ap (λ o. cond (behind q) o None) (sym (are.each q)) ∙ sym (found q))
        ∙ sym (lookup-append q page rest) in (
          rest,
          same_entries es (page ++ rest) (rises es are.order) whole lookups,
          record {
            order = in_order rest up;
            each = λ q. found q ∙ ap (λ o. cond (behind q) o None) (are.each q)
                ∙ still_behind q (last_from page is all);
          },
        )

-- ---- a kind that is used up

rank_few : (kind : Kind) → kind_rank kind ≤ 5
rank_few Registrar = omega arith
rank_few Contact = omega arith
rank_few Host = omega arith
rank_few Domain = omega arith
rank_few Idn = omega arith
rank_few Nndn = omega arith

last_rank : (kind : Kind) → later_kind kind ≡ None → kind_rank kind ≡ 5
last_rank Registrar is = absurd cc
last_rank Contact is = absurd cc
last_rank Host is = absurd cc
last_rank Domain is = absurd cc
last_rank Idn is = absurd cc
last_rank Nndn is = refl

next_rank : (kind next : Kind) → later_kind kind ≡ Some next → kind_rank next ≡ suc (kind_rank kind)
next_rank Registrar next is = let same : Contact ≡ next = cc in sym (ap kind_rank same)
next_rank Contact next is = let same : Host ≡ next = cc in sym (ap kind_rank same)
next_rank Host next is = let same : Domain ≡ next = cc in sym (ap kind_rank same)
next_rank Domain next is = let same : Idn ≡ next = cc in sym (ap kind_rank same)
next_rank Idn next is = let same : Nndn ≡ next = cc in sym (ap kind_rank same)
next_rank Nndn next is = absurd cc

none_above : (r n : ℕ) → r ≤ 5 → n ≡ 5 → nat_cmp r n ≡ Greater → ⊥
none_above r n few is e = grind (arith, nat_tests, few, is, e)

-- nothing of the kind is from these bytes on
abbrev IsUsedUp : ObjectsByKey → Kind → List ℕ → Type 0
IsUsedUp content kind from = (q : KeyName) → None ≡ cond (is_on_page kind from None q) (content q) None

module _ (content : ObjectsByKey) (kind : Kind) (from : List ℕ) (empty : IsUsedUp content kind from) where
  here_none : (q : KeyName) → place kind q ≡ Equal → cond (is_from from q.text) (content q) None ≡ None
  here_none q e =
      let same : (kind_rank kind == kind_rank q.kind) ≡ true = grind (arith, nat_tests, e) in
      let told : None ≡ cond (is_from from q.text && true) (content q) None = rw same at (empty q) in
      sym (told ∙ ap (λ b. cond b (content q) None) (and_true _))
    where
      and_true : (b : Bool) → (b && true) ≡ b
      and_true true = refl
      and_true false = refl

  used_up : (alone : Bool) (q : KeyName) → left content (Some kind) from alone q
      ≡ left content (cond alone None (later_kind kind)) [] alone q
  used_up true q = by_order (place kind q) refl
    where
      by_order : (o : Ordering) → place kind q ≡ o → left content (Some kind) from true q ≡ None
      by_order Less e = rw e refl
      by_order Equal e = rw e (here_none q e)
      by_order Greater e = rw e refl
  used_up false q = by_next (later_kind kind) refl
    where
      by_next : (l : Option Kind)
          → later_kind kind ≡ l → left content (Some kind) from false q ≡ left content l [] false q
      by_next None is = by_order (place kind q) refl
        where
          by_order : (o : Ordering) → place kind q ≡ o → left content (Some kind) from false q ≡ None
          by_order Less e = rw e refl
          by_order Equal e = rw e (here_none q e)
          by_order Greater e = absurd
              (none_above (kind_rank q.kind) (kind_rank kind) (rank_few q.kind) (last_rank kind is) e)
      by_next (Some next) is = by_order (place kind q) refl
        where
          ranks : kind_rank next ≡ suc (kind_rank kind)
          ranks = next_rank kind next is

          below_next : place kind q ≡ Less → place next q ≡ Less
          below_next e = grind (arith, nat_tests, ranks, e)

          at_next : place kind q ≡ Equal → place next q ≡ Less
          at_next e = grind (arith, nat_tests, ranks, e)

          not_below_next : place kind q ≡ Greater → place next q ≡ Less → ⊥
          not_below_next e low = grind (arith, nat_tests, ranks, e, low)

          all_there : (o : Ordering)
              → place next q ≡ o → place kind q ≡ Greater → is_behind (Some next) [] false q ≡ true
          all_there Less e up = absurd (not_below_next up e)
          all_there Equal e up = rw e (above_nothing q.text)
          all_there Greater e up = rw e refl

          by_order : (o : Ordering) → place kind q ≡ o
              → left content (Some kind) from false q ≡ left content (Some next) [] false q
          by_order Less e = rw (e, below_next e) refl
          by_order Equal e = rw (e, at_next e) (here_none q e)
          by_order Greater e = rw e (ap (λ b. cond b (content q) None) (sym (all_there (place next q) refl e)))

no_entry : (page : List Entry) → last_text page ≡ None → page ≡ []
no_entry [] is = refl
no_entry (e ∷ []) is = absurd cc
no_entry (e ∷ f ∷ page) is = let none = no_entry (f ∷ page) is in absurd cc

-- the entries from a place on are those of the page that begins there, and then those from the place after it on
pub page_turned : {content : ObjectsByKey} {kind : Kind}
    {from : List ℕ} {alone : Bool} {page es : List Entry} (next : Option Kind) (after : List ℕ)
    → IsPage content kind from page
    → IsPlaceBehind kind alone page next after → AreBehind content (Some kind) from alone es
    → (rest : List Entry) × (es ≡ page ++ rest) × AreBehind content next after alone rest
page_turned {content} {kind} {from} {alone} {page} {es} next after told placed are =
    by_last (last_text page) refl placed
  where
    by_last : (l : Option (List ℕ)) → last_text page ≡ l
        → MatchOption l ((next ≡ cond alone None (later_kind kind)) × (after ≡ []))
        (λ text. (next ≡ Some kind) × (after ≡ text ++ 0 ∷ []))
        → (rest : List Entry) × (es ≡ page ++ rest) × AreBehind content next after alone rest
    by_last None is there =
        let none = no_entry page is in
        let empty : IsUsedUp content kind from = λ q.
        ap (lookup (key_eq q)) (sym none)
        ∙ told.each q ∙ ap (λ l. cond (is_on_page kind from l q) (content q) None) is in (
          es,
          ap (λ (p : List Entry). p ++ es) (sym none),
          rw (there.0, there.1) (record {
            order = are.order;
            each = λ q. are.each q ∙ used_up content kind from empty alone q;
          }),
        )
    by_last (Some last) is there =
        let x = split content kind from alone last page es is told are in
        (x.0, x.1, rw (there.0, there.1) x.2)

-- ---- where a walk begins

only_kind : (r n : ℕ) (b : Bool) → b ≡ true → match_ordering (nat_cmp r n) false b false ≡ (r == n)
only_kind r n b is = rw is (by_order (nat_cmp r n) refl)
  where
    by_order : (o : Ordering) → nat_cmp r n ≡ o → match_ordering o false true false ≡ (r == n)
    by_order Less e = grind (arith, nat_tests, e)
    by_order Equal e = grind (arith, nat_tests, e)
    by_order Greater e = grind (arith, nat_tests, e)

from_first : (q : KeyName) → is_behind (Some Registrar) [] false q ≡ true
from_first q = by_order (place Registrar q) refl
  where
    never : (n : ℕ) → nat_cmp n 0 ≡ Less → ⊥
    never n e = grind (arith, nat_tests, e)

    by_order : (o : Ordering) → place Registrar q ≡ o
        → match_ordering (place Registrar q) false (is_from [] q.text) true ≡ true
    by_order Less e = absurd (never (kind_rank q.kind) e)
    by_order Equal e = rw e (above_nothing q.text)
    by_order Greater e = rw e refl

-- the entries of one kind, or all, in order
pub kinds_in_order : (kind : Option Kind) (es : List Entry) → InOrder es → InOrder (of_kinds kind es)
kinds_in_order None es order = order
kinds_in_order (Some kind) es order =
    in_order _ (rises-filter (λ (e : Entry). kind_rank e.0.kind == kind_rank kind) es (rises es order))

-- what is found among those of one kind
pub kind_found : (content : ObjectsByKey) (kind : Kind) (es : List Entry)
    → ((q : KeyName) → lookup (key_eq q) es ≡ content q)
    → (q : KeyName) → lookup (key_eq q) (of_kinds (Some kind) es) ≡ of_kind kind content q
kind_found content kind es each q =
    let is_of : KeyName → Bool = λ k. kind_rank k.kind == kind_rank kind in
    lookup-filter-keys (key_eq q) is_of (is_of q) (λ k same. ap is_of (sym (same_key q k same))) es
    ∙ ap (λ o. cond (is_of q) o None) (each q)

-- all entries of a content, or those of one kind, are those from the first place on
pub from_the_first : (content : ObjectsByKey) (kind : Option Kind) (es : List Entry) → AreAllOf content es
    → AreBehind content (Some (first_kind kind)) [] (is_some kind) (of_kinds kind es)
from_the_first content None es all = record {
  order = all.order;
  each = λ q. all.each q ∙ ap (λ b. cond b (content q) None) (sym (from_first q));
}
from_the_first content (Some kind) es all =
    record {
      order = kinds_in_order (Some kind) es all.order;
      each = λ q.
          let tests = only_kind (kind_rank q.kind) (kind_rank kind) (is_from [] q.text) (above_nothing q.text) in
          kind_found content kind es all.each q ∙ ap (λ b. cond b (content q) None) (sym tests);
    }
