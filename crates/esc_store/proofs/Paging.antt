-- From rows of the table of objects to a page of them.
use Rattle.esc_store.proofs.Common.{◌≡◌, ℕ, ◌+◌, ◌<◌, ◌≤◌, ◌==◌, ◌&&◌, Bool, true}
use Rattle.esc_store.proofs.Common.{false, cond, List, [], ◌∷◌, ◌++◌, map, filter, take, length, get_or}
use Rattle.esc_store.proofs.Common.{Option, None, Some, option_map, refl, sym, ap, subst, ◌∙◌, inl, inr}
use Rattle.esc_store.proofs.Common.{arith}
use Rattle.esc_store.proofs.Common.{lookup, nat_cmp, slice_cmp, cases_Bool, length-map, IsAscending}
use Rattle.esc_store.proofs.Common.{Kind, kind_rank, KeyName, key_cmp, key_eq, record_of, Entry, State}
use Rattle.esc_store.proofs.Common.{keys_alike, Content, object_at}
use Rattle.esc_store.proofs.Common.{ObjectEntry, entry_at, is_entry_at, entry_row, record_row}
use Rattle.esc_store.proofs.Common.{IsRegistry, ap₂, map_push, map_more}
use Rattle.std.proofs.Common.{Ordering, Less}
use Rattle.std.specs.List.Sorted.{IsStrictlySortedBy}
use Rattle.std.specs.Ordering.{ordering_then}
use Rattle.std.proofs.lemmas.List.{length-take}
use Rattle.sqlite_keyed.specs.Lists.{sort_by}
use Rattle.sqlite_keyed.proofs.ListLemmas.{ascending-map, all_map, all_unmap}
use Rattle.esc_apply.specs.ObjectStreams.{InOrder}
use Rattle.esc_sql.specs.Changes.{object_entry, by_key, is_from, is_kind_from, is_up_to, last_key, ListsFrom}
use Rattle.esc_store.specs.declared.reads.TheConstants.{MOST_ON_PAGE}
use Rattle.esc_store.specs.Pages.{IsPage, last_text, is_on_page}
use Rattle.esc_store.proofs.Gathering.{tests_alike, same_records, record_here}
use Rattle.esc_store.proofs.Registries.{AreAlone}

abbrev Shown : Type 0
Shown = ℕ × List ℕ × Option (List ℕ)

abbrev by_shown : Shown → Shown → Ordering
by_shown a b = ordering_then (nat_cmp a.0 b.0) (slice_cmp nat_cmp a.1 b.1)

-- ---- the order

in_order : (es : List Entry) → IsAscending (λ a b. by_shown a b ≡ Less) (map entry_row es) → InOrder es
unfolding IsStrictlySortedBy
in_order [] up = tt
in_order (e ∷ es) up = (
  all_map (λ k. key_cmp e.0 k ≡ Less) (λ (f : Entry). f.0)
      es (all_unmap (λ t. by_shown (entry_row e) t ≡ Less) entry_row es up.0),
  in_order es up.1,
)

-- ---- the last one, and what is found

last_is : (rows : List ObjectEntry) (es : List Entry)
    → map entry_row es ≡ map record_row rows → last_key rows ≡ last_text es
last_is [] [] same = refl
last_is (r ∷ []) (e ∷ []) same = let here : entry_row e ≡ record_row r = cc in
    ap (λ (t : Shown). Some t.1) (sym here)
last_is (r ∷ s ∷ rows) (e ∷ f ∷ es) same = last_is (s ∷ rows) (f ∷ es) cc
last_is _ _ same = absurd cc

shown_alike : (q : KeyName) (rows : List ObjectEntry) (es : List Entry) → map entry_row es ≡ map record_row rows
    → option_map record_of (lookup (key_eq q) es)
    ≡ option_map (λ bytes. Some bytes) (entry_at (kind_rank q.kind) q.text rows)
shown_alike q [] [] same = refl
shown_alike q (r ∷ rows) (e ∷ es) same =
    let here : entry_row e ≡ record_row r = cc in
    let alike : key_eq q e.0 ≡ is_entry_at (kind_rank q.kind) q.text r =
    keys_alike.symm q e.0 ∙ tests_alike e.0 q r.kind r.key (ap (λ (t : Shown). t.0) (sym here))
    (ap (λ (t : Shown). t.1) (sym here)) in
    rw alike (elim (cases_Bool (is_entry_at (kind_rank q.kind) q.text r)) [
      | inl is
          ↦ rw is (ap (λ (t : Shown). Some t.2) here)
      | inr other ↦ rw other (shown_alike q rows es cc)
    ])
shown_alike q _ _ same = absurd cc

-- rows that the table has from a key on are a page of what the store keeps
pub page_is : AreAlone → (s : State) (c : Content) (kind : Kind) (from : List ℕ)
    (rows : List ObjectEntry) (es : List Entry) → IsRegistry c s → ListsFrom (kind_rank kind)
    from c rows → map entry_row es ≡ map record_row rows → IsPage s.content kind from es
page_is alone s c kind from rows es it lists same =
    record {
      order = in_order es (subst (IsAscending (λ a b. by_shown a b ≡ Less))
          (sym same) (ascending-map _ record_row rows lists.ascending));
      each = each;
    }
  where
    here : (q : KeyName) (b : Bool) → option_map record_of (lookup (key_eq q) es)
        ≡ option_map (λ bytes. Some bytes) (cond b (object_at (kind_rank q.kind) q.text c.objects) None)
        → lookup (key_eq q) es ≡ cond b (s.content q) None
    here q true is = same_records alone (lookup (key_eq q) es)
        (s.content q) (is ∙ ap (option_map (λ bytes. Some bytes))
        (it.objects (kind_rank q.kind) q.text ∙ record_here s.content q)) (it.recorded q)
    here q false is = same_records alone (lookup (key_eq q) es) None is tt

    each : (q : KeyName) → lookup (key_eq q) es ≡ cond (is_on_page kind from (last_text es) q) (s.content q) None
    each q = here q (is_on_page kind from (last_text es) q) (shown_alike q rows es same
        ∙ ap (option_map (λ bytes. Some bytes)) (lists.same (kind_rank q.kind) q.text
        ∙ ap (λ l. cond ((kind_rank kind == kind_rank q.kind) && is_from from q.text && is_up_to
        l q.text) (object_at (kind_rank q.kind) q.text c.objects) None) (last_is rows es same)))

-- such a page has at most 256 entries
pub page_short : (c : Content) (kind : Kind) (from : List ℕ) (rows : List ObjectEntry) (es : List Entry)
    → ListsFrom (kind_rank kind) from c rows
    → map entry_row es ≡ map record_row rows → length es ≤ MOST_ON_PAGE
page_short c kind from rows es lists same =
    let all = sort_by by_key (filter (is_kind_from (kind_rank kind) from) c.objects) in
    omega (
      arith,
      length-take 256 all,
      ap length lists.first,
      length-map (take 256 all) object_entry,
      length-map es entry_row,
      ap length same,
      length-map rows record_row,
    )

-- ---- one row more

-- one more row of objects is one more entry of the page
pub one_entry : {A : Type 0} (f : A → Shown) (stored : List A) (d : A) (at : ℕ)
    (es : List Entry) (e : Entry) → at < length stored → map entry_row es ≡ map f (take at stored)
    → entry_row e ≡ f (get_or stored at d) → map entry_row (es ++ e ∷ []) ≡ map f (take (at + 1) stored)
one_entry f stored d at es e below so_far is =
    map_push entry_row es e ∙ ap₂ (λ (l : List Shown) (t : Shown). l ++ (t ∷ [])) so_far is
    ∙ sym (map_more f stored at d below)
