use Rattle.std.proofs.Common.{◌≡◌, ap, sym, ◌∙◌, refl, List, length, false, take, filter}
use Rattle.std.specs.Prelude.{unwrap_or, not}
use Rattle.std.specs.List.{position}
use Rattle.std.proofs.lemmas.List.{take_all}
use Rattle.esc_envelope.specs.EnvelopeValue.{TableValue}
use Rattle.esc_tables.specs.Reading.{placed, by_name}
use Rattle.esc_tables.proofs.OrderFacts.{is_after, place_fits, inserted, next_table}
use Rattle.esc_tables.proofs.order.child_tables.Goals as goal

pub insert-requires : goal.insert-requires
insert-requires c = rw (
  c.unwrap_or-place.ensures,
  c.first_after.ensures,
  c.len.ensures,
  ← c.as_slice.ensures.len,
) (place_fits _ c.as_slice.result.now)

pub loop-table-preserved : goal.loop-table-preserved
loop-table-preserved c =
    let t = c.table-item.result in
    let sorted = c.loop-table.sorted.items in
    let name = c.as_str.ensures.value ∙ ap (λ (u : TableValue). u.name) c.table.view_is in
    let is : c.unwrap_or-place.result ≡ unwrap_or (position (is_after t) sorted) (length sorted) =
    rw (
      c.unwrap_or-place.ensures,
      c.first_after.ensures,
      c.len.ensures,
      ← c.as_slice.ensures.len,
      c.as_slice.ensures.value,
      name,
    ) refl in
    let child : t.parent ≡ false = sym (ap (λ (u : TableValue). u.parent) c.table.view_is) ∙ c.if-table.false in
    rw c.in_ok-insert.ensures.items (inserted sorted _ c.unwrap_or-place.result is
    ∙ ap (λ (us : List TableValue). placed us t) c.loop-table.invariant ∙ sym (next_table
    c.args.tables.now c.loop-table.table-index t c.loop-table-test.true c.table-item.is child))

pub returns : goal.returns
returns c =
    let all : take c.loop-table.table-index c.args.tables.now ≡ c.args.tables.now =
    take_all c.loop-table.table-index c.args.tables.now c.loop-table-test.false in
    c.loop-table.invariant ∙ ap (λ (ts : List TableValue). by_name (filter (λ t. not t.parent) ts)) all
