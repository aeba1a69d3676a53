use Rattle.std.proofs.Common.{◌≡◌, ℕ, List, Some, None, IsSome, is_some, sym, ap, subst, ◌∙◌, rules}
use Rattle.std.proofs.Common.{true≢false}
use Rattle.std.specs.List.{Contains}
use Rattle.std.proofs.lemmas.Option.{same_Some, none-some}
use Rattle.esc_manifest.specs.declared.row.MRow.{MRow}
use Rattle.esc_manifest.specs.Listed.{row_with_digest}
use Rattle.esc_store.proofs.FoundRows.{found_no_more, found_already, found_one_more}
use Rattle.esc_store.proofs.RisingRows.{found_there}
use Rattle.esc_store.proofs.store.Store.insert_found.Goals as goal

-- no row lists the digest
pub returns-in_default-clause-found : goal.returns-in_default-clause-found
returns-in_default-clause-found g c = λ clean k stood told digests found.
    let none : row_with_digest k.listed c.args.digest.now ≡ None = search rules in
    found_no_more k told digests c.args.digest.now
    c.args.rows.now.items found (λ r lists some. absurd (none-some _ (sym none ∙ lists)))

-- the row is one of them already
pub returns-then-is_ok-clause-found : goal.returns-then-is_ok-clause-found
returns-then-is_ok-clause-found g c = λ clean k stood told digests found.
    let lists : row_with_digest k.listed c.args.digest.now ≡ Some c.in-Some.row =
    ap (λ (m : List MRow). row_with_digest m c.args.digest.now)
    (sym (c.manifest.ensures.kept k stood)) ∙ sym c.in-Some.ensures in
    let there = found_there c.deref.result.now c.in-Some.row c.binary_search.result
    (sym c.if-is_ok.ensures.value) c.binary_search.ensures.bound c.binary_search.ensures.position in
    found_already k told digests c.args.digest.now c.args.rows.now.items found c.in-Some.row lists
    (subst (λ (rows : List ℕ). Contains rows c.in-Some.row) c.deref.ensures.value there)

-- no body is held of the row
pub returns-else-is_some-clause-found : goal.returns-else-is_some-clause-found
returns-else-is_some-clause-found g c = λ clean k stood told digests found.
    let lists : row_with_digest k.listed c.args.digest.now ≡ Some c.in-Some.row =
    ap (λ (m : List MRow). row_with_digest m c.args.digest.now)
    (sym (c.manifest.ensures.kept k stood)) ∙ sym c.in-Some.ensures in
    let none : k.bodies c.in-Some.row ≡ None = search rules in
    found_no_more k told digests c.args.digest.now c.args.rows.now.items found (λ r again some.
    let same : c.in-Some.row ≡ r = same_Some _ _ (sym lists ∙ again) in
    true≢false (sym some ∙ ap (λ q. is_some (k.bodies q)) (sym same) ∙ ap is_some none))

-- a body is held of the row
pub returns-in_ok-insert_row-clause-found : goal.returns-in_ok-insert_row-clause-found
returns-in_ok-insert_row-clause-found g c = λ clean k stood told digests found.
    let lists : row_with_digest k.listed c.args.digest.now ≡ Some c.in-Some.row =
    ap (λ (m : List MRow). row_with_digest m c.args.digest.now)
    (sym (c.manifest.ensures.kept k stood)) ∙ sym c.in-Some.ensures in
    let some : IsSome (k.bodies c.in-Some.row) = search rules in
    found_one_more k told digests c.args.digest.now c.args.rows.now.items found
    c.in-Some.row c.insert_row.new.rows.items lists some (c.in_ok-insert_row.ensures found.rising)
