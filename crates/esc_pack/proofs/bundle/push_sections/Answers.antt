use Rattle.std.proofs.Common.{◌≡◌, ◌∙◌, ◌+◌, ◌++◌, ◌∷◌, [], ℕ, ◌≤◌, List, length}
use Rattle.std.proofs.Common.{take, map, string_bytes, sym, ap, subst, arith, rules}
use Rattle.std.specs.Prelude.{All}
use Rattle.std.specs.List.{zip}
use Rattle.std.proofs.lemmas.List.{append_assoc, map_push, take_all}
use Rattle.std.proofs.lemmas.Result.{err_from_is_err_and}
use Rattle.std.proofs.lemmas.Slice.Zip.{length-zip}
use Rattle.esc_bundle.specs.Bundle.{Named}
use Rattle.esc_bundle.specs.Writing.{named}
use Rattle.esc_envelope.specs.EnvelopeValue.{TableValue}
use Rattle.esc_pack.specs.GivenRows.{GivenTable, IsReadBack}
use Rattle.esc_pack.specs.Bundling.{section_of, AreHeaded}
use Rattle.esc_pack.specs.BundleRefusals.{IsTableRefusal, IsTablesRefusal}
use Rattle.esc_pack.proofs.Refusals.{or_weaker, table_refused}
use Rattle.esc_pack.proofs.SectionFacts.{taken, All_next, pair_at, sections_split}
use Rattle.esc_pack.proofs.bundle.push_sections.Goals as goal

pub loop-at-preserved : goal.loop-at-preserved
loop-at-preserved c =
    let tables = c.args.tables.now in
    let given = c.args.given.now in
    let i : ℕ = c.loop-at.at in
    let t = c.index-tables-at.result in
    let g = c.index-given-at.result in
    let start = map named c.args.sections.now.items in
    let before = map named c.loop-at.sections.items in
    let pair = pair_at tables given c.loop-at-test.true c.requires.same c.index-tables-at.is c.index-given-at.is in
    let pairs : take (i + 1) (zip tables given) ≡ take i (zip tables given) ++ (t, g) ∷ [] =
    taken (zip tables given) (t, g) pair.0 pair.1 in
    let files : take (i + 1) given ≡ take i given ++ g ∷ [] =
    taken given g (omega (arith, c.requires.same, c.loop-at-test.true)) c.index-given-at.is in
    let name : string_bytes c.in_ok-clone.field-0 ≡ string_bytes c.table.inside.file = search rules in
    let named_so : string_bytes c.in_ok-clone.field-0 ≡ t.file =
    name ∙ ap (λ (v : TableValue). v.file) c.table.view_is in
    let section : named (c.in_ok-clone.field-0, c.in_ok-text.text) ≡ section_of (t, g) =
    λ k. record { name = named_so k; bytes = c.in_ok-text.ensures.text k } in
    let pushed : map named c.push.new.self.items ≡ before ++ section_of (t, g) ∷ [] =
    ap (map named) c.in_ok-push.ensures.items
    ∙ map_push named c.loop-at.sections.items (c.in_ok-clone.field-0, c.in_ok-text.text)
    ∙ ap (λ (s : Named). before ++ s ∷ []) section in
    record {
      pushed =
          pushed ∙ ap (λ (ss : List Named). ss ++ section_of (t, g) ∷ []) c.loop-at.invariant.pushed
          ∙ append_assoc start (map section_of (take i (zip tables given))) (section_of (t, g) ∷ [])
          ∙ ap (λ (ss : List Named). start ++ ss) (sym (sections_split _ _ pairs));
      read = All_next IsReadBack _ files c.loop-at.invariant.read c.in_ok-text.ensures.read;
      headed = All_next AreHeaded _ pairs c.loop-at.invariant.headed c.in_ok-text.ensures.headed;
    }

-- all pairs were taken
all_pairs : (tables : List TableValue) (given : List GivenTable) {i : ℕ} → length tables ≤ i
    → take i (zip tables given) ≡ zip tables given
all_pairs tables given {i} le = take_all i (zip tables given) (omega (arith, length-zip tables given))

pub returns-clause-pushed : goal.returns-clause-pushed
returns-clause-pushed c =
    let start = map named c.args.sections.now.items in
    c.loop-at.invariant.pushed
    ∙ ap (λ (ps : List (TableValue × GivenTable)). start ++ map section_of ps)
    (all_pairs c.args.tables.now c.args.given.now c.loop-at-test.false)

pub returns-clause-headed : goal.returns-clause-headed
returns-clause-headed c =
    subst (λ (ps : List (TableValue × GivenTable)). All AreHeaded ps)
    (all_pairs c.args.tables.now c.args.given.now c.loop-at-test.false)
    c.loop-at.invariant.headed

pub returns-in_err-text-clause-refused : goal.returns-in_err-text-clause-refused
returns-in_err-text-clause-refused c =
    let tables = c.args.tables.now in
    let given = c.args.given.now in
    let t = c.index-tables-at.result in
    let g = c.index-given-at.result in
    let first : ℕ = c.args.first in
    let i : ℕ = c.loop-at.at in
    let p = err_from_is_err_and c.from_residual.result c.from_residual.ensures.1 in
    rw (p.1, p.2)
    (or_weaker (IsTableRefusal (t, g) (first + i)) (IsTablesRefusal (zip tables given) first)
    (λ e refused. table_refused tables given
    first c.loop-at-test.true c.requires.same c.index-tables-at.is c.index-given-at.is refused)
    _ c.in_err-text.ensures.refused)
