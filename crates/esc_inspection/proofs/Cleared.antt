-- Where the status of an acceptance is 0, all is clear.
use Rattle.std.proofs.Common.{◌≡◌, ℕ, ℤ, Bool, true, List, [], map, Option, Some, None}
use Rattle.std.proofs.Common.{length, refl, sym, ap, subst, ◌∙◌, arith}
use Rattle.std.specs.Prelude.{sum_by}
use Rattle.std.specs.List.{All, Contains, flat_map}
use Rattle.std.specs.FinSet as set
use Rattle.std.proofs.lemmas.Bool.{eqb-true}
use Rattle.std.proofs.lemmas.List.{nil_from_length}
use Rattle.sha2.specs.Sha256.{sha256}
use Rattle.esc_envelope.specs.declared.kind.Kind.{Kind}
use Rattle.esc_envelope.specs.declared.place.Place.{Place}
use Rattle.esc_envelope.specs.Place.{IsUpTo}
use Rattle.esc_manifest.specs.ManifestRows.{place_at}
use Rattle.esc_manifest.specs.Accepted.{IsAccepted}
use Rattle.esc_tables.specs.DepositValue.{DepositValue}
use Rattle.esc_tables.specs.Reading.{reading}
use Rattle.esc_chain.specs.Laws.{OneLatestChainAt, HaveSameRows}
use Rattle.esc_apply.specs.ObjectStreams.{Entry}
use Rattle.esc_check.specs.Findings.{IsFinding}
use Rattle.esc_check.specs.TableMap.{content_of_entries}
use Rattle.esc_events.specs.Events.{EventValue, union, last_moment}
use Rattle.esc_events.specs.LatestTables.{IsChainOf}
use Rattle.esc_events.specs.StateAfter.{held_rows}
use Rattle.esc_desk.specs.declared.status.End.{End}
use Rattle.esc_desk.specs.Reads.{last, IsEndAt}
use Rattle.esc_desk.proofs.MovingLemmas.{contains_held, have_bodies}
use Rattle.esc_desk.proofs.WalkSteps.{held_in_range}
use Rattle.esc_reports.specs.Reports.{AreFindings}
use Rattle.esc_acceptance.specs.Acceptance.{status_of, is_end}
use Rattle.esc_acceptance.specs.Chains.{deposits_in}
use Rattle.esc_inspection.specs.declared.facts.StoreFacts.{StoreFacts}
use Rattle.esc_inspection.specs.AllClear.{IsAllClear, IsGreatest, IsNewest, IsWithoutFinding, deposit_at}
use Rattle.esc_inspection.specs.AllClear.{StatusZeroIsAllClear}
use Rattle.esc_inspection.specs.Inspected.{AreKeptFacts, seen_in}
use Rattle.esc_inspection.specs.Parts.{body_at}
use Rattle.esc_inspection.proofs.GreatestPlace.{up_to_end, there_is_end, some_row}
use Rattle.esc_inspection.proofs.NewestRows.{chain_is_newest}
use Rattle.esc_inspection.proofs.NoOrphans.{none_each, sum_is_zero}
use Rattle.esc_inspection.proofs.ZeroStatus.{end_passes, resends_pass, findings_pass, orphans_pass}

-- with no findings, nothing in the tables is one, by what the end of their chain says
none_found : (e : List EventValue) (row : ℕ) (entries : List Entry) (end : Option End)
    → IsEndAt e (Some row) end → AreFindings entries end [] → IsWithoutFinding e row entries
none_found e row entries None says found f finding = absurd says
none_found e row entries (Some end) says found f finding = absurd (omega (arith, there.1))
  where
    at_end : IsFinding (content_of_entries entries) end.watermark end.counts.entries f
    at_end = subst (λ (w : ℤ). IsFinding (content_of_entries entries) w end.counts.entries f) (sym says.watermark)
        (subst (λ (n : List (Kind × ℕ)). IsFinding (content_of_entries entries)
        (deposit_at e row).header.place.watermark n f) (sym says.counts) finding)

    there : Contains [] f
    there = (found.1 f).1 at_end

module _ (law : OneLatestChainAt) (e : List EventValue) (accepted : IsAccepted (union e)) (f : StoreFacts)
    (moment : f.books.moment ≡ last_moment e) (kept : AreKeptFacts e f)
    (is_strict : Bool) (clear : status_of is_strict (seen_in f) ≡ 0) where
  -- the chain of which the end is seen
  abbrev chain : List ℕ
  chain = kept.totals.chain

  -- each latest chain is that one
  one_chain : (c : List ℕ) → IsChainOf e c → c ≡ chain
  one_chain c latest = law (union e) (held_rows sha256 reading e) (held_rows sha256 reading e) (last_moment e)
      c chain accepted (held_in_range e) (λ r. (λ held. held, λ held. held)) latest kept.totals.latest

  -- the rows that are seen are those that are held
  same_rows : HaveSameRows (held_rows sha256 reading e) (set.from_list f.listing.held.items)
  same_rows r =
      let one = contains_held sha256 reading e r in
      let other = have_bodies (body_at e) f.listing.held.items kept.lines.are_held r in
      (λ held. other ∙ sym one ∙ held, λ held. one ∙ sym other ∙ held)

  -- the end of the chain is there
  end_place : (p : Place) × (f.totals.end ≡ Some p)
  end_place = there_is_end f.books.moment f.listing.gaps.items f.totals.end
      (end_passes is_strict (seen_in f) clear)

  -- it is the place of the last row
  end_row : (r : ℕ) × (last chain ≡ Some r) × (place_at (union e) r ≡ end_place.0)
  end_row = some_row (place_at (union e)) (last chain) end_place.0 (sym kept.totals.end_is ∙ end_place.1)

  -- no listed place is after it
  greatest : IsGreatest e end_row.0
  greatest r within by = subst (λ (p : Place). IsUpTo (place_at (union e) r) p) (sym end_row.2)
      (up_to_end (last_moment e) f.listing.gaps.items end_place.0 (place_at (union e) r) passes
      (kept.lines.gaps.all (place_at (union e) r) (r, within, refl)) by)
    where
      passes : is_end (last_moment e) f.listing.gaps.items (Some end_place.0) ≡ true
      passes = subst (λ (t : Option ℤ). is_end t f.listing.gaps.items (Some end_place.0) ≡ true) moment
          (subst (λ (o : Option Place). is_end f.books.moment f.listing.gaps.items o ≡ true) end_place.1
          (end_passes is_strict (seen_in f) clear))

  -- each row of the chain is the newest revision that is listed
  newest : All (IsNewest e) chain
  newest = chain_is_newest law (union e) (held_rows sha256 reading e) (set.from_list f.listing.held.items)
      (last_moment e) chain f.listing.gaps.items accepted (held_in_range e) same_rows
      kept.totals.latest kept.lines.gaps (resends_pass is_strict (seen_in f) clear)

  -- no deposit of the chain has an orphan
  without_orphans : All (λ row. (deposit_at e row).orphans ≡ 0) chain
  without_orphans = none_each (body_at e) chain (subst (λ (c : List ℕ). sum_by
      (λ (d : DepositValue). d.orphans) (flat_map deposits_in (map (body_at e) c)) ≡ 0)
      (one_chain kept.chain.chain kept.chain.latest) (sum_is_zero _ (sym kept.chain.say.orphans
      ∙ eqb-true f.chain.orphans 0 (orphans_pass is_strict (seen_in f) clear))))

  -- no finding was seen
  no_findings : f.contents.findings.items ≡ []
  no_findings = nil_from_length f.contents.findings.items
      (eqb-true (length f.contents.findings.items) 0 (findings_pass is_strict (seen_in f) clear))

  -- nothing in the tables is one
  without_findings : IsWithoutFinding e end_row.0 kept.contents.entries
  without_findings = none_found e end_row.0 kept.contents.entries f.ending.end
      (subst (λ (o : Option ℕ). IsEndAt e o f.ending.end) (ap (λ (c : List ℕ). last c)
      (one_chain kept.ending.ends.chain kept.ending.ends.latest) ∙ end_row.1) kept.ending.ends.says)
      (subst (AreFindings kept.contents.entries f.ending.end) no_findings kept.contents.are_found)

  -- so all is clear
  cleared : IsAllClear e
  cleared = record {
    chain = chain;
    latest = kept.totals.latest;
    end = end_row.0;
    ends = end_row.1;
    greatest = greatest;
    newest = newest;
    without_orphans = without_orphans;
    entries = kept.contents.entries;
    tables = kept.contents.tables;
    without_findings = without_findings;
  }

-- where the lines of an acceptance have the status 0, all is clear
pub all_clear : OneLatestChainAt → StatusZeroIsAllClear
all_clear law e clock is_strict a accepted answer status apart =
    cleared law e accepted answer.facts answer.seen.moment (answer.seen.kept apart) is_strict
    (sym answer.shown.1 ∙ status)
