use Rattle.std.proofs.Common.{◌≡◌, true, map, rules, subst, List, ℕ, Option}
use Rattle.std.specs.FinSet as set
use Rattle.esc_acceptance.specs.Chains.{AreFactsOf}
use Rattle.esc_chain.specs.Chain.{IsLatestChainAt}
use Rattle.esc_events.specs.Events.{union}
use Rattle.esc_inspection.specs.Contents.{AreContentsOf}
use Rattle.esc_inspection.specs.Parts.{AreSpoiledAmong, AreTldsOf, IsRebuiltFrom, body_at}
use Rattle.esc_inspection.proofs.Reading.{read_made, read_then}
use Rattle.esc_inspection.proofs.inspection.inspect.Goals as goal

pub returns-clause-facts : goal.returns-clause-facts
returns-clause-facts g c = λ clean e serves.
    let laws = g.met.R.Reads in
    let honest8 = laws.was_honest _ _ c.in_ok-contents.ensures.read.follows clean in
    let honest7 = laws.was_honest _ _ c.in_ok-ending.ensures.read.follows honest8 in
    let honest6 = laws.was_honest _ _ c.in_ok-chain.ensures.read.follows honest7 in
    let honest5 = laws.was_honest _ _ c.in_ok-bodies.ensures.read.follows honest6 in
    let honest4 = laws.was_honest _ _ c.in_ok-kept_chain.ensures.read.follows honest5 in
    let honest3 = laws.was_honest _ _ c.in_ok-parked.ensures.read.follows honest4 in
    let honest2 = laws.was_honest _ _ c.in_ok-listing.ensures.read.follows honest3 in
    let honest1 = laws.was_honest _ _ c.in_ok-totals.ensures.read.follows honest2 in
    let serves1 = c.in_ok-books.ensures.read.reflects e serves in
    let serves2 = c.in_ok-totals.ensures.read.reflects e serves1 in
    let serves3 = c.in_ok-listing.ensures.read.reflects e serves2 in
    let serves4 = c.in_ok-parked.ensures.read.reflects e serves3 in
    let serves5 = c.in_ok-kept_chain.ensures.read.reflects e serves4 in
    let serves6 = c.in_ok-bodies.ensures.read.reflects e serves5 in
    let serves7 = c.in_ok-chain.ensures.read.reflects e serves6 in
    let serves8 = c.in_ok-ending.ensures.read.reflects e serves7 in
    let moment = c.in_ok-books.ensures.moment honest1 e serves in
    let rows = c.in_ok-kept_chain.ensures.rows honest5 e serves4 in
    record {
      moment = moment;
      receipts = c.in_ok-books.ensures.receipts honest1 e serves;
      latest = subst (λ (rows : List ℕ). c.in_ok-kept_chain.kept_chain.is_latest ≡ true
          → IsLatestChainAt (union e) (set.from_list rows) c.in_ok-books.books.moment
          c.in_ok-kept_chain.kept_chain.rows.items)
          c.deref.ensures.value (c.in_ok-kept_chain.ensures.latest e serves4);
      kept = λ apart. record {
        totals = c.in_ok-totals.ensures.totals honest2 e serves1 apart;
        ending = c.in_ok-ending.ensures.ending honest8 e serves7 apart;
        lines = c.in_ok-listing.ensures.lines honest3 e serves2 moment apart;
        parked = c.in_ok-parked.ensures.bodies honest4 e serves3;
        spoiled = subst (λ (rows : List ℕ). AreSpoiledAmong e rows c.in_ok-bodies.bodies.spoiled.items)
            c.deref-2.ensures.value (c.in_ok-bodies.ensures.spoiled honest6 e serves5 apart);
        tlds = subst (λ (rows : List ℕ). AreTldsOf e rows c.in_ok-bodies.bodies.tlds)
            c.deref-2.ensures.value (c.in_ok-bodies.ensures.tlds honest6 e serves5 apart);
        rows = rows apart;
        chain = record {
          chain = c.in_ok-kept_chain.kept_chain.rows.items;
          latest = rows apart;
          say = subst (λ (rows : List ℕ). AreFactsOf (map (body_at e) rows) c.in_ok-chain.chain.facts)
              c.deref-3.ensures.value (c.in_ok-chain.ensures.facts honest7 e serves6 apart);
        };
        rebuilt = subst (λ (rows : List ℕ). IsRebuiltFrom e rows c.in_ok-chain.chain.is_rebuilt)
            c.deref-3.ensures.value (c.in_ok-chain.ensures.rebuilt honest7 e serves6 apart);
        contents = subst (λ (tld : Option (List ℕ)). AreContentsOf e c.in_ok-ending.ending.end tld
            c.in_ok-contents.contents.findings.items c.in_ok-contents.contents.lacking.items
            c.in_ok-contents.contents.flaws)
            c.only.ensures (c.in_ok-contents.ensures.contents clean e serves8 apart);
      };
    }

pub returns-in_err-totals-clause-read : goal.returns-in_err-totals-clause-read
returns-in_err-totals-clause-read g c =
    let goes_on = g.met.R.Reads.goes_on in
    let read1 = c.in_ok-books.ensures.read in
    record {
      follows = goes_on _ _ _ read1.follows c.in_err-totals.ensures.read.follows;
      reflects = search rules;
    }

pub returns-in_err-listing-clause-read : goal.returns-in_err-listing-clause-read
returns-in_err-listing-clause-read g c =
    let goes_on = g.met.R.Reads.goes_on in
    let read1 = c.in_ok-books.ensures.read in
    let read2 = read_then goes_on read1 c.in_ok-totals.ensures.read in
    record {
      follows = goes_on _ _ _ read2.follows c.in_err-listing.ensures.read.follows;
      reflects = search rules;
    }

pub returns-in_err-parked-clause-read : goal.returns-in_err-parked-clause-read
returns-in_err-parked-clause-read g c =
    let goes_on = g.met.R.Reads.goes_on in
    let read1 = c.in_ok-books.ensures.read in
    let read2 = read_then goes_on read1 c.in_ok-totals.ensures.read in
    let read3 = read_then goes_on read2 c.in_ok-listing.ensures.read in
    record {
      follows = goes_on _ _ _ read3.follows c.in_err-parked.ensures.read.follows;
      reflects = search rules;
    }

pub returns-in_err-kept_chain-clause-read : goal.returns-in_err-kept_chain-clause-read
returns-in_err-kept_chain-clause-read g c =
    let goes_on = g.met.R.Reads.goes_on in
    let read1 = c.in_ok-books.ensures.read in
    let read2 = read_then goes_on read1 c.in_ok-totals.ensures.read in
    let read3 = read_then goes_on read2 c.in_ok-listing.ensures.read in
    let read4 = read_then goes_on read3 c.in_ok-parked.ensures.read in
    record {
      follows = goes_on _ _ _ read4.follows c.in_err-kept_chain.ensures.read.follows;
      reflects = search rules;
    }

pub returns-in_err-bodies-clause-read : goal.returns-in_err-bodies-clause-read
returns-in_err-bodies-clause-read g c =
    let goes_on = g.met.R.Reads.goes_on in
    let read1 = c.in_ok-books.ensures.read in
    let read2 = read_then goes_on read1 c.in_ok-totals.ensures.read in
    let read3 = read_then goes_on read2 c.in_ok-listing.ensures.read in
    let read4 = read_then goes_on read3 c.in_ok-parked.ensures.read in
    let read5 = read_then goes_on read4 c.in_ok-kept_chain.ensures.read in
    record {
      follows = goes_on _ _ _ read5.follows c.in_err-bodies.ensures.read.follows;
      reflects = search rules;
    }

pub returns-in_err-chain-clause-read : goal.returns-in_err-chain-clause-read
returns-in_err-chain-clause-read g c =
    let goes_on = g.met.R.Reads.goes_on in
    let read1 = c.in_ok-books.ensures.read in
    let read2 = read_then goes_on read1 c.in_ok-totals.ensures.read in
    let read3 = read_then goes_on read2 c.in_ok-listing.ensures.read in
    let read4 = read_then goes_on read3 c.in_ok-parked.ensures.read in
    let read5 = read_then goes_on read4 c.in_ok-kept_chain.ensures.read in
    let read6 = read_then goes_on read5 c.in_ok-bodies.ensures.read in
    record {
      follows = goes_on _ _ _ read6.follows c.in_err-chain.ensures.read.follows;
      reflects = search rules;
    }

pub returns-in_err-ending-clause-read : goal.returns-in_err-ending-clause-read
returns-in_err-ending-clause-read g c =
    let goes_on = g.met.R.Reads.goes_on in
    let read1 = c.in_ok-books.ensures.read in
    let read2 = read_then goes_on read1 c.in_ok-totals.ensures.read in
    let read3 = read_then goes_on read2 c.in_ok-listing.ensures.read in
    let read4 = read_then goes_on read3 c.in_ok-parked.ensures.read in
    let read5 = read_then goes_on read4 c.in_ok-kept_chain.ensures.read in
    let read6 = read_then goes_on read5 c.in_ok-bodies.ensures.read in
    let read7 = read_then goes_on read6 c.in_ok-chain.ensures.read in
    record {
      follows = goes_on _ _ _ read7.follows c.in_err-ending.ensures.read.follows;
      reflects = search rules;
    }

pub returns-in_err-contents-clause-read : goal.returns-in_err-contents-clause-read
returns-in_err-contents-clause-read g c =
    let goes_on = g.met.R.Reads.goes_on in
    let read1 = c.in_ok-books.ensures.read in
    let read2 = read_then goes_on read1 c.in_ok-totals.ensures.read in
    let read3 = read_then goes_on read2 c.in_ok-listing.ensures.read in
    let read4 = read_then goes_on read3 c.in_ok-parked.ensures.read in
    let read5 = read_then goes_on read4 c.in_ok-kept_chain.ensures.read in
    let read6 = read_then goes_on read5 c.in_ok-bodies.ensures.read in
    let read7 = read_then goes_on read6 c.in_ok-chain.ensures.read in
    let read8 = read_then goes_on read7 c.in_ok-ending.ensures.read in
    record {
      follows = goes_on _ _ _ read8.follows c.in_err-contents.ensures.read.follows;
      reflects = search rules;
    }

pub returns-clause-read : goal.returns-clause-read
returns-clause-read g c =
    let goes_on = g.met.R.Reads.goes_on in
    let read1 = c.in_ok-books.ensures.read in
    let read2 = read_then goes_on read1 c.in_ok-totals.ensures.read in
    let read3 = read_then goes_on read2 c.in_ok-listing.ensures.read in
    let read4 = read_then goes_on read3 c.in_ok-parked.ensures.read in
    let read5 = read_then goes_on read4 c.in_ok-kept_chain.ensures.read in
    let read6 = read_then goes_on read5 c.in_ok-bodies.ensures.read in
    let read7 = read_then goes_on read6 c.in_ok-chain.ensures.read in
    let read8 = read_then goes_on read7 c.in_ok-ending.ensures.read in
    let read9 = read_then goes_on read8 c.in_ok-contents.ensures.read in
    read_made read9
