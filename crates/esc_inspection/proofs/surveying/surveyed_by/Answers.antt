use Rattle.std.proofs.Common.{rules, subst, None, ℤ, w64}
use mir.Val.{SFits}
use Rattle.std.proofs.lemmas.Int.{to_z-of_z}
use Rattle.esc_acceptance.specs.Surveyed.{IsSurveyed}
use Rattle.esc_desk.specs.WalkCalls.{walked_by, place_of}
use Rattle.esc_desk.specs.Walking.{of_kinds}
use Rattle.esc_inspection.proofs.Reading.{walked_ill, walked_well}
use Rattle.esc_inspection.proofs.surveying.surveyed_by.Goals as goal

pub returns-in-Ok-clause-all : goal.returns-in-Ok-clause-all
returns-in-Ok-clause-all g c = λ clean e serves apart es tables ordered.
    let laws = g.met.R.Reads in
    let at_end : g.R.Reads.is_honest (walked_by c.read_survey.new.objects) = search rules in
    let walk = c.new-walk.ensures in
    let at_walk = subst g.R.Reads.is_honest walk.same (laws.was_honest _ _ c.in-Ok.ensures.follows.same at_end) in
    let lists : g.R.Reads.lists (walked_by c.new-walk.result) (place_of c.new-walk.result) (of_kinds None es) =
    rw (walk.same, walk.place) (c.in_ok-place.ensures.lists at_walk e serves apart es tables ordered) in
    let w = c.args.watermark in
    let fits : SFits w64 w = search rules in
    subst (λ (z : ℤ). IsSurveyed es z c.args.counts.now.entries c.in-Ok.surveyed)
    (to_z-of_z w64 w fits) (c.in-Ok.ensures.all at_end es lists)

pub returns-in-Ok-clause-read : goal.returns-in-Ok-clause-read
returns-in-Ok-clause-read g c = search (rules, walked_well, g.met.R.Reads.goes_on)

pub returns-in-Ok-2-clause-read : goal.returns-in-Ok-2-clause-read
returns-in-Ok-2-clause-read g c = search (rules, walked_ill, g.met.R.Reads.goes_on)

pub returns-clause-read : goal.returns-clause-read
returns-clause-read g c = search (rules, walked_ill, g.met.R.Reads.goes_on)
