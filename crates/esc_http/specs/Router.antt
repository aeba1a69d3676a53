-- What the router holds of the routes, in its order.
use Rattle.std.specs.Prelude.{ℕ, List, [], ◌∷◌, ◌++◌, codes}
use Rattle.matchit.specs.Rows.{RowsOf, param_token}
use Rattle.matchit.specs.Router.{RouteOf}
use Rattle.esc_reports.specs.declared.catalog.Report.TheVariants as report
use Rattle.esc_http.specs.declared.route.Target.{Target}
use Rattle.esc_http.specs.declared.route.Target.TheVariants.{Arrivals, Export, Report}

-- the row of a path
abbrev pub fixed : List ℕ → Target → List ℕ × RouteOf Target
fixed path target = (path, record { pattern = path; text = path; names = []; value = target })

-- the row of a path that ends in a parameter, whose name is in the text at this place, in
-- braces
abbrev pub ending : List ℕ → List ℕ → ℕ × ℕ → Target → List ℕ × RouteOf Target
ending front text place target = (
  front ++ param_token ∷ [],
  record {
    pattern = front ++ param_token ∷ [];
    text = text;
    names = place ∷ [];
    value = target;
  },
)

abbrev pub rows : RowsOf (RouteOf Target)
rows =
    ending (codes "/arrivals/") (codes "/arrivals/{number}") (11, 17) Arrivals
    ∷ ending (codes "/export/") (codes "/export/{kind}") (9, 13) Export
    ∷ fixed (codes "/gaps") (Report report.Gaps)
    ∷ fixed (codes "/links") (Report report.Links)
    ∷ fixed (codes "/moment") (Report report.Moment)
    ∷ fixed (codes "/parked") (Report report.Parked)
    ∷ fixed (codes "/receipts") (Report report.Receipts)
    ∷ fixed (codes "/status") (Report report.Status)
    ∷ []
