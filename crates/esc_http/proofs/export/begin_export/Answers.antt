use Rattle.std.proofs.Common.{ℕ, List, [], ap, sym, ◌∙◌, codes}
use Rattle.std.specs.Global.{Vec}
use Rattle.esc_reports.specs.declared.catalog.Report.TheVariants.{Export}
use Rattle.esc_request.specs.Response.{response_head}
use Rattle.esc_http.specs.Response.{report_media}
use Rattle.esc_http.proofs.export.begin_export.Goals as goal

pub returns-clause-ready : goal.returns-clause-ready
returns-clause-ready g c =
    let (text, is, says) = c.in_ok-size.ensures.size in
    let media = c.report_media-media.ensures in (
      text,
      is,
      ap (λ (v : Vec ℕ). v.items) c.into_bytes.ensures.value
          ∙ c.in_ok-head.ensures
          ∙ ap (λ (m : List ℕ). response_head (codes "200 OK") m [] c.in_ok-size.size) media
          ∙ ap (response_head (codes "200 OK") (report_media (Export c.args.kind)) []) (sym is),
      says,
    )
