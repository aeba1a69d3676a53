use Rattle.std.proofs.Common.{◌≡◌, ◌∙◌, ℕ, Option, None, ap, sym}
use Rattle.sha2.specs.Sha256.{sha256}
use Rattle.esc_tables.specs.Reading.{reading}
use Rattle.esc_manifest.specs.Listed.{row_with_digest}
use Rattle.esc_pack.specs.Forecasts.{said, row_forecast, forecast_at}
use Rattle.esc_pack.proofs.forecast.forecast_of.Goals as goal
use Rattle.esc_pack.proofs.forecast.forecast_of.Goals.{in-Some, in-None}

pub returns : goal.returns
returns c =
    let m = c.args.manifest.now in
    let told = said (reading c.args.body.now) in
    let says : c.in_ok-said.said ≡ told = c.in_ok-said.ensures in
    let listed : c.row_by_digest-row.result ≡ row_with_digest m (sha256 c.args.body.now) =
    c.row_by_digest-row.ensures ∙ ap (row_with_digest m) c.digest.ensures in
    elim c.match-row.branch [
      | in-Some w ↦
          (let row : ℕ = w.in-Some.row in
          w.result-is ∙ w.found.ensures ∙ (λ k. row_forecast (w.rows.ensures.rows k) row (says k))
          ∙ ap (λ (r : Option ℕ). forecast_at m r told) (sym w.in-Some.is ∙ listed))
      | in-None w ↦
          w.result-is ∙ (λ k. forecast_at m None (says k))
          ∙ ap (λ (r : Option ℕ). forecast_at m r told) (sym w.in-None.is ∙ listed)
    ]
