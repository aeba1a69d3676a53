use Rattle.esc_http.proofs.serving.serve_one.Goals as goal

pub returns-clause-read_wrote : goal.returns-clause-read_wrote
returns-clause-read_wrote g c = c.serve.ensures.read_wrote
