use Rattle.serde_json.specs.View.{view}
use Rattle.esc_envelope.specs.JsonLaws.{is_json, is_no_json}
use Rattle.esc_envelope.proofs.envelope.parsed.Goals as goal

pub returns-in-Ok-clause-json : goal.returns-in-Ok-clause-json
returns-in-Ok-clause-json c = is_json c.args.json.now (view c.in-Ok.value) c.in-Ok.ensures.ok.0 c.in-Ok.ensures.ok.1

pub returns-else-is_memory-clause-refused : goal.returns-else-is_memory-clause-refused
returns-else-is_memory-clause-refused c =
    let other = is_no_json c.args.json.now (c.in-Err.ensures.err (λ memory.
    let yes = c.is_memory.ensures.1 memory in let no = c.if-is_memory.false in absurd (cc))) in
    λ n same. (cc, other)
