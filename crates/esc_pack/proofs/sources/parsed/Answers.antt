use Rattle.std.proofs.Common.{sym}
use Rattle.serde_json.specs.View.{view}
use Rattle.esc_envelope.specs.JsonLaws.{is_json, is_no_json}
use Rattle.esc_pack.proofs.sources.parsed.Goals as goal

pub returns-in-Ok : goal.returns-in-Ok
returns-in-Ok c = sym (is_json c.args.json.now (view c.in-Ok.value) c.in-Ok.ensures.ok.0 c.in-Ok.ensures.ok.1)

pub returns-else-is_memory : goal.returns-else-is_memory
returns-else-is_memory c =
    let no = c.if-is_memory.false in
    sym (is_no_json c.args.json.now
    (c.in-Err.ensures.err (λ memory. let yes = c.is_memory.ensures.1 memory in absurd cc)))
