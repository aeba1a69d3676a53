use Rattle.std.proofs.lemmas.Result.{IfErr-weaker}
use Rattle.esc_envelope.proofs.LeastFault.{is_least, least_is, fault_told}
use Rattle.esc_envelope.proofs.envelope.read_envelope.Goals as goal

pub returns-clause-least : goal.returns-clause-least
returns-clause-least c = IfErr-weaker c.envelope_from.result _
    _ (λ e refused n same. is_least c.args.json.now n (refused n same)) c.envelope_from.ensures.refused

pub returns-clause-fault_told : goal.returns-clause-fault_told
returns-clause-fault_told c =
    λ n least. fault_told c.args.json.now c.envelope_from.result c.envelope_from.ensures.envelope
    c.envelope_from.ensures.refused n (least_is c.args.json.now n least)
