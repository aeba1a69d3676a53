use Rattle.std.proofs.Common.{◌≡◌, ◌<◌, ◌^◌, ◌++◌, rules, sym, subst, arith}
use Rattle.esc_zone.specs.Records.{AreLines, record_line}
use Rattle.esc_zone.proofs.Lines.{more_lines}
use Rattle.esc_zone.proofs.records.Records.add.Goals as goal

pub invariant_of-self-2 : goal.invariant_of-self-2
invariant_of-self-2 c =
    let ttl = c.self.inside.ttl in
    let text = c.self.inside.bytes.items in
    let line = record_line ttl c.args.owner.now c.args.said.now in
    let is : c.extend_from_slice.new.self.items ≡ text ++ line = search rules in
    let fits : ttl < 2 ^ 32 = omega (arith, c.self.ranges) in
    subst AreLines (sym is) (more_lines
    ttl text c.args.owner.now c.args.said.now c.self.invariant c.as_bytes.ensures.name fits c.requires)
