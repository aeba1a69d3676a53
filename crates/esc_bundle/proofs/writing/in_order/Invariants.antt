use Rattle.std.proofs.Common.{◌≡◌, [], map, drop}
use Rattle.esc_bundle.specs.Bundle.{views}
use Rattle.esc_bundle.specs.Writing.{named, in_order}
use Rattle.esc_bundle.proofs.writing.in_order.Given as goal

-- the sections so far, and the parts that are left, are in order where the whole list is
abbrev pub invariant-loop-part : goal.invariant-loop-part
invariant-loop-part l = in_order (views l.before.items) (map named (drop l.part-index l.list))
    ≡ in_order [] (map named l.list)
