use Rattle.std.proofs.Common.{◌≡◌, ◌<◌, ◌+◌, ◌++◌, ◌∷◌, [], ◌∙◌, List, ℕ, sym, ap}
use Rattle.std.proofs.Common.{subst, arith, length, take, drop, append-nil}
use Rattle.std.specs.List.{slice_split}
use Rattle.std.proofs.lemmas.Grind.{common_steps}
use Rattle.esc_zone.specs.Names.{is_dot}
use Rattle.esc_zone.proofs.Above.{to_end}
use Rattle.esc_zone.proofs.Wire.{wire_labels, label_first, label_last, label_more}
use Rattle.esc_zone.proofs.signer.wire_name.Goals as goal

pub loop-at-preserved : goal.loop-at-preserved
loop-at-preserved c =
    let rest = c.loop-at.rest.now in
    let at = c.in-Some.at in
    let more = c.push_label.new.wire.items in
    let all = wire_labels (slice_split is_dot c.args.name.now) in
    let small : length (take at rest) < 256 = grind (arith, common_steps, c.loop-at.invariant.short) in
    record {
      wire = subst (λ (r : List ℕ). more ++ wire_labels (slice_split is_dot r) ≡ all) (sym (to_end (at + 1) rest))
          (label_more c.loop-at.wire.items (take at rest) (slice_split is_dot rest)
          (slice_split is_dot (drop (at + 1) rest)) all more (label_first rest at c.in-Some.ensures.place)
          (c.in_ok-push_label.ensures small) c.loop-at.invariant.wire);
      short = grind (arith, common_steps, c.loop-at.invariant.short);
    }

pub returns : goal.returns
returns c =
    let rest = c.loop-at.rest.now in
    let wire = c.push_label-2.new.wire.items in
    let all = wire_labels (slice_split is_dot c.args.name.now) in
    let small : length rest < 256 = omega (arith, c.loop-at.invariant.short) in
    let before = c.loop-at.wire.items in
    let full : wire ++ wire_labels [] ≡ all =
    label_more before rest (slice_split is_dot rest) [] all wire (label_last rest c.in_default.ensures.place)
    (c.in_ok-push_label-2.ensures small) c.loop-at.invariant.wire in
    c.in_ok-push.ensures.items ∙ ap (λ (w : List ℕ). w ++ 0 ∷ []) (sym (append-nil wire) ∙ full)
