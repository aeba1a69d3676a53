use Rattle.std.proofs.Common.{◌≡◌, ◌∙◌, ◌+◌, ◌-◌, take, length, ap, sym, List, ℕ, drop, get_or}
use Rattle.std.proofs.Common.{string_bytes}
use Rattle.std.specs.List.{list_any}
use Rattle.std.specs.Str.{bytes_eq}
use Rattle.esc_envelope.proofs.Distinct.{one_more, repeated, all_once}
use Rattle.esc_envelope.proofs.texts.are_distinct.Goals as goal

pub returns-then-is_among : goal.returns-then-is_among
returns-then-is_among c =
    let text : c.as_str.result.now ≡ string_bytes (get_or c.args.texts.now c.loop-i.i
    c.index-texts-i.result) = c.as_str.ensures.value ∙ ap string_bytes c.index-texts-i.is in
    repeated string_bytes c.args.texts.now c.loop-i.i c.index-texts-i.result _ c.loop-i-test.true
    (ap (λ (t : List ℕ). list_any (λ other. bytes_eq (string_bytes other) t)
    (take (length c.args.texts.now - (c.loop-i.i + 1)) (drop (c.loop-i.i + 1) c.args.texts.now)))
    (sym text) ∙ sym c.if-is_among.ensures) c.loop-i.invariant

pub loop-i-preserved : goal.loop-i-preserved
loop-i-preserved c =
    let text : c.as_str.result.now ≡ string_bytes (get_or c.args.texts.now c.loop-i.i
    c.index-texts-i.result) = c.as_str.ensures.value ∙ ap string_bytes c.index-texts-i.is in
    one_more string_bytes c.args.texts.now c.loop-i.i c.index-texts-i.result _ c.loop-i-test.true
    (ap (λ (t : List ℕ). list_any (λ other. bytes_eq (string_bytes other) t)
    (take (length c.args.texts.now - (c.loop-i.i + 1)) (drop (c.loop-i.i + 1) c.args.texts.now)))
    (sym text) ∙ sym c.if-is_among.ensures) c.loop-i.invariant

pub returns : goal.returns
returns c = all_once string_bytes c.args.texts.now c.loop-i.i _ c.loop-i-test.false c.loop-i.invariant
