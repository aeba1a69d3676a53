use Rattle.std.proofs.Common.{◌≡◌, ◌+◌, ◌∙◌, List, [], ◌∷◌, map, length, ap, sym, arith}
use Rattle.esc_tables.specs.KeyName.{KeyName}
use Rattle.esc_tables.specs.ObjectValue.{ObjectValue}
use Rattle.esc_apply.specs.Registry.{noted}
use Rattle.esc_apply.specs.Changes.{with_object, changed_by}
use Rattle.esc_apply.specs.Memory.{Keeps}
use Rattle.esc_apply.proofs.Runs.{put_new}
use Rattle.esc_apply.specs.ChangeLaws.{fills_more, fills_last}
use Rattle.esc_apply.specs.declared.registry.Keys.TheVariants.{Unknown}
use Rattle.esc_apply.proofs.memory.MemRegistryRegistry.put_all.Goals as goal

pub loop-key-preserved : goal.loop-key-preserved
loop-key-preserved c =
    let one = ap length c.in-Some.ensures.steps in
    let more : length c.loop-key.key-iterator ≡ length c.next.new.self + 1 = omega (arith, one) in
    record {
      counted = omega (arith, more, c.loop-key.invariant.counted, c.in_ok-put.ensures.counted);
      leads = λ s keeps new.
          fills_more (Keeps c.loop-key.self.objects.entries c.loop-key.self.notes.entries)
          (Keeps c.put.new.self.objects.entries c.put.new.self.notes.entries)
          Unknown (changed_by s c.args.step (map with_object c.args.objects.now.entries)) c.args.step
          (with_object (c.in-Some.key.now, c.in-Some.object.now) ∷ [])
          (map with_object c.next.new.self) (map with_object c.loop-key.key-iterator)
          (ap (λ (l : List (KeyName × ObjectValue)). map with_object l) c.in-Some.ensures.steps)
          (c.loop-key.invariant.leads s keeps new)
          (λ t held can.
          let key = c.in-Some.key.now in
          let is : c.in_ok-before.before ≡ t.content key =
          c.in_ok-before.ensures ∙ c.get.ensures.value ∙ sym (held.content key) in
          let now : Keeps c.loop-key.self.objects.entries
          c.note.new.notes.entries (noted t c.args.step key (t.content key)) = record {
            content = held.content;
            undo = λ j q. rw (held.undo c.args.step q, held.undo j q, ← is, ← c.in_ok-copy.ensures)
                (sym (c.in_ok-note.ensures j q));
          } in
          c.in_ok-put.ensures.written tt (noted t c.args.step key (t.content key)) now);
    }

pub returns-clause-put : goal.returns-clause-put
returns-clause-put c = λ honest s keeps can.
    fills_last (Keeps c.loop-key.self.objects.entries c.loop-key.self.notes.entries)
    Unknown _ c.args.step (map with_object c.loop-key.key-iterator)
    (ap (λ (l : List (KeyName × ObjectValue)). map with_object l) c.in-None.ensures.steps.0)
    (c.loop-key.invariant.leads s keeps (put_new c.args.targets s c.args.step _ can))
