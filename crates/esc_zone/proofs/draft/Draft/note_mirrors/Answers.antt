use Rattle.esc_zone.specs.Noted.{draft_notes}
use Rattle.esc_zone.proofs.Taken.{names_none, names_more, names_taken}
use Rattle.esc_zone.proofs.draft.Draft.note_mirrors.Goals as goal

pub loop-key-init : goal.loop-key-init
loop-key-init g c = names_none _

pub loop-key-preserved : goal.loop-key-preserved
loop-key-preserved g c =
    names_more (draft_notes c.args.self.now) (draft_notes c.loop-key.self) (draft_notes c.note_mirror.new.self)
    c.loop-key.invariant c.in_ok-note_mirror.ensures

pub returns-clause-taken : goal.returns-clause-taken
returns-clause-taken g c = λ hosts uses t.
    names_taken hosts uses (draft_notes c.args.self.now) (draft_notes c.loop-key.self) c.loop-key.invariant t
