use Rattle.std.proofs.Common.{◌≡◌, ◌∙◌, ap, sym, subst, List, ℕ, Option, Some, [], Bool}
use Rattle.std.specs.Prelude.{◌↔◌, IsTrue}
use Rattle.std.specs.Option.{option_map_or}
use Rattle.std.specs.BTreeMap.{get}
use Rattle.esc_zone.specs.Names.{name_cmp}
use Rattle.esc_zone.specs.Noted.{DraftNotes, ServerNotes, draft_notes, SettlesAll, IsDelegatedHere}
use Rattle.esc_zone.specs.Noted.{IsCutDomain, original_here}
use Rattle.esc_zone.proofs.Taken.{settled_texts, said_seen}
use Rattle.esc_zone.proofs.Settled.{settled_cut, mirrored_cut, cut_seen}
use Rattle.esc_zone.proofs.draft.Draft.settle.Goals as goal

pub returns-clause-settled : goal.returns-clause-settled
returns-clause-settled c =
    let Servers = λ (n : DraftNotes). n.servers in
    ap Servers c.in_ok-settle_mirrors.ensures.1 ∙ ap Servers c.in_ok-settle_domains.ensures.1
    ∙ ap Servers c.in_ok-settle_servers.ensures

pub returns-clause-said : goal.returns-clause-said
returns-clause-said c = λ hosts domains mirrors t host u.
    let d : DraftNotes = draft_notes c.args.self.now in
    let Servers = λ (n : DraftNotes). n.servers in
    let same = ap Servers c.in_ok-settle_mirrors.ensures.1 ∙ ap Servers c.in_ok-settle_domains.ensures.1
    ∙ ap Servers c.in_ok-settle_servers.ensures in
    said_seen (get name_cmp c.settle_mirrors.new.self.servers host)
    ∙ ap (λ (f : List ℕ → Option ServerNotes). option_map_or (λ (n : ServerNotes). n.said) (f host) []) same
    ∙ settled_texts hosts domains mirrors d t host u

pub returns-clause-delegated : goal.returns-clause-delegated
returns-clause-delegated c = λ hosts domains mirrors t name e there zone here.
    let d : DraftNotes = draft_notes c.args.self.now in
    let b : DraftNotes = draft_notes c.settle_domains.new.self in
    let all = subst (λ (x : DraftNotes). SettlesAll x b) c.in_ok-settle_servers.ensures
    c.in_ok-settle_domains.ensures in
    subst (λ (x : Bool). IsTrue x ↔ IsDelegatedHere d.settings d.is_given hosts domains e)
    (sym (cut_seen (get name_cmp c.settle_mirrors.new.self.places name)))
    (settled_cut hosts domains mirrors d b (draft_notes c.settle_mirrors.new.self) t all
    c.in_ok-settle_mirrors.ensures name e there zone here)

pub returns-clause-mirrored : goal.returns-clause-mirrored
returns-clause-mirrored c = λ hosts domains mirrors t name there here.
    let d : DraftNotes = draft_notes c.args.self.now in
    let b : DraftNotes = draft_notes c.settle_domains.new.self in
    let after : DraftNotes = draft_notes c.settle_mirrors.new.self in
    let all = subst (λ (x : DraftNotes). SettlesAll x b) c.in_ok-settle_servers.ensures
    c.in_ok-settle_domains.ensures in
    subst (λ (x : Bool). IsTrue x ↔ ((original : List ℕ) × (original_here mirrors name ≡ Some original)
    × IsCutDomain after original))
    (sym (cut_seen (get name_cmp c.settle_mirrors.new.self.places name)))
    (mirrored_cut hosts domains mirrors d b after t all c.in_ok-settle_mirrors.ensures name there here)
