use mathlib.Core.Path.{fun_ext}
use Rattle.std.proofs.Common.{List, ℕ, Option, Some, ap, ◌∙◌, true, false, ◌≡◌, rules}
use Rattle.std.specs.Prelude.{is_some, cond}
use Rattle.std.specs.BTreeMap.{get}
use Rattle.esc_zone.specs.Names.{name_cmp, name_eq}
use Rattle.esc_zone.specs.Noted.{DraftNotes, ServerNotes, draft_notes, server_notes, new_server}
use Rattle.esc_zone.proofs.Noting.{noted_first, noted_again}
use Rattle.esc_zone.proofs.draft.Draft.note_host.Goals as goal

pub returns-then-contains_key : goal.returns-then-contains_key
returns-then-contains_key c =
    let d : DraftNotes = draft_notes c.args.self.now in
    let m = c.args.self.now.servers in
    let has : is_some (get name_cmp m c.args.host.now) ≡ true = search rules in
    ap (λ (servers : List ℕ → Option ServerNotes). record d { servers = servers })
    (fun_ext (noted_again server_notes (get name_cmp m) new_server c.args.host.now has))

pub returns : goal.returns
returns c =
    let d : DraftNotes = draft_notes c.args.self.now in
    let m = c.args.self.now.servers in
    let v = c.empty_server.result in
    let none : is_some (get name_cmp m c.args.host.now) ≡ false = search rules in
    ap (λ (servers : List ℕ → Option ServerNotes). record d { servers = servers })
    (fun_ext (noted_first server_notes (get name_cmp m) (get name_cmp c.insert.new.self) v new_server c.args.host.now
    none c.empty_server.ensures
    (λ q. c.in_ok-insert.ensures.updates.0 q
    ∙ ap (λ n. cond (name_eq n q) (Some v) (get name_cmp m q)) c.in_ok-name.ensures)))
