use mathlib.Core.Path.{fun_ext}
use Rattle.std.proofs.Common.{List, ℕ, Option, Some, None, ◌≡◌, ◌∙◌, ap, sym, subst, refl}
use Rattle.std.specs.Prelude.{IsSome}
use Rattle.std.specs.Option.{option_map}
use Rattle.std.specs.BTreeMap.{get}
use Rattle.esc_zone.specs.declared.draft.Server.{Server}
use Rattle.esc_zone.specs.Names.{name_cmp}
use Rattle.esc_zone.specs.Noted.{DraftNotes, ServerNotes, draft_notes, server_notes, texts_above, with_texts}
use Rattle.esc_zone.proofs.Noting.{noted_changed, noted_absent}
use Rattle.esc_zone.proofs.draft.Draft.settle_server.Goals as goal

pub returns-in-Some : goal.returns-in-Some
returns-in-Some c =
    let d : DraftNotes = draft_notes c.args.self.now in
    let m = c.args.self.now.servers in
    let name = c.args.name.now in
    let w = c.take_rows.new.server in
    let old = c.in-Some.server.now in
    let found = sym c.in-Some.ensures.value in
    let some = subst (λ (o : Option Server). IsSome o) c.in-Some.ensures.value refl in
    let is = c.take_rows.ensures
    ∙ ap (λ (t : List (List ℕ)). with_texts t (server_notes old)) c.in_ok-rows.ensures in
    ap (λ (servers : List ℕ → Option ServerNotes). record d { servers = servers })
    (fun_ext (noted_changed server_notes (with_texts (texts_above d name)) (get name_cmp m)
    (get name_cmp (c.get_mut.follows.lender w)) old w name found is ((c.get_mut.follows.holds w).3 some).0))

pub returns-in-None : goal.returns-in-None
returns-in-None c =
    let d : DraftNotes = draft_notes c.args.self.now in
    let m = c.args.self.now.servers in
    let name = c.args.name.now in
    let none = sym c.in-None.ensures.value in
    ap (λ m'. record d { servers = λ q. option_map server_notes (get name_cmp m' q) }) c.get_mut.follows.holds-at-none
    ∙ ap (λ (servers : List ℕ → Option ServerNotes). record d { servers = servers })
    (fun_ext (noted_absent server_notes (with_texts (texts_above d name)) (get name_cmp m) name none))
