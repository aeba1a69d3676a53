use mathlib.Core.Path.{fun_ext}
use Rattle.std.proofs.Common.{List, ℕ, Option, Some, None, ◌≡◌, ◌∙◌, ap, sym, subst, refl}
use Rattle.std.specs.Prelude.{IsSome}
use Rattle.std.specs.Option.{option_map}
use Rattle.std.specs.BTreeMap.{BTreeMap, get}
use Rattle.esc_zone.specs.declared.name.Name.{Name}
use Rattle.esc_zone.specs.declared.draft.Server.{Server}
use Rattle.esc_zone.specs.Names.{name_cmp}
use Rattle.esc_zone.specs.Noted.{DraftNotes, ServerNotes, draft_notes, server_notes, host_texts, with_host_texts}
use Rattle.esc_zone.proofs.Noting.{noted_changed, noted_absent, on_ok_then}
use Rattle.esc_zone.proofs.draft.Draft.take_named.Goals as goal

pub returns-in-Some : goal.returns-in-Some
returns-in-Some c =
    let d : DraftNotes = draft_notes c.args.self.now in
    let m = c.args.self.now.servers in
    let name = c.args.name.now in
    let w = c.take_object.new.server in
    let change = with_host_texts (host_texts c.args.object.now.children) in
    let found = sym c.in-Some.ensures.value in
    let some = subst (λ (o : Option Server). IsSome o) c.in-Some.ensures.value refl in
    on_ok_then c.take_object.result _ _
    (λ is. ap (λ (servers : List ℕ → Option ServerNotes). record d { servers = servers })
    (fun_ext (noted_changed server_notes change (get name_cmp m) (get name_cmp (c.get_mut.follows.lender w))
    c.in-Some.server.now w name found is ((c.get_mut.follows.holds w).3 some).0)))
    c.take_object.ensures

pub returns-in-None : goal.returns-in-None
returns-in-None c =
    let d : DraftNotes = draft_notes c.args.self.now in
    let m = c.args.self.now.servers in
    let change = with_host_texts (host_texts c.args.object.now.children) in
    let none = sym c.in-None.ensures.value in
    ap (λ m'. record d { servers = λ q. option_map server_notes (get name_cmp m' q) }) c.get_mut.follows.holds-at-none
    ∙ ap (λ (servers : List ℕ → Option ServerNotes). record d { servers = servers })
    (fun_ext (noted_absent server_notes change (get name_cmp m) c.args.name.now none))
