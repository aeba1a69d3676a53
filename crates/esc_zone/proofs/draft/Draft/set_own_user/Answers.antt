use mathlib.Core.Path.{fun_ext}
use Rattle.std.proofs.Common.{List, ℕ, Option, ap, sym, subst, refl}
use Rattle.std.specs.Prelude.{IsSome}
use Rattle.std.specs.BTreeMap.{get}
use Rattle.esc_zone.specs.declared.draft.Server.{Server}
use Rattle.esc_zone.specs.Names.{name_cmp}
use Rattle.esc_zone.specs.Noted.{DraftNotes, ServerNotes, draft_notes, server_notes}
use Rattle.esc_zone.proofs.Noting.{noted_same}
use Rattle.esc_zone.proofs.draft.Draft.set_own_user.Goals as goal

pub returns-in-Some : goal.returns-in-Some
returns-in-Some c =
    let d : DraftNotes = draft_notes c.args.self.now in
    let m = c.args.self.now.servers in
    let w = c.set_own_user.new.server in
    let some = subst (λ (o : Option Server). IsSome o) c.in-Some.ensures.value refl in
    ap (λ (servers : List ℕ → Option ServerNotes). record d { servers = servers })
    (fun_ext (noted_same server_notes (get name_cmp m) (get name_cmp (c.get_mut.follows.lender w))
    c.in-Some.server.now w
    c.args.name.now (sym c.in-Some.ensures.value) c.set_own_user.ensures ((c.get_mut.follows.holds w).3 some).0))
