use mathlib.Core.Path.{fun_ext}
use Rattle.std.proofs.Common.{List, ℕ, [], ap, ◌∙◌, sym}
use Rattle.std.specs.Map.{lookup}
use Rattle.std.specs.Option.{option_map_or}
use Rattle.std.specs.BTreeMap.{is_at}
use Rattle.esc_zone.specs.declared.draft.Server.{Server}
use Rattle.esc_zone.specs.Names.{name_cmp}
use Rattle.esc_zone.specs.Addresses.{said_texts}
use Rattle.esc_zone.specs.Drafts.{ZoneNotes, zone_notes}
use Rattle.esc_zone.proofs.NotedSame.{lookup_same}
use Rattle.esc_zone.proofs.draft.Draft.note_user.Goals as goal

pub returns-in-Some-clause-noted : goal.returns-in-Some-clause-noted
returns-in-Some-clause-noted c =
    let z : ZoneNotes = zone_notes c.args.self.now in
    let w = c.set_user.new.server in
    let f = λ (server : Server). said_texts server.rows.items in
    let es = c.args.self.now.servers.entries in
    let written = (c.get_mut.follows.holds w).0 in
    let old = sym c.in-Some.ensures.value in
    ap (λ (said : List ℕ → List (List ℕ)). record z { said = said })
    (fun_ext (λ name. ap (λ l. option_map_or f (lookup (is_at (name_cmp name)) l) []) written
    ∙ lookup_same f [] _ (is_at (name_cmp name)) es c.in-Some.server.now w old
    (ap (λ rows. said_texts rows.items) c.set_user.ensures)))
