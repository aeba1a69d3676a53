use mathlib.Core.Path.{fun_ext}
use Rattle.std.proofs.Common.{List, ℕ, ap, ◌∙◌, sym, subst, refl, false, Bool, Option, ◌≡◌, [], BTreeMap}
use Rattle.std.specs.Prelude.{IsSome}
use Rattle.std.specs.Map.{lookup}
use Rattle.std.specs.Option.{option_map_or}
use Rattle.std.specs.BTreeMap.{is_at, get}
use Rattle.esc_zone.specs.declared.draft.Place.{Place}
use Rattle.esc_zone.specs.Names.{name_cmp}
use Rattle.esc_zone.specs.Drafts.{ZoneNotes, zone_notes}
use Rattle.esc_zone.specs.Mirrors.{OriginalNotes, original_notes, with_servers}
use Rattle.esc_zone.proofs.Keeping.{servers_written, servers_unwritten}
use Rattle.esc_zone.proofs.NotedSame.{lookup_same}
use Rattle.esc_zone.proofs.draft.Draft.keep_servers.Goals as goal

pub returns-in-Some-clause-noted : goal.returns-in-Some-clause-noted
returns-in-Some-clause-noted c =
    let z : ZoneNotes = zone_notes c.args.self.now in
    let w = c.set_servers.new.place in
    let f = λ (place : Place). place.is_cut in
    let es = c.args.self.now.places.entries in
    let written = (c.get_mut.follows.holds w).0 in
    let old = sym c.in-Some.ensures.value in
    ap (λ (is_delegated : List ℕ → Bool). record z { is_delegated = is_delegated })
    (fun_ext (λ name. ap (λ l. option_map_or f (lookup (is_at (name_cmp name)) l) false) written
    ∙ lookup_same f false _ (is_at (name_cmp name)) es c.in-Some.place.now w old c.set_servers.ensures.cut))

pub returns-in-Some-clause-originals : goal.returns-in-Some-clause-originals
returns-in-Some-clause-originals c =
    let places = c.args.self.now.places in
    let es = places.entries in
    let w = c.set_servers.new.place in
    let place = c.in-Some.place.now in
    let name = c.args.name.now in
    let old = sym c.in-Some.ensures.value in
    let holds = c.get_mut.follows.holds w in
    let updated = holds.3 (subst (λ (found : Option Place). IsSome found) (sym old) refl) in
    let is_domain =
    fun_ext (λ q. ap (λ l. option_map_or (λ (p : Place). p.is_domain) (lookup (is_at (name_cmp q)) l) false) holds.0
    ∙ lookup_same (λ (p : Place). p.is_domain) false _ (is_at (name_cmp q)) es place w old
    c.set_servers.ensures.domain) in
    let is_original =
    fun_ext (λ q. ap (λ l. option_map_or (λ (p : Place). p.is_original) (lookup (is_at (name_cmp q)) l) false) holds.0
    ∙ lookup_same (λ (p : Place). p.is_original) false _ (is_at (name_cmp q)) es place w old
    c.set_servers.ensures.original) in
    let servers = fun_ext (servers_written (λ q. get name_cmp places q)
    (λ q. get name_cmp (c.get_mut.follows.lender w) q) name place w c.args.servers.items old updated.0
    c.set_servers.ensures.servers) in
    λ i. record { is_domain = is_domain i; is_original = is_original i; servers = servers i }

pub returns-in_default-clause-originals : goal.returns-in_default-clause-originals
returns-in_default-clause-originals c =
    let o : OriginalNotes = original_notes c.args.self.now in
    let name = c.args.name.now in
    let hosts = c.args.servers.items in
    let servers = fun_ext (servers_unwritten (λ q. get name_cmp c.args.self.now.places q) name hosts
    (sym c.in_default.ensures.value)) in
    let unwritten : o ≡ with_servers name hosts o =
    ap (λ (s : List ℕ → List (List ℕ)). record o { servers = s }) servers in
    let seen : List (List ℕ × Place) → OriginalNotes = λ es. record {
      is_domain = λ q. option_map_or (λ (p : Place). p.is_domain) (lookup (is_at (name_cmp q)) es) false;
      is_original = λ q. option_map_or (λ (p : Place). p.is_original) (lookup (is_at (name_cmp q)) es) false;
      servers = λ q. option_map_or (λ (p : Place). p.servers.items) (lookup (is_at (name_cmp q)) es) [];
    } in
    ap (λ (m : BTreeMap (List ℕ) Place). seen m.entries) c.get_mut.follows.holds-at-none ∙ unwritten
