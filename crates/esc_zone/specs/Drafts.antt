-- What a draft has noted of the names in the zone.
use Rattle.std.specs.Prelude.{ℕ, List, [], ◌∷◌, Bool, false, not, ◌&&◌, Option, None, filter}
use Rattle.std.specs.Prelude.{IsTrue, is_some, ◌⊎◌, ◌||◌}
use Rattle.std.specs.List.{take_while, last_or}
use Rattle.std.specs.Option.{option_map_or}
use Rattle.std.specs.BTreeMap.{get}
use Rattle.esc_zone.specs.declared.draft.Draft.{Draft}
use Rattle.esc_zone.specs.Addresses.{HasAddress, said_texts}
use Rattle.esc_zone.specs.Names.{is_below, name_cmp, name_eq, names_above, name_above}

-- what the zone is to be, and of each name: whether it is delegated, whether the operator's file
-- has an address of it, and the texts of the addresses that the tables have of it as a server
pub record ZoneNotes : Type 0 where
  pub origin : List ℕ
  pub ttl : ℕ
  pub has_underscores : Bool
  pub has_orphan_glue : Bool
  pub is_delegated : List ℕ → Bool
  pub is_given : List ℕ → Bool
  pub said : List ℕ → List (List ℕ)

-- what this draft has noted
abbrev pub zone_notes : Draft → ZoneNotes
zone_notes d = record {
  origin = d.settings.origin;
  ttl = d.settings.ttl;
  has_underscores = d.settings.has_underscores;
  has_orphan_glue = d.settings.has_orphan_glue;
  is_delegated = λ name. option_map_or (λ place. place.is_cut) (get name_cmp d.places name) false;
  is_given = λ name. is_some (get name_cmp d.apex.addresses name);
  said = λ name. option_map_or (λ server. said_texts server.rows.items)
      (get name_cmp d.servers name) [];
}

-- whether a name is below that of the zone
abbrev pub is_inside : ZoneNotes → List ℕ → Bool
is_inside z name = is_below name z.origin && not (name_eq name z.origin)

-- the delegated names at and above a name, from the nearest on
abbrev pub cuts_at : ZoneNotes → List ℕ → List (List ℕ)
cuts_at z name = filter z.is_delegated (take_while (is_inside z) (name ∷ names_above name))

-- the uppermost delegated name at or above a name
abbrev pub cut_of : ZoneNotes → List ℕ → Option (List ℕ)
cut_of z name = last_or None (cuts_at z name)

-- the uppermost delegated name above a name
abbrev pub cut_above : ZoneNotes → List ℕ → Option (List ℕ)
cut_above z name = option_map_or (cut_of z) (name_above name) None

-- whether addresses that the tables have of a server may be in the zone: a delegation is at or
-- above it, or addresses without one are not left out
abbrev pub takes_glue : ZoneNotes → List ℕ → Bool
takes_glue z host = z.has_orphan_glue || is_some (cut_of z host)

-- the zone has an address of a server in it: the operator's, or one of the tables that may be there
abbrev pub HasGlue : ZoneNotes → List ℕ → Type 0
HasGlue z host = IsTrue (z.is_given host)
    ⊎ (HasAddress (z.said host) × IsTrue (takes_glue z host))
