-- What a draft notes of servers and names in the zone, and what objects of a registry say of them.
use Rattle.std.specs.Prelude.{◌↔◌, ◌⊎◌, IsTrue}
use Rattle.std.specs.Prelude.{◌≡◌, IfSome, ℕ, Bool, true, false, not, ◌&&◌, ◌||◌, List, []}
use Rattle.std.specs.Prelude.{if◌then◌else◌}
use Rattle.std.specs.Prelude.{◌∷◌, ◌++◌, codes, map, filter, filter_map, string_bytes}
use Rattle.std.specs.Prelude.{Option, Some, None, is_some, is_none}
use Rattle.std.specs.List.{list_any, take_while, find, flat_map, last_or}
use Rattle.std.specs.Option.{option_map, option_map_or, unwrap_or}
use Rattle.std.specs.BTreeMap.{get}
use Rattle.std.specs.Str.{bytes_eq}
use Rattle.esc_tables.specs.ObjectValue.{RowValue}
use Rattle.esc_apply.specs.ObjectStreams.{Entry}
use Rattle.esc_zone.specs.declared.draft.Settings.{Settings}
use Rattle.esc_zone.specs.declared.draft.Server.{Server}
use Rattle.esc_zone.specs.declared.draft.Attribute.{Attribute}
use Rattle.esc_zone.specs.declared.draft.Place.{Place}
use Rattle.esc_zone.specs.declared.draft.Draft.{Draft}
use Rattle.esc_zone.specs.Addresses.{HasAddress, said_texts}
use Rattle.esc_zone.specs.Delegations.{server_texts}
use Rattle.esc_zone.specs.Mirrors.{original_in}
use Rattle.esc_zone.specs.Fields.{first_text, has_text, normal}
use Rattle.esc_zone.specs.Names.{is_below, is_name_with, is_server_name, name_above, name_cmp}
use Rattle.esc_zone.specs.Names.{name_eq, names_above}
use Rattle.esc_zone.specs.Statuses.{hold_of}

-- the text of the address that a row of a host says, if it says one
abbrev pub host_text : RowValue → Option (List ℕ)
host_text row = if bytes_eq row.table (codes "hostAddresses")
    then Some (first_text (codes "addr") row) else None

-- the texts of the addresses that the rows of a host say, by row
abbrev pub host_texts : List RowValue → List (List ℕ)
host_texts rows = filter_map host_text rows

-- an address that a domain says: of which server, and its text
abbrev pub attribute_value : Attribute → List ℕ × List ℕ
attribute_value a = (a.host, string_bytes a.said.text)

-- the text of an address that a domain says, if it is one of this host
abbrev pub text_for : List ℕ → List ℕ × List ℕ → Option (List ℕ)
text_for host a = if name_eq a.0 host then Some a.1 else None

-- the texts of a host's addresses among these
abbrev pub texts_for : List (List ℕ × List ℕ) → List ℕ → List (List ℕ)
texts_for said host = filter_map (text_for host) said

-- what is noted of a server in the zone: whether it is an object, and the texts of its addresses
pub record ServerNotes : Type 0 where
  pub is_object : Bool
  pub said : List (List ℕ)

abbrev pub server_notes : Server → ServerNotes
server_notes s = record { is_object = s.is_object; said = said_texts s.rows.items }

-- what is noted of a name in the zone: whether it is a domain, whether that is let in, whether it
-- has a server outside of the zone, and which in it; the addresses that it says, each with its
-- server; of a mirrored name its original; and whether it is delegated
pub record PlaceNotes : Type 0 where
  pub is_domain : Bool
  pub is_let_in : Bool
  pub has_outside : Bool
  pub has_inside : List ℕ → Bool
  pub said : List (List ℕ × List ℕ)
  pub mirrors : Option (List ℕ)
  pub is_cut : Bool

-- one of these is this name
abbrev pub is_among_names : List (List ℕ) → List ℕ → Bool
is_among_names names q = list_any (λ name. name_eq name q) names

abbrev pub place_notes : Place → PlaceNotes
place_notes p = record {
  is_domain = p.is_domain;
  is_let_in = p.is_let_in;
  has_outside = p.has_outside;
  has_inside = is_among_names p.inside.items;
  said = map attribute_value p.attributes.items;
  mirrors = p.mirrors;
  is_cut = p.is_cut;
}

-- all that a draft has noted, by name
pub record DraftNotes : Type 0 where
  pub settings : Settings
  pub is_given : List ℕ → Bool
  pub servers : List ℕ → Option ServerNotes
  pub places : List ℕ → Option PlaceNotes

abbrev pub draft_notes : Draft → DraftNotes
draft_notes d = record {
  settings = d.settings;
  is_given = λ name. is_some (get name_cmp d.apex.addresses name);
  servers = λ name. option_map server_notes (get name_cmp d.servers name);
  places = λ name. option_map place_notes (get name_cmp d.places name);
}

-- a server, and a name, of which nothing is known yet
abbrev pub new_server : ServerNotes
new_server = record { is_object = false; said = [] }

abbrev pub new_place : PlaceNotes
new_place = record {
  is_domain = false;
  is_let_in = false;
  has_outside = false;
  has_inside = λ host. false;
  said = [];
  mirrors = None;
  is_cut = false;
}

-- what is noted by name, with those names noted too that pass this test
abbrev pub with_new : {X : Type 0} → (List ℕ → Bool) → X → (List ℕ → Option X) → List ℕ → Option X
with_new test new noted q = if test q then Some (unwrap_or (noted q) new) else noted q

-- with servers noted too, and names
abbrev pub with_noted : (List ℕ → Bool) → (List ℕ → Bool) → DraftNotes → DraftNotes
with_noted is_server is_place d = record d {
  servers = with_new is_server new_server d.servers;
  places = with_new is_place new_place d.places;
}

-- whether a name is below that of the zone
abbrev pub is_in_zone : Settings → List ℕ → Bool
is_in_zone s name = is_below name s.origin && not (name_eq name s.origin)

-- a name, if there is one, and those above it, as far as they are in the zone
abbrev pub zone_names : Settings → Option (List ℕ) → List (List ℕ)
zone_names s None = []
zone_names s (Some name) = take_while (is_in_zone s) (name ∷ names_above name)

-- a text is the name of a server at or below the name of the zone
abbrev pub is_zone_server : Settings → List ℕ → Bool
is_zone_server s text = is_server_name s.has_underscores text && is_below text s.origin

-- a domain with this name and these child rows is let in: it is in the zone, and no status keeps
-- it out
abbrev pub is_let_in_at : Settings → List ℕ → List RowValue → Bool
is_let_in_at s name rows = is_in_zone s name && is_none (hold_of rows)

-- a domain is let in, by the name that its key is
abbrev pub is_let_in : Settings → Entry → Bool
is_let_in s e = is_name_with false (normal e.0.text)
    && is_let_in_at s (normal e.0.text) e.1.children

-- a text is this server in the zone
abbrev pub is_server_at : Settings → List ℕ → List ℕ → Bool
is_server_at s text host = is_zone_server s text && name_eq text host

-- a text is a server in the zone, which is at or below this name
abbrev pub is_above_server : Settings → List ℕ → List ℕ → Bool
is_above_server s text q = is_zone_server s text && is_among_names (zone_names s (Some text)) q

-- a name is above a domain, or at or above its server with this text, if that is in the zone
abbrev pub is_above_use : Settings → List ℕ → List ℕ → List ℕ → Bool
is_above_use s name text q =
    is_among_names (zone_names s (name_above name)) q || is_above_server s text q

-- one of these texts is this server in the zone
abbrev pub is_server_among : Settings → List (List ℕ) → List ℕ → Bool
is_server_among s texts host = list_any (λ text. is_server_at s text host) texts

-- a name is above a domain that has servers with these texts, or at or above one of these
abbrev pub is_above_uses : Settings → List ℕ → List (List ℕ) → List ℕ → Bool
is_above_uses s name texts q = list_any (λ text. is_above_use s name text q) texts

-- a domain that is let in uses this server in the zone
abbrev pub is_used_by : Settings → Entry → List ℕ → Bool
is_used_by s e host = is_let_in s e && is_server_among s (server_texts e.1.children) host

-- a name is above a domain that is let in and has servers, or at or above one of these in the zone
abbrev pub is_above_used : Settings → Entry → List ℕ → Bool
is_above_used s e q =
    is_let_in s e && is_above_uses s (normal e.0.text) (server_texts e.1.children) q

-- a host has this name
abbrev pub is_host_named : Settings → List ℕ → Entry → Bool
is_host_named s q e = is_server_name s.has_underscores (normal e.0.text)
    && name_eq (normal e.0.text) q

-- what is noted of a server, with the addresses of its object
abbrev pub with_host_texts : List (List ℕ) → ServerNotes → ServerNotes
with_host_texts texts server = record { is_object = true; said = server.said ++ texts }

-- what is noted, with these addresses of the object that the server with this name is
abbrev pub with_said : List ℕ → List (List ℕ) → DraftNotes → DraftNotes
with_said name texts d = record d {
  servers = λ q. if name_eq name q
      then option_map (with_host_texts texts) (d.servers q) else d.servers q;
}

-- what is noted, with the addresses that a host says
abbrev pub with_host : Entry → DraftNotes → DraftNotes
with_host e d = record d {
  servers = λ q. if is_host_named d.settings q e
      then option_map (with_host_texts (host_texts e.1.children)) (d.servers q) else d.servers q;
}

-- a server in the zone that is noted has this text
abbrev pub is_noted_server : DraftNotes → List ℕ → Bool
is_noted_server d text = is_server_name d.settings.has_underscores text && is_some (d.servers text)

-- a row of a domain says an address
abbrev pub says_address : RowValue → Bool
says_address row = bytes_eq row.table (codes "domainHostAttr") && has_text (codes "addr") row

-- the address that a row of a domain says of a server in the zone that is noted, if it says one
abbrev pub said_in_row : DraftNotes → RowValue → Option (List ℕ × List ℕ)
said_in_row d row = let host = normal (first_text (codes "hostName") row) in
    if says_address row && is_noted_server d host
    then Some (host, first_text (codes "addr") row) else None

-- a text is the name of a server outside of the zone
abbrev pub is_outside_server : Settings → List ℕ → Bool
is_outside_server s text = is_server_name s.has_underscores text && not (is_below text s.origin)

-- a text, if it is the name of a server in the zone
abbrev pub zone_server_in : Settings → List ℕ → Option (List ℕ)
zone_server_in s text = if is_zone_server s text then Some text else None

-- what the rows of a domain say
abbrev pub place_said : DraftNotes → List RowValue → PlaceNotes
place_said d rows = record {
  is_domain = false;
  is_let_in = is_none (hold_of rows);
  has_outside = list_any (is_outside_server d.settings) (server_texts rows);
  has_inside = is_server_among d.settings (server_texts rows);
  said = filter_map (said_in_row d) rows;
  mirrors = None;
  is_cut = false;
}

-- what is noted of a name, with what its domain says
abbrev pub with_domain : PlaceNotes → PlaceNotes → PlaceNotes
with_domain taken place = record place {
  is_domain = true;
  is_let_in = taken.is_let_in;
  has_outside = taken.has_outside;
  has_inside = taken.has_inside;
  said = taken.said;
}

-- what is noted, with what the rows of the domain with this name say, if the name is noted
abbrev pub with_place : List ℕ → List RowValue → DraftNotes → DraftNotes
with_place name rows d = record d {
  places = λ q. if name_eq name q
      then option_map (with_domain (place_said d rows)) (d.places q) else d.places q;
}

-- a domain has this name
abbrev pub is_domain_named : List ℕ → Entry → Bool
is_domain_named q e = is_name_with false (normal e.0.text) && name_eq (normal e.0.text) q

-- what is noted, with what a domain says, if its name is noted
abbrev pub with_domain_of : Entry → DraftNotes → DraftNotes
with_domain_of e d = record d {
  places = λ q. if is_domain_named q e
      then option_map (with_domain (place_said d e.1.children)) (d.places q) else d.places q;
}

-- a name is noted as a domain
abbrev pub is_domain_noted : DraftNotes → List ℕ → Bool
is_domain_noted d name = option_map_or (λ place. place.is_domain) (d.places name) false

-- the domain that a server is in: the nearest at or above it
abbrev pub domain_at : DraftNotes → List ℕ → Option (List ℕ)
domain_at d host = find (is_domain_noted d) (zone_names d.settings (Some host))

-- the texts of the addresses that a name says of a server
abbrev pub texts_at : DraftNotes → List ℕ → List ℕ → List (List ℕ)
texts_at d name host = option_map_or (λ place. texts_for place.said host) (d.places name) []

-- those that the domain says that the server is in
abbrev pub texts_above : DraftNotes → List ℕ → List (List ℕ)
texts_above d host = option_map_or (λ name. texts_at d name host) (domain_at d host) []

-- what is noted of a server, with these addresses if it is no object
abbrev pub with_texts : List (List ℕ) → ServerNotes → ServerNotes
with_texts texts server =
    if server.is_object then server else record { is_object = false; said = texts }

-- what is noted, with these addresses of the server with this name, if it is no object
abbrev pub with_own : List ℕ → List (List ℕ) → DraftNotes → DraftNotes
with_own name texts d = record d {
  servers = λ q. if name_eq name q
      then option_map (with_texts texts) (d.servers q) else d.servers q;
}

-- what is noted, with the addresses of these servers, if they are no objects, that the domains say
-- that they are in
abbrev pub settled_among : List (List ℕ) → DraftNotes → DraftNotes
settled_among names d = record d {
  servers = λ q. if is_among_names names q
      then option_map (with_texts (texts_above d q)) (d.servers q) else d.servers q;
}

-- the same of all servers
abbrev pub with_settled : DraftNotes → DraftNotes
with_settled d = record d { servers = λ q. option_map (with_texts (texts_above d q)) (d.servers q) }

-- one of these domains that are let in uses this server in the zone
abbrev pub is_used_here : Settings → List Entry → List ℕ → Bool
is_used_here s es host = list_any (λ e. is_used_by s e host) es

-- a name is above one of these domains that are let in and have servers, or at or above one of
-- these servers in the zone
abbrev pub is_above_here : Settings → List Entry → List ℕ → Bool
is_above_here s es q = list_any (λ e. is_above_used s e q) es

-- what is noted, with the servers in the zone that these domains use, and the names above
abbrev pub with_uses : List Entry → DraftNotes → DraftNotes
with_uses es d = with_noted (is_used_here d.settings es) (is_above_here d.settings es) d

-- one of these hosts has this name
abbrev pub is_host_here : Settings → List Entry → List ℕ → Bool
is_host_here s es host = list_any (is_host_named s host) es

-- the texts of the addresses that the host with this name says
abbrev pub hosts_texts : Settings → List Entry → List ℕ → List (List ℕ)
hosts_texts s es host =
    flat_map (λ e. host_texts e.1.children) (filter (is_host_named s host) es)

-- what is noted of a server, with the addresses of the host with its name among these
abbrev pub with_hosts_texts : Settings → List Entry → List ℕ → ServerNotes → ServerNotes
with_hosts_texts s es host server = record {
  is_object = server.is_object || is_host_here s es host;
  said = server.said ++ hosts_texts s es host;
}

-- what is noted, with the addresses that these hosts say
abbrev pub with_hosts : List Entry → DraftNotes → DraftNotes
with_hosts es d = record d {
  servers = λ q. option_map (with_hosts_texts d.settings es q) (d.servers q);
}

-- the domain with this name among these: the last one, and a second one is refused
abbrev pub domain_here : List Entry → List ℕ → Option Entry
domain_here es name = last_or None (filter (is_domain_named name) es)

-- what is noted of a name, with what its domain says, if it is one
abbrev pub with_domain_here : DraftNotes → Option Entry → PlaceNotes → PlaceNotes
with_domain_here d None place = place
with_domain_here d (Some e) place = with_domain (place_said d e.1.children) place

-- what is noted, with what these domains say whose names are noted
abbrev pub with_domains : List Entry → DraftNotes → DraftNotes
with_domains es d = record d {
  places = λ q. option_map (with_domain_here d (domain_here es q)) (d.places q);
}

-- nothing is known yet of the servers and names that are noted
pub record IsFresh (d : DraftNotes) : Type 0 where
  pub servers : (host : List ℕ) → IfSome (d.servers host) (λ n. n ≡ new_server)
  pub places : (q : List ℕ) → IfSome (d.places q) (λ p. p ≡ new_place)

-- some names are noted too, and nothing else changes
abbrev pub NotesNames : DraftNotes → DraftNotes → Type 0
NotesNames before after =
    (names : List ℕ → Bool) × (after ≡ with_noted (λ q. false) names before)

-- a name, with this original if one is given
abbrev pub with_original : Option (Option (List ℕ)) → PlaceNotes → PlaceNotes
with_original None place = place
with_original (Some original) place = record place { mirrors = original }

-- the name that a text is, if it is one
abbrev pub name_read : List ℕ → Option (List ℕ)
name_read text = if is_name_with false (normal text) then Some (normal text) else None

-- what is noted, with the original with this text of the name, if it is mirrored by name servers
abbrev pub with_mirror : List ℕ → Option (List ℕ) → DraftNotes → DraftNotes
with_mirror name text d = record d {
  places = λ q. option_map (with_original
      (if name_eq name q then option_map name_read text else None)) (d.places q);
}

-- the original that the row of a name with this one gives, if it is mirrored by name servers
abbrev pub original_given : List ℕ → Entry → Option (Option (List ℕ))
original_given q e =
    if is_domain_named q e then option_map name_read (original_in e.1.parent) else None

-- what is noted, with the original that a name has, if it is mirrored by name servers
abbrev pub with_original_of : Entry → DraftNotes → DraftNotes
with_original_of e d =
    record d { places = λ q. option_map (with_original (original_given q e)) (d.places q) }

-- the original of a name among these: that of the last one, and a second one is refused
abbrev pub given_here : List Entry → List ℕ → Option (Option (List ℕ))
given_here es q = last_or None (filter_map (original_given q) es)

abbrev pub original_here : List Entry → List ℕ → Option (List ℕ)
original_here es q = option_map_or (λ original. original) (given_here es q) None

-- what is noted, with the originals that these names have
abbrev pub with_originals : List Entry → DraftNotes → DraftNotes
with_originals es d =
    record d { places = λ q. option_map (with_original (given_here es q)) (d.places q) }

-- the text of the address that a row of a domain says of this host, if it says one
abbrev pub own_text : List ℕ → RowValue → Option (List ℕ)
own_text host row = if says_address row && name_eq (normal (first_text (codes "hostName") row)) host
    then Some (first_text (codes "addr") row) else None

-- the texts of the addresses that the domain with this name says of this host, if it is one of
-- these domains
abbrev pub domain_texts : List Entry → List ℕ → List ℕ → List (List ℕ)
domain_texts domains name host =
    option_map_or (λ e. filter_map (own_text host) e.1.children) (domain_here domains name) []

-- the texts of the addresses that the domain says of this host that it is in: the nearest at or
-- above it
abbrev pub texts_over : Settings → List Entry → List ℕ → List (List ℕ)
texts_over s domains host = option_map_or (λ name. domain_texts domains name host)
    (find (λ name. is_some (domain_here domains name)) (zone_names s (Some host))) []

-- the texts of the addresses that the tables have of a server in the zone: those of the host with
-- its name; if there is none, those that the domain says that it is in
abbrev pub texts_here : Settings → List Entry → List Entry → List ℕ → List (List ℕ)
texts_here s hosts domains host = if is_host_here s hosts host then hosts_texts s hosts host
    else texts_over s domains host

-- what a domain says is noted of its name
abbrev pub SaysOf : Settings → Entry → PlaceNotes → Type 0
SaysOf s e p = (p.is_let_in ≡ is_none (hold_of e.1.children))
    × (p.has_outside ≡ list_any (is_outside_server s) (server_texts e.1.children))
    × (p.has_inside ≡ is_server_among s (server_texts e.1.children))

-- what these domains and mirrored names say is noted of a name
pub record PlaceHolds (domains mirrors uses : List Entry) (s : Settings) (q : List ℕ)
    (p : PlaceNotes) : Type 0 where
  pub domain : p.is_domain ≡ is_some (domain_here domains q)
  pub says : IfSome (domain_here domains q) (λ e. SaysOf s e p)
  pub said : (host : List ℕ) → is_used_here s uses host ≡ true
      → texts_for p.said host ≡ domain_texts domains q host
  pub original : p.mirrors ≡ original_here mirrors q

-- a draft has noted what these hosts, domains and mirrored names say of the servers in the zone
-- that the domains in use have, and of the names that are noted, those above among them
pub record AreTaken (hosts domains mirrors uses : List Entry) (d : DraftNotes) : Type 0 where
  pub servers : (host : List ℕ) → is_used_here d.settings uses host ≡ true
      → d.servers host ≡ Some (record {
        is_object = is_host_here d.settings hosts host;
        said = hosts_texts d.settings hosts host;
      })
  pub noted : (q : List ℕ) → is_above_here d.settings uses q ≡ true → is_some (d.places q) ≡ true
  pub places : (q : List ℕ) (p : PlaceNotes) → d.places q ≡ Some p
      → PlaceHolds domains mirrors uses d.settings q p

-- the texts of the addresses that are noted of a server
abbrev pub noted_texts : DraftNotes → List ℕ → List (List ℕ)
noted_texts d host = option_map_or (λ n. n.said) (d.servers host) []

-- the operator's file has an address of a server, or one of these texts is one
abbrev pub IsReachable : (List ℕ → Bool) → (List ℕ → List (List ℕ)) → List ℕ → Type 0
IsReachable is_given texts host = IsTrue (is_given host) ⊎ HasAddress (texts host)

-- a domain is let in, and has a server that is outside of the zone, or one in it that is reachable
abbrev pub IsServedPlace : (List ℕ → Bool) → (List ℕ → List (List ℕ)) → PlaceNotes → Type 0
IsServedPlace is_given texts p = IsTrue p.is_domain × IsTrue p.is_let_in × (IsTrue p.has_outside
    ⊎ ((host : List ℕ) × IsTrue (p.has_inside host) × IsReachable is_given texts host))

-- what is noted of a name, with whether it is delegated if that is given
abbrev pub cut_by : Option Bool → PlaceNotes → PlaceNotes
cut_by None place = place
cut_by (Some is_cut) place = record place { is_cut = is_cut }

-- what is noted, with which of these names are delegated
abbrev pub with_cuts : (List ℕ → Option Bool) → DraftNotes → DraftNotes
with_cuts given d = record d { places = λ q. option_map (cut_by (given q)) (d.places q) }

-- it is noted whether this name is that of a domain that is let in and served
abbrev pub SettlesOne : List ℕ → DraftNotes → DraftNotes → Type 0
SettlesOne name before after = (b : Bool)
    × (after ≡ with_cuts (λ q. if name_eq name q then Some b else None) before)
    × ((p : PlaceNotes) → before.places name ≡ Some p
    → IsTrue b ↔ IsServedPlace before.is_given (noted_texts before) p)

-- the same of each of these names
abbrev pub SettlesNames : List (List ℕ) → DraftNotes → DraftNotes → Type 0
SettlesNames names before after = (given : List ℕ → Option Bool) × (after ≡ with_cuts given before)
    × ((q : List ℕ) (p : PlaceNotes) → is_among_names names q ≡ true → before.places q ≡ Some p
    → (b : Bool) × (given q ≡ Some b)
    × (IsTrue b ↔ IsServedPlace before.is_given (noted_texts before) p))

-- the same of each name that is noted
abbrev pub SettlesAll : DraftNotes → DraftNotes → Type 0
SettlesAll before after = (given : List ℕ → Option Bool) × (after ≡ with_cuts given before)
    × ((q : List ℕ) (p : PlaceNotes) → before.places q ≡ Some p → (b : Bool) × (given q ≡ Some b)
    × (IsTrue b ↔ IsServedPlace before.is_given (noted_texts before) p))

-- a name is noted as a domain that is delegated
abbrev pub IsCutDomain : DraftNotes → List ℕ → Type 0
IsCutDomain d name =
    (p : PlaceNotes) × (d.places name ≡ Some p) × IsTrue p.is_domain × IsTrue p.is_cut

-- a name is no domain, and its original is one that is delegated
abbrev pub IsMirroredPlace : DraftNotes → PlaceNotes → Type 0
IsMirroredPlace d p = (p.is_domain ≡ false) × (original : List ℕ)
    × (p.mirrors ≡ Some original) × IsCutDomain d original

-- it is noted whether this name is a mirrored one that is delegated
abbrev pub SettlesMirror : List ℕ → DraftNotes → DraftNotes → Type 0
SettlesMirror name before after = (b : Bool)
    × (after ≡ with_cuts (λ q. if b && name_eq name q then Some true else None) before)
    × ((p : PlaceNotes) → before.places name ≡ Some p → IsTrue b ↔ IsMirroredPlace before p)

-- the same of each of these names
abbrev pub SettlesMirrors : List (List ℕ) → DraftNotes → DraftNotes → Type 0
SettlesMirrors names before after = (given : List ℕ → Bool)
    × (after ≡ with_cuts (λ q. if given q then Some true else None) before)
    × ((q : List ℕ) (p : PlaceNotes) → before.places q ≡ Some p
    → (IsTrue (given q) → IsMirroredPlace before p)
    × (is_among_names names q ≡ true → IsMirroredPlace before p → IsTrue (given q)))

-- the same of each name that is noted
abbrev pub SettlesMirrored : DraftNotes → DraftNotes → Type 0
SettlesMirrored before after = (given : List ℕ → Bool)
    × (after ≡ with_cuts (λ q. if given q then Some true else None) before)
    × ((q : List ℕ) (p : PlaceNotes) → before.places q ≡ Some p
    → IsTrue (given q) ↔ IsMirroredPlace before p)

-- a domain is delegated: no status keeps it out, and it has a server that is outside of the zone,
-- or one in it that has an address, the operator's or of the tables
abbrev pub IsDelegatedHere : Settings → (List ℕ → Bool) → List Entry → List Entry → Entry → Type 0
IsDelegatedHere s is_given hosts domains e = IsTrue (is_none (hold_of e.1.children))
    × (IsTrue (list_any (is_outside_server s) (server_texts e.1.children))
    ⊎ ((host : List ℕ) × IsTrue (is_server_among s (server_texts e.1.children) host)
    × IsReachable is_given (texts_here s hosts domains) host))
