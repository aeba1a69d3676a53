-- Which tables the names of an agent's files stand for, and the description that is proposed of the
-- files (the CSV model of RFC 9022, and this project's profile).
use Rattle.std.specs.Prelude.{◌≡◌, ◌+◌, ℕ, List, [], ◌∷◌, length, map, take, drop, get_or, Bool}
use Rattle.std.specs.Prelude.{true, false, ◌==◌, ◌&&◌, ◌||◌, not, nat_lt, nat_le, slice_index}
use Rattle.std.specs.Prelude.{nat_eq, codes, if◌then◌else◌, Option, Some, None, option_map}
use Rattle.std.specs.Prelude.{filter_map, count_by, Ok}
use Rattle.std.specs.List.{list_all, list_any, find, zip, starts_with}
use Rattle.std.specs.Str.{bytes_eq, is_utf8}
use Rattle.esc_csv.specs.Lines.{Line}
use Rattle.esc_csv.specs.Records.{records_of}
use Rattle.esc_envelope.specs.EnvelopeValue.{TableValue, EnvelopeValue}
use Rattle.esc_envelope.specs.Envelope.{envelope_of}
use Rattle.esc_envelope.specs.Id.{is_id}
use Rattle.esc_envelope.specs.Kinds.{is_kind}
use Rattle.esc_pack.specs.declared.known_table.KnownTable.{KnownTable}
use Rattle.esc_pack.specs.declared.proposal.Why.{Why}
use Rattle.esc_pack.specs.declared.proposal.Why.TheVariants.{Name, Heading, Other}
use Rattle.esc_pack.specs.KnownFields.{desk_field}
use Rattle.esc_pack.specs.KnownTables.{known_tables, contents_tables, deletes_tables, file_stem}
use Rattle.esc_pack.specs.KnownTables.{table_name, table_kind, is_parent, is_key}
use Rattle.esc_pack.specs.TableFiles.{SourceValue, SourcesValue, sources_of}

-- a file of a folder
pub record FileValue : Type 0 where
  pub name : List ℕ
  pub bytes : List ℕ

-- a file that the description doesn't name, and why
pub record UnknownValue : Type 0 where
  pub name : List ℕ
  pub why : Why

-- the text of a description, and the files that it doesn't name
pub record ProposalValue : Type 0 where
  pub text : List ℕ
  pub unknown : List UnknownValue

-- whether a name begins with a stem and a dash or a dot after it that `delete` doesn't follow: else
-- it is a name of deletes (domain-delete-1.csv), or close to one (domain-deleted-1.csv)
abbrev pub is_file_of : List ℕ → List ℕ → Bool
is_file_of stem name = nat_lt (length stem) (length name)
    && (bytes_eq (take (length stem) name) stem
    && (((slice_index name (length stem) == 45) || (slice_index name (length stem) == 46))
    && not (starts_with nat_eq (drop (length stem + 1) name) (codes "delete"))))

-- the table that a file's name stands for: the first known one that it is a file of by its stem (no
-- name is a file of two)
abbrev pub table_named : List ℕ → Option KnownTable
table_named name = find (λ k. is_file_of (file_stem k) name) known_tables

-- the first row of a text; an empty one where it has none
abbrev pub first_row : List ℕ → Line
first_row text = get_or (records_of text) 0 []

-- whether a name is there once
abbrev pub is_once : Line → List ℕ → Bool
is_once names name = count_by (λ other. bytes_eq other name) names == 1

-- whether fields are those of a table: 1 to 64 names, each once, with a key among them
abbrev pub are_fields_of : KnownTable → Line → Bool
are_fields_of k fields = nat_le (length fields) 64
    && (list_all is_id fields && (list_all (is_once fields) fields && list_any (is_key k) fields))

abbrev pub if_fields_of : KnownTable → Line → Option Line
if_fields_of k fields = if are_fields_of k fields then Some fields else None

-- the fields that a row has as the heading of a table, by the desk's names, if it is one
abbrev pub heading_fields : KnownTable → Line → Option Line
heading_fields k row = if list_all is_utf8 row
    then if_fields_of k (map (desk_field (table_name k)) row) else None

-- the fields of a file of a table, if it is one and begins with a heading
abbrev pub heading_in : KnownTable → FileValue → Option Line
heading_in k f =
    if is_file_of (file_stem k) f.name then heading_fields k (first_row f.bytes) else None

abbrev pub first : List Line → Option Line
first [] = None
first (line ∷ _) = Some line

-- the fields of a table: those of its first file with a heading
abbrev pub table_fields : List FileValue → KnownTable → Option Line
table_fields files k = first (filter_map (heading_in k) files)

-- whether two lists of names are the same
abbrev pub are_same : Line → Line → Bool
are_same names others =
    (length names == length others) && list_all (λ p. bytes_eq p.0 p.1) (zip names others)

-- whether there is a heading, of these fields
abbrev pub has_fields : Line → Option Line → Bool
has_fields fields None = false
has_fields fields (Some heading) = are_same heading fields

-- the name of a file of a table with these fields
abbrev pub name_in : KnownTable → Line → FileValue → Option (List ℕ)
name_in k fields f = if has_fields fields (heading_in k f) then Some f.name else None

-- a table that is proposed: its fields, and the names of its files in their order
pub record DraftValue : Type 0 where
  pub table : KnownTable
  pub fields : Line
  pub files : List (List ℕ)

-- the table that is proposed of files, if one of them has a heading of it: all files with its first
-- heading are in it
abbrev pub draft_of : List FileValue → KnownTable → Option DraftValue
draft_of files k = option_map (λ fields. record {
  table = k;
  fields = fields;
  files = filter_map (name_in k fields) files;
}) (table_fields files k)

-- whether a declared table has the name and the kind of a known one
abbrev pub is_known_as : KnownTable → TableValue → Bool
is_known_as k t = bytes_eq t.name (table_name k) && is_kind (table_kind k) t.kind

-- whether it is a parent table just if that is one
abbrev pub has_role : KnownTable → TableValue → Bool
has_role k t = if t.parent then is_parent k else not (is_parent k)

-- whether its key is one of that one's
abbrev pub has_known_key : KnownTable → TableValue → Bool
has_known_key k t = is_key k (get_or t.fields t.key [])

-- whether a table is declared as proposed
abbrev pub is_declared_draft : DraftValue × TableValue → Bool
is_declared_draft p = is_known_as p.0.table p.1
    && (has_role p.0.table p.1 && (has_known_key p.0.table p.1 && are_same p.1.fields p.0.fields))

-- whether the files of a table are named as proposed, with headings
abbrev pub is_filed : DraftValue × SourceValue → Bool
is_filed p = p.1.has_heading && are_same p.1.files p.0.files

-- whether all tables are
abbrev pub are_proposed : List DraftValue → List TableValue → List SourceValue → Bool
are_proposed drafts tables sources =
    ((length tables == length drafts) && (length sources == length drafts))
    && (list_all is_declared_draft (zip drafts tables) && list_all is_filed (zip drafts sources))

-- why a file with this heading, if it has one, isn't in its table, whose fields are these, if any
abbrev pub why_apart : Option Line → Option Line → Option Why
why_apart None _ = Some Heading
why_apart (Some heading) fields =
    if has_fields heading fields then None else Some Other

-- the same for the table that its name stands for, if any
abbrev pub why_of : List FileValue → FileValue → Option KnownTable → Option Why
why_of files f None = Some Name
why_of files f (Some k) = why_apart (heading_fields k (first_row f.bytes)) (table_fields files k)

-- the file as one that isn't named, if it isn't
abbrev pub unknown_of : List FileValue → FileValue → Option UnknownValue
unknown_of files f = option_map (λ why. record { name = f.name; why = why })
    (why_of files f (table_named f.name))

-- a text is read as an envelope and as the files of its tables, just as these tables are proposed
pub record IsDescriptionOf (contents deletes : List DraftValue) (text : List ℕ) : Type 0 where
  pub envelope : EnvelopeValue
  pub told : envelope_of text ≡ Ok envelope
  pub sources : SourcesValue
  pub named : sources_of text ≡ Some sources
  pub contents_are : are_proposed contents envelope.contents sources.contents ≡ true
  pub deletes_are : are_proposed deletes envelope.deletes sources.deletes ≡ true

-- the description is of the tables that are proposed of the files of a folder; the unknown files are
-- all others, each with the reason
pub record IsProposalOf (files : List FileValue) (p : ProposalValue) : Type 0 where
  pub described : IsDescriptionOf (filter_map (draft_of files) contents_tables)
      (filter_map (draft_of files) deletes_tables) p.text
  pub unknown : p.unknown ≡ filter_map (unknown_of files) files
