-- DS records: those that a row has, and those that are made of keys (RFC 4034, sections 5.1 and
-- appendix B; RFC 5910, section 4).
use Rattle.std.specs.Prelude.{◌≡◌, ◌≢◌, true, ℕ, ◌+◌, ◌*◌, ◌/◌, ◌%◌, ◌<◌, ◌≤◌, List, []}
use Rattle.std.specs.Prelude.{◌∷◌, ◌++◌, length, map, filter, ◌==◌, Bool, not, ◌&&◌, ◌||◌, bit_and}
use Rattle.std.specs.Prelude.{if◌then◌else◌, Option, Some, None, Ok, Result, MatchResult}
use Rattle.std.specs.Prelude.{codes, MatchBool}
use Rattle.std.specs.List.{list_all, flat_map, slice_split}
use Rattle.std.specs.Str.{bytes_eq}
use Rattle.std.specs.Char.{is_ascii_digit}
use Rattle.std.specs.Str.Parse.{digits_value}
use Rattle.std.specs.Ordering.{nat_cmp, ordering_then}
use Rattle.std.specs.Cmp.Lexicographic.{slice_cmp}
use Rattle.std.specs.declared.cmp.Ordering.{Ordering}
use Rattle.hex.specs.Hex.{decode_of}
use Rattle.base64.specs.Engines.{standard}
use Rattle.base64.specs.GeneralPurpose.{decode_of as base64_of}
use Rattle.sha2.specs.Sha256.{sha256}
use Rattle.esc_tables.specs.ObjectValue.{RowValue}
use Rattle.esc_zone.specs.declared.signer.Ds.{Ds}
use Rattle.esc_zone.specs.declared.signer.DsFault.{DsFault}
use Rattle.esc_zone.specs.declared.signer.DsFault.TheVariants.{NoMemory}
use Rattle.esc_zone.specs.Fields.{first_text, has_text}
use Rattle.esc_zone.specs.Lists.{GivesOne, GivesEach, IsOrderedOnce}
use Rattle.esc_zone.specs.Names.{is_dot}

-- there is no memory left
abbrev pub no_memory : DsFault
no_memory = NoMemory

-- what is read by this relation; a fault, if nothing is; or memory was at its end
abbrev pub Reads : {Y : Type 0} → (Y → Type 0) → Result Y DsFault → Type 0
Reads {Y} P result = MatchResult result P (λ fault. fault ≢ no_memory → (y : Y) → P y → ⊥)

-- the same of what a thing gives by this relation, if it gives one
abbrev pub ReadsOne : {X Y : Type 0} → (X → Y → Type 0) → X → Result (Option Y) DsFault → Type 0
ReadsOne {X} {Y} R x result =
    MatchResult result (GivesOne R x) (λ fault. fault ≢ no_memory → (y : Y) → R x y → ⊥)

-- a number of 1 to 10 digits, and no more than `most`
abbrev pub IsNumber : ℕ → List ℕ → ℕ → Type 0
IsNumber most text n = (0 < length text) × (length text ≤ 10)
    × (list_all is_ascii_digit text ≡ true) × (digits_value 10 text ≡ n) × (n ≤ most)

-- the bytes of a digest of a type, for the types that a zone may have: SHA-1, SHA-256, SHA-384
abbrev pub digest_length : ℕ → Option ℕ
digest_length kind = if kind == 1 then Some 20
    else (if kind == 2 then Some 32 else (if kind == 4 then Some 48 else None))

-- a text is a digest of so many bytes, in hexadecimal digits
abbrev pub IsDigest : List ℕ → ℕ → List ℕ → Type 0
IsDigest text bytes digest = (decode_of text ≡ Ok digest) × (length digest ≡ bytes)

-- the DS that a row gives by these texts
pub record IsGivenDs (tag algorithm kind digest : List ℕ) (ds : Ds) : Type 0 where
  pub of_tag : IsNumber 0xffff tag ds.tag
  pub of_algorithm : IsNumber 0xff algorithm ds.algorithm
  pub used : ds.algorithm ≢ 0
  pub of_kind : IsNumber 0xff kind ds.kind
  pub of_digest : decode_of digest ≡ Ok ds.digest.items
  pub whole : digest_length ds.kind ≡ Some (length ds.digest.items)

-- the data of a key's record (RFC 4034, section 2.1)
abbrev pub key_data : ℕ → ℕ → List ℕ → List ℕ
key_data flags algorithm key = (flags / 256) ∷ (flags % 256) ∷ 3 ∷ algorithm ∷ key

-- the sum of bytes from this place on, of which those at even places count 256 times
abbrev pub tag_sum : ℕ → List ℕ → ℕ
tag_sum at [] = 0
tag_sum at (b ∷ rest) = (if at % 2 == 0 then 256 * b else b) + tag_sum (at + 1) rest

-- the tag of a key (RFC 4034, appendix B)
abbrev pub key_tag : List ℕ → ℕ
key_tag bytes = (tag_sum 0 bytes + tag_sum 0 bytes / 65536) % 65536

-- the DS of a key, by SHA-256, of the name that is these bytes on the wire
pub record IsKeyDs (wire : List ℕ) (flags algorithm : ℕ) (key : List ℕ) (ds : Ds) : Type 0 where
  pub of_tag : ds.tag ≡ key_tag (key_data flags algorithm key)
  pub of_algorithm : ds.algorithm ≡ algorithm
  pub of_kind : ds.kind ≡ 2
  pub of_digest : ds.digest.items ≡ sha256 (wire ++ key_data flags algorithm key)

-- a name on the wire (RFC 1035, section 3.1): each label after its length, and an empty one
abbrev pub wire_name : List ℕ → List ℕ
wire_name name = flat_map (λ label. length label ∷ label) (slice_split is_dot name) ++ 0 ∷ []

-- white space
abbrev pub is_blank : ℕ → Bool
is_blank b = (b == 32) || (b == 9) || (b == 13) || (b == 10)

-- a text is a key in base64, in which white space says nothing (RFC 4034, section 2.2), of 1 to
-- 65531 bytes: those of a record
pub record IsKeyText (text key : List ℕ) : Type 0 where
  pub decoded : base64_of standard (filter (λ b. not (is_blank b)) text) ≡ Ok key
  pub some : 0 < length key
  pub fits : length key ≤ 65531

-- flags are those of a zone's key (RFC 4034, section 2.1.1) that is not revoked (RFC 5011, section
-- 7)
abbrev pub is_zone_key : ℕ → Bool
is_zone_key flags = not (bit_and flags 256 == 0) && (bit_and flags 128 == 0)

-- the DS of a name that a row gives by the texts of a key of DNSSEC
pub record IsRowKeyDs (name : List ℕ) (row : RowValue) (ds : Ds) : Type 0 where
  pub flags : ℕ
  pub key : List ℕ
  pub of_flags : IsNumber 0xffff (first_text (codes "flags") row) flags
  pub of_protocol : IsNumber 0xff (first_text (codes "protocol") row) 3
  pub of_algorithm : IsNumber 0xff (first_text (codes "keyAlg") row) ds.algorithm
  pub used : ds.algorithm ≢ 0
  pub of_zone : is_zone_key flags ≡ true
  pub of_key : IsKeyText (first_text (codes "pubKey") row) key
  pub of_ds : IsKeyDs (wire_name name) flags ds.algorithm key ds

-- whether a row has one of the texts of a DS, or of a key
abbrev pub has_ds_text : RowValue → Bool
has_ds_text row = has_text (codes "keyTag") row || has_text (codes "dsAlg") row
    || has_text (codes "digestType") row || has_text (codes "digest") row

abbrev pub has_key_text : RowValue → Bool
has_key_text row = has_text (codes "flags") row || has_text (codes "protocol") row
    || has_text (codes "keyAlg") row || has_text (codes "pubKey") row

-- the DS of a name that a row gives by the texts of a DS
abbrev pub IsRowGivenDs : RowValue → Ds → Type 0
IsRowGivenDs row ds = IsGivenDs (first_text (codes "keyTag") row) (first_text (codes "dsAlg") row)
    (first_text (codes "digestType") row) (first_text (codes "digest") row) ds

-- the DS of a name that a row gives: by the texts of a DS, if it has one of these, else of a key
abbrev pub IsSigner : List ℕ → RowValue → Ds → Type 0
IsSigner name row ds = (bytes_eq row.table (codes "secDNS") ≡ true)
    × MatchBool (has_ds_text row) (IsRowGivenDs row ds) (IsRowKeyDs name row ds)

-- a DS by what it says
pub record DsValue : Type 0 where
  pub tag : ℕ
  pub algorithm : ℕ
  pub kind : ℕ
  pub digest : List ℕ

abbrev pub ds_value : Ds → DsValue
ds_value ds = record {
  tag = ds.tag;
  algorithm = ds.algorithm;
  kind = ds.kind;
  digest = ds.digest.items;
}

-- the order of DS: by tag, algorithm, type and digest
abbrev pub ds_cmp : DsValue → DsValue → Ordering
ds_cmp a b = ordering_then (nat_cmp a.tag b.tag) (ordering_then (nat_cmp a.algorithm b.algorithm)
    (ordering_then (nat_cmp a.kind b.kind) (slice_cmp nat_cmp a.digest b.digest)))

-- the DS of a name that these rows give, in order, each once
abbrev pub AreSigners : List ℕ → List RowValue → List Ds → Type 0
AreSigners name rows signers = (given : List Ds) × GivesEach (IsSigner name) rows given
    × IsOrderedOnce ds_cmp (map ds_value given) (map ds_value signers)
