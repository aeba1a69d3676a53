-- The text of records determines these records.
use Rattle.std.proofs.Common.{◌≡◌, ℕ, zero, suc, ◌/◌, ◌%◌, ◌^◌, ◌<◌, true, false, List, [], ◌∷◌, ◌++◌}
use Rattle.std.proofs.Common.{All, Some, Ok, get_or, length, length-append, take, drop, slice_index}
use Rattle.std.proofs.Common.{decimal, codes, bytes_eq}
use Rattle.std.proofs.Common.{refl, sym, ap, ap₂, ◌∙◌, subst, arith, append_assoc, inl, inr, flat_map}
use Rattle.std.specs.Prelude.{cond, ◌&&◌, nat_lt}
use Rattle.std.specs.List.{list_all, slice_split, onto_first}
use Rattle.std.specs.Str.Parse.{AllDigits}
use Rattle.std.specs.Net.Addr.{ipv4_octets, ipv6_segments, octets_of, IsIpv4Addr, IsIpv6Addr}
use Rattle.std.specs.Net.Text.{ipv4_text, ipv6_text, hex_groups_text}
use Rattle.std.specs.Net.Grammar.{IsIpText}
use Rattle.std.specs.declared.net.ipv4_addr.Ipv4Addr.{Ipv4Addr}
use Rattle.std.specs.declared.net.ipv6_addr.Ipv6Addr.{Ipv6Addr}
use Rattle.std.specs.declared.net.ip_addr.IpAddr.TheVariants.{V4, V6}
use Rattle.std.proofs.lemmas.Bool.{and_parts, cond_both}
use Rattle.std.proofs.lemmas.Bool.Decides.{nat_tests}
use Rattle.std.proofs.lemmas.Fmt.{decimal_is_IsNumeral, decimal_injective}
use Rattle.std.proofs.lemmas.Str.Parse.{digit_from_value}
use Rattle.std.proofs.lemmas.List.{append_cancel_right}
use Rattle.std.proofs.lemmas.List.Elements.{All-nil, All-cons, All-append, All-head, All-tail, All-weaker}
use Rattle.std.proofs.NetLemmas.Alphabet.{IsDigitOrDot, IsHexOrColon, All-ipv4_text, All-hex_groups_text}
use Rattle.std.proofs.NetLemmas.Texts.{AllSegments, AllSegments-drop, IsDotted-ipv4_text, IsColonHex-ipv6_text}
use Rattle.std.proofs.NetLemmas.Theorems.{IsIpText_unique}
use Rattle.hex.specs.Hex.{IsBytes, encode_with, encode_upper, upper_digits, hex_digit_value, decode_of}
use Rattle.hex.proofs.HexLemmas.{IsDigits-upper_digits, decode_of-encode_upper, decode_of-same}
use Rattle.esc_zone.specs.Names.{is_dot, is_label_byte, is_label, is_zone_name}
use Rattle.esc_zone.specs.Signers.{DsValue}
use Rattle.esc_zone.specs.Records.{Data, RecordValue, ds_text, data_text, record_line, record_text}
use Rattle.esc_zone.specs.Records.{IsDs, IsData, IsRecord}
use Rattle.esc_zone.specs.Records.Data.{server, signer, address}

-- bytes above this one
abbrev Above : ℕ → List ℕ → Type 0
Above c bs = All (λ b. c < b) bs

-- a text has one part before the first byte c, and one after it
one_front : (c : ℕ) (xs ys ps qs : List ℕ) → Above c xs → Above c ys
    → xs ++ c ∷ ps ≡ ys ++ c ∷ qs → (xs ≡ ys) × (ps ≡ qs)
one_front c [] [] ps qs h k e = let t : ps ≡ qs = cc e in (refl, t)
one_front c [] (y ∷ ys) ps qs h k e =
    let first : c ≡ y = cc e in
    let more : c < y = All-head (λ b. c < b) y ys k in
    absurd (omega (arith, first, more))
one_front c (x ∷ xs) [] ps qs h k e =
    let first : x ≡ c = cc e in
    let more : c < x = All-head (λ b. c < b) x xs h in
    absurd (omega (arith, first, more))
one_front c (x ∷ xs) (y ∷ ys) ps qs h k e =
    let first : x ≡ y = cc e in
    let rest : xs ++ c ∷ ps ≡ ys ++ c ∷ qs = cc e in
    let w = one_front c xs ys ps qs (All-tail (λ b. c < b) x xs h)
    (All-tail (λ b. c < b) y ys k) rest in
    (ap₂ (λ z zs. z ∷ zs) first w.0, w.1)

-- a text of which each byte passes the test
above_if : (c : ℕ) (bs : List ℕ) → list_all (nat_lt c) bs ≡ true → Above c bs
above_if c [] h = All-nil (λ b. c < b)
above_if c (b ∷ bs) h =
    let p = and_parts (nat_lt c b) (list_all (nat_lt c) bs) h in
    let first : c < b = (let q = p.0 in grind (arith, nat_tests, q)) in
    All-cons (λ b. c < b) b bs first (above_if c bs p.1)

-- bytes above c, and more of them
both : (c : ℕ) (xs ys : List ℕ) → Above c xs → Above c ys → Above c (xs ++ ys)
both c xs ys h k = All-append (λ b. c < b) xs ys h k

-- what has no space has no line feed
low : (bs : List ℕ) → Above 32 bs → Above 10 bs
low bs h = All-weaker (λ b. 32 < b) (λ b. 10 < b) (λ b k. omega (arith, k)) bs h

-- ---- words have no space

-- decimal digits
digits_word : (ds : List ℕ) → AllDigits 10 ds → Above 32 ds
digits_word [] d = All-nil (λ b. 32 < b)
digits_word (c ∷ cs) d =
    let k = digit_from_value c d.0 in
    All-cons (λ b. 32 < b) c cs (omega (arith, k)) (digits_word cs d.1)

-- a number
decimal_word : (n : ℕ) → n < 2 ^ 64 → Above 32 (decimal n)
decimal_word n fits = digits_word (decimal n) (decimal_is_IsNumeral n fits).0.1

-- bytes of labels, without the first of them
onto_parts : (b : ℕ) (parts : List (List ℕ))
    → list_all (list_all is_label_byte) (onto_first b parts) ≡ true
    → (is_label_byte b ≡ true) × (list_all (list_all is_label_byte) parts ≡ true)
onto_parts b [] h = ((and_parts _ _ (and_parts _ _ h).0).0, refl)
onto_parts b (part ∷ parts) h =
    let p = and_parts _ _ h in
    let q = and_parts _ _ p.0 in
    (q.0, ap₂ (λ x y. x && y) q.1 p.1)

-- labels with dots between them
labels_word : (xs : List ℕ) → list_all (list_all is_label_byte) (slice_split is_dot xs) ≡ true → Above 32 xs
labels_word [] h = All-nil (λ b. 32 < b)
labels_word (b ∷ rest) h =
    (elim (is_dot b) as (λ v. is_dot b ≡ v → list_all (list_all is_label_byte)
    (cond v ([] ∷ slice_split is_dot rest) (onto_first b (slice_split is_dot rest))) ≡ true
    → Above 32 (b ∷ rest)) [
      | true ↦ λ is k. (let dark : 32 < b = grind (arith, nat_tests, is) in
          All-cons (λ b. 32 < b) b rest dark (labels_word rest k))
      | false ↦ λ is k. (let p = onto_parts b (slice_split is_dot rest) k in
          let dark : 32 < b = (let q = p.0 in grind (arith, nat_tests, q)) in
          All-cons (λ b. 32 < b) b rest dark (labels_word rest p.1))
    ]) refl h

-- labels have bytes of labels
label_bytes : (labels : List (List ℕ))
    → list_all is_label labels ≡ true → list_all (list_all is_label_byte) labels ≡ true
label_bytes [] h = refl
label_bytes (label ∷ labels) h =
    let p = and_parts _ _ h in
    ap₂ (λ x y. x && y) (and_parts _ _ (and_parts _ _ (and_parts _ _ p.0).0).0).1 (label_bytes labels p.1)

-- a name
name_word : (name : List ℕ) → is_zone_name name ≡ true → Above 32 name
name_word name h = labels_word name (label_bytes (slice_split is_dot name) (and_parts _ _ h).1)

-- a byte that has a value as a digit
hex_value_dark : (c d : ℕ) → hex_digit_value c ≡ Some d → 32 < c
hex_value_dark c d h = grind (arith, nat_tests, h)

-- a digit of the table
hex_digit_dark : (d : ℕ) → d < 16 → 32 < slice_index upper_digits d
hex_digit_dark d h = hex_value_dark (slice_index upper_digits d) d (IsDigits-upper_digits d h)

-- digits of a digest
hex_word : (bytes : List ℕ) → IsBytes bytes → Above 32 (encode_upper bytes)
unfolding encode_with
hex_word [] h = All-nil (λ b. 32 < b)
hex_word (b ∷ rest) h =
    let fits : b < 256 = h 0 in
    let high = slice_index upper_digits (b / 16) in
    let digit = slice_index upper_digits (b % 16) in
    let digits = encode_upper rest in
    All-cons (λ b. 32 < b) high (digit ∷ digits) (hex_digit_dark (b / 16) (omega (arith, fits)))
    (All-cons (λ b. 32 < b) digit digits (hex_digit_dark (b % 16) (omega (arith, fits)))
    (hex_word rest (λ i. h (suc i))))

-- an IPv4 address
ipv4_word : (octets : List ℕ) → ((k : ℕ) → get_or octets k 0 < 2 ^ 8) → Above 32 (ipv4_text octets)
ipv4_word octets fits =
    All-weaker IsDigitOrDot (λ b. 32 < b) (λ b h. elim h [ inl k ↦ omega (arith, k) | inr e ↦ omega (arith, e) ])
    (ipv4_text octets) (All-ipv4_text octets fits)

-- octets of segments
octets_fit : (segments : List ℕ) → AllSegments segments → (k : ℕ) → get_or (octets_of segments) k 0 < 2 ^ 8
octets_fit [] h k = omega arith
octets_fit (s ∷ rest) h zero = let fits = h 0 in omega (arith, fits)
octets_fit (s ∷ rest) h (suc zero) = omega arith
octets_fit (s ∷ rest) h (suc (suc k)) = octets_fit rest (λ j. h (suc j)) k

-- an IPv6 address in groups
colons_word : (segments : List ℕ) → AllSegments segments → Above 32 (hex_groups_text segments)
colons_word segments fits =
    All-weaker IsHexOrColon (λ b. 32 < b) (λ b h. elim h [ inl k ↦ omega (arith, k) | inr k ↦ omega (arith, k) ])
    (hex_groups_text segments) (All-hex_groups_text segments fits)

-- an IPv6 address
ipv6_word : (segments : List ℕ) → AllSegments segments → Above 32 (ipv6_text segments)
unfolding ipv6_text
ipv6_word segments fits =
    let last = ipv4_word (octets_of (drop 6 segments)) (octets_fit _ (AllSegments-drop 6 segments fits)) in
    let text = codes "::ffff:" ++ ipv4_text (octets_of (drop 6 segments)) in
    let mapped : Above 32 text = both 32 (codes "::ffff:") _ (above_if 32 (codes "::ffff:") refl) last in
    cond_both (bytes_eq (take 6 segments) (0 ∷ 0 ∷ 0 ∷ 0 ∷ 0 ∷ 0xffff ∷ [])) text (hex_groups_text segments)
    (Above 32) (λ _. mapped) (λ _. colons_word segments fits)

-- ---- what a record says has no line feed, and is said by one text

-- a DS
ds_line : (ds : DsValue) → IsDs ds → Above 10 (ds_text ds)
ds_line ds h =
    let space = above_if 10 (codes " ") refl in
    let tag = low (decimal ds.tag) (decimal_word ds.tag (let k = h.tag in omega (arith, k))) in
    let algorithm = low (decimal ds.algorithm) (decimal_word ds.algorithm (let k = h.algorithm in omega (arith, k))) in
    let kind = low (decimal ds.kind) (decimal_word ds.kind (let k = h.kind in omega (arith, k))) in
    let digest = low (encode_upper ds.digest) (hex_word ds.digest h.digest) in
    both 10 _ _ (both 10 _ _ (both 10 _ _ (both 10 _ _ (both 10 _ _ (both 10 _ _ tag space) algorithm) space) kind)
    space) digest

-- what a record says
data_line : (d : Data) → IsData d → Above 10 (data_text d)
data_line (server name) h =
    both 10 (codes "NS ") _ (above_if 10 (codes "NS ") refl)
    (both 10 name (codes ".") (low name (name_word name h)) (above_if 10 (codes ".") refl))
data_line (signer ds) h = both 10 (codes "DS ") _ (above_if 10 (codes "DS ") refl) (ds_line ds h)
data_line (address (V4 a)) h =
    both 10 (codes "A ") _ (above_if 10 (codes "A ") refl) (low _ (ipv4_word (ipv4_octets a) h.1))
data_line (address (V6 a)) h =
    both 10 (codes "AAAA ") _ (above_if 10 (codes "AAAA ") refl) (low _ (ipv6_word (ipv6_segments a) h.1))

-- a text is that of one digest
digest_one : (xs ys : List ℕ) → IsBytes xs → IsBytes ys → encode_upper xs ≡ encode_upper ys → xs ≡ ys
digest_one xs ys h k e =
    decode_of-same (encode_upper ys) xs ys (subst (λ t. decode_of t ≡ Ok xs) e (decode_of-encode_upper xs h))
    (decode_of-encode_upper ys k)

-- a number that a space ends
number_one : (m n : ℕ) (ps qs : List ℕ) → m < 2 ^ 64 → n < 2 ^ 64
    → decimal m ++ 32 ∷ ps ≡ decimal n ++ 32 ∷ qs → (m ≡ n) × (ps ≡ qs)
number_one m n ps qs h k e =
    let w = one_front 32 (decimal m) (decimal n) ps qs (decimal_word m h) (decimal_word n k) e in
    (decimal_injective m n h k w.0, w.1)

-- a DS by its words
ds_words : (ds : DsValue) → ds_text ds ≡ decimal ds.tag
    ++ 32 ∷ (decimal ds.algorithm ++ 32 ∷ (decimal ds.kind ++ 32 ∷ encode_upper ds.digest))
ds_words ds = simp append_assoc

-- a text is that of one DS
ds_one_text : (a b : DsValue) → IsDs a → IsDs b → ds_text a ≡ ds_text b → a ≡ b
ds_one_text a b h k e =
    let tags = number_one a.tag b.tag _ _ (let f = h.tag in omega (arith, f)) (let f = k.tag in omega (arith, f))
    (sym (ds_words a) ∙ e ∙ ds_words b) in
    let algorithms = number_one a.algorithm b.algorithm _ _ (let f = h.algorithm in omega (arith, f))
    (let f = k.algorithm in omega (arith, f)) tags.1 in
    let kinds = number_one a.kind b.kind _ _ (let f = h.kind in omega (arith, f))
    (let f = k.kind in omega (arith, f)) algorithms.1 in
    let digests = digest_one a.digest b.digest h.digest k.digest kinds.1 in
    λ i. record { tag = tags.0 i; algorithm = algorithms.0 i; kind = kinds.0 i; digest = digests i }

-- a text is that of one IPv4 address
v4_one : (a b : Ipv4Addr) → IsIpv4Addr a → IsIpv4Addr b
    → ipv4_text (ipv4_octets a) ≡ ipv4_text (ipv4_octets b) → V4 a ≡ V4 b
v4_one a b h k e =
    IsIpText_unique (ipv4_text (ipv4_octets b)) (V4 a) (V4 b)
    (subst (λ t. IsIpText t (V4 a)) e (IsDotted-ipv4_text _ h.0 h.1)) (IsDotted-ipv4_text _ k.0 k.1)

-- a text is that of one IPv6 address
v6_one : (a b : Ipv6Addr) → IsIpv6Addr a → IsIpv6Addr b
    → ipv6_text (ipv6_segments a) ≡ ipv6_text (ipv6_segments b) → V6 a ≡ V6 b
v6_one a b h k e =
    IsIpText_unique (ipv6_text (ipv6_segments b)) (V6 a) (V6 b)
    (subst (λ t. IsIpText t (V6 a)) e (IsColonHex-ipv6_text _ h.0 h.1)) (IsColonHex-ipv6_text _ k.0 k.1)

-- other first bytes
other_bytes : (m n : ℕ) (ps qs : List ℕ) → (m ≡ n → ⊥) → m ∷ ps ≡ n ∷ qs → ⊥
other_bytes m n ps qs apart e = let first : m ≡ n = cc e in apart first

-- the same after first bytes
bytes_after : (m : ℕ) (ps qs : List ℕ) → m ∷ ps ≡ m ∷ qs → ps ≡ qs
bytes_after m ps qs e = cc e

-- a text says one thing of a name
data_one : (a b : Data) → IsData a → IsData b → data_text a ≡ data_text b → a ≡ b
data_one (server x) (server y) h k e =
    let three = bytes_after 32 _ _ (bytes_after 83 _ _ (bytes_after 78 _ _ e)) in
    ap server (append_cancel_right x y (46 ∷ []) three)
data_one (server x) (signer y) h k e = absurd (other_bytes 78 68 _ _ (λ q. omega (arith, q)) e)
data_one (server x) (address (V4 y)) h k e = absurd (other_bytes 78 65 _ _ (λ q. omega (arith, q)) e)
data_one (server x) (address (V6 y)) h k e = absurd (other_bytes 78 65 _ _ (λ q. omega (arith, q)) e)
data_one (signer x) (server y) h k e = absurd (other_bytes 68 78 _ _ (λ q. omega (arith, q)) e)
data_one (signer x) (signer y) h k e =
    ap signer (ds_one_text x y h k (bytes_after 32 _ _ (bytes_after 83 _ _ (bytes_after 68 _ _ e))))
data_one (signer x) (address (V4 y)) h k e = absurd (other_bytes 68 65 _ _ (λ q. omega (arith, q)) e)
data_one (signer x) (address (V6 y)) h k e = absurd (other_bytes 68 65 _ _ (λ q. omega (arith, q)) e)
data_one (address (V4 x)) (server y) h k e = absurd (other_bytes 65 78 _ _ (λ q. omega (arith, q)) e)
data_one (address (V4 x)) (signer y) h k e = absurd (other_bytes 65 68 _ _ (λ q. omega (arith, q)) e)
data_one (address (V4 x)) (address (V4 y)) h k e =
    ap address (v4_one x y h k (bytes_after 32 _ _ (bytes_after 65 _ _ e)))
data_one (address (V4 x)) (address (V6 y)) h k e =
    absurd (other_bytes 32 65 _ _ (λ q. omega (arith, q)) (bytes_after 65 _ _ e))
data_one (address (V6 x)) (server y) h k e = absurd (other_bytes 65 78 _ _ (λ q. omega (arith, q)) e)
data_one (address (V6 x)) (signer y) h k e = absurd (other_bytes 65 68 _ _ (λ q. omega (arith, q)) e)
data_one (address (V6 x)) (address (V4 y)) h k e =
    absurd (other_bytes 65 32 _ _ (λ q. omega (arith, q)) (bytes_after 65 _ _ e))
data_one (address (V6 x)) (address (V6 y)) h k e =
    ap address (v6_one x y h k (bytes_after 32 _ _ (bytes_after 65 _ _ (bytes_after 65 _ _
    (bytes_after 65 _ _ (bytes_after 65 _ _ e))))))

-- ---- lines

-- a line by its words, and what follows it
by_words : (ttl : ℕ) (owner said rest : List ℕ) → record_line ttl owner said ++ rest
    ≡ (owner ++ 46 ∷ []) ++ 32 ∷ (decimal ttl ++ 32 ∷ 73 ∷ 78 ∷ 32 ∷ (said ++ 10 ∷ rest))
by_words ttl owner said rest = simp append_assoc

-- a name with its dot
owner_word : (owner : List ℕ) → is_zone_name owner ≡ true → Above 32 (owner ++ 46 ∷ [])
owner_word owner h = both 32 owner (46 ∷ []) (name_word owner h) (above_if 32 (46 ∷ []) refl)

-- a text has one record first
one_line : (r q : RecordValue) (ps qs : List ℕ) → IsRecord r → IsRecord q
    → record_text r ++ ps ≡ record_text q ++ qs → (r ≡ q) × (ps ≡ qs)
one_line r q ps qs h k e =
    let words = sym (by_words r.ttl r.owner (data_text r.said) ps) ∙ e
    ∙ by_words q.ttl q.owner (data_text q.said) qs in
    let owners = one_front 32 (r.owner ++ 46 ∷ []) (q.owner ++ 46 ∷ []) _ _
    (owner_word r.owner h.owner) (owner_word q.owner k.owner) words in
    let named = append_cancel_right r.owner q.owner (46 ∷ []) owners.0 in
    let ttls = number_one r.ttl q.ttl _ _ (let f = h.ttl in omega (arith, f))
    (let f = k.ttl in omega (arith, f)) owners.1 in
    let texts = bytes_after 32 _ _ (bytes_after 78 _ _ (bytes_after 73 _ _ ttls.1)) in
    let parts = one_front 10 (data_text r.said) (data_text q.said) ps qs
    (data_line r.said h.said) (data_line q.said k.said) texts in
    let said = data_one r.said q.said h.said k.said parts.0 in
    ((λ i. record { owner = named i; ttl = ttls.0 i; said = said i }), parts.1)

-- a line has bytes
line_length : (r : RecordValue) (ps : List ℕ) → 0 < length (record_text r ++ ps)
line_length r ps =
    let e = ap length (by_words r.ttl r.owner (data_text r.said) ps) in
    let k = length-append (r.owner ++ 46 ∷ [])
    (32 ∷ (decimal r.ttl ++ 32 ∷ 73 ∷ 78 ∷ 32 ∷ (data_text r.said ++ 10 ∷ ps))) in
    omega (arith, e, k)

-- no line is no text
no_line : (r : RecordValue) (ps : List ℕ) → [] ≡ record_text r ++ ps → ⊥
no_line r ps e =
    let k = line_length r ps in
    let l : 0 ≡ length (record_text r ++ ps) = ap length e in
    omega (arith, k, l)

-- the text of records is that of these records alone
pub one_list : (rs qs : List RecordValue) → All IsRecord rs → All IsRecord qs
    → flat_map record_text rs ≡ flat_map record_text qs → rs ≡ qs
one_list [] [] h k e = refl
one_list [] (q ∷ qs) h k e = absurd (no_line q (flat_map record_text qs) e)
one_list (r ∷ rs) [] h k e = absurd (no_line r (flat_map record_text rs) (sym e))
one_list (r ∷ rs) (q ∷ qs) h k e =
    let w = one_line r q (flat_map record_text rs) (flat_map record_text qs)
    (All-head IsRecord r rs h) (All-head IsRecord q qs k) e in
    ap₂ (λ x xs. x ∷ xs) w.0 (one_list rs qs (All-tail IsRecord r rs h) (All-tail IsRecord q qs k) w.1)
