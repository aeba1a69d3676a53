-- The sections of tables, and what is read of them.
use Rattle.std.proofs.Common.{◌≡◌, ◌≢◌, ◌∙◌, ℕ, suc, ◌+◌, ◌<◌, ◌≤◌, false, ◌++◌}
use Rattle.std.proofs.Common.{get_or, Result, Err, Option, Bor, refl, sym, ap, subst, arith}
use Rattle.std.specs.Prelude.{Bool, true, List, [], ◌∷◌, length, map, take, drop, Ok, All, AllPairs}
use Rattle.std.specs.Prelude.{nat_lt, ◌==◌, if◌then◌else◌, slice_get}
use Rattle.std.specs.List.{zip, list_all, flat_map}
use Rattle.std.specs.Str.{bytes_eq}
use Rattle.std.proofs.lemmas.Bool.Decides.{nat_tests}
use Rattle.std.proofs.lemmas.Grind.{flat_map-append}
use Rattle.std.proofs.lemmas.List.{take_more, take_all, append_assoc, append-nil, map-append, length-map, get_or-map}
use Rattle.std.proofs.lemmas.Bool.{and_parts, false_from_ne_true}
use Rattle.std.proofs.lemmas.Slice.Eq.{bytes_eq-Decides}
use Rattle.std.specs.Option.{option_map_or}
use Rattle.std.proofs.lemmas.List.Elements.{All-push}
use Rattle.std.proofs.lemmas.List.Folds.{list_all-append, find_at}
use Rattle.std.proofs.lemmas.List.Sums.{position_or_len_is}
use Rattle.std.proofs.lemmas.Option.{slice_get-get_or}
use Rattle.std.proofs.lemmas.Slice.Zip.{length-zip, get_or-zip}
use Rattle.csv.specs.Reading.{strip_bom, is_bom}
use Rattle.csv.specs.Writing.{read_back}
use Rattle.esc_csv.specs.Lines.{Line, text_of}
use Rattle.esc_csv.specs.Records.{records_of, IsUnmarked}
use Rattle.esc_bundle.specs.Bundle.{Named}
use Rattle.esc_bundle.specs.declared.refusal.Refusal.{Refusal}
use Rattle.esc_bundle.specs.declared.refusal.Refusal.TheVariants.{WrongFiles}
use Rattle.esc_bundle.specs.Frame.{frame}
use Rattle.esc_bundle.specs.Tests.{◌>>=◌, check}
use Rattle.esc_envelope.specs.EnvelopeValue.{TableValue, EnvelopeValue}
use Rattle.esc_envelope.specs.Envelope.{envelope_of}
use Rattle.esc_tables.specs.DepositValue.{DepositValue}
use Rattle.esc_tables.specs.TableRow.{bytes_named, table_rows, in_table, rows_in, are_filed}
use Rattle.esc_tables.specs.Reading.{check_rows, tables_of, deposit_of_files, deposit_in, sections_deposit, reading}
use Rattle.esc_pack.specs.GivenRows.{GivenTable, given_rows, file_rows, has_width, IsReadBack}
use Rattle.esc_pack.specs.Bundling.{section_of, sections_of}

-- a text that doesn't begin with the three bytes
pub unmarked : (text : List ℕ)
    → (3 ≤ length text → is_bom (get_or text 0 0) (get_or text 1 0) (get_or text 2 0) ≡ false)
    → IsUnmarked text
unfolding strip_bom
unmarked [] other = refl
unmarked (a ∷ []) other = refl
unmarked (a ∷ b ∷ []) other = refl
unmarked (a ∷ b ∷ c ∷ rest) other = rw (other (omega arith)) refl

-- a text that begins with them
pub marked : (text : List ℕ) → 3 ≤ length text
    → is_bom (get_or text 0 0) (get_or text 1 0) (get_or text 2 0) ≡ true → IsUnmarked text → ⊥
unfolding strip_bom
marked [] le is same = omega (arith, le)
marked (a ∷ []) le is same = omega (arith, le)
marked (a ∷ b ∷ []) le is same = omega (arith, le)
marked (a ∷ b ∷ c ∷ rest) le is same =
    let text = a ∷ b ∷ c ∷ rest in
    let all : rest ≡ text = ap (λ (t : Bool). if t then rest else text) (sym is) ∙ same in
    let long = ap length all in omega (arith, long)

-- rows that have fields are read as they are written
pub fields_back : (n : ℕ) (rows : List Line) → list_all (has_width n) rows ≡ true → map read_back rows ≡ rows
fields_back n [] all = refl
fields_back n ([] ∷ rows) all =
    let first = (and_parts (has_width n []) (list_all (has_width n) rows) all).0 in
    let parts = and_parts (0 == n) (nat_lt 0 n) first in
    let bad : 0 < 0 = grind (arith, nat_tests) in absurd (omega arith)
fields_back n ((x ∷ row) ∷ rows) all =
    let others = (and_parts (has_width n (x ∷ row)) (list_all (has_width n) rows) all).1 in
    ap (λ (rs : List Line). (x ∷ row) ∷ rs) (fields_back n rows others)

-- the element at a place comes next after those before it
pub taken : {A : Type 0} (xs : List A) {i : ℕ} {x : A} (d : A) → i < length xs → x ≡ get_or xs i d
    → take (i + 1) xs ≡ take i xs ++ x ∷ []
taken {A} xs {i} d lt is = take_more xs i d lt ∙ ap (λ (y : A). take i xs ++ y ∷ []) (sym is)

-- what holds of some elements and of the next
pub All_next : {A : Type 0} (P : A → Type 0) (xs : List A) {more : List A} {x : A} → more ≡ xs ++ x ∷ []
    → All P xs → P x → All P more
All_next {A} P xs {more} {x} next all one =
    subst (λ (ys : List A). All P ys) (sym next) (All-push P xs x all one)

-- the file at a place of a table, and whether it has a heading
pub record IsFile (given : GivenTable) (i : ℕ) (heading : Bool) (text : List ℕ) : Type 0 where
  pub inside : i < length given.files
  pub is : text ≡ get_or given.files i []
  pub same_heading : heading ≡ given.has_heading

-- a table's file, as the code reads it
pub file_at : {given : GivenTable} {heading : Bool} {items slice : List (Bor (List ℕ))} {i : ℕ} (d : Bor (List ℕ))
    → record { has_heading = heading; files = map (λ f. f.now) items } ≡ given
    → slice ≡ items → i < length slice
    → IsFile given i heading (get_or slice i d).now
file_at {given} {heading} {items} {slice} {i} d view same lt =
    let among : i < length items = subst (λ (fs : List (Bor (List ℕ))). i < length fs) same lt in
    let mapped : i < length (map (λ (f : Bor (List ℕ)). f.now) items) =
    omega (arith, among, length-map items (λ f. f.now)) in
    record {
      inside = subst (λ (g : GivenTable). i < length g.files) view mapped;
      is =
          ap (λ (fs : List (Bor (List ℕ))). (get_or fs i d).now) same
          ∙ sym (get_or-map (λ (f : Bor (List ℕ)). f.now) items i d [] among)
          ∙ ap (λ (g : GivenTable). get_or g.files i []) view;
      same_heading = ap (λ (g : GivenTable). g.has_heading) view;
    }

-- the rows of a table's first files
abbrev rows_before : GivenTable → ℕ → List Line
rows_before given i = flat_map (file_rows given.has_heading) (take i given.files)

-- all files of a table were taken
pub all_taken : {given : GivenTable} {heading : Bool} {items slice : List (Bor (List ℕ))} {i : ℕ}
    → record { has_heading = heading; files = map (λ f. f.now) items } ≡ given
    → slice ≡ items → length slice ≤ i
    → take i given.files ≡ given.files
all_taken {given} {heading} {items} {slice} {i} view same le =
    let among : length items ≤ i = subst (λ (fs : List (Bor (List ℕ))). length fs ≤ i) same le in
    let mapped : length (map (λ (f : Bor (List ℕ)). f.now) items) ≤ i =
    omega (arith, among, length-map items (λ f. f.now)) in
    take_all i given.files (subst (λ (g : GivenTable). length g.files ≤ i) view mapped)

-- the rows of one more file
more_rows : {given : GivenTable} {i : ℕ} {heading : Bool} {text : List ℕ} → IsFile given i heading text
    → rows_before given (i + 1) ≡ rows_before given i ++ file_rows heading text
more_rows {given} {i} {heading} {text} file =
    let rows = file_rows given.has_heading in
    ap (flat_map rows) (taken given.files [] file.inside file.is)
    ∙ flat_map-append rows (take i given.files) (text ∷ [])
    ∙ ap (λ (last : List Line). rows_before given i ++ last) (append-nil (rows text))
    ∙ ap (λ (h : Bool). rows_before given i ++ file_rows h text) (sym file.same_heading)

-- the rows of one file more
pub one_file : (old : List ℕ) {lines new : List ℕ} {given : GivenTable} {i : ℕ} {heading : Bool} {text : List ℕ}
    → IsFile given i heading text → lines ≡ old ++ text_of (rows_before given i)
    → new ≡ lines ++ text_of (file_rows heading text) → new ≡ old ++ text_of (rows_before given (i + 1))
one_file old {lines} {new} {given} {i} {heading} {text} file before wrote =
    let done = rows_before given i in
    let last = file_rows heading text in
    let all : text_of (rows_before given (i + 1)) ≡ text_of done ++ text_of last =
    ap text_of (more_rows file) ∙ flat_map-append _ done last in
    wrote ∙ ap (λ (l : List ℕ). l ++ text_of last) before ∙ append_assoc old (text_of done) (text_of last)
    ∙ ap (λ (l : List ℕ). old ++ l) (sym all)

-- the rows of a file pass the test
pub one_file_whole : (test : Line → Bool) {given : GivenTable} {i : ℕ} {heading : Bool} {text : List ℕ}
    → IsFile given i heading text → list_all test (rows_before given i) ≡ true
    → list_all test (file_rows heading text) ≡ true → list_all test (rows_before given (i + 1)) ≡ true
one_file_whole test {given} {i} {heading} {text} file before one =
    ap (list_all test) (more_rows file) ∙ list_all-append test (rows_before given i) (file_rows heading text)
    ∙ rw (before, one) refl

-- a table beside its files
pub pair_at : (tables : List TableValue) (given : List GivenTable) {i : ℕ} {t : TableValue} {g : GivenTable}
    → i < length tables → length given ≡ length tables → t ≡ get_or tables i t → g ≡ get_or given i g
    → (i < length (zip tables given)) × ((t, g) ≡ get_or (zip tables given) i (t, g))
pair_at tables given {i} {t} {g} lt same is_t is_g = (
  omega (arith, length-zip tables given),
  (λ k. (is_t k, is_g k)) ∙ sym (get_or-zip tables given i (t, g) lt (omega arith)),
)

zip_append : {A B : Type 0} (xs more : List A) (ys : List B) → length xs ≤ length ys
    → zip (xs ++ more) ys ≡ zip xs (take (length xs) ys) ++ zip more (drop (length xs) ys)
zip_append [] more ys e = refl
zip_append (a ∷ xs) more [] e = absurd (omega arith)
zip_append {A} {B} (a ∷ xs) more (b ∷ ys) e =
    ap (λ (ps : List (A × B)). (a, b) ∷ ps) (zip_append xs more ys (omega arith))

-- the tables of an envelope beside their files: those of the contents, then those of the deletes
pub in_parts : {e seen : EnvelopeValue} {first more : List TableValue} (given : List GivenTable)
    → seen ≡ e → first ≡ seen.contents → more ≡ seen.deletes → length first ≤ length given
    → zip (tables_of e) given ≡ zip first (take (length first) given) ++ zip more (drop (length first) given)
in_parts {e} {seen} {first} {more} given view contents deletes fits =
    let tables : first ++ more ≡ tables_of e = rw (contents, deletes) (ap tables_of view) in
    ap (λ (ts : List TableValue). zip ts given) (sym tables) ∙ zip_append first more given fits

-- the sections of tables, a part of them after the other
pub sections_split : {all : List (TableValue × GivenTable)} (front back : List (TableValue × GivenTable))
    → all ≡ front ++ back → map section_of all ≡ map section_of front ++ map section_of back
sections_split front back parts = ap (map section_of) parts ∙ map-append section_of front back

-- the section of a table is found by its name
named_bytes : (ps : List (TableValue × GivenTable)) → AllPairs (λ s t. s.name ≢ t.name) (map section_of ps)
    → All (λ p. bytes_named (map section_of ps) p.0.file ≡ text_of (given_rows p.1)) ps
named_bytes ps distinct k d lt =
    let name : List ℕ = (get_or ps k d).0.file in
    let sections : List Named = map section_of ps in
    let none : Named = section_of d in
    let has_name : Named → Bool = λ s. bytes_eq s.name name in
    let at : (j : ℕ) → j < length ps → get_or sections j none ≡ section_of (get_or ps j d) =
    λ j l. get_or-map section_of ps j d none l in
    let inside : k < length sections = omega (arith, length-map ps section_of, lt) in
    let hit : has_name (get_or sections k none) ≡ true =
    ap has_name (at k lt) ∙ (bytes_eq-Decides name name).1 refl in
    let others : (j : ℕ) → j < k → has_name (get_or sections j none) ≡ false =
    λ j l.
    let differ = subst (λ (s : Named). (get_or sections j none).name ≢ s.name)
    (at k lt) (distinct j k none l inside) in
    false_from_ne_true _ (λ same. differ ((bytes_eq-Decides (get_or sections j none).name name).0 same)) in
    let first = position_or_len_is has_name sections k none (omega arith) others (λ _. hit) in
    let found = find_at has_name sections
    ∙ ap (slice_get sections) first ∙ slice_get-get_or sections k none inside in
    ap (λ (o : Option Named). option_map_or (λ s. s.bytes) o []) found ∙ ap (λ (s : Named). s.bytes) (at k lt)

tables_read : (files : List Named) (ts : List TableValue) (gs : List GivenTable) → length gs ≡ length ts
    → All (λ p. bytes_named files p.0.file ≡ text_of (given_rows p.1)) (zip ts gs) → All IsReadBack gs
    → map (table_rows files) ts ≡ map (λ p. map (in_table p.0) (given_rows p.1)) (zip ts gs)
tables_read files [] gs same found back = refl
tables_read files (t ∷ ts) [] same found back = absurd (omega (arith, same))
tables_read files (t ∷ ts) (g ∷ gs) same found back =
    let its_records = ap (λ (text : List ℕ). map (in_table t) (records_of text)) (found 0 (t, g) (omega arith)) in
    let first : table_rows files t ≡ map (in_table t) (given_rows g) =
    its_records ∙ ap (map (in_table t)) (back 0 g (omega arith)) in
    let others =
    tables_read files ts gs (omega (arith, same))
    (λ k d lt. found (suc k) d (omega (arith, lt)))
    (λ k d lt. back (suc k) d (omega (arith, lt))) in
    rw (first, others) refl

-- what is read of the tables' sections is the rows of their files
pub rows_read : (first : Named) (ts : List TableValue) (gs : List GivenTable) → length gs ≡ length ts
    → AllPairs (λ s t. s.name ≢ t.name) (first ∷ sections_of ts gs) → All IsReadBack gs
    → map (table_rows (sections_of ts gs)) ts ≡ map (λ p. map (in_table p.0) (given_rows p.1)) (zip ts gs)
rows_read first ts gs same distinct back =
    let apart : AllPairs (λ s t. s.name ≢ t.name) (sections_of ts gs) =
    λ i j d lt le. distinct (suc i) (suc j) d (omega (arith, lt)) (omega (arith, le)) in
    tables_read (sections_of ts gs) ts gs same (named_bytes (zip ts gs) apart) back

-- what two tests let through, if anything
passed : {A D : Type 0} (a b : Result A Refusal) (x y : D) → (a >>= λ _. b >>= λ _. Ok x) ≡ Ok y
    → (a >>= λ _. b >>= λ _. Ok x) ≡ Ok x
passed (Ok u) (Ok v) x y e = refl
passed (Ok u) (Err n) x y e = absurd cc
passed (Err m) b x y e = absurd cc

only_deposit : (files : List Named) (e : EnvelopeValue) (d : DepositValue) → deposit_in files e ≡ Ok d
    → deposit_in files e ≡ Ok (deposit_of_files files e)
unfolding deposit_in
only_deposit files e d read =
    let filed = check (are_filed files (tables_of e)) WrongFiles in
    passed filed (check_rows (rows_in files (tables_of e))) (deposit_of_files files e) d read

-- a body that reads is the deposit of its files and its envelope
pub read_as : (body : List ℕ) {first : Named} {files : List Named} {e : EnvelopeValue} {d : DepositValue}
    → frame body ≡ Ok (first ∷ files) → envelope_of first.bytes ≡ Ok e → reading body ≡ Ok d
    → reading body ≡ Ok (deposit_of_files files e)
unfolding reading sections_deposit
read_as body {first} {files} {e} {d} framed told read =
    let same : reading body ≡ deposit_in files e = rw (framed, told) refl in
    same ∙ only_deposit files e d (sym same ∙ read)
