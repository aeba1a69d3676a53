-- What the fixed texts compile to, by running the resolver's meaning.
use Rattle.esc_sql.proofs.Common.{◌≡◌, ℕ, zero, suc, ◌<◌, ◌+◌, pos, true, false, Bool, List, []}
use Rattle.esc_sql.proofs.Common.{◌∷◌, ◌++◌, Ok, Err, Result, refl, arith, inl, inr, sym, ap, ◌∙◌}
use Rattle.esc_sql.proofs.Common.{get_or, map, find, Option, Some, None, option_map, cases_Bool}
use Rattle.esc_sql.proofs.Common.{bytes_eq}
use Rattle.esc_sql.proofs.Common.{bytes_eq-Decides, IsPlain, command_of, statement_of, created}
use Rattle.esc_sql.proofs.Common.{next_tree, Binary, Select, Insert, Update, Delete, CreateTable}
use Rattle.esc_sql.proofs.Common.{lacks_sequence, reads_listing, understood, Query, Schema, Values}
use Rattle.esc_sql.proofs.Common.{Table, Term}
use Rattle.esc_sql.proofs.Common.{col, lit, op1, op2, Program, Compare, Eq, Ge, ToNumeric, Length, Key, Null}
use Rattle.esc_sql.proofs.Common.{Int, Command, Compiled, Returning, is_write_text, is_read_text}
use Rattle.esc_sql.proofs.Common.{table_at, schema_of, store_schema, first_schema, info_tree}
use Rattle.esc_sql.proofs.Common.{receipt_tree}
use Rattle.esc_sql.proofs.Common.{object_tree, undo_tree, parked_tree, moment_tree, ROWS_AT_ONCE}
use Rattle.std.specs.Fmt.{digits}
use Rattle.std.specs.List.{range_with_len}
use Rattle.std.proofs.lemmas.List.FromFn.{get_or-map-range_with_len}
use Rattle.sqlite.specs.Compile.{table_defined_by}
use Rattle.sqlite.specs.Listing.{understood}
use Rattle.sqlite_tied.specs.Compute.{everything}
use Rattle.esc_sql.specs.RowText.{is_write_text, is_read_text}
use Rattle.sqlite_resolve.specs.declared.error.CompileError.{CompileError}
use Rattle.esc_sql.specs.Schema.{listed_tree, held_tree, step_tree, IsOfSomeVersion}
use Rattle.esc_sql.specs.Texts as texts
use Rattle.esc_sql.proofs.Scan.{scan, no_limit}

-- the text is this write
pub record IsWrite (text : List ℕ) (command : Command) : Type 0 where
  pub is : command_of (understood store_schema text) ≡ command
  pub plain : IsPlain (understood store_schema text)
  pub writes : is_write_text text ≡ true

-- the program of a query
abbrev pub program_of : Query → Program
program_of q = record { lets = []; body = q }

-- the text is this query, over this schema
pub record IsQueryOver (schema : Schema) (text : List ℕ) (q : Query) : Type 0 where
  pub names : List (List ℕ)
  pub is : command_of (understood schema text) ≡ Select (program_of q) names
  pub plain : IsPlain (understood schema text)
  pub unlisted : reads_listing schema text ≡ false
  pub reads : is_read_text text ≡ true

-- the same, over that of a store
abbrev pub IsQuery : List ℕ → Query → Type 0
IsQuery = IsQueryOver store_schema

-- the term that compares two terms
abbrev pub equals : Term → Term → Term
equals a b = op2 (Compare Eq Binary) a b

abbrev from : Term → Term → Term
from a b = op2 (Compare Ge Binary) a b

abbrev up : Term → Term × Key
up t = (t, record { collation = Binary; descending = false })

-- the parameters with these numbers, and the columns
abbrev given : List ℕ → List Term
given = map (col 0)

abbrev shown : List ℕ → List Term
shown = map (col 1)

-- the rows of a table that pass these tests
abbrev cut : ℕ → ℕ → List Term → Command
cut at tree tests = Delete at (program_of (scan tree tests (shown (0 ∷ [])) [] no_limit))

-- the terms of many rows in turn, each of which takes so many parameters more
abbrev pub rows_terms : (ℕ → List Term) → ℕ → ℕ → ℕ → List Term
rows_terms one step zero at = []
rows_terms one step (suc n) at = one at ++ rows_terms one step n (at + step)

-- ---- the terms of some statements

-- the table has a column by which its query is narrowed to one kind, step or verdict
abbrev is_of : ℕ → Term
is_of at = equals (col 1 at) (op1 ToNumeric (col 0 0))

-- what WHERE tests of an object: its kind and its key
abbrev pub object_tests : List Term
object_tests = is_of 1 ∷ equals (col 1 2) (col 0 1) ∷ []

-- what SET gives an object: its bytes
abbrev pub object_sets : List Term
object_sets = col 1 0 ∷ col 1 0 ∷ col 1 1 ∷ col 1 2 ∷ col 0 2 ∷ []

-- the terms of one object in an INSERT of many
abbrev pub new_object_terms : ℕ → List Term
new_object_terms at = lit Null ∷ given ((at + 0) ∷ (at + 1) ∷ (at + 2) ∷ [])

-- what WHERE tests of a before-image: its step
abbrev pub undo_tests : List Term
undo_tests = is_of 1 ∷ []

-- the first parameter is the step of each image
abbrev pub new_image_terms : ℕ → List Term
new_image_terms at = lit Null ∷ given (0 ∷ suc (at + 0) ∷ suc (at + 1) ∷ suc (at + 2) ∷ [])

-- what WHERE tests of a parked body: its digest
abbrev pub parked_tests : List Term
parked_tests = equals (col 1 1) (col 0 0) ∷ []

-- ---- INSERT, UPDATE and DELETE

abbrev writes : List (List ℕ × Command)
writes =
    (texts.insert_info_text, Insert 0 (Values (lit (Int (pos 1)) ∷ lit Null ∷ lit (Int (pos 2)) ∷ []) 3))
    ∷ (
      texts.raise_version_text,
      Update 0 (program_of
          (scan info_tree [] (col 1 0 ∷ col 1 0 ∷ lit Null ∷ lit (Int (pos 2)) ∷ []) [] no_limit)),
    )
    ∷ (
      texts.insert_listed_text,
      Insert 1 (Values (col 0 0 ∷ lit Null ∷ given (1 ∷ 2 ∷ 3 ∷ 4 ∷ 5 ∷ 6 ∷ [])) 8),
    )
    ∷ (
      texts.insert_receipt_text,
      Insert 2 (Values (col 0 0 ∷ lit Null ∷ given (1 ∷ 2 ∷ 3 ∷ 4 ∷ 5 ∷ 6 ∷ 7 ∷ [])) 9),
    )
    ∷ (texts.insert_held_text, Insert 3 (Values (col 0 0 ∷ lit Null ∷ col 0 1 ∷ []) 3))
    ∷ (texts.clear_steps_from_text, cut 4 step_tree (from (col 1 0) (col 0 0) ∷ []))
    ∷ (texts.insert_step_text, Insert 4 (Values (col 0 0 ∷ lit Null ∷ col 0 1 ∷ []) 3))
    ∷ (texts.insert_object_text, Insert 5 (Values (lit Null ∷ given (0 ∷ 1 ∷ 2 ∷ [])) 4))
    ∷ (texts.insert_objects_text, Insert 5 (Values (rows_terms new_object_terms 3 ROWS_AT_ONCE 0) 4))
    ∷ (texts.update_object_text, Update 5 (program_of (scan object_tree object_tests object_sets [] no_limit)))
    ∷ (texts.delete_object_text, cut 5 object_tree object_tests)
    ∷ (texts.clear_objects_text, cut 5 object_tree [])
    ∷ (texts.insert_undo_text, Insert 6 (Values (lit Null ∷ given (0 ∷ 1 ∷ 2 ∷ 3 ∷ [])) 5))
    ∷ (texts.insert_images_text, Insert 6 (Values (rows_terms new_image_terms 3 ROWS_AT_ONCE 0) 5))
    ∷ (texts.delete_undo_text, cut 6 undo_tree undo_tests)
    ∷ (texts.clear_undo_text, cut 6 undo_tree [])
    ∷ (texts.insert_parked_text, Insert 7 (Values (lit Null ∷ given (0 ∷ 1 ∷ [])) 3))
    ∷ (texts.delete_parked_text, cut 7 parked_tree parked_tests)
    ∷ (texts.clear_moment_text, cut 8 moment_tree [])
    ∷ (texts.insert_moment_text, Insert 8 (Values (lit (Int (pos 1)) ∷ lit Null ∷ col 0 0 ∷ []) 3))
    ∷ []

-- ---- SELECT

abbrev queries : List (List ℕ × Query)
queries =
    (texts.select_version_text, scan info_tree [] (shown (2 ∷ [])) [] no_limit)
    ∷ (
      texts.select_listed_text,
      scan listed_tree [] (shown (0 ∷ 2 ∷ 3 ∷ 4 ∷ 5 ∷ 6 ∷ 7 ∷ [])) (up (col 1 0) ∷ []) no_limit,
    )
    ∷ (
      texts.find_receipt_text,
      scan receipt_tree (equals (col 1 2) (col 0 0) ∷ equals (col 1 3)
          (col 0 1) ∷ []) (shown (0 ∷ 2 ∷ 3 ∷ 4 ∷ 5 ∷ 6 ∷ 7 ∷ 8 ∷ [])) [] no_limit,
    )
    ∷ (
      texts.select_receipts_text,
      scan receipt_tree [] (shown (0 ∷ 2 ∷ 3 ∷ 4 ∷ 5 ∷ 6 ∷ 7 ∷ 8 ∷ []))
          (up (col 1 0) ∷ []) no_limit,
    )
    ∷ (
      texts.last_receipt_text,
      scan receipt_tree [] (shown (0 ∷ []))
          ((col 1 0, record { collation = Binary; descending = true }) ∷ []) (pos 1),
    )
    ∷ (texts.verdict_rows_text, scan receipt_tree (is_of 4 ∷ []) (shown (6 ∷ [])) (up (col 1 6) ∷ []) no_limit)
    ∷ (
      texts.verdict_digests_text,
      scan receipt_tree (is_of 4 ∷ []) (shown (3 ∷ [])) (up (col 1 0) ∷ []) no_limit,
    )
    ∷ (texts.find_body_text, scan held_tree (equals (col 1 0) (col 0 0) ∷ []) (shown (2 ∷ [])) [] no_limit)
    ∷ (texts.select_steps_text, scan step_tree [] (shown (0 ∷ 2 ∷ [])) (up (col 1 0) ∷ []) no_limit)
    ∷ (texts.find_object_text, scan object_tree object_tests (shown (3 ∷ [])) [] no_limit)
    ∷ (
      texts.objects_from_text,
      scan object_tree (is_of 1 ∷ from (col 1 2) (col 0 1) ∷ [])
          (shown (1 ∷ 2 ∷ 3 ∷ [])) (up (col 1 1) ∷ up (col 1 2) ∷ []) (pos 256),
    )
    ∷ (
      texts.select_kinds_text,
      scan object_tree [] (shown (1 ∷ [])) (up (col 1 1) ∷ up (col 1 2) ∷ []) no_limit,
    )
    ∷ (
      texts.select_undo_text,
      scan undo_tree undo_tests (shown (2 ∷ 3 ∷ 4 ∷ [])) (up (col 1 2) ∷ up (col 1 3) ∷ []) no_limit,
    )
    ∷ (texts.find_parked_text, scan parked_tree parked_tests (shown (2 ∷ [])) [] no_limit)
    ∷ (
      texts.parked_length_text,
      scan parked_tree parked_tests (op1 Length (col 1 2) ∷ []) [] no_limit,
    )
    ∷ (texts.parked_digests_text, scan parked_tree [] (shown (1 ∷ [])) (up (col 1 1) ∷ []) no_limit)
    ∷ (texts.find_moment_text, scan moment_tree [] (shown (2 ∷ [])) [] no_limit)
    ∷ []

-- ---- each text is what its table says

abbrev said : {A : Type 0} → List (List ℕ × A) → List ℕ → Option A
said table text = option_map (λ w. w.1) (find (λ w. bytes_eq text w.0) table)

each : {A B : Type 0} (f g : List ℕ × A → B) (table : List (List ℕ × A)) → map f table ≡ map g table
    → (text : List ℕ) (a : A) → said table text ≡ Some a → f (text, a) ≡ g (text, a)
each f g [] all text a is = absurd cc
each f g (w ∷ table) all text a is = elim (cases_Bool (bytes_eq text w.0)) [
  | inl here ↦ let same : w.1 ≡ a = (let e = rw here at is in cc) in
      let it : f w ≡ g w = cc in rw ((bytes_eq-Decides text w.0).0 here, ← same) it
  | inr other ↦ each f g table (cc) text a (rw other at is)
]

-- the command, what it returns and the times that it reads
abbrev pub Parts : Type 0
Parts = Command × Option Returning × List (List ℕ)

-- a compiled text as its command, what it returns and what is left
abbrev pub parts : Result Compiled CompileError → Option Parts
parts (Ok c) = Some (c.command, c.returning, c.formats)
parts (Err e) = None

-- a text with this command alone is plain
pub parted : (r : Result Compiled CompileError) (command : Command)
    → parts r ≡ Some (command, None, []) → (command_of r ≡ command) × IsPlain r
parted (Ok c) command is = let e : ◌≡◌ {A = Parts} (c.command, c.returning, c.formats)
    (command, None, []) = cc in (ap (λ p. p.0) e, (ap (λ p. p.1) e, ap (λ p. p.2) e))
parted (Err e) command is = absurd cc

-- a text that is said to write has this command
pub write_is : {text : List ℕ} {command : Command} → said writes text ≡ Some command → IsWrite text command
unfolding understood is_write_text everything
write_is {text} {command} is =
    let h = each {B = Option Parts × Bool} (λ w. (
      parts (understood store_schema w.0),
      is_write_text w.0,
    )) (λ w. (Some (w.1, None, []), true)) writes refl text command is in
    let both = parted (understood store_schema text) command (ap (λ p. p.0) h) in
    record { is = both.0; plain = both.1; writes = ap (λ p. p.1) h }

abbrev names_of : Command → List (List ℕ)
names_of (Select q names) = names
names_of _ = []

abbrev asked : Schema → List ℕ × Query → Option Parts × Bool × Bool
asked schema w = (parts (understood schema w.0), reads_listing schema w.0, is_read_text w.0)

abbrev select : Schema → List ℕ × Query → Option Parts × Bool × Bool
select schema w = (
  Some
      (Select (program_of w.1) (names_of (command_of (understood schema w.0))), None, []),
  false,
  true,
)

query_over : (schema : Schema) (text : List ℕ) (q : Query)
    → asked schema (text, q) ≡ select schema (text, q) → IsQueryOver schema text q
query_over schema text q h =
    let both = parted (understood schema text) _ (ap (λ p. p.0) h) in
    record { names = _; is = both.0; plain = both.1; unlisted = ap (λ p. p.1) h; reads = ap (λ p. p.2) h }

-- a text that is said to ask has this query
pub query_is : {text : List ℕ} {q : Query} → said queries text ≡ Some q → IsQuery text q
unfolding understood is_read_text everything
query_is {text} {q} is = query_over
    store_schema text q (each (asked store_schema) (select store_schema) queries refl text q is)

-- the query of the version is a scan of the info table
pub select_version_is : (schema : Schema) → IsOfSomeVersion schema
    → IsQueryOver schema texts.select_version_text (scan info_tree [] (shown (2 ∷ [])) [] no_limit)
unfolding understood is_read_text everything
select_version_is schema (inl now) = rw now (query_is refl)
select_version_is schema (inr first) = rw first (query_over first_schema texts.select_version_text _ refl)

-- ---- CREATE

-- what is known of the first texts that make a store, each with its command
abbrev pub Made : Type 0
Made = Result Table CompileError × Schema × Option Parts × List ℕ × Bool × Bool × List Table × ℕ

-- what the text that makes a table says under the schema before it, and the schema after it
abbrev pub made : ℕ → Made
made at =
    let text = texts.table_text at in
    let r = understood (schema_of at) text in (
      table_defined_by text,
      created (schema_of at) (record (table_at at) { tree = 0 }),
      parts r,
      statement_of text r,
      is_write_text text,
      lacks_sequence (schema_of (at + 1)),
      (schema_of (at + 1)).tables,
      next_tree (schema_of at),
    )

-- what is known of one of them
abbrev pub one_more : ℕ → Made
one_more at = (
  Ok (record (table_at at) { tree = 0 }),
  schema_of (at + 1),
  Some (CreateTable, None, []),
  texts.table_text at,
  true,
  false,
  (schema_of at).tables ++ table_at at ∷ [],
  (table_at at).tree,
)

-- each of the nine texts that create a table is compiled
pub create_is : (at : ℕ) → at < 9 → made at ≡ one_more at
unfolding understood is_write_text everything digits
create_is at low =
    let all : map made (range_with_len 0 9) ≡ map one_more (range_with_len 0 9) = refl in
    let same = ap (λ l. get_or l at (made 0)) all in
    sym (get_or-map-range_with_len made 0 9 at at (made 0) low (omega arith))
    ∙ same ∙ get_or-map-range_with_len one_more 0 9 at at (made 0) low (omega arith)
