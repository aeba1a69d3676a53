-- A text that writes or reads rows ends no transaction and commits nothing, under any schema.
use Rattle.esc_sql.proofs.Common.{◌≡◌, arith, ℕ, ◌+◌, true, false, List, Ok, refl, inl, inr, ◌⊎◌}
use Rattle.esc_sql.proofs.Common.{cases_Bool, Option, None, Result, Err, IsTrue, Bool, fails_whole}
use Rattle.esc_sql.proofs.Common.{reads_listing, State, Executes, ExecutesInside, Error, Compiled}
use Rattle.esc_sql.proofs.Common.{Command}
use Rattle.esc_sql.proofs.Common.{Returning, Row, Schema, Trees}
use Rattle.sqlite_ast.specs.declared.Statement.{Statement}
use Rattle.sqlite_schema.specs.declared.command.Command.TheVariants.{Commit, Rollback, Release, RollbackTo}
use Rattle.sqlite_syntax.specs.declared.statement.Parsed.{Parsed}
use Rattle.sqlite_resolve.specs.Lowering.{Checked, and_then}
use Rattle.sqlite_resolve.specs.Scope.{Name}
use Rattle.sqlite_resolve.specs.Compile.{small, first, compiled, planned, meaning, command, command_by}
use Rattle.sqlite_resolve.specs.Compile.{returning, returning_by, insert, insert_or, insert_or_abort}
use Rattle.sqlite_resolve.specs.Compile.{update, delete, create_table, with_command, timed}
use Rattle.sqlite.specs.Listing.{understood, listing_schema}
use Rattle.esc_sql.specs.RowText.{writes, reads, is_write_text, is_read_text}
use Rattle.sqlite.specs.State.{Escapes, ExecutesIn, CommitsBy, CommitsShowing}
use Rattle.sqlite.proofs.InsideLemmas.{executes_inside, commits_nothing}
use Rattle.sqlite_ast.specs.declared.Statement.TheVariants as written
use Rattle.sqlite_ast.specs.declared.Conflict.TheVariants as conflict

-- the command ends no transaction, and no part of one
abbrev IsTame : Command → Type 0
IsTame c = ¬ (((c ≡ Commit) ⊎ (c ≡ Rollback))
    ⊎ ((name : List ℕ) × ((c ≡ Release name) ⊎ (c ≡ RollbackTo name))))

-- of a write or a read
abbrev Fits : Bool → Bool → Command × Option Returning → Type 0
Fits is_write is_read found = (is_write ≡ true → IsTame found.0) × (is_read ≡ true → found.1 ≡ None)

command_fits : (schema : Schema) (formats : List Name) (base : ℕ)
    (s : Statement) (found : Command × Option Returning) → command_by schema formats base s ≡ Ok found.0
    → returning_by schema base s ≡ Ok found.1 → Fits (writes s) (reads s) found
unfolding insert_or_abort insert_or insert update delete create_table
command_fits schema formats base (written.Insert conflict.Abort name columns rows clauses shown)
    found c r = (λ h e. grind arith, λ h. absurd cc)
command_fits schema formats base (written.CreateTable def) found c r = (λ h e. grind arith, λ h. absurd cc)
command_fits schema formats base t found c r = (λ h e. grind arith, λ h. grind arith)

meaning_fits : (schema : Schema) (p : Parsed) (base : ℕ) (found : Command × Option Returning)
    → meaning schema p base ≡ Ok found → Fits (writes p.statement) (reads p.statement) found
unfolding meaning command returning
meaning_fits schema p base found is = command_fits schema p.formats base p.statement found (grind arith) (grind arith)

-- from the statement of a text to what the text compiles to
module _ (text : List ℕ) where
  abbrev FitsText : Compiled → Type 0
  FitsText c = Fits (is_write_text text) (is_read_text text) (c.command, c.returning)

  compiled_fits : (schema : Schema) (c : Compiled) → compiled schema text ≡ Ok c → FitsText c
  unfolding compiled planned is_write_text is_read_text
  compiled_fits schema c is = go (first text) refl is
    where
      go : (r : Checked Parsed) → first text ≡ r → and_then
          r (λ p. and_then (planned schema p) (λ plan. Ok (with_command p plan))) ≡ Ok c → FitsText c
      go (Ok p) at it = rw at (meaning_fits schema p (small
          p.names + small (timed schema p.formats p.statement)) (c.command, c.returning) (grind arith))
      go (Err e) at it = absurd cc

  fits : (schema : Schema) (c : Compiled) → understood schema text ≡ Ok c → FitsText c
  unfolding understood
  fits schema c is = elim (cases_Bool (reads_listing schema text)) [
    | inl lists ↦ compiled_fits listing_schema c (let it = rw lists at is in grind (arith, it))
    | inr other ↦ compiled_fits schema c (rw other at is)
  ]

-- ---- a write inside a transaction commits nothing, and a read never does

module _ (text : List ℕ) (params : Row)
    (old : State) (writes : is_write_text text ≡ true) (inside : IsTrue old.in_transaction) where
  tame : (c : Compiled) → understood old.now.schema text ≡ Ok c → ¬ Escapes 0 old c.command
  tame c is h = (fits text old.now.schema c is).0
      writes (elim h [ inl ends ↦ inl ends | inr marks ↦ inr (marks.0, marks.1) ])

  pub within : (new : State) (r : Result ℕ Error)
      → Executes text params old new r → ExecutesInside 0 text params old new r
  unfolding ExecutesIn
  within new (Ok count) h = executes_inside old new 0 inside text params h.0 h.1 (tame h.0 h.1.is) false (Ok count) h
  within new (Err e) h = inl (h, fails_whole old new false text params e h)

  pub commits_none : (db : Trees) → ¬ CommitsBy text params old db
  unfolding CommitsBy
  commits_none db h = commits_nothing old old 0 inside text params h.0 h.1 (tame h.0 h.1.is) db h

-- a text that reads returns no rows of a write
pub no_returning : (text : List ℕ) → is_read_text text ≡ true
    → (schema : Schema) (c : Compiled) → understood schema text ≡ Ok c → c.returning ≡ None
no_returning text reads schema c is = (fits text schema c is).1 reads

-- a text that reads commits nothing
pub reads_commit_none : (text : List ℕ) (params : Row) (s : State)
    → is_read_text text ≡ true → (db : Trees) → ¬ CommitsShowing text params s db
unfolding CommitsShowing
reads_commit_none text params s reads db h =
    absurd (let some = rw (no_returning text reads s.now.schema h.0 h.1.is) at h.2 in cc)
