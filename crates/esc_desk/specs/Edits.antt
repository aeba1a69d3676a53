-- What an event changes of what a store keeps, and what is kept then.
use Rattle.std.specs.Prelude.{◌≡◌, ◌≤◌, ◌+◌, ℕ, Bool, true, false, ◌&&◌, is_none, ℤ, List}
use Rattle.std.specs.Prelude.{length}
use Rattle.std.specs.Prelude.{take, Option, Some, None, Ok, IfSome}
use Rattle.sqlite_trees.specs.declared.store.Store.{Ghosts}
use Rattle.esc_tables.specs.DepositValue.{DepositValue}
use Rattle.esc_tables.specs.Reading.{reading}
use Rattle.esc_manifest.specs.declared.row.MRow.{MRow}
use Rattle.esc_apply.specs.Registry.{State}
use Rattle.esc_apply.specs.declared.moves.Work.{Work}
use Rattle.esc_store.specs.declared.books.TheConstants.{MOST_RECEIPTS}
use Rattle.esc_store.specs.declared.store.Store.{Store}
use Rattle.esc_store.specs.StoreState.{StoreState, with_body, with_listed, with_moment, with_parked}
use Rattle.esc_store.specs.StoreState.{with_receipt, with_registry}
use Rattle.esc_store.specs.ReplyValue.{ReceiptValue}
use Rattle.esc_store.specs.Representation.{ChangeOf, IsHonest, LeavesOnly, HasMadeBooks}
use Rattle.esc_store.specs.Representation.{HasMadeTables, Represents}
use Rattle.esc_events.specs.declared.plan.Plan.{Plan}
use Rattle.esc_events.specs.Amended.{with_all_adopted, with_all_dropped}
use Rattle.esc_events.specs.Plans.{IsMovedFrom, IsCostOfMove, moved_by}
use Rattle.esc_events.specs.StateAfter.{deposit_of, deposits_of}
use Rattle.esc_events.specs.Works.{no_work}
use Rattle.esc_desk.specs.declared.changes.Committed.{Committed}
use Rattle.esc_desk.specs.declared.edit.AtHand.{AtHand}
use Rattle.esc_desk.specs.declared.edit.Edit.{Edit}
use Rattle.esc_desk.specs.declared.edit.Listing.{Listing}
use Rattle.esc_desk.specs.declared.edit.Storing.{Storing}
use Rattle.esc_desk.specs.declared.edit.Storing.TheVariants.{Nothing, Hold, Park}

-- ---- what is kept once each part was made, if it is there

-- one more receipt
abbrev pub receipted : Option ReceiptValue → StoreState → StoreState
receipted None k = k
receipted (Some r) k = with_receipt k r

-- a body, held for a row or parked
abbrev pub stored : Storing → StoreState → StoreState
stored Nothing k = k
stored (Hold row body d) k = with_body k row body.now
stored (Park digest body) k = with_parked k digest (Some body.now)

-- the rows of a union, where the bodies that are parked for them are held or let go
abbrev pub listed_more : Option Listing → StoreState → StoreState
listed_more None k = k
listed_more (Some l) k =
    with_all_dropped l.union
    (with_all_adopted l.union (with_listed k l.union) l.judged.adopted.items) l.judged.dropped.items

-- a moment, or none
abbrev pub timed : Option (Option ℤ) → StoreState → StoreState
timed None k = k
timed (Some moment) k = with_moment k moment

-- a chain and its tables, where c are the deposits of the chain before
abbrev pub moved_if : Option Plan → List DepositValue → StoreState → StoreState
moved_if None c k = k
moved_if (Some plan) c k = moved_by plan k c

-- ---- what is kept once an edit was made

-- but for the chain and its tables
abbrev pub books_edited : Edit → StoreState → StoreState
books_edited edit k =
    timed edit.moment (stored edit.body (listed_more edit.listing (receipted edit.receipt k)))

-- the deposits of the chain that is kept
abbrev pub chain_deposits : StoreState → List DepositValue
chain_deposits k = deposits_of reading k.bodies k.steps

abbrev pub edited : Edit → StoreState → StoreState
edited edit k = moved_if edit.plan (chain_deposits k) (books_edited edit k)

-- nothing is changed
abbrev pub is_nothing : Storing → Bool
is_nothing Nothing = true
is_nothing (Hold row body d) = false
is_nothing (Park digest body) = false

abbrev pub is_empty : Edit → Bool
is_empty edit =
    is_none edit.receipt && is_none edit.listing && is_nothing edit.body && is_none edit.moment
    && is_none edit.plan

-- ---- what an edit has to be

-- a plan has few steps
pub record IsSoundPlan (plan : Plan) : Type 0 where
  pub few_old : length plan.old.items ≤ 4096
  pub few_new : length plan.new.items ≤ 4096

-- of a body that is to be held the deposit was read from it
abbrev pub HasItsDeposit : Storing → Type 0
HasItsDeposit Nothing = Unit {0}
HasItsDeposit (Hold row body d) = reading body.now ≡ Ok d
HasItsDeposit (Park digest body) = Unit {0}

-- a deposit at hand, if it still is, is that of its row by these bodies
abbrev pub IsAtHand : AtHand → (ℕ → Option (List ℕ)) → Type 0
IsAtHand at bodies = IfSome at.deposit (λ d. d ≡ deposit_of reading (bodies at.row))

-- a union begins with these rows, if one is listed
abbrev pub Begins : Option Listing → List MRow → Type 0
Begins listing rows = IfSome listing (λ l. take (length rows) l.union ≡ rows)

-- the chain moves from the one that is kept, if it does
abbrev pub IsFromChainOf : StoreState → Option Plan → Type 0
IsFromChainOf k plan = IfSome plan (IsMovedFrom k (chain_deposits k))

-- this is the work of a move by the bodies that are held, where c are the deposits of the chain
-- before; there is none without a move
abbrev pub IsCostIf : Option Plan → (ℕ → Option (List ℕ)) → List DepositValue → Work → Type 0
IsCostIf None bodies c work = work ≡ no_work
IsCostIf (Some plan) bodies c work = IsCostOfMove plan bodies c work

-- this is the work of an edit of a store that kept k
abbrev pub IsCostOfEdit : Edit → StoreState → Work → Type 0
IsCostOfEdit edit k work =
    IsCostIf edit.plan (books_edited edit k).bodies (chain_deposits k) work

-- what stays where only the books are edited: the chain and its tables
pub record StaysPut (k made : StoreState) : Type 0 where
  pub steps : made.steps ≡ k.steps
  pub registry : made.registry ≡ k.registry

-- ---- the parts of a change

-- a change of a store that stood for `before` has made k: its rows, receipts, bodies and chain, and
-- its tables
pub record IsFilled {S : Type 0} (g : Ghosts S) (change : ChangeOf S) (before k : StoreState)
    : Type 0 where
  pub tables : State
  pub rest : HasMadeBooks g change before (with_registry k tables)
  pub holds : IsHonest g change.store.now → HasMadeTables g change k.registry

-- ---- an edit that was made

-- what came of an edit by what was kept before: the work of its move, and the number of its
-- receipt, for which there was room
pub record IsResult (edit : Edit) (k : StoreState) (number : ℕ) (work : Work) : Type 0 where
  pub worked : IsCostOfEdit edit k work
  pub numbered : IfSome edit.receipt
      (λ r. (number ≡ length k.receipts + 1) × (number ≤ MOST_RECEIPTS))

-- a change has all the parts of an edit, where the store kept k, and this came of them
pub record HasAllParts {S : Type 0} (g : Ghosts S) (change : ChangeOf S) (edit : Edit)
    (k : StoreState) (done : Committed) : Type 0 where
  pub filled : IsFilled g change k (edited edit k)
  pub result : IsResult edit k done.number done.work
  pub plan : done.plan ≡ edit.plan

-- an edit was committed in a store that kept k: it keeps what is edited, a crash leaves that, and
-- this came of it
pub record IsCommitted {S : Type 0} (g : Ghosts S) (store : Store S) (edit : Edit) (k : StoreState)
    (done : Committed) : Type 0 where
  pub stands : Represents g store (edited edit k)
  pub left : LeavesOnly g store (edited edit k)
  pub result : IsResult edit k done.number done.work
  pub plan : done.plan ≡ edit.plan
