-- What a store answers that stands for a list of events, in the words of these.
use Rattle.std.proofs.Common.{◌≡◌, ℕ, ◌-◌, true, List, length, map, Option, Some, None, option_map}
use Rattle.std.proofs.Common.{slice_get, Result, Ok, Err, refl, sym, ap, subst, ◌∙◌, true≢false}
use Rattle.std.proofs.lemmas.Option.{slice_get-map}
use Rattle.std.proofs.lemmas.List.{length-map}
use Rattle.sha2.specs.Sha256.{sha256}
use Rattle.sqlite_trees.specs.declared.store.Store.{Ghosts}
use Rattle.esc_bundle.specs.declared.refusal.Refusal.{Refusal}
use Rattle.esc_tables.specs.DepositValue.{DepositValue}
use Rattle.esc_tables.specs.Reading.{reading}
use Rattle.esc_manifest.specs.declared.row.MRow.{MRow}
use Rattle.esc_apply.specs.declared.front.Step.{Step}
use Rattle.esc_apply.specs.Registry.{State, ObjectsByKey}
use Rattle.esc_apply.specs.Tables.{tables}
use Rattle.esc_store.specs.StoreState.{StoreState, kept_chain, step_at, AreHeld, AreCounts}
use Rattle.esc_store.specs.ReplyValue.{ReceiptValue}
use Rattle.esc_store.specs.declared.store.Store.{Store}
use Rattle.esc_store.specs.Representation.{IsAsBefore}
use Rattle.esc_store.specs.ResultLaws.{on_any}
use Rattle.esc_store.specs.StandingLaws.{survives_same}
use Rattle.esc_events.specs.Events.{EventValue, union}
use Rattle.esc_events.specs.Assessment.{found_at, row_with_digest, held_row}
use Rattle.esc_events.specs.Receipts.{is_row}
use Rattle.esc_events.specs.LatestTables.{tables_of_chain}
use Rattle.esc_events.specs.StateAfter.{or_no_deposit, deposit_of, held_body, IsApart, IsStateAfter}
use Rattle.esc_desk.proofs.Moving.{chain_of}
use Rattle.esc_desk.proofs.MovingLemmas.{same_deposits}
use Rattle.esc_desk.specs.declared.desk.Desk.{Desk}
use Rattle.esc_desk.specs.declared.status.End.{End}
use Rattle.esc_desk.specs.declared.status.Status.{Status}
use Rattle.esc_desk.specs.Calls.{IsUnchangedDesk}
use Rattle.esc_desk.specs.Reading.{IsReadOf}
use Rattle.esc_desk.specs.Reflection.{StoreReflects}
use Rattle.esc_desk.proofs.StoreFacts.{still_stays}
use Rattle.esc_store.specs.declared.parked.ParkedBody.{ParkedBody}
use Rattle.esc_store.specs.Parks.{AreParkedBodies}
use Rattle.esc_desk.specs.Reads.{last, AreHeldOf, AreParkedOf, AreStepsOf, IsBodyOf, SaysEnd, IsEndAt, IsEnd, IsStatus}

-- a desk whose store was read, and that remembers what it did
pub read_stays : {S : Type 0} (g : Ghosts S) (old : Desk S) (store : Store S) → IsAsBefore g old.store store
    → IsUnchangedDesk g old (record { store = store; cache = old.cache; reread = old.reread })
read_stays g old store same =
    still_stays g old (record { store = store; cache = old.cache; reread = old.reread }) same refl

module _ {S X E : Type 0} (g : Ghosts S) (old : Desk S) where
  -- the same of a read, whose result this is
  pub desk_read : (store : Store S) (result : Result X E) → IsAsBefore g old.store store
      → IsReadOf (λ a b. IsUnchangedDesk g a b) (λ desk e. StoreReflects g desk.store e)
      old (record { store = store; cache = old.cache; reread = old.reread }) result
  desk_read store result same = record {
    follows = read_stays g old store same;
    reflects = on_any result (λ e serves. record {
      kept = serves.kept;
      stands = same.stands serves.kept serves.stands;
      stands_for = serves.stands_for;
    });
  }

  -- nothing was read
  pub desk_unread : (result : Result X E)
      → IsReadOf (λ a b. IsUnchangedDesk g a b) (λ desk e. StoreReflects g desk.store e) old old result
  desk_unread result = record {
    follows = record {
      same = record {
        manifest = refl;
        writes = refl;
        survives = survives_same;
        stands = λ k h. h;
      };
      serves = λ e h. h;
    };
    reflects = on_any result (λ e serves. serves);
  }

-- the last element of an image
pub last_mapped : {X Y : Type 0} (f : X → Y) (xs : List X) → last (map f xs) ≡ option_map f (last xs)
last_mapped f xs = ap (λ (n : ℕ). slice_get (map f xs) (n - 1)) (length-map xs f)
    ∙ slice_get-map f xs (length xs - 1)

-- the row of the last step of rows is the last row
last_of_steps : (m : List MRow) (rows : List ℕ)
    → option_map (λ (s : Step). s.row) (last (map (step_at m) rows)) ≡ last rows
last_of_steps m rows = ap (option_map (λ (s : Step). s.row)) (last_mapped (step_at m) rows) ∙ back (last rows)
  where
    back : (o : Option ℕ) → option_map (λ (s : Step). s.row) (option_map (step_at m) o) ≡ o
    back None = refl
    back (Some r) = refl

-- a body that holds a row reads
read_at : (m : List MRow) (r : ℕ) (row : Option ℕ) (told : Result DepositValue Refusal)
    → is_row r (held_row (found_at m row told)) ≡ true → (d : DepositValue) × (told ≡ Ok d)
read_at m r None told is = absurd (true≢false (sym is))
read_at m r (Some q) (Err n) is = absurd (true≢false (sym is))
read_at m r (Some q) (Ok d) is = (d, refl)

module _ (e : List EventValue) (k : StoreState) (stood : IsStateAfter sha256 reading e k) where
  pub same_held : (rows : List ℕ) → AreHeld k.bodies rows → AreHeldOf e rows
  same_held rows held apart =
      subst (λ (f : ℕ → Option (List ℕ)). AreHeld f rows) (λ i r. stood.books.bodies apart r i) held

  pub same_parked : (bodies : List ParkedBody) → AreParkedBodies k.parked bodies → AreParkedOf e bodies
  same_parked bodies parked apart = subst (λ (f : List ℕ → Option (List ℕ)). AreParkedBodies f bodies)
      (λ i d. stood.books.parked apart d i) parked

  pub same_content : IsApart sha256 reading e → k.registry.content ≡ tables_of_chain e k.steps
  same_content apart =
      ap (λ (s : State). s.content) stood.registry
      ∙ ap tables (same_deposits k.bodies (held_body sha256 reading e) (stood.books.bodies apart) k.steps)

  -- the steps of a store are those of its chain
  pub same_chain : (steps : List Step) → steps ≡ kept_chain k → steps ≡ map (step_at (union e)) k.steps
  same_chain steps are = are ∙ ap (λ (x : List MRow). map (step_at x) k.steps) stood.books.listed

  pub same_steps : (steps : List Step) → steps ≡ kept_chain k → AreStepsOf e steps
  same_steps steps are apart = record { chain = k.steps; latest = chain_of e k stood apart; are = same_chain steps are }

  pub same_body : (row : ℕ) (body : Option (List ℕ)) → body ≡ k.bodies row → IsBodyOf e row body
  same_body row body is apart = is ∙ stood.books.bodies apart row

  -- the numbers of what a store keeps, by its held rows and the steps of its chain
  pub same_status : (status : Status) (rows : List ℕ) (steps : List Step)
      → AreHeld k.bodies rows → steps ≡ kept_chain k
      → status.listed ≡ length k.listed → status.receipts ≡ length k.receipts
      → status.held ≡ length rows → status.chain ≡ length steps
      → status.end ≡ option_map (λ (s : Step). (s.place, s.resend)) (last steps)
      → AreCounts k.registry.content status.objects.entries → IsStatus e status
  same_status status rows steps held are listed receipts held_count step_count end counts = record {
    listed_count = listed ∙ ap (λ (x : List MRow). length x) stood.books.listed;
    receipt_count = receipts ∙ ap (λ (x : List ReceiptValue). length x) stood.books.receipts;
    counts = λ apart. record {
      rows = rows;
      are_held = same_held rows held apart;
      chain = k.steps;
      latest = chain_of e k stood apart;
      held_count = held_count;
      step_count = step_count ∙ ap length (same_chain steps are) ∙ length-map k.steps (step_at (union e));
      end_is = end ∙ ap (λ (x : List Step). option_map (λ (s : Step). (s.place, s.resend)) (last x))
          (same_chain steps are);
      objects_are = subst (λ (f : ObjectsByKey). AreCounts f status.objects.entries) (same_content apart) counts;
    };
  }

  last_row_is : (steps : List Step)
      → steps ≡ kept_chain k → option_map (λ (s : Step). s.row) (last steps) ≡ last k.steps
  last_row_is steps are = ap (λ (x : List Step). option_map (λ (s : Step). s.row) (last x))
      (same_chain steps are) ∙ last_of_steps (union e) k.steps

  pub no_end : (steps : List Step)
      → steps ≡ kept_chain k → option_map (λ (s : Step). s.row) (last steps) ≡ None → IsEnd e None
  no_end steps are none apart = record {
    chain = k.steps;
    latest = chain_of e k stood apart;
    says = subst (λ (o : Option ℕ). IsEndAt e o None) (sym none ∙ last_row_is steps are) tt;
  }

  -- the body that is kept of a row is a deposit
  kept_reads : (r : ℕ) (body : List ℕ)
      → k.bodies r ≡ Some body → (d : DepositValue) × (reading body ≡ Ok d)
  kept_reads r body kept =
      let came = stood.books.came r body kept in
      let text = came.arrival.body in
      subst (λ (b : List ℕ). (d : DepositValue) × (reading b ≡ Ok d)) came.is_body
      (read_at (union e) r (row_with_digest (union e) (sha256 text)) (reading text) came.holds)

  pub end_said : (steps : List Step) (row : ℕ) (body : List ℕ) (end : End) → steps ≡ kept_chain k
      → option_map (λ (s : Step). s.row) (last steps) ≡ Some row → k.bodies row ≡ Some body
      → ((d : DepositValue) → reading body ≡ Ok d → SaysEnd d end) → IsEnd e (Some end)
  end_said steps row body end are is kept says apart =
      let held : held_body sha256 reading e row ≡ Some body = sym (stood.books.bodies apart row) ∙ kept in
      let read = kept_reads row body kept in
      let deposit : read.0 ≡ deposit_of reading (held_body sha256 reading e row) =
      sym (ap (deposit_of reading) held ∙ ap or_no_deposit read.1) in
      let said = subst (λ (x : DepositValue). SaysEnd x end) deposit (says read.0 read.1) in
      record {
        chain = k.steps;
        latest = chain_of e k stood apart;
        says = subst (λ (o : Option ℕ). IsEndAt e o (Some end)) (sym is ∙ last_row_is steps are) said;
      }
