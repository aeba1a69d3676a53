-- What follows of a store that was read, one call after another, and of a walk over its tables.
use Rattle.std.proofs.Common.{◌≡◌, false, List, Result, Ok, Err, subst, sym}
use Rattle.std.proofs.lemmas.Result.{on_ok_weaker}
use Rattle.esc_store.specs.ResultLaws.{on_any}
use Rattle.esc_events.specs.Events.{EventValue}
use Rattle.esc_desk.specs.Reading.{IsReadOf}
use Rattle.esc_desk.specs.declared.walk.Walk.{Walk}
use Rattle.esc_desk.specs.WalkCalls.{WalkFollows, has_failed, walked_by}

module _ {R : Type 0} {Follows : R → R → Type 0}
    {Reflects : R → List EventValue → Type 0} {X E : Type 0} {a b : R} where
  -- a read that succeeded, whatever is made of what it returned
  pub read_made : {x : X} {Y F : Type 0} {r : Result Y F}
      → IsReadOf {E = E} Follows Reflects a b (Ok x) → IsReadOf Follows Reflects a b r
  read_made {r = r} read = record { follows = read.follows; reflects = on_any r read.reflects }

  -- a read that failed, whatever the error becomes
  pub read_failed : {e : E} {Y F : Type 0} {f : F}
      → IsReadOf {X = X} Follows Reflects a b (Err e) → IsReadOf {X = Y} Follows Reflects a b (Err f)
  read_failed read = record { follows = read.follows; reflects = tt }

module _ {R : Type 0} {Follows : R → R → Type 0}
    {Reflects : R → List EventValue → Type 0} {X E : Type 0} {a b : R} where
  -- a read after one that succeeded
  pub read_then : {x : X} {c : R} {Y F : Type 0} {r : Result Y F}
      → ((a b c : R) → Follows a b → Follows b c → Follows a c)
      → IsReadOf {E = E} Follows Reflects a b (Ok x) → IsReadOf Follows Reflects b c r
      → IsReadOf Follows Reflects a c r
  read_then {c = c} {r = r} goes_on first then = record {
    follows = goes_on a b c first.follows then.follows;
    reflects = on_ok_weaker r (λ (h : (e : List EventValue) → Reflects b e → Reflects c e). λ e held.
        h e (first.reflects e held)) then.reflects;
  }

-- a store that was read once, and what is made of what was read
pub ruleset reads_stay = (read_made, read_failed)

module _ {R P : Type 0} {Follows : R → R → Type 0}
    {Reflects : R → List EventValue → Type 0} {old mid : R} {walk after : Walk R P} where
  walked : ((a b c : R) → Follows a b → Follows b c → Follows a c) → Follows old mid
      → walked_by walk ≡ mid → WalkFollows Follows Reflects walk after → Follows old (walked_by after)
  walked goes_on p is q = goes_on old mid (walked_by after) p (subst (λ r. Follows r (walked_by after)) is q.same)

  -- a walk ended with a fault
  pub walked_ill : {E X F : Type 0} {place : P} {f : F}
      → ((a b c : R) → Follows a b → Follows b c → Follows a c) → IsReadOf {E = E} Follows
      Reflects old mid (Ok place) → walked_by walk ≡ mid → WalkFollows Follows Reflects walk after
      → IsReadOf {X = X} Follows Reflects old (walked_by after) (Err f)
  walked_ill goes_on p is q = record { follows = walked goes_on p.follows is q; reflects = tt }

  -- a walk ended, and hasn't failed
  pub walked_well : {E X F : Type 0} {place : P} {x : X}
      → ((a b c : R) → Follows a b → Follows b c → Follows a c) → IsReadOf {E = E} Follows
      Reflects old mid (Ok place) → walked_by walk ≡ mid → WalkFollows Follows Reflects walk after
      → has_failed after ≡ false → IsReadOf {E = F} Follows Reflects old (walked_by after) (Ok x)
  walked_well goes_on p is q unfailed = record {
    follows = walked goes_on p.follows is q;
    reflects = λ e h. q.reflects (λ failed. absurd cc) e (subst (λ r. Reflects r e) (sym is) (p.reflects e h));
  }
