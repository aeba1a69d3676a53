-- The response to a request, from its parts.
use Rattle.std.proofs.Common.{◌≡◌, ℕ, ◌≤◌, ◌<◌, List, ◌∷◌, ◌++◌, length, take, drop, true}
use Rattle.std.proofs.Common.{false, nat_le, refl, sym, ◌∙◌, ap, subst, inl, inr, Option, Some, None}
use Rattle.std.proofs.Common.{IfSome, arith}
use Rattle.std.proofs.lemmas.Bool.Decides.{nat_tests}
use Rattle.std.specs.Global.{Vec}
use Rattle.std.specs.Io.KnownBytes.{Consumes, prepend_known}
use Rattle.sqlite_trees.specs.declared.store.Store.{Ghosts}
use Rattle.httparse.specs.Grammar.{RequestHead, print_request}
use Rattle.httparse.proofs.GrammarLemmas.{ReadsRequest-append}
use Rattle.esc_store.specs.declared.fault.StoreFault.TheVariants.{NoMemory}
use Rattle.esc_store.specs.StandingLaws.{survives_same, was_clean, as_before_then}
use Rattle.esc_events.specs.ArrivalValue.{ArrivalValue}
use Rattle.esc_events.specs.Events.{EventValue}
use Rattle.esc_events.specs.Events.EventValue.{arrived}
use Rattle.esc_desk.specs.declared.desk.Desk.{Desk}
use Rattle.esc_desk.specs.Calls.{DeskLeaves, IsUnchangedDesk}
use Rattle.esc_desk.specs.Crashes.{CrashLeaves}
use Rattle.esc_request.specs.declared.refusal.Refusal.TheVariants.{BadRequest}
use Rattle.esc_http.specs.declared.request_plan.RequestPlan.{RequestPlan}
use Rattle.esc_http.specs.declared.request_plan.RequestPlan.TheVariants.{Put}
use Rattle.esc_request.specs.Body.{IsShorter}
use Rattle.esc_request.specs.Head.{HasHead, HasNoHead}
use Rattle.esc_request.specs.Pieces.{Pieces, AreAwaited, ReadsWhile}
use Rattle.esc_request.specs.PieceLaws.{awaited_after}
use Rattle.esc_http.specs.RequestPlans.{plan_of_head}
use Rattle.esc_request.specs.Response.{out_of_memory}
use Rattle.esc_http.specs.Answering.{Request, refused, arrives, wants, request_with_body, Asks}
use Rattle.esc_http.specs.Answering.{IsAnswered, IsDoneFor, IsUndecided, IsOrMemory, LeavesStill}
use Rattle.esc_http.specs.Answering.{LosesArrival}
use Rattle.esc_http.specs.declared.answer.Answer.{Answer}
use Rattle.esc_http.specs.declared.answer.Answer.TheVariants.{Text}
use Rattle.esc_http.proofs.FaultLemmas.{answer_is}
use Rattle.esc_http.specs.Answering.{text_or_memory}

-- the text that was made, or the out-of-memory response
pub text_is : (expected : List ℕ) (o : Option (Vec ℕ))
    → IfSome o (λ text. text.items ≡ expected) → IsOrMemory expected (text_or_memory o)
text_is expected None is = inr refl
text_is expected (Some text) is = inl is

-- a head stays one, whatever follows
longer : (front : List ℕ) (h : RequestHead) (rest more : List ℕ)
    → HasHead front h rest → HasHead (front ++ more) h (rest ++ more)
longer front h rest more has = record {
  reads = ReadsRequest-append front h rest more has.reads;
  size = has.size;
  lines = has.lines;
}

-- what the head at the front of what was read asks for is what the whole input asks for
pub asked : (before after : Option (List ℕ)) (front : List ℕ) (n : ℕ)
    (h : RequestHead) (request : Request) → Consumes before after front → HasHead front h (drop n front)
    → IfSome (prepend_known (drop n front) after) (λ rest. request
    ≡ request_with_body (plan_of_head h) rest) → IfSome before (λ input. Asks input request)
asked None after front n h request took has is = tt
asked (Some input) None front n h request took has is = absurd took
asked (Some input) (Some rest) front n h request took has is =
    inl (
      h,
      drop n front ++ rest,
      subst (λ (l : List ℕ). HasHead l h (drop n front ++ rest))
          (sym took) (longer front h (drop n front) rest has),
      is,
    )

-- what holds of each input holds of what a reader has
pub always : (o : Option (List ℕ)) (P : List ℕ → Type 0) → ((input : List ℕ) → P input) → IfSome o P
always None P holds = tt
always (Some input) P holds = holds input

-- an input without a head is a bad request
pub headless : (o : Option (List ℕ)) → IfSome o HasNoHead → IfSome o (λ input. Asks input (refused BadRequest))
headless None none = tt
headless (Some input) none = inr (none, refl)

-- the request of a body that is whole
pub whole_arrives : (o : Option (List ℕ)) (number body seen : List ℕ) (size : ℕ)
    → seen ≡ body → IfSome o (λ input. (size ≤ length input) × (body ≡ take size input))
    → IfSome o (λ input. arrives (record { number = number; body = seen })
    ≡ request_with_body (Put number size) input)
whole_arrives None number body seen size same is = tt
whole_arrives (Some input) number body seen size same (fits, is) =
    let long : nat_le size (length input) ≡ true = grind (arith, nat_tests) in
    rw long (ap (λ (b : List ℕ). arrives (record { number = number; body = b })) (same ∙ is))

-- the request of a body that is cut
pub cut_refused : (o : Option (List ℕ)) (number : List ℕ) (size : ℕ) → IfSome o (λ input. length input
    < size) → IfSome o (λ input. refused BadRequest ≡ request_with_body (Put number size) input)
cut_refused None number size short = tt
cut_refused (Some input) number size short =
    let cut : nat_le size (length input) ≡ false = grind (arith, nat_tests) in
    rw cut refl

-- the same request of the same plan, with the bytes that were read before written in another way
pub same_request : (o : Option (List ℕ))
    (front tail : List ℕ) (plan other : RequestPlan) (request : Request) → front ≡ tail → plan ≡ other
    → IfSome (prepend_known front o) (λ rest. request ≡ request_with_body plan rest)
    → IfSome (prepend_known tail o) (λ rest. request ≡ request_with_body other rest)
same_request o front tail plan other request same is holds =
    subst (λ (p : RequestPlan). IfSome (prepend_known tail o) (λ rest. request ≡ request_with_body p rest)) is
    (subst (λ (l : List ℕ). IfSome (prepend_known l o)
    (λ rest. request ≡ request_with_body plan rest)) same holds)

-- some request that an input may make of a plan
pub some_request : (o : Option (List ℕ)) (plan : RequestPlan)
    → (request : Request) × IfSome o (λ rest. request ≡ request_with_body plan rest)
some_request None plan = (refused BadRequest, tt)
some_request (Some rest) plan = (request_with_body plan rest, refl)

-- what was read while the body was shorter was read while the whole made no request
pub undecided : (a b : Pieces)
    (bytes front last : List ℕ) (h : RequestHead) (number : List ℕ) (size : ℕ) → HasHead bytes h front
    → plan_of_head h ≡ Put number size → ReadsWhile (IsShorter size) a b front last
    → (end : List ℕ) × ReadsWhile IsUndecided a b bytes end
undecided a b bytes front last h number size has asks read = (
  _,
  record {
    pieces = read.pieces;
    added = read.added;
    awaited = subst (λ (l : List ℕ). AreAwaited IsUndecided l read.pieces) (sym has.reads.1)
        (awaited_after (IsShorter size) IsUndecided (print_request h)
        (λ tail short. inr (record {
          head = h;
          rest = tail;
          number = number;
          size = size;
          begins = record { reads = (has.reads.0, refl); size = has.size; lines = has.lines };
          asks = asks;
          short = short;
        })) front read.pieces read.awaited);
    came = refl;
  },
)

-- what a crash leaves is among what it leaves with one more event in doubt
doubted : {S : Type 0} (g : Ghosts S) (desk : Desk S) (e doubtful : List EventValue) (x : EventValue)
    → DeskLeaves g desk e doubtful → DeskLeaves g desk e (x ∷ doubtful)
unfolding CrashLeaves
doubted g desk e doubtful x left = λ clean trees may. inr (left clean trees may)

-- where nothing changed a crash leaves what it might leave before
pub leaves_still : {S : Type 0} (g : Ghosts S) (old new : Desk S)
    → IsUnchangedDesk g old new → LeavesStill g old new
unfolding CrashLeaves
leaves_still g old new stays e doubtful serves left clean trees may =
    elim (stays.same.survives.crash clean trees may) [
      | inl was ↦ left (was_clean stays.same.survives clean) trees was
      | inr none ↦ absurd none
    ]

-- unchanged, and then unchanged again
pub unchanged_then : {S : Type 0} (g : Ghosts S) (a b c : Desk S)
    → IsUnchangedDesk g a b → IsUnchangedDesk g b c → IsUnchangedDesk g a c
unchanged_then g a b c p q = record {
  same = as_before_then p.same q.same;
  serves = λ e served. q.serves e (p.serves e served);
}

module _ {S : Type 0} (g : Ghosts S) (desk : Desk S) where
  pub stays_itself : IsUnchangedDesk g desk desk
  stays_itself = record {
    same = record {
      manifest = refl;
      writes = refl;
      survives = survives_same;
      stands = λ k h. h;
    };
    serves = λ e served. served;
  }

  lost_by_memory : (a : ArrivalValue) → LosesArrival g desk desk a out_of_memory
  lost_by_memory a = record {
    kept = λ e serves. serves;
    fault = NoMemory;
    is_one = inr (inr (inr refl));
    cause = λ clean e serves. tt;
    left = λ e doubtful serves left. doubted g desk e doubtful (arrived a) left;
    sends = inr refl;
  }

  -- the out-of-memory response is one to any request
  pub memory_answers : (request : Request) → IsAnswered g desk desk request out_of_memory
  memory_answers (refused refusal) = (refl, inr refl)
  memory_answers (arrives a) = inr (lost_by_memory a)
  memory_answers (wants report) = (
    stays_itself,
    leaves_still g desk desk stays_itself,
    inr (record { fault = NoMemory; cause = inr refl; sends = inr refl }),
  )

  -- so it does whatever the input is
  pub memory_answers_some : (o : Option (List ℕ)) (plan : RequestPlan) (answer : Answer)
      → answer ≡ Text None (Some NoMemory) → (request : Request) × IfSome
      o (λ rest. request ≡ request_with_body plan rest) × IsDoneFor g desk desk request answer
  memory_answers_some o plan answer is =
      let (request, same) = some_request o plan in
      (request, same, answer_is g desk desk request answer None None is (memory_answers request) refl)
