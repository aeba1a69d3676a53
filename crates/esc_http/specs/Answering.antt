-- Which request an input makes, and what the response to it is.
use Rattle.std.specs.Prelude.{◌≡◌, ◌⊎◌, ℕ, List, [], if◌then◌else◌, nat_le, length, take, Option}
use Rattle.std.specs.Prelude.{Some, None, Result, Ok, Err}
use Rattle.std.specs.Global.{Vec}
use Rattle.sqlite_trees.specs.declared.store.Store.{Ghosts}
use Rattle.httparse.specs.Grammar.{RequestHead}
use Rattle.esc_apply.specs.declared.moves.Work.{Work}
use Rattle.std.specs.Io.KnownBytes.{Appends}
use Rattle.esc_store.specs.declared.fault.StoreFault.{StoreFault}
use Rattle.esc_store.specs.declared.fault.StoreFault.TheVariants.{NoMemory}
use Rattle.esc_store.specs.Faults.{IsFailure, IsArrivalFault}
use Rattle.esc_store.specs.ReplyValue.{ReplyValue}
use Rattle.esc_desk.specs.declared.desk.Desk.{Desk}
use Rattle.esc_events.specs.ArrivalValue.{ArrivalValue, an_arrival}
use Rattle.esc_desk.specs.Calls.{ForDeskEvents, ForStoreEvents, ForEventsInDoubt, DeskLeaves}
use Rattle.esc_desk.specs.Calls.{DeskLeavesTaken, StillReflects, IsUnchangedDesk, Answers, IsCause}
use Rattle.esc_reports.specs.declared.catalog.Report.{Report}
use Rattle.esc_reports.specs.declared.catalog.Report.TheVariants.{Export}
use Rattle.esc_reports.specs.Reports.{IsReport}
use Rattle.esc_request.specs.declared.refusal.Refusal.{Refusal}
use Rattle.esc_request.specs.declared.refusal.Refusal.TheVariants.{BadRequest}
use Rattle.esc_http.specs.declared.answer.Answer.{Answer}
use Rattle.esc_http.specs.declared.answer.Answer.TheVariants.{Text, Export as Streamed}
use Rattle.esc_http.specs.declared.request_plan.RequestPlan.{RequestPlan}
use Rattle.esc_http.specs.declared.request_plan.RequestPlan.TheVariants.{Refuse, Put, Get}
use Rattle.esc_request.specs.Body.{IsShorter}
use Rattle.esc_request.specs.Head.{HasHead, HasNoHead, IsUnfinished}
use Rattle.esc_request.specs.Pieces.{Pieces, ReadsWhile}
use Rattle.esc_http.specs.RequestPlans.{plan_of_head}
use Rattle.esc_http.specs.Response.{fault_response, reply_response, report_response}
use Rattle.esc_request.specs.Response.{out_of_memory, refusal_response, unavailable}

-- ---- requests

-- a request: one that is refused whatever the store holds, an arrival, or a report
pub data Request : Type 0 where
  refused : Refusal → Request
  arrives : ArrivalValue → Request
  wants : Report → Request

-- what a head asks for, and the bytes that follow it: where fewer follow than its length says, it
-- is a bad request
abbrev pub request_with_body : RequestPlan → List ℕ → Request
request_with_body (Refuse refusal) rest = refused refusal
request_with_body (Put number size) rest
    = if nat_le size (length rest) then arrives (an_arrival number (take size rest)) else refused
    BadRequest
request_with_body (Get report) rest = wants report

-- the request that an input makes: that of its head, or a bad request where it has none
abbrev pub Asks : List ℕ → Request → Type 0
Asks input request =
    ((h : RequestHead) × (rest : List ℕ) × HasHead input h rest
    × (request ≡ request_with_body (plan_of_head h) rest))
    ⊎ (HasNoHead input × (request ≡ refused BadRequest))

-- these bytes begin with the head of an arrival, and less than its body follows
pub record IsShortOfBody (bytes : List ℕ) : Type 0 where
  pub head : RequestHead
  pub rest : List ℕ
  pub number : List ℕ
  pub size : ℕ
  pub begins : HasHead bytes head rest
  pub asks : plan_of_head head ≡ Put number size
  pub short : IsShorter size rest

-- these bytes make no request yet: their head isn't whole, or its body isn't
abbrev pub IsUndecided : List ℕ → Type 0
IsUndecided bytes = IsUnfinished bytes ⊎ IsShortOfBody bytes

-- nothing was read past the piece that ends the head, or the body: each piece was read while the
-- bytes before it made no request
abbrev pub ReadsNoMore : Pieces → Pieces → Type 0
ReadsNoMore old new = (bytes : List ℕ) × ReadsWhile IsUndecided old new [] bytes

-- ---- answers

-- the text of a response; where there is none, memory was refused
abbrev pub text_or_memory : Option (Vec ℕ) → List ℕ
text_or_memory None = out_of_memory
text_or_memory (Some text) = text.items

-- this text, or the out-of-memory response
abbrev pub IsOrMemory : List ℕ → List ℕ → Type 0
IsOrMemory expected text = (text ≡ expected) ⊎ (text ≡ out_of_memory)

-- the text gives this fault of the desk; where there is none, it is no 503
abbrev pub TellsFault : Option StoreFault → List ℕ → Type 0
TellsFault None text = (words : List ℕ) → text ≡ unavailable words → ⊥
TellsFault (Some fault) text = text ≡ fault_response fault

-- the text that was written gives this fault
abbrev pub SendsFault : Option (List ℕ) → Option (List ℕ) → Option StoreFault → Type 0
SendsFault old new fault = (text : List ℕ) × Appends old new text × TellsFault fault text

-- the fault that is told where a text was to give this one: no memory, where there is no text
abbrev pub told_of : Option (Vec ℕ) → Option StoreFault → Option StoreFault
told_of None fault = Some NoMemory
told_of (Some text) fault = fault

-- no report was made, by this fault, which the text gives: the store failed (S1), or memory was
-- refused (S2)
pub record GivesFault (text : List ℕ) : Type 0 where
  pub fault : StoreFault
  pub cause : IsFailure fault
  pub sends : IsOrMemory (fault_response fault) text

module _ {S : Type 0} (g : Ghosts S) (old new : Desk S) where
  -- what a crash leaves after an arrival, by what came of it
  abbrev pub LeavesAfter : ArrivalValue → Result ReplyValue StoreFault → Type 0
  LeavesAfter a result =
      ForEventsInDoubt g old (λ e doubtful. DeskLeavesTaken g new e doubtful a result)

  -- a crash leaves what it might leave before
  abbrev pub LeavesStill : Type 0
  LeavesStill = ForEventsInDoubt g old (λ e doubtful. DeskLeaves g new e doubtful)

  -- the arrival was answered, with this reply, which the text gives
  pub record TakesArrival (a : ArrivalValue) (text : List ℕ) : Type 0 where
    pub reply : ReplyValue
    pub work : Work
    pub answers : ForDeskEvents g old new (λ e. Answers g new e a reply work)
    pub left : LeavesAfter a (Ok reply)
    pub sends : IsOrMemory (reply_response reply) text

  -- the arrival was lost by this fault, which the text gives: the desk reflects what it reflected.
  -- The fault is S4 only if the arrival is no duplicate and there is no room for its receipt, and
  -- S5 only if there is no place to park its body
  pub record LosesArrival (a : ArrivalValue) (text : List ℕ) : Type 0 where
    pub kept : StillReflects g old new
    pub fault : StoreFault
    pub is_one : IsArrivalFault fault
    pub cause : ForDeskEvents g old new (λ e. IsCause e a fault)
    pub left : LeavesAfter a (Err fault)
    pub sends : IsOrMemory (fault_response fault) text

  -- the report was made, of what the store stands for
  pub record GivesReport (report : Report) (text : List ℕ) : Type 0 where
    pub body : List ℕ
    pub is : ForStoreEvents g old new (λ e. IsReport e report body)
    pub sends : IsOrMemory (report_response report body) text

  -- the text is the response to the request, and the desk reflects what it reflected, with the
  -- arrival that was taken
  abbrev pub IsAnswered : Request → List ℕ → Type 0
  IsAnswered (refused refusal) text = (new ≡ old) × IsOrMemory (refusal_response refusal) text
  IsAnswered (arrives a) text = TakesArrival a text ⊎ LosesArrival a text
  IsAnswered (wants report) text = IsUnchangedDesk g old new × LeavesStill
      × (GivesReport report text ⊎ GivesFault text)

  -- this is what is done for the request: a response to it, which gives this fault; or an export,
  -- which is still to be read
  abbrev pub IsDoneFor : Request → Answer → Type 0
  IsDoneFor request (Text text fault) =
      IsAnswered request (text_or_memory text) × TellsFault fault (text_or_memory text)
  IsDoneFor request (Streamed kind) = (request ≡ wants (Export kind)) × (new ≡ old)
