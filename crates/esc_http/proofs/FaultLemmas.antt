-- Which fault of the desk a response gives.
use Rattle.std.proofs.Common.{◌≡◌, ℕ, List, [], get_or, codes, refl, sym, ◌∙◌, ap, subst, arith}
use Rattle.std.proofs.Common.{Option, Some, None, IfSome}
use Rattle.std.specs.Global.{Vec}
use Rattle.sqlite_trees.specs.declared.store.Store.{Ghosts}
use Rattle.esc_store.specs.declared.fault.StoreFault.{StoreFault}
use Rattle.esc_store.specs.declared.reply.Verdict.{Verdict}
use Rattle.esc_store.specs.declared.reply.Verdict.TheVariants.{A1, A2, A3, A4, A5}
use Rattle.esc_store.specs.ReplyValue.{ReplyValue}
use Rattle.esc_desk.specs.declared.desk.Desk.{Desk}
use Rattle.esc_reports.specs.declared.catalog.Report.{Report}
use Rattle.esc_reports.specs.ReplyText.{reply_text}
use Rattle.esc_request.specs.declared.refusal.Refusal.{Refusal}
use Rattle.esc_request.specs.declared.refusal.Refusal.TheVariants.{BadRequest, NotFound, PutOnly}
use Rattle.esc_request.specs.declared.refusal.Refusal.TheVariants.{GetOnly, BadNumber}
use Rattle.esc_request.specs.declared.refusal.Refusal.TheVariants.{LengthRequired, TooLarge}
use Rattle.esc_request.specs.Response.{response, unavailable, refusal_response}
use Rattle.esc_http.specs.declared.answer.Answer.{Answer}
use Rattle.esc_http.specs.declared.answer.Answer.TheVariants.{Text}
use Rattle.esc_http.specs.Answering.{Request, IsAnswered, IsDoneFor, TellsFault, told_of, text_or_memory}
use Rattle.esc_http.specs.Response.{fault_response, reply_status, reply_response, report_response}

-- a status begins with its first digit, the tenth byte of a response: 2 (50), 4 (52) or 5 (53)
digit_2 : (text words : List ℕ) → get_or text 9 0 ≡ 50 → text ≡ unavailable words → ⊥
digit_2 text words first is =
    let clash : 50 ≡ 53 = sym first ∙ ap (λ (l : List ℕ). get_or l 9 0) is in omega (arith, clash)

digit_4 : (text words : List ℕ) → get_or text 9 0 ≡ 52 → text ≡ unavailable words → ⊥
digit_4 text words first is =
    let clash : 52 ≡ 53 = sym first ∙ ap (λ (l : List ℕ). get_or l 9 0) is in omega (arith, clash)

-- a refusal of a request is no 503
pub not_refusal : (r : Refusal) (words : List ℕ) → refusal_response r ≡ unavailable words → ⊥
not_refusal BadRequest words is = digit_4 _ words refl is
not_refusal NotFound words is = digit_4 _ words refl is
not_refusal PutOnly words is = digit_4 _ words refl is
not_refusal GetOnly words is = digit_4 _ words refl is
not_refusal BadNumber words is = digit_4 _ words refl is
not_refusal LengthRequired words is = digit_4 _ words refl is
not_refusal TooLarge words is = digit_4 _ words refl is

not_verdict : (v : Verdict) (media body words : List ℕ)
    → response (reply_status v) media [] body ≡ unavailable words → ⊥
not_verdict A1 media body words is = digit_2 _ words refl is
not_verdict A2 media body words is = digit_4 _ words refl is
not_verdict (A3 n) media body words is = digit_4 _ words refl is
not_verdict A4 media body words is = digit_4 _ words refl is
not_verdict A5 media body words is = digit_2 _ words refl is

-- a reply is no 503
pub not_reply : (r : ReplyValue) (words : List ℕ) → reply_response r ≡ unavailable words → ⊥
not_reply r words is = not_verdict r.verdict (codes "application/json") (reply_text r) words is

-- a report is no 503
pub not_report : (report : Report) (text words : List ℕ) → report_response report text ≡ unavailable words → ⊥
not_report report text words is = digit_2 _ words refl is

-- a response that is no 503, or the out-of-memory response
pub tells_none : (o : Option (Vec ℕ)) (expected : List ℕ) → IfSome o (λ text. text.items ≡ expected)
    → ((words : List ℕ) → expected ≡ unavailable words → ⊥) → TellsFault (told_of o None) (text_or_memory o)
tells_none None expected is other = refl
tells_none (Some text) expected is other = λ words bad. other words (sym is ∙ bad)

-- a response with a fault, or the out-of-memory response
pub tells_some : (o : Option (Vec ℕ)) (fault : StoreFault) → IfSome o (λ text. text.items ≡ fault_response fault)
    → TellsFault (told_of o (Some fault)) (text_or_memory o)
tells_some None fault is = refl
tells_some (Some text) fault is = is

-- an answer is what it was made of
pub answer_is : {S : Type 0} (g : Ghosts S) (old new : Desk S) (request : Request) (answer : Answer)
    (text : Option (Vec ℕ)) (fault : Option StoreFault) → answer ≡ Text text (told_of text fault)
    → IsAnswered g old new request (text_or_memory text)
    → TellsFault (told_of text fault) (text_or_memory text) → IsDoneFor g old new request answer
answer_is g old new request answer text fault is answered tells =
    subst (λ (a : Answer). IsDoneFor g old new request a) (sym is) (answered, tells)
