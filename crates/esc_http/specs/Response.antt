-- The responses with a reply, a report or a refusal of the desk (this project's profile).
use Rattle.std.specs.Prelude.{ℕ, List, [], codes}
use Rattle.esc_store.specs.declared.fault.StoreFault.{StoreFault}
use Rattle.esc_store.specs.declared.fault.StoreFault.TheVariants.{Failed, NoMemory, NotAStore, NoRoom, NoPlace}
use Rattle.esc_store.specs.declared.reply.Verdict.{Verdict}
use Rattle.esc_store.specs.declared.reply.Verdict.TheVariants.{A1, A2, A3, A4, A5}
use Rattle.esc_store.specs.ReplyValue.{ReplyValue}
use Rattle.esc_reports.specs.declared.catalog.Report.{Report}
use Rattle.esc_reports.specs.declared.catalog.Report.TheVariants.{Status, Gaps, Links, Receipts}
use Rattle.esc_reports.specs.declared.catalog.Report.TheVariants.{Parked, Moment, Export}
use Rattle.esc_reports.specs.ReplyText.{reply_text}
use Rattle.esc_request.specs.Response.{response, unavailable}
use Rattle.esc_http.specs.declared.serve_fault.ServeFault.{ServeFault}
use Rattle.esc_http.specs.declared.serve_fault.ServeFault.TheVariants.{Read, Write}
use Rattle.esc_http.specs.declared.serve_fault.ServeFault.TheVariants.{Export as cut_export}

-- a fault of the desk; an open store never returns S3
abbrev pub fault_response : StoreFault → List ℕ
fault_response (Failed cause) = unavailable (codes "S1\n")
fault_response NoMemory = unavailable (codes "S2\n")
fault_response NotAStore = unavailable (codes "S1\n")
fault_response NoRoom = unavailable (codes "S4\n")
fault_response NoPlace = unavailable (codes "S5\n")

-- the deposit is held, its body is parked, or neither
abbrev pub reply_status : Verdict → List ℕ
reply_status A1 = codes "200 OK"
reply_status A2 = codes "422 Unprocessable Content"
reply_status (A3 n) = codes "422 Unprocessable Content"
reply_status A4 = codes "422 Unprocessable Content"
reply_status A5 = codes "202 Accepted"

-- the reply to an arrival
abbrev pub reply_response : ReplyValue → List ℕ
reply_response r = response (reply_status r.verdict) (codes "application/json") [] (reply_text r)

-- the media type of a report
abbrev pub report_media : Report → List ℕ
report_media Status = codes "text/plain"
report_media Gaps = codes "text/csv"
report_media Links = codes "text/csv"
report_media Receipts = codes "text/csv"
report_media Parked = codes "text/csv"
report_media Moment = codes "text/plain"
report_media (Export kind) = codes "text/csv"

-- the response with a report
abbrev pub report_response : Report → List ℕ → List ℕ
report_response report text = response (codes "200 OK") (report_media report) [] text

-- why a request was not served to its end
abbrev pub serve_fault_text : ServeFault → List ℕ
serve_fault_text Read = codes "read fault"
serve_fault_text Write = codes "write fault"
serve_fault_text (cut_export fault) = codes "export fault"
