use Rattle.std.proofs.Common.{ap, sym}
use Rattle.esc_http.specs.Response.{reply_status}
use Rattle.esc_http.proofs.response.reply_status.Goals as goal

pub returns-in-A1 : goal.returns-in-A1
returns-in-A1 c = ap reply_status (sym c.in-A1.is)

pub returns-in-A5 : goal.returns-in-A5
returns-in-A5 c = ap reply_status (sym c.in-A5.is)
