-- A reply as JSON (RFC 8259, and this project's profile): an object of eight members in the order
-- of their names, without white space.
use Rattle.std.specs.Prelude.{ℕ, List, Bool, Option, Some, None, codes}
use Rattle.serde_json.specs.Data.{Data, Members, object, member, no_members, put, string}
use Rattle.serde_json.specs.Data.{number as numeral, unsigned, null}
use Rattle.serde_json.specs.Written.{compact_text}
use Rattle.esc_store.specs.ReplyValue.{ReplyValue}
use Rattle.esc_reports.specs.Words.{verdict_word, copy_word, verdict_fault}

-- a text as JSON, and null where there is none; so of numbers and copies
abbrev pub text_data : Option (List ℕ) → Data
text_data None = null
text_data (Some text) = string text

abbrev pub number_data : Option ℕ → Data
number_data None = null
number_data (Some n) = numeral (unsigned n)

abbrev pub copy_data : Option Bool → Data
copy_data None = null
copy_data (Some again) = string (copy_word again)

abbrev pub reply_data : ReplyValue → Data
reply_data r =
    object (member (codes "copy") (copy_data r.again)
    (member (codes "fault") (text_data (verdict_fault r.verdict))
    (member (codes "id") (text_data r.id)
    (member (codes "number") (string r.number)
    (member (codes "orphans") (number_data r.orphans)
    (member (codes "receipt") (numeral (unsigned r.receipt))
    (member (codes "resend") (number_data r.resend)
    (member (codes "verdict") (string (verdict_word r.verdict)) no_members))))))))

-- members, with those of every reply
abbrev pub with_reply : ReplyValue → Members → Members
with_reply r ms =
    put (codes "fault") (text_data (verdict_fault r.verdict))
    (put (codes "verdict") (string (verdict_word r.verdict))
    (put (codes "number") (string r.number)
    (put (codes "receipt") (numeral (unsigned r.receipt)) ms)))

-- members, with those of the row that lists the body
abbrev pub with_row : ReplyValue → Members → Members
with_row r ms = put (codes "resend") (number_data r.resend)
    (put (codes "id") (text_data r.id) ms)

-- members, with those of a held deposit alone
abbrev pub with_holding : ReplyValue → Members → Members
with_holding r ms = put (codes "orphans") (number_data r.orphans)
    (put (codes "copy") (copy_data r.again) ms)

abbrev pub reply_text : ReplyValue → List ℕ
reply_text r = compact_text (reply_data r)
