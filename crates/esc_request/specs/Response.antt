-- The texts of responses (RFC 9112, section 4; this project's profile): lines that end with CR LF,
-- and a body.
use Rattle.std.specs.Prelude.{ℕ, List, [], ◌++◌, length, codes}
use Rattle.std.specs.Fmt.{decimal}
use Rattle.esc_request.specs.declared.refusal.Refusal.{Refusal}
use Rattle.esc_request.specs.declared.refusal.Refusal.TheVariants.{BadRequest, NotFound, PutOnly}
use Rattle.esc_request.specs.declared.refusal.Refusal.TheVariants.{GetOnly, BadNumber}
use Rattle.esc_request.specs.declared.refusal.Refusal.TheVariants.{LengthRequired, TooLarge}

-- the end of a line
abbrev pub crlf : List ℕ
crlf = codes "\r\n"

-- the status line, the headers in their order, and an empty line; `allow` is one more header line,
-- or nothing
abbrev pub response_head : List ℕ → List ℕ → List ℕ → ℕ → List ℕ
response_head status media allow size =
    (codes "HTTP/1.1 " ++ status ++ crlf) ++ (codes "Content-Type: " ++ media ++ crlf)
    ++ (codes "Content-Length: " ++ decimal size ++ crlf)
    ++ (codes "Connection: close" ++ crlf) ++ allow ++ crlf

-- the head, and the body
abbrev pub response : List ℕ → List ℕ → List ℕ → List ℕ → List ℕ
response status media allow body = response_head status media allow (length body) ++ body

-- a response whose body is these words, as plain text
abbrev pub plain : List ℕ → List ℕ → List ℕ
plain status words = response status (codes "text/plain") [] words

-- 405 for another method than the route's
abbrev pub only : List ℕ → List ℕ
only method = response (codes "405 Method Not Allowed") (codes "text/plain")
    (codes "Allow: " ++ method ++ crlf) (codes "method not allowed\n")

-- the response to a request that is refused
abbrev pub refusal_response : Refusal → List ℕ
refusal_response BadRequest = plain (codes "400 Bad Request") (codes "bad request\n")
refusal_response NotFound = plain (codes "404 Not Found") (codes "not found\n")
refusal_response PutOnly = only (codes "PUT")
refusal_response GetOnly = only (codes "GET")
refusal_response BadNumber = plain (codes "400 Bad Request") (codes "N1\n")
refusal_response LengthRequired = plain (codes "411 Length Required") (codes "length required\n")
refusal_response TooLarge = plain (codes "413 Content Too Large") (codes "too large\n")

-- 503 with these words: the request can't be served now
abbrev pub unavailable : List ℕ → List ℕ
unavailable words = plain (codes "503 Service Unavailable") words

-- the out-of-memory response
abbrev pub out_of_memory : List ℕ
out_of_memory = unavailable (codes "S2\n")
