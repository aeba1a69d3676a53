-- The head of a response, piece by piece.
use Rattle.std.proofs.Common.{◌≡◌, ℕ, List, ◌++◌, append_assoc, codes}
use Rattle.std.specs.Fmt.{decimal}
use Rattle.esc_request.specs.Response.{crlf, response_head}

-- the head of a response as one row of pieces
abbrev pub head_pieces : List ℕ → List ℕ → List ℕ → ℕ → List ℕ
head_pieces status media allow size =
    codes "HTTP/1.1 " ++ status ++ codes "\r\nContent-Type: " ++ media ++ codes "\r\nContent-Length: "
    ++ decimal size ++ codes "\r\nConnection: close\r\n" ++ allow ++ codes "\r\n"

in_lines : (version status end kind media size number connection allow : List ℕ)
    → version ++ status ++ (end ++ kind)
    ++ media ++ (end ++ size) ++ number ++ (end ++ (connection ++ end)) ++ allow ++ end
    ≡ (version ++ status ++ end)
    ++ (kind ++ media ++ end) ++ (size ++ number ++ end) ++ (connection ++ end) ++ allow ++ end
in_lines version status end kind media size number connection allow = simp append_assoc

-- the pieces are the lines
pub head_lines : (status media allow : List ℕ) (size : ℕ)
    → head_pieces status media allow size ≡ response_head status media allow size
head_lines status media allow size =
    in_lines (codes "HTTP/1.1 ") status crlf (codes "Content-Type: ") media (codes "Content-Length: ")
    (decimal size) (codes "Connection: close") allow
