use Rattle.std.proofs.Common.{◌≡◌, ℕ, ◌-◌, List, ◌++◌, length, take, drop, sym, ap, ◌∙◌}
use Rattle.std.proofs.Common.{append_assoc, take-append-drop}
use Rattle.std.proofs.lemmas.List.{take_rest}
use Rattle.std.proofs.KnownBytes.{Appends-trans}
use Rattle.esc_request.proofs.sending.send.Goals as goal

-- the first bytes of the rest go over to what was sent
sent_more : (text sent rest : List ℕ) (n : ℕ)
    → text ≡ sent ++ rest → text ≡ (sent ++ take n rest) ++ take (length rest - n) (drop n rest)
sent_more text sent rest n is =
    is
    ∙ ap (λ (l : List ℕ). sent ++ l) (sym (take-append-drop n rest))
    ∙ sym (append_assoc sent (take n rest) (drop n rest))
    ∙ ap (λ (l : List ℕ). (sent ++ take n rest) ++ l) (sym (take_rest rest n))

pub loop-rest-preserved : goal.loop-rest-preserved
loop-rest-preserved g c =
    let (sent, is, appended) = c.loop-rest.invariant in
    let rest = c.loop-rest.rest.now in
    let n = c.in_ok-count.count in
    (sent ++ take n rest, sent_more _ sent rest n is, Appends-trans _ _ _ _ _ appended c.in_ok-count.ensures.bytes)
