use Rattle.std.proofs.Common.{◌≡◌, ◌<◌, ◌==◌, ◌∙◌, ◌∷◌, [], ◌++◌, List, ℕ, ap, sym, subst, string_bytes}
use Rattle.std.specs.List.{count_by}
use Rattle.esc_zone.proofs.Telling.{one_more}
use Rattle.esc_zone.proofs.sheet.Sheet.tell.Goals as goal

pub returns-clause-told : goal.returns-clause-told
returns-clause-told c =
    let text = string_bytes c.args.self.now.told in
    let line = c.args.line.now in
    let all : string_bytes c.push_str-2.new.self ≡ (text ++ line) ++ 10 ∷ [] =
    c.in_ok-push_str-2.ensures.bytes
    ∙ ap (λ (t : List ℕ). t ++ 10 ∷ []) c.in_ok-push_str.ensures.bytes in
    subst (λ (t : List ℕ). count_by (λ b. b == 10) text < count_by (λ b. b == 10) t) (sym all)
    (one_more text line)
