use Rattle.std.proofs.Common.{◌≡◌, ◌∙◌, ℕ, List, Bor, length, map, string_bytes, sym, ap}
use Rattle.std.specs.Prelude.{◌&&◌, ◌==◌}
use Rattle.std.specs.List.{list_all, zip}
use Rattle.std.proofs.lemmas.List.{length-map}
use Rattle.esc_envelope.specs.EnvelopeValue.{TableValue}
use Rattle.esc_pack.specs.KnownFields.{names_field}
use Rattle.esc_pack.proofs.Names.{pairs_seen}
use Rattle.esc_pack.proofs.table_text.is_heading.Goals as goal

pub returns : goal.returns
returns c =
    let names = c.deref-2.result.now in
    let texts = c.deref-3.result.now in
    let test = names_field c.deref.result.now in
    let name : c.deref.result.now ≡ c.args.table.now.name =
    c.deref.ensures ∙ ap (λ (t : TableValue). t.name) c.table.view_is in
    let row : map (λ (n : Bor (List ℕ)). n.now) names ≡ c.args.line.now =
    ap (map (λ (n : Bor (List ℕ)). n.now)) c.deref-2.ensures.value ∙ c.in_ok-names.ensures in
    let fields : map string_bytes texts ≡ c.args.table.now.fields =
    ap (map string_bytes) c.deref-3.ensures.value ∙ ap (λ (t : TableValue). t.fields) c.table.view_is in
    let few : length names ≡ length (map (λ (n : Bor (List ℕ)). n.now) names) =
    sym (length-map names (λ (n : Bor (List ℕ)). n.now)) in
    let many : length texts ≡ length (map string_bytes texts) = sym (length-map texts string_bytes) in
    c.are_all_named.ensures
    ∙ (λ k. (few k == many k) && pairs_seen (λ (n : Bor (List ℕ)). n.now) string_bytes test names texts k)
    ∙ (λ k. (length (row k) == length (fields k)) && list_all (names_field (name k)) (zip (row k) (fields k)))
