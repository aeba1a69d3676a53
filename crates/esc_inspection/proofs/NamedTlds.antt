-- The TLDs that bodies name, with one body more.
use Rattle.std.proofs.Common.{◌≡◌, ℕ, List, [], ◌∷◌, ◌++◌, Option, refl, ap, sym, map, ◌∙◌}
use Rattle.std.proofs.lemmas.List.{map_push}
use Rattle.esc_acceptance.specs.Tlds.{with_tld_of, with_tlds}
use Rattle.esc_events.specs.Events.{EventValue}
use Rattle.esc_inspection.specs.Parts.{body_at}

-- the last body comes after all others
last_body : (bodies : List (Option (List ℕ))) (body : Option (List ℕ)) (names : List (List ℕ))
    → with_tlds (bodies ++ body ∷ []) names ≡ with_tld_of body (with_tlds bodies names)
last_body [] body names = refl
last_body (b ∷ bodies) body names = last_body bodies body (with_tld_of b names)

-- one held row more
pub named_more : (e : List EventValue) (rows : List ℕ) (row : ℕ) (old new : List (List ℕ))
    → old ≡ with_tlds (map (body_at e) rows) [] → new ≡ with_tld_of (body_at e row) old
    → new ≡ with_tlds (map (body_at e) (rows ++ row ∷ [])) []
named_more e rows row old new before after =
    let body : ℕ → Option (List ℕ) = body_at e in
    after ∙ ap (with_tld_of (body row)) before
    ∙ sym (last_body (map body rows) (body row) [])
    ∙ ap (λ (bodies : List (Option (List ℕ))). with_tlds bodies []) (sym (map_push body rows row))
