use Rattle.std.proofs.Common.{◌++◌, List, [], ◌∷◌, ℕ, map, sym, ap, ap₂, ◌∙◌}
use Rattle.std.proofs.lemmas.List.{take_more, map-append}
use Rattle.std.proofs.lemmas.List.Elements.{All-push}
use Rattle.esc_store.specs.StandingLaws.{was_honest, as_before_then}
use Rattle.esc_store.specs.declared.parked.ParkedBody.{ParkedBody}
use Rattle.esc_store.specs.Parks.{IsParkedBody}
use Rattle.esc_desk.proofs.desk_reads.parked_bodies.Goals as goal

pub loop-digest-preserved : goal.loop-digest-preserved
loop-digest-preserved g c =
    let now = c.loop-digest.invariant in
    let found = c.loop-digest.bodies.items in
    let digest_of : ParkedBody → List ℕ = λ p. p.digest in
    let added = ap (λ (d : List ℕ). d ∷ []) c.in_ok-parked_body.ensures.digest in
    let clean_before = was_honest c.parked_body.ensures.same in
    record {
      same = as_before_then now.same c.parked_body.ensures.same;
      digests =
          ap (map digest_of) c.in_ok-push.ensures.items
          ∙ map-append digest_of found _
          ∙ ap₂ (λ (xs ys : List (List ℕ)). xs ++ ys) now.digests added
          ∙ sym (take_more c.args.digests.now c.loop-digest.digest-index _ c.loop-digest-test.true);
      each = λ clean k stood.
          let parked = c.in_ok-parked_body.ensures.parked clean k (now.same.stands k stood) in
          rw c.in_ok-push.ensures.items
          (All-push (IsParkedBody k.parked) found _ (now.each (clean_before clean) k stood) parked);
    }
