-- What a draft has noted stays the same where a value is written that looks the same.
use Rattle.std.proofs.Common.{◌≡◌, List, [], ◌∷◌, Option, Some, refl, sym, ◌∙◌, ap, true, false, Bool}
use Rattle.std.specs.Prelude.{cond}
use Rattle.std.specs.Map.{lookup, set_value}
use Rattle.std.specs.Option.{option_map_or}

parted : {V B : Type 0} → (f : V → B) (e : B) (b : Bool) (v w : V) (o : Option V) → f w ≡ f v
    → option_map_or f (cond b (Some w) o) e ≡ option_map_or f (cond b (Some v) o) e
parted f e true v w o same = same
parted f e false v w o same = refl

-- each look-up finds what looks the same
pub lookup_same : {K V B : Type 0} → (f : V → B) (e : B) (test other : K → Bool) (es : List (K × V)) (old w : V)
    → lookup test es ≡ Some old → f w ≡ f old
    → option_map_or f (lookup other (set_value test es w)) e ≡ option_map_or f (lookup other es) e
lookup_same f e test other [] old w h same = refl
lookup_same {K} {V} {B} f e test other (x ∷ es) old w h same =
    (elim (test x.0) as (λ v. cond v (Some x.1) (lookup test es) ≡ Some old
    → option_map_or f (lookup other (cond v ((x.0, w) ∷ es) (x ∷ set_value test es w))) e
    ≡ option_map_or f (cond (other x.0) (Some x.1) (lookup other es)) e) [
      | true ↦ λ k. (let is : x.1 ≡ old = cc k in
          parted f e (other x.0) x.1 w (lookup other es) (same ∙ ap f (sym is)))
      | false ↦ λ k. (elim (other x.0)
          as (λ v. option_map_or f (cond v (Some x.1) (lookup other (set_value test es w))) e
          ≡ option_map_or f (cond v (Some x.1) (lookup other es)) e) [
            | true ↦ refl
            | false ↦ lookup_same f e test other es old w k same
          ])
    ]) h
