-- Sections of a bundle, with and without where they lie in memory.
use Rattle.std.proofs.Common.{◌≡◌, ◌∙◌, ℕ, Bool, List, [], ◌∷◌, map, Option, Some, None, refl}
use Rattle.std.proofs.Common.{sym, ap, inl, inr}
use Rattle.std.specs.Prelude.{option_map}
use Rattle.std.specs.Option.{option_map_or}
use Rattle.std.specs.List.{find}
use Rattle.std.specs.Str.{bytes_eq}
use Rattle.std.proofs.lemmas.Bool.{cases_Bool}
use Rattle.esc_bundle.specs.declared.section.Section.{Section}
use Rattle.esc_bundle.specs.Bundle.{Named, view, views}
use Rattle.esc_tables.specs.TableRow.{bytes_named}

-- what is found in a mapped list
pub find_map : {A B : Type 0} (f : A → B) (test : B → Bool) (xs : List A)
    → find test (map f xs) ≡ option_map f (find (λ x. test (f x)) xs)
find_map f test [] = refl
find_map f test (x ∷ xs) =
    elim (cases_Bool (test (f x))) [ inl e ↦ rw e refl | inr e ↦ rw e (find_map f test xs) ]

seen : (o : Option Section)
    → option_map_or (λ s. s.bytes) (option_map view o) [] ≡ option_map_or (λ s. s.bytes.now) o []
seen None = refl
seen (Some s) = refl

-- the bytes of the section that was found
pub bytes_found : (files : List Section) (name : List ℕ) (o : Option Section)
    → o ≡ find (λ s. bytes_eq s.name.now name) files
    → bytes_named (views files) name ≡ option_map_or (λ s. s.bytes.now) o []
bytes_found files name o e = ap (λ (x : Option Named). option_map_or (λ s. s.bytes) x [])
    (find_map view (λ s. bytes_eq s.name name) files ∙ ap (option_map view) (sym e)) ∙ seen o
