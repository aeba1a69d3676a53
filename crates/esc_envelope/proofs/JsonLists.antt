-- Arrays of JSON as lists.
use Rattle.std.proofs.Common.{◌≡◌, List, [], ◌∷◌, map, Option, Some, refl, sym, ap, ◌∙◌}
use Rattle.std.specs.Prelude.{option_map}
use Rattle.serde_json.specs.Data.{Data, Items}
use Rattle.serde_json.specs.View.{view, items_view, items_of}
use Rattle.serde_json.specs.declared.value.Value.{Value}
use Rattle.esc_envelope.specs.Members.{items_list}

items_back : (ds : List Data) → items_list (items_of ds) ≡ ds
items_back [] = refl
items_back (d ∷ ds) = ap (λ (l : List Data). d ∷ l) (items_back ds)

-- an array of JSON is a list of its values
pub array_is : (vs : List Value) (o : Option Items)
    → Some (items_view vs) ≡ o → Some (map view vs) ≡ option_map items_list o
array_is vs o same = ap (λ (l : List Data). Some l) (sym (items_back (map view vs)))
    ∙ ap (option_map items_list) same
