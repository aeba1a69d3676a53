use Rattle.std.proofs.Common.{◌∙◌, ap, List, ℕ, Option, [], get_or}
use Rattle.std.specs.Prelude.{unwrap_or}
use Rattle.csv.specs.Records.{fields_of}
use Rattle.esc_csv.proofs.FieldFacts.{field_is}
use Rattle.esc_csv.proofs.record.Record.field.Goals as goal

pub returns-in-Some : goal.returns-in-Some
returns-in-Some c =
    ap (λ (o : Option (List ℕ)). unwrap_or o []) c.in-Some.ensures.value
    ∙ field_is (fields_of c.self.inside.fields) c.args.place
    ∙ ap (λ (fields : List (List ℕ)). get_or fields c.args.place []) c.self.view_is

pub returns-in-None : goal.returns-in-None
returns-in-None c =
    ap (λ (o : Option (List ℕ)). unwrap_or o []) c.in-None.ensures.value
    ∙ field_is (fields_of c.self.inside.fields) c.args.place
    ∙ ap (λ (fields : List (List ℕ)). get_or fields c.args.place []) c.self.view_is
