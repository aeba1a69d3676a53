use Rattle.std.proofs.Common.{◌≡◌, sym, subst, true, true≢false}
use Rattle.std.specs.List.{list_all}
use Rattle.std.specs.Str.{is_utf8}
use Rattle.csv.specs.Records.{Row, fields_of, AllText}
use Rattle.esc_csv.proofs.FieldFacts.{all_text}
use Rattle.esc_csv.proofs.record.Record.texts.Goals as goal

pub unreachable-requires : goal.unreachable-requires
unreachable-requires c =
    let texts : list_all is_utf8 (fields_of c.self.inside.fields) ≡ true = rw c.self.view_is c.requires in
    true≢false (sym (c.in-Err.ensures.refused (subst (λ (r : Row). AllText (fields_of r))
    (sym c.in_ok-clone.ensures.cases) (all_text (fields_of c.self.inside.fields) texts))))
