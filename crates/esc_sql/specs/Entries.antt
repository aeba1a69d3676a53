-- The values that the calls take and return, as typed rows.
use Rattle.std.specs.Prelude.{List, option_map, string_bytes, ℕ, pos, [], ◌∷◌}
use Rattle.sqlite_value.specs.declared.value.Value.{Value}
use Rattle.sqlite_value.specs.declared.value.Value.TheVariants.{Int, Blob}
use Rattle.sqlite_value.specs.Order.{Row, column}
use Rattle.esc_sql.specs.Rows.{ListedRow, ReceiptRow, HeldRow, StepRow, blob_or_null}
use Rattle.esc_sql.specs.declared.listed.Listed.{Listed}
use Rattle.esc_sql.specs.declared.receipt.Receipt.{Receipt}
use Rattle.esc_sql.specs.declared.step.ChainStep.{ChainStep}
use Rattle.esc_sql.specs.Changes.{ObjectEntry, ImageEntry}
use Rattle.esc_sql.specs.declared.object.StoredObject.{StoredObject}
use Rattle.esc_sql.specs.declared.object.NewObject.{NewObject}
use Rattle.esc_sql.specs.declared.undo.StoredImage.{StoredImage}
use Rattle.esc_sql.specs.declared.undo.NewImage.{NewImage}

abbrev pub stored_entry : StoredObject → ObjectEntry
stored_entry it = record { kind = it.kind; key = it.key.items; bytes = it.record.items }

abbrev pub new_entry : NewObject → ObjectEntry
new_entry it = record { kind = it.kind; key = it.key.now; bytes = it.record.items }

-- as the queries show an object
abbrev pub shown_entry : ObjectEntry → Row
shown_entry e = Int (pos e.kind) ∷ Blob e.key ∷ Blob e.bytes ∷ []

-- the value in a row's first column
abbrev pub first_of : Row → Value
first_of row = column row 0

abbrev pub number_value : ℕ → Value
number_value n = Int (pos n)

abbrev pub stored_image : StoredImage → ImageEntry
stored_image it = record {
  kind = it.kind;
  key = it.key.items;
  bytes = option_map (λ b. b.items) it.record;
}

abbrev pub new_image : NewImage → ImageEntry
new_image it = record {
  kind = it.kind;
  key = it.key.now;
  bytes = option_map (λ b. b.items) it.record;
}

abbrev pub shown_image_entry : ImageEntry → Row
shown_image_entry e = Int (pos e.kind) ∷ Blob e.key ∷ blob_or_null e.bytes ∷ []

abbrev pub listed_row : Listed → ListedRow
listed_row r = record {
  row = r.row;
  id = string_bytes r.id;
  kind = r.kind;
  watermark = r.watermark;
  prev = option_map string_bytes r.prev;
  resend = r.resend;
  digest = r.digest.items;
}

abbrev pub receipt_row : Receipt → ReceiptRow
receipt_row r = record {
  receipt = r.receipt;
  number = string_bytes r.number;
  digest = r.digest.items;
  verdict = r.verdict;
  fault = r.fault;
  row = r.row;
  again = r.again;
  orphans = r.orphans;
}

abbrev pub held_table_row : ℕ → List ℕ → HeldRow
held_table_row row body = record { row = row; body = body }

abbrev pub step_row : ChainStep → StepRow
step_row s = record { pos = s.pos; row = s.row }
