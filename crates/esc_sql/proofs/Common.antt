-- The names that most proofs of this crate cite, passed on from one place. Declares nothing.
pub use Rattle.std.proofs.Common.{◌≡◌, ℕ, zero, suc, ◌<◌, ◌+◌, pos, true, false, List, [], ◌∷◌}
pub use Rattle.std.proofs.Common.{◌++◌, Ok, refl, arith, inl, inr, filter, ◌≤◌, ◌<ℤ◌, map, take}
pub use Rattle.std.proofs.Common.{length, get_or, Option, None, sym, ap, subst, ◌∙◌, ap₂, ◌⊎◌, Result}
pub use Rattle.std.proofs.Common.{Err, IsTrue}
pub use Rattle.std.proofs.Common.{OnOk, ℤ, Bool, not, cond, ◌&&◌, ◌||◌, slice_get, Some, option_map}
pub use Rattle.std.proofs.Common.{int_eq, true≢false, find, IsPermutation, Ordering, Less, Equal}
pub use Rattle.std.proofs.Common.{Greater, is_eq, ◌/◌, ◌==◌, ◌≢◌, ◌+ℤ◌, fold, is_some, reverse}
pub use Rattle.std.proofs.Common.{IfOk}
pub use Rattle.std.proofs.Common.{bytes_eq, ltb, IsSorted, int_cmp, rules}
pub use Rattle.std.proofs.lemmas.Bool.{cases_Bool, and_parts, eqb-true}
pub use Rattle.std.proofs.lemmas.Cmp.{nat_cmp_total, nat_list_cmp_total, nat_list_eq_equiv, on_total}
pub use Rattle.std.proofs.lemmas.Cmp.{int_ranked, and_equiv, on_equiv, nat_eq_equiv}
pub use Rattle.std.proofs.lemmas.Grind.{common_steps}
pub use Rattle.std.proofs.lemmas.Int.{ints}
pub use Rattle.std.proofs.lemmas.List.{take_more, length-map, get_or-map}
pub use Rattle.std.proofs.lemmas.List.Elements.{recursion_from_All, All-from_recursion}
pub use Rattle.std.proofs.lemmas.List.Sorted.{length_permutation, All-permutation}
pub use Rattle.std.proofs.lemmas.List.Sorted.{IsPermutation-reverse, list_any-IsPermutation}
pub use Rattle.std.proofs.lemmas.List.Sorted.{IsPermutation-map, IsPermutation-sym, IsPermutation-refl}
pub use Rattle.std.proofs.lemmas.Map.Text.{is_eq-slice_cmp}
pub use Rattle.std.proofs.lemmas.Slice.Eq.{bytes_eq-Decides}
pub use Rattle.std.specs.Cmp.{IsTotalOrder}
pub use Rattle.std.specs.Cmp.Lexicographic.{slice_cmp}
pub use Rattle.std.specs.List.{AllByRecursion, take-map, list_any, last_or, flat_map}
pub use Rattle.std.specs.Option.{option_to_list, option_or}
pub use Rattle.std.specs.Ordering.{ordering_then, nat_cmp}
pub use Rattle.sqlite.proofs.Callers.{IsPlain, command_of, statement_of, runs_as}
pub use Rattle.sqlite.proofs.InsideLemmas.{fails_whole, unchanged_keeps}
pub use Rattle.sqlite.proofs.StateLemmas.{survives_weaker}
pub use Rattle.sqlite.specs.Change.{created, next_tree}
pub use Rattle.sqlite.specs.Collation.TheVariants.{Binary}
pub use Rattle.sqlite.specs.Command.TheVariants.{Select, Insert, Update, Delete, CreateTable}
pub use Rattle.sqlite.specs.Does.{lacks_sequence, Tally, Does}
pub use Rattle.sqlite.specs.Edit.{edit_of, edited, Edit, id_in, without_all}
pub use Rattle.sqlite.specs.Effect.{Database, value_rows, IsDatabase}
pub use Rattle.sqlite.specs.Held.{state}
pub use Rattle.sqlite.specs.Listing.{understood, reads_listing}
pub use Rattle.sqlite.specs.Program.{overlay}
pub use Rattle.sqlite.specs.Query.{Query, Output, output_cmp, page, output}
pub use Rattle.sqlite.specs.Rowids.TheVariants.{Chosen, Given}
pub use Rattle.sqlite.specs.Rows.{stamped}
pub use Rattle.sqlite.specs.Schema.{Schema}
pub use Rattle.sqlite.specs.Source.TheVariants.{Values}
pub use Rattle.sqlite.specs.State.{State, mode_of, Executes, Shown, KeepsCommit, ExecutesInside}
pub use Rattle.sqlite.specs.Store.{Ghosts}
pub use Rattle.sqlite.specs.Table.{Table}
pub use Rattle.sqlite.specs.Term.{Term, col, lit, op1, op2, eval_all}
pub use Rattle.sqlite.specs.Tree.{IsAscending, Trees, put_row, rowid, without_rowid}
pub use Rattle.sqlite.specs.Values.{bound}
pub use Rattle.sqlite.specs.declared.error.Error.{Error}
pub use Rattle.sqlite.specs.declared.run.Mode.{Mode}
pub use Rattle.sqlite_keyed.proofs.KeyedLemmas.{IsKeyedBy-insert_by}
pub use Rattle.sqlite_keyed.proofs.ListLemmas.{slice_get-filter, filter_same, all_weaker}
pub use Rattle.sqlite_keyed.proofs.ListLemmas.{IsPermutation-filter, map-map, map_same}
pub use Rattle.sqlite_keyed.proofs.ListLemmas.{ascending_weaker, filter_all, all_of, ascending-filter}
pub use Rattle.sqlite_keyed.proofs.ListLemmas.{filter-map, ascending-map}
pub use Rattle.sqlite_keyed.proofs.SliceLemmas.{is_some-map}
pub use Rattle.sqlite_keyed.proofs.SortLemmas.{IsPermutation-sort_by}
pub use Rattle.sqlite_keyed.specs.Keyed.{IsKeyedBy, insert_by, has_key}
pub use Rattle.sqlite_keyed.specs.Lists.{update_where, sort_by, delete_where}
pub use Rattle.sqlite_keyed.specs.Rules.{AreApart}
pub use Rattle.sqlite_resolve.specs.declared.compiled.Compiled.{Compiled}
pub use Rattle.sqlite_rules.specs.Calls.{ids_of}
pub use Rattle.sqlite_rules.specs.Cast.{cast_row}
pub use Rattle.sqlite_schema.specs.Rules.{differ, agree}
pub use Rattle.sqlite_schema.specs.declared.command.Command.{Command}
pub use Rattle.sqlite_schema.specs.declared.command.Returning.{Returning}
pub use Rattle.sqlite_schema.specs.declared.program.Program.{Program}
pub use Rattle.sqlite_sql.specs.declared.ops.BinaryOp.TheVariants.{Compare}
pub use Rattle.sqlite_sql.specs.declared.ops.CompareOp.TheVariants.{Eq, Ge}
pub use Rattle.sqlite_sql.specs.declared.ops.UnaryOp.TheVariants.{ToNumeric, Length}
pub use Rattle.sqlite_value.proofs.OrderLemmas.{value_cmp-Int, value_cmp-Blob}
pub use Rattle.sqlite_value.specs.Order.{Row, column, value_cmp}
pub use Rattle.sqlite_value.specs.declared.keys.Key.{Key}
pub use Rattle.sqlite_value.specs.declared.value.Value.{Value}
pub use Rattle.sqlite_value.specs.declared.value.Value.TheVariants.{Null, Int, Blob, Text}
pub use Rattle.esc_sql.specs.Changes.{PutsListed, Becomes, PutsObjects, ObjectEntry, is_entry_at}
pub use Rattle.esc_sql.specs.Changes.{object_entry, by_key, entry_at, is_kind_from, by_image}
pub use Rattle.esc_sql.specs.Changes.{image_entry}
pub use Rattle.esc_sql.specs.Content.{HoldsContent, rows_of, number_in, Content, with_rows, object_at}
pub use Rattle.esc_sql.specs.Content.{is_object_at, is_same_key}
pub use Rattle.esc_sql.specs.Creation.{Builds}
pub use Rattle.esc_sql.specs.Entries.{listed_row, first_of, number_value, shown_entry}
pub use Rattle.esc_sql.specs.Entries.{shown_image_entry, stored_entry, new_entry, new_image}
pub use Rattle.esc_sql.specs.FirstVersion.{table_at, IsTableAdded, AddsTable, HoldsFirstContent}
pub use Rattle.esc_sql.specs.Parked.{by_digest, shown_digest, parked_digest}
pub use Rattle.esc_sql.specs.Part.{IsPart, RunsInside}
pub use Rattle.esc_sql.specs.Reading.{AreRead}
pub use Rattle.esc_sql.specs.ResultLaws.{if_goes, each_err}
pub use Rattle.esc_sql.specs.RowText.{is_write_text, is_read_text}
pub use Rattle.esc_sql.specs.Rows.{ListedRow, info_row, listed_number, ObjectRow, ReceiptRow}
pub use Rattle.esc_sql.specs.Rows.{shown_receipt, receipt_number, shown_step, shown_listed}
pub use Rattle.esc_sql.specs.Rows.{blob_or_null, number_or_null}
pub use Rattle.esc_sql.specs.Schema.{schema_of, store_schema, first_schema, info_tree, receipt_tree}
pub use Rattle.esc_sql.specs.Schema.{object_tree, undo_tree, parked_tree, moment_tree, info_table}
pub use Rattle.esc_sql.specs.Schema.{rising, no_schema}
pub use Rattle.esc_sql.specs.StatementSteps.{ShowsVersion, CountsObject, shown_object, shown_kind}
pub use Rattle.esc_sql.specs.StoreTable.{StoreTable, tree_of, stored_row, Listed, Receipts, Held, Steps}
pub use Rattle.esc_sql.specs.StoreTable.{Objects, Undo, Parked, Moment, RowOf, schema_table}
pub use Rattle.esc_sql.specs.StoreTable.{table_index, row_number, row_columns}
pub use Rattle.esc_sql.specs.Texts.{insert_info_text, raise_version_text, select_version_text}
pub use Rattle.esc_sql.specs.Texts.{insert_listed_text, select_listed_text, insert_receipt_text}
pub use Rattle.esc_sql.specs.Texts.{find_receipt_text, select_receipts_text, last_receipt_text}
pub use Rattle.esc_sql.specs.Texts.{verdict_rows_text}
pub use Rattle.esc_sql.specs.Texts.{verdict_digests_text, insert_held_text, find_body_text}
pub use Rattle.esc_sql.specs.Texts.{clear_steps_from_text, insert_step_text, select_steps_text}
pub use Rattle.esc_sql.specs.Texts.{insert_object_text, insert_objects_text, update_object_text}
pub use Rattle.esc_sql.specs.Texts.{delete_object_text}
pub use Rattle.esc_sql.specs.Texts.{clear_objects_text, find_object_text, objects_from_text}
pub use Rattle.esc_sql.specs.Texts.{select_kinds_text, insert_undo_text, insert_images_text}
pub use Rattle.esc_sql.specs.Texts.{select_undo_text, delete_undo_text, clear_undo_text}
pub use Rattle.esc_sql.specs.Texts.{insert_parked_text, find_parked_text, parked_digests_text}
pub use Rattle.esc_sql.specs.Texts.{parked_length_text, delete_parked_text, clear_moment_text, insert_moment_text}
pub use Rattle.esc_sql.specs.Texts.{find_moment_text}
pub use Rattle.esc_sql.specs.declared.object.TheConstants.{ROWS_AT_ONCE}
unfoldable pub use Rattle.sqlite_value.specs.Keys.{first_key}
