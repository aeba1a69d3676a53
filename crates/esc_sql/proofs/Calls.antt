-- The names that the answers cite, passed on from one place. Declares nothing.
pub use Rattle.esc_sql.proofs.Common.{arith, subst, PutsListed, listed_row, ◌+◌, sym, table_at}
pub use Rattle.esc_sql.proofs.Common.{schema_of, ◌≡◌, Ok, state, Error, IsPart, Builds, no_schema}
pub use Rattle.esc_sql.proofs.Common.{rules, ShowsVersion, refl, ◌∙◌, shown_listed, if_goes, map}
pub use Rattle.esc_sql.proofs.Common.{map-map, sort_by}
pub use Rattle.esc_sql.proofs.Common.{object_entry, by_key, stored_entry, shown_entry, ap, length-map}
pub use Rattle.esc_sql.proofs.Common.{get_or-map, bound, new_entry, first_of, number_value, shown_kind}
pub use Rattle.esc_sql.proofs.Common.{zero, ◌≢◌, ObjectEntry, CountsObject, filter, take, take-map}
pub use Rattle.esc_sql.proofs.Common.{is_kind_from}
pub use Rattle.esc_sql.proofs.Common.{shown_object, by_digest, parked_digest, shown_digest, ◌<◌, ◌++◌}
pub use Rattle.esc_sql.proofs.Common.{◌∷◌, [], length, shown_receipt, Some, None, slice_get}
pub use Rattle.esc_sql.proofs.Common.{common_steps, shown_step, survives_weaker, Err, each_err}
pub use Rattle.esc_sql.proofs.Common.{new_image, image_entry}
pub use Rattle.esc_sql.proofs.Common.{by_image, shown_image_entry, IsTrue, RunsInside, inl}
pub use Rattle.esc_sql.proofs.Compiled.{select_version_is}
pub use Rattle.esc_sql.proofs.CreateLemmas.{adds_next, adds_table, builds, AddsBoth, adds_both}
pub use Rattle.esc_sql.proofs.CreateLemmas.{shows_version, makes_empty, raises}
pub use Rattle.esc_sql.proofs.DecodeLemmas.{reads_back, reads_each, reads_numbers, numbers_are, one_more}
pub use Rattle.esc_sql.proofs.EndLemmas.{rollback_ends, rollback_keeps, rollback_undoes}
pub use Rattle.esc_sql.proofs.EndLemmas.{rollback_commits_none, begin_ends, begin_shows, begin_keeps}
pub use Rattle.esc_sql.proofs.EndLemmas.{begin_commits_none, commit_shows, commit_leaves, commit_ends}
pub use Rattle.esc_sql.proofs.EndLemmas.{fails_keeps}
pub use Rattle.esc_sql.proofs.Forms.{opens_first, opens_store}
pub use Rattle.esc_sql.proofs.ObjectLemmas.{finds_object, clears_objects, removes_object}
pub use Rattle.esc_sql.proofs.ObjectLemmas.{inserts_objects, update_part, adds_object, puts_set}
pub use Rattle.esc_sql.proofs.ObjectLemmas.{puts_new}
pub use Rattle.esc_sql.proofs.ObjectLists.{shows_kinds, lists_kinds, shows_from, lists_from}
pub use Rattle.esc_sql.proofs.ParkedLemmas.{finds_moment, clears_moment, moment_is, sets_moment}
pub use Rattle.esc_sql.proofs.ParkedLemmas.{shows_length, shows_digests, finds_parked, removes_parked, puts_parked}
pub use Rattle.esc_sql.proofs.ParkedLemmas.{lists_parked}
pub use Rattle.esc_sql.proofs.PartLemmas.{parts, part_as, then_part, tells, makes, read_part, read_then, refused}
pub use Rattle.esc_sql.proofs.ReceiptLemmas.{shows_verdict_digests, shows_last, finds_receipt}
pub use Rattle.esc_sql.proofs.ReceiptLemmas.{shows_receipts, shows_rows, adds_receipt, last_is, none_is}
pub use Rattle.esc_sql.proofs.ReceiptLemmas.{lists_rows}
pub use Rattle.esc_sql.proofs.RowTexts.{within, commits_none}
pub use Rattle.esc_sql.proofs.ShapeLemmas.{tests_first}
pub use Rattle.esc_sql.proofs.TableLemmas.{finds_body, holds_body, shows_listed, puts_listed}
pub use Rattle.esc_sql.proofs.TableLemmas.{shows_steps, clears_steps_from, adds_step}
pub use Rattle.esc_sql.proofs.UndoLemmas.{shows_images, clears_undo, removes_images, puts_images}
pub use Rattle.esc_sql.proofs.UndoLemmas.{puts_image, lists_images, of_step}
pub use Rattle.esc_sql.proofs.Values.{bound_text, bound_number, bound_blob}
