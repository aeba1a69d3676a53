-- The names that most proofs of this crate cite, passed on from one place. Declares nothing.
pub use Rattle.std.proofs.Common.{◌≡◌, ℕ, suc, Bool, true, false, cond, List, [], ◌∷◌, length, filter}
pub use Rattle.std.proofs.Common.{Option, None, Some, refl, sym, ap, subst, ◌∙◌, arith, inl, inr, ◌==◌}
pub use Rattle.std.proofs.Common.{◌&&◌, bytes_eq, find, option_map, IsSome, IfSome, if◌then◌else◌}
pub use Rattle.std.proofs.Common.{zero, ◌+◌, ◌<◌, ◌++◌, take, get_or, map, IsTrue, Result, Ok, Err}
pub use Rattle.std.proofs.Common.{OnErr, IsErr, is_some, OnOk, pos, IfErr, ◌<ℤ◌, ◌≤◌, slice_get, ℤ, not}
pub use Rattle.std.proofs.Common.{◌↔◌, ◌⊎◌, eqb, true≢false, IsSorted, drop, int_eq, ap₂}
pub use Rattle.std.proofs.lemmas.Bool.{cases_Bool, eqb-true, and_parts, both_ways}
pub use Rattle.std.proofs.lemmas.Bool.Decides.{nat_tests}
pub use Rattle.std.proofs.lemmas.Int.{ints}
pub use Rattle.std.proofs.lemmas.List.{length-map, length-take-le, get_or-map, take_more, map-append}
pub use Rattle.std.proofs.lemmas.List.{append-nil, take_all, drop_all, drop_more, map_more, map_push}
pub use Rattle.std.proofs.lemmas.List.Elements.{All-from_recursion}
pub use Rattle.std.proofs.lemmas.Map.Keys.{IsDistinct-from_sorted}
pub use Rattle.std.proofs.lemmas.Result.{IfOk-at_ok, IfErr-at_err, IfOk-weaker, IfErr-weaker, on_ok_weaker}
pub use Rattle.std.proofs.lemmas.Slice.Eq.{bytes_eq-Decides}
pub use Rattle.std.specs.BTreeMap.{IsOrdered}
pub use Rattle.std.specs.Cmp.Lexicographic.{slice_cmp}
pub use Rattle.std.specs.List.{AllByRecursion, Contains, Any, dedup}
pub use Rattle.std.specs.Map.{lookup, keys_of}
pub use Rattle.std.specs.Option.{option_and_then, option_or, unwrap_or, option_eq}
pub use Rattle.std.specs.Ordering.{nat_cmp}
pub use Rattle.std.specs.declared.cmp.Ordering.TheVariants.{Less}
pub use Rattle.sqlite.proofs.StateLemmas.{survives_weaker, survives_then}
pub use Rattle.sqlite.specs.Effect.{Database}
pub use Rattle.sqlite.specs.Held.{Held, state}
pub use Rattle.sqlite.specs.State.{HasCleanDisk, Survives, KeepsCommit, Shows, IsUnchanged, State as ConnState}
pub use Rattle.sqlite_keyed.proofs.ListLemmas.{all_weaker}
pub use Rattle.sqlite_keyed.specs.Keyed.{insert_by, IsKeyedBy}
pub use Rattle.sqlite_trees.specs.Tree.{Trees, IsAscending}
pub use Rattle.sqlite_trees.specs.declared.store.Store.{Ghosts}
pub use Rattle.sqlite_value.specs.Order.{Row, column}
pub use Rattle.esc_apply.specs.Changes.{with_object, CanBePut}
pub use Rattle.esc_apply.specs.ObjectStreams.{Entry}
pub use Rattle.esc_apply.specs.Registry.{State, written, empty, Befores, noted}
pub use Rattle.esc_apply.specs.declared.front.Step.{Step}
pub use Rattle.esc_apply.specs.declared.registry.Keys.{Keys}
pub use Rattle.esc_envelope.specs.KindLaws.{one_kind}
pub use Rattle.esc_envelope.specs.Kinds.{kind_rank}
pub use Rattle.esc_envelope.specs.declared.kind.Kind.{Kind}
pub use Rattle.esc_envelope.specs.declared.kind.Kind.TheVariants.{Registrar, Contact, Host, Domain, Idn, Nndn}
pub use Rattle.esc_manifest.specs.ManifestRows.{no_row}
pub use Rattle.esc_manifest.specs.declared.row.MRow.{MRow}
pub use Rattle.esc_record.specs.Record.{record_of}
pub use Rattle.esc_sql.specs.Changes.{receipt_of, ObjectEntry, ImageEntry, is_entry_at, entry_at, Tells}
pub use Rattle.esc_sql.specs.Changes.{last_number, ListsRows, Becomes, verdict_digests, GainsImages}
pub use Rattle.esc_sql.specs.Changes.{GainsObjects, body_of}
pub use Rattle.esc_sql.specs.Content.{Content, object_at, content_in, image_at, HoldsContent, parked_at}
pub use Rattle.esc_sql.specs.ContentIs.{content_is}
pub use Rattle.esc_sql.specs.Creation.{TellsVersion}
pub use Rattle.esc_sql.specs.Entries.{step_row, new_entry, new_image, stored_image, stored_entry}
pub use Rattle.esc_sql.specs.Entries.{receipt_row, listed_row}
pub use Rattle.esc_sql.specs.Part.{IsPart, IsRead}
pub use Rattle.esc_sql.specs.ResultLaws.{if_goes}
pub use Rattle.esc_sql.specs.Rows.{ObjectRow, ReceiptRow, StepRow, ListedRow, listed_number}
pub use Rattle.esc_sql.specs.Schema.{info_tree}
pub use Rattle.esc_sql.specs.declared.object.NewObject.{NewObject}
pub use Rattle.esc_sql.specs.declared.receipt.Receipt.{Receipt}
pub use Rattle.esc_sql.specs.declared.step.ChainStep.{ChainStep}
pub use Rattle.esc_store.specs.ChangeParts.{ContinuesSteps}
pub use Rattle.esc_store.specs.Decoded.{tallies, AreImagesOf, AreOnce}
pub use Rattle.esc_store.specs.Filling.{after_filling, after_noting, image_now, AreFree}
pub use Rattle.esc_store.specs.FirstVersion.{IsFirstDatabase}
pub use Rattle.esc_store.specs.StoreState.{AreCounts, step_at, StoreState, fresh, with_listed}
pub use Rattle.esc_store.specs.StoreState.{with_parked, AreParked, with_body}
pub use Rattle.esc_store.specs.ListLaws.{any_weaker}
pub use Rattle.esc_store.specs.Opening.{IsSettled}
pub use Rattle.esc_store.specs.Pages.{entry_row, record_row, AreRowsOf}
pub use Rattle.esc_store.specs.Remembered.{IsRemembered, nothing_read}
pub use Rattle.esc_store.specs.ReplyValue.{ReceiptValue, ReplyValue, replies_from, reply_alike}
pub use Rattle.esc_store.specs.ResultLaws.{if_ok}
pub use Rattle.esc_store.specs.Representation.{IsAtRest, IsAtRestIfClean, IsStanding, IsBegun, IsMade}
pub use Rattle.esc_store.specs.Representation.{IsUnderWay, ChangeOf, ChangeFollows, IsStep}
pub use Rattle.esc_store.specs.Representation.{IsUncommitted, IsChangePart, listed_by, IsLook}
pub use Rattle.esc_store.specs.Representation.{IsStoreRead, IsTold, IsHonest, HasMadeTables, store_in}
pub use Rattle.esc_store.specs.Representation.{Settles}
pub use Rattle.esc_store.specs.StandingLaws.{was_clean, goes_then, survives_same}
pub use Rattle.esc_store.specs.StoreTables.{IsStoreDatabase, HoldsTables}
pub use Rattle.esc_store.specs.TypedRows.{record_at_key, IsRegistry, receipts_from, steps_from, IsBooks}
pub use Rattle.esc_store.specs.TypedRows.{kind_numbered, image_kept, listed_from, indexed_row}
pub use Rattle.esc_store.specs.TypedRows.{verdict_number}
pub use Rattle.esc_store.specs.declared.remembered.Remembered.{Remembered}
pub use Rattle.esc_store.specs.declared.fault.StoreFault.{StoreFault}
pub use Rattle.esc_store.specs.declared.reply.Verdict.{Verdict}
pub use Rattle.esc_store.specs.declared.reply.Verdict.TheVariants.{A2}
pub use Rattle.esc_store.specs.declared.store.Store.{Store}
pub use Rattle.esc_tables.specs.KeyLaws.{keys_alike, one_key as same_key}
pub use Rattle.esc_tables.specs.KeyName.{KeyName, key_eq, key_cmp}
pub use Rattle.esc_tables.specs.ObjectValue.{ObjectValue}
pub use Rattle.std.proofs.Common.{IfOk}
pub use Rattle.std.proofs.lemmas.Option.{same_Some}
pub use Rattle.esc_sql.specs.StoreTable.{Objects, Undo}
unfoldable pub use Rattle.esc_store.specs.Representation.{
  Represents,
  BeganIn,
  HasMadeBooksIn,
  HasMadeTablesIn,
  HoldsKept,
  LeavesOr,
  LeavesOnly,
}
unfoldable pub use Rattle.esc_store.specs.StoreTables.{IsStore}
