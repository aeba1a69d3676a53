use Rattle.std.proofs.Common.{rules, w64}
use mir.Val.{SFits}
use Rattle.std.proofs.lemmas.Int.{to_z-of_z}
use Rattle.esc_store.proofs.Common.{◌≡◌, ℤ, refl, subst, option_map, if_goes, stored_entry}
use Rattle.esc_scan.specs.ObjectKeys.{object_with}
use Rattle.esc_store.specs.TableKeys.{key_at}
use Rattle.esc_store.proofs.Readers.{told_of, read_only}
use Rattle.esc_store.proofs.ReaderKeys.{object_found}
use Rattle.esc_store.proofs.reader.StoreReader.object_at.Goals as goal

pub returns-clause-object : goal.returns-clause-object
returns-clause-object g c =
    λ honest k stands. if_goes c.object_in_row.result _ _ c.object_in_row.ensures.entry (λ object entry.
    let told = told_of c.args.self.now c.in_ok-found.ensures.read honest k stands in
    let fits : SFits w64 c.args.key.now.rowid = search rules in
    let found = subst (λ (z : ℤ). option_map stored_entry c.in_ok-found.found
    ≡ object_with z told.content.objects) (to_z-of_z w64 c.args.key.now.rowid fits) told.says in
    object_found c.no_record_begins_another.ensures told.database
    k.registry told.content c.args.key.now.rowid (key_at c.args.key.now) c.in_ok-found.found object
    told.holds told.registry found entry)

pub returns-clause-same : goal.returns-clause-same
returns-clause-same g c = read_only refl c.in_ok-found.ensures.read
