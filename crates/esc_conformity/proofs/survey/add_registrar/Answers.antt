use Rattle.std.proofs.Common.{◌≡◌, true, cond, rules, subst}
use Rattle.std.specs.BTreeSet as sorted
use Rattle.esc_envelope.specs.Kinds.{is_kind}
use Rattle.esc_envelope.specs.declared.kind.Kind.TheVariants.{Registrar}
use Rattle.esc_tables.specs.KeyName.{KeyName, key_cmp, key_eq}
use Rattle.esc_conformity.proofs.Sets.{put_in}
use Rattle.esc_conformity.proofs.survey.add_registrar.Goals as goal

pub returns-in_ok-insert : goal.returns-in_ok-insert
returns-in_ok-insert c = λ q.
    let old = c.args.registrars.now in
    let asked : is_kind c.args.key.now.kind Registrar ≡ true = search rules in
    put_in old c.args.key.now q c.insert.new.self _ asked
    (subst (λ (k : KeyName). sorted.contains key_cmp c.insert.new.self q
    ≡ cond (key_eq k q) true (sorted.contains key_cmp old q)) c.in_ok-copy.ensures
    (c.in_ok-insert.ensures.updates.0 q))
