use Rattle.std.proofs.Common.{◌≡◌, ◌-◌, ◌==◌, Bool, false, cond, List, [], ◌∷◌, ◌++◌, length}
use Rattle.std.proofs.Common.{Ok, Err, refl, sym, ap, ap₂, subst, ◌∙◌, arith}
use Rattle.std.proofs.lemmas.Bool.Decides.{nat_tests}
use Rattle.std.proofs.lemmas.Result.{IfOk-at_ok}
use Rattle.esc_manifest.specs.declared.row.MRow.{MRow}
use Rattle.esc_manifest.specs.declared.fault.ManifestFault.{ManifestFault}
use Rattle.esc_manifest.specs.Extension.{new_rows}
use Rattle.esc_events.specs.Events.{EventValue, union}
use Rattle.esc_events.specs.Events.EventValue.{listed}
use Rattle.esc_store.specs.declared.fault.StoreFault.TheVariants.{NoMemory}
use Rattle.esc_events.specs.Works.{IsWorkOf, no_work}
use Rattle.esc_desk.specs.Asked.{amendment_of}
use Rattle.esc_desk.specs.Amendments.{IsUnionWith}
use Rattle.esc_desk.specs.Reflection.{DeskReflects}
use Rattle.esc_desk.specs.Crashes.{CrashLeaves, doubtful_with}
use Rattle.esc_desk.proofs.NoRowMore.{new_count, alike_none, stands_none, works_none, amendment_is}
use Rattle.esc_desk.proofs.NoRowMore.{leaves_alike, leaves_before}
use Rattle.esc_desk.proofs.CrashLemmas.{made_at, refused_at}
use Rattle.esc_desk.proofs.Whole.{whole_as, whole_failed}
use Rattle.esc_desk.proofs.desk.Desk.amend.Goals as goal

pub returns-in-Err-NoMemory-clause-crash : goal.returns-in-Err-NoMemory-clause-crash
returns-in-Err-NoMemory-clause-crash g c = λ e doubtful served left. leaves_before
    g.S.Store _ e doubtful (amendment_of c.args.text.now) NoMemory left

pub returns-in-Err-Refused-clause-cause : goal.returns-in-Err-Refused-clause-cause
returns-in-Err-Refused-clause-cause g c =
    let is = c.in-Err-Refused.field-0-is in
    let refused = c.union_with.ensures.refused c.in-Err-Refused.refusal
    c.in-Err-Refused.row (c.in-Err-Refused.is ∙ ap (λ (f : ManifestFault). Err f) is) in
    rw is refused

pub returns-then-added-eq0-clause-amended : goal.returns-then-added-eq0-clause-amended
returns-then-added-eq0-clause-amended g c = λ clean e served.
    let serves = served.serves in
    let k = serves.kept in
    let stood = serves.stands_for in
    let first : c.manifest.result.now ≡ union e = c.manifest.ensures.kept k serves.stands ∙ stood.books.listed in
    let u = subst (λ (m : List MRow). IsUnionWith m c.args.text.now c.in-Ok.union)
    (sym c.manifest.ensures.manifest ∙ first) c.in-Ok.ensures.united in
    let count : length c.rows.result.now - length c.rows-2.result.now ≡ length (new_rows (union e) u.rows) =
    ap₂ (λ (a b : List MRow). length a - length b) (c.rows.ensures.rows ∙ u.is_union)
    (c.rows-2.ensures.rows ∙ first) ∙ new_count (union e) u.rows in
    let none : length (new_rows (union e) u.rows) ≡ 0 = grind (arith, nat_tests, count, c.if-added-eq0.true) in
    let is = sym (amendment_is c.args.text.now u.rows u.read) in
    record {
      adds = record {
        rows = u.rows;
        read = u.read;
        accepted = u.accepted ∙ ap (λ (m : List MRow). Ok m) u.is_union;
        count_is = sym none;
      };
      serves = subst (λ (x : EventValue). DeskReflects g.S.Store c.args.self.now (e ++ x ∷ [])) is (record {
        serves = record { kept = k; stands = serves.stands; stands_for = stands_none e u.rows none k stood };
        remembers = served.remembers;
      });
      works = subst (λ (x : EventValue). IsWorkOf e x no_work) is (works_none e u.rows none k stood);
      idle = λ same. refl;
    }

pub returns-then-added-eq0-clause-crash : goal.returns-then-added-eq0-clause-crash
returns-then-added-eq0-clause-crash g c = λ e doubtful served left.
    let serves = served.serves in
    let k = serves.kept in
    let stood = serves.stands_for in
    let first : c.manifest.result.now ≡ union e = c.manifest.ensures.kept k serves.stands ∙ stood.books.listed in
    let u = subst (λ (m : List MRow). IsUnionWith m c.args.text.now c.in-Ok.union)
    (sym c.manifest.ensures.manifest ∙ first) c.in-Ok.ensures.united in
    let count : length c.rows.result.now - length c.rows-2.result.now ≡ length (new_rows (union e) u.rows) =
    ap₂ (λ (a b : List MRow). length a - length b) (c.rows.ensures.rows ∙ u.is_union)
    (c.rows-2.ensures.rows ∙ first) ∙ new_count (union e) u.rows in
    let none : length (new_rows (union e) u.rows) ≡ 0 = grind (arith, nat_tests, count, c.if-added-eq0.true) in
    subst (λ (x : EventValue). CrashLeaves g.S.Store c.args.self.now.store.conn (e ++ x ∷ []) doubtful)
    (sym (amendment_is c.args.text.now u.rows u.read))
    (leaves_alike g.S.Store c.args.self.now.store.conn
    e (e ++ listed u.rows ∷ []) doubtful (alike_none e u.rows none) left)

pub returns-in-Ok-list_more-clause-amended : goal.returns-in-Ok-list_more-clause-amended
returns-in-Ok-list_more-clause-amended g c = λ clean e served.
    let serves = served.serves in
    let k = serves.kept in
    let stood = serves.stands_for in
    let first : c.manifest.result.now ≡ union e = c.manifest.ensures.kept k serves.stands ∙ stood.books.listed in
    let u = subst (λ (m : List MRow). IsUnionWith m c.args.text.now c.in-Ok.union)
    (sym c.manifest.ensures.manifest ∙ first) c.in-Ok.ensures.united in
    let count : length c.rows.result.now - length c.rows-2.result.now ≡ length (new_rows (union e) u.rows) =
    ap₂ (λ (a b : List MRow). length a - length b) (c.rows.ensures.rows ∙ u.is_union)
    (c.rows-2.ensures.rows ∙ first) ∙ new_count (union e) u.rows in
    let made = IfOk-at_ok _ c.in-Ok-list_more.is (c.list_more.ensures.made u.rows clean e served) u.is_union in
    let is = sym (amendment_is c.args.text.now u.rows u.read) in
    record {
      adds = record {
        rows = u.rows;
        read = u.read;
        accepted = u.accepted ∙ ap (λ (m : List MRow). Ok m) u.is_union;
        count_is = count;
      };
      serves = subst (λ (x : EventValue). DeskReflects g.S.Store c.list_more.new.self (e ++ x ∷ [])) is made.serves;
      works = subst (λ (x : EventValue). IsWorkOf e x c.in-Ok-list_more.work) is made.works;
      idle = λ none. let never : ⊥ = grind (arith, nat_tests, none, c.if-added-eq0.false) in absurd never;
    }

pub returns-in-Ok-list_more-clause-crash : goal.returns-in-Ok-list_more-clause-crash
returns-in-Ok-list_more-clause-crash g c = λ e doubtful served left.
    let serves = served.serves in
    let first : c.manifest.result.now ≡ union e =
    c.manifest.ensures.kept serves.kept serves.stands ∙ serves.stands_for.books.listed in
    let u = subst (λ (m : List MRow). IsUnionWith m c.args.text.now c.in-Ok.union)
    (sym c.manifest.ensures.manifest ∙ first) c.in-Ok.ensures.united in
    let leaves = made_at g.S.Store _ e doubtful (listed u.rows)
    c.in-Ok-list_more.is (c.list_more.ensures.crash u.rows e doubtful served left u.is_union) in
    let some : ((length c.rows.result.now - length c.rows-2.result.now) == 0) ≡ false =
    grind (arith, nat_tests, c.if-added-eq0.false) in
    subst (λ (t : Bool). CrashLeaves g.S.Store c.list_more.new.self.store.conn
    (e ++ amendment_of c.args.text.now ∷ []) (cond t doubtful [])) (sym some)
    (subst (λ (x : EventValue). CrashLeaves g.S.Store c.list_more.new.self.store.conn (e ++ x ∷ []) [])
    (sym (amendment_is c.args.text.now u.rows u.read)) leaves)

pub returns-in-Err-clause-crash : goal.returns-in-Err-clause-crash
returns-in-Err-clause-crash g c = λ e doubtful served left.
    let serves = served.serves in
    let first : c.manifest.result.now ≡ union e =
    c.manifest.ensures.kept serves.kept serves.stands ∙ serves.stands_for.books.listed in
    let u = subst (λ (m : List MRow). IsUnionWith m c.args.text.now c.in-Ok.union)
    (sym c.manifest.ensures.manifest ∙ first) c.in-Ok.ensures.united in
    let leaves = refused_at g.S.Store _ e doubtful (listed u.rows)
    c.in-Err.is (c.list_more.ensures.crash u.rows e doubtful served left u.is_union) in
    subst (λ (x : EventValue). CrashLeaves g.S.Store c.list_more.new.self.store.conn e (doubtful_with
    c.in-Err.fault x doubtful)) (sym (amendment_is c.args.text.now u.rows u.read)) leaves

pub returns-in-Err-Refused-clause-whole : goal.returns-in-Err-Refused-clause-whole
returns-in-Err-Refused-clause-whole g c =
    record { honest = λ clean. clean; counted = tt; uncounted = refl; lost = λ e served. served }

pub returns-in-Err-NoMemory-clause-whole : goal.returns-in-Err-NoMemory-clause-whole
returns-in-Err-NoMemory-clause-whole g c =
    record { honest = λ clean. clean; counted = tt; uncounted = refl; lost = λ e served. served }

pub returns-then-added-eq0-clause-whole : goal.returns-then-added-eq0-clause-whole
returns-then-added-eq0-clause-whole g c =
    record { honest = λ clean. clean; counted = omega arith; uncounted = tt; lost = tt }

pub returns-in-Ok-list_more-clause-whole : goal.returns-in-Ok-list_more-clause-whole
returns-in-Ok-list_more-clause-whole g c = whole_as g.S.Store c.in-Ok-list_more.is refl c.list_more.ensures.whole

pub returns-in-Err-clause-whole : goal.returns-in-Err-clause-whole
returns-in-Err-clause-whole g c = whole_failed g.S.Store c.in-Err.is c.list_more.ensures.whole
