use Rattle.std.proofs.Common.{List, ℕ, subst, refl}
use Rattle.esc_apply.specs.ObjectStreams.{Entry}
use Rattle.esc_store.specs.Pages.{IsPage}
use Rattle.esc_desk.specs.Places.{IsPlaceBehind}
use Rattle.esc_desk.proofs.WalkSteps.{no_items, turned}
use Rattle.esc_desk.proofs.pages.turn.Goals as goal

pub returns-clause-kept : goal.returns-clause-kept
returns-clause-kept g c = λ honest is used es come.
    let pages = c.args.pages.now in
    turned g.P.Paged.represents c.args.store.now c.objects_from.new.self pages _ es
    c.args.kind c.in_ok-page.page.items c.in_ok-page.ensures.read.stands come (no_items pages.page used) is
    (λ k stands. subst (λ (from : List ℕ). IsPage k.registry.content c.args.kind from
    c.in_ok-page.page.items) c.as_slice.ensures.value (c.in_ok-page.ensures.page honest k stands))
    (subst (λ (page : List Entry). IsPlaceBehind c.args.kind pages.alone page c.in_ok-next.next
    c.in_ok-next.from.items) c.as_slice-2.ensures.value c.in_ok-next.ensures.place)
    c.into_iter.ensures.rest refl
