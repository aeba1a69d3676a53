use Rattle.std.proofs.Common.{◌≡◌, ◌∙◌, ◌++◌, refl}
use Rattle.esc_envelope.specs.declared.kind.Kind.TheVariants.{Registrar, Contact, Host, Domain, Idn, Nndn}
use Rattle.esc_deposit.specs.FullBundle.{counted_kind}
use Rattle.esc_deposit.proofs.Counted.{counted_more}
use Rattle.esc_deposit.proofs.counts.counts_with.Goals as goal

pub returns : goal.returns
returns c = λ es is.
    let run = c.args.objects.now in
    let e0 : c.in_ok-count_more.field-0 ≡ counted_kind (es ++ run) Registrar =
    (rw is at c.in_ok-count_more.ensures) ∙ counted_more es run Registrar in
    let e1 : c.in_ok-count_more-2.field-0 ≡ counted_kind (es ++ run) Contact =
    (rw is at c.in_ok-count_more-2.ensures) ∙ counted_more es run Contact in
    let e2 : c.in_ok-count_more-3.field-0 ≡ counted_kind (es ++ run) Host =
    (rw is at c.in_ok-count_more-3.ensures) ∙ counted_more es run Host in
    let e3 : c.in_ok-count_more-4.field-0 ≡ counted_kind (es ++ run) Domain =
    (rw is at c.in_ok-count_more-4.ensures) ∙ counted_more es run Domain in
    let e4 : c.in_ok-count_more-5.field-0 ≡ counted_kind (es ++ run) Idn =
    (rw is at c.in_ok-count_more-5.ensures) ∙ counted_more es run Idn in
    let e5 : c.in_ok-count_more-6.field-0 ≡ counted_kind (es ++ run) Nndn =
    (rw is at c.in_ok-count_more-6.ensures) ∙ counted_more es run Nndn in
    rw (e0, e1, e2, e3, e4, e5) refl
