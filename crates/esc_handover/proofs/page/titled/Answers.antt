use Rattle.esc_handover.proofs.Titled.{has_title, if_ok}
use Rattle.esc_handover.proofs.Within.{within_page}
use Rattle.esc_handover.proofs.page.titled.Goals as goal

pub returns-clause-title : goal.returns-clause-title
returns-clause-title c = if_ok _ _ c.into_page.result
    (λ page is. has_title c.args.title.now c.args.style.now _ page.items is) c.into_page.ensures.page

pub returns-clause-parts : goal.returns-clause-parts
returns-clause-parts c = if_ok _ _ c.into_page.result
    (λ page is piece. within_page c.args.title.now c.args.style.now c.args.body page.items piece is)
    c.into_page.ensures.page
