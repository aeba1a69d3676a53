use Rattle.std.proofs.Common.{◌≡◌, ◌++◌, drop}
use Rattle.esc_check.specs.Gathered.{is_present, link_findings}
use Rattle.esc_check.proofs.link.check_links.Given as goal

abbrev pub invariant-loop-link : goal.invariant-loop-link
invariant-loop-link l = l.found.items ++ link_findings (is_present l.tables.entries) (drop
    l.link-index l.links) ≡ l.fn.found.items ++ link_findings (is_present l.tables.entries) l.links
