use Rattle.std.proofs.Common.{◌≡◌, map, take}
use Rattle.esc_acceptance.specs.Acceptance.{passes}
use Rattle.esc_acceptance.proofs.line.lines_of_tests.Given as goal

-- the lines so far
abbrev pub invariant-loop-test : goal.invariant-loop-test
invariant-loop-test l = record {
  tests : map (λ x. x.test) l.lines.items ≡ take l.test-index l.tests;
  passed : map (λ x. x.has_passed) l.lines.items ≡ map (λ t. passes t l.seen) (take l.test-index l.tests);
}
