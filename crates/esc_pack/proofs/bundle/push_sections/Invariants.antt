use Rattle.std.proofs.Common.{◌≡◌, ◌++◌, map, take, All}
use Rattle.std.specs.List.{zip}
use Rattle.esc_bundle.specs.Writing.{named}
use Rattle.esc_pack.specs.GivenRows.{IsReadBack}
use Rattle.esc_pack.specs.Bundling.{section_of, AreHeaded}
use Rattle.esc_pack.proofs.bundle.push_sections.Given as goal

-- the sections of the tables so far
abbrev pub invariant-loop-at : goal.invariant-loop-at
invariant-loop-at l = record {
  pushed : map named l.sections.items
      ≡ map named l.fn.sections.items ++ map section_of (take l.at (zip l.tables l.given));
  read : All IsReadBack (take l.at l.given);
  headed : All AreHeaded (take l.at (zip l.tables l.given));
}
