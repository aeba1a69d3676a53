use Rattle.std.proofs.Common.{◌≡◌, ◌++◌, [], List, ℕ}
use Rattle.esc_zone.specs.declared.draft.Server.{Server}
use Rattle.esc_zone.specs.Drafts.{zone_notes}
use Rattle.esc_zone.specs.Passes.{zone_lines, IsGlueText, AppendsEach, without_texts}
use Rattle.esc_zone.specs.Records.{AppendsLines}
use Rattle.esc_zone.proofs.Passed.{noted_server}
use Rattle.esc_zone.proofs.draft.Draft.write_glue.Given as goal

-- what is written is what the servers that came add
abbrev pub invariant-loop-host : goal.invariant-loop-host
invariant-loop-host g l =
    let z = zone_notes l.fn.self in
    record {
      noted : zone_notes l.self ≡ without_texts z;
      fresh : l.sheet.records ≡ zone_lines z [];
      lines : AppendsLines (g.Z.Write.contents l.fn.zone) (g.Z.Write.contents l.zone);
      written : (done : List (List ℕ × Server)) × (l.fn.self.servers.entries ≡ done ++ l.host-iterator)
          × AppendsEach (λ entry. IsGlueText z (noted_server entry)) done
          (g.Z.Write.contents l.fn.zone) (g.Z.Write.contents l.zone);
    }
