use Rattle.std.proofs.Common.{◌≡◌, take}
use Rattle.esc_zone.specs.Delegations.{server_texts, texts_of}
use Rattle.esc_zone.proofs.draft.servers_of.Given as goal

abbrev pub invariant-loop-row : goal.invariant-loop-row
invariant-loop-row l = texts_of l.servers.items ≡ server_texts (take l.row-index l.rows)
