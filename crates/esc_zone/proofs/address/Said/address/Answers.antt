use Rattle.std.proofs.Common.{sym, subst, string_bytes, List, ℕ}
use Rattle.esc_zone.proofs.Said.{false_is}
use Rattle.std.specs.Net.Grammar.{IsIpText}
use Rattle.std.proofs.NetLemmas.Theorems.{IsIpText_unique}
use Rattle.esc_zone.specs.Addresses.{IsServers}
use Rattle.esc_zone.proofs.address.Said.address.Goals as goal

pub returns-in-Ok-2 : goal.returns-in-Ok-2
returns-in-Ok-2 c = λ a h.
    let text = string_bytes c.args.self.now.text in
    let same = IsIpText_unique text c.in-Ok.address a
    (subst (λ (t : List ℕ). IsIpText t c.in-Ok.address) c.as_bytes.ensures.value c.in-Ok.ensures) h.0 in
    let public : IsServers c.in-Ok.address = subst IsServers (sym same) h.1 in
    absurd (false_is c.is_servers.result c.if-is_servers.false (c.is_servers.ensures.1 public))
