use Rattle.std.proofs.Common.{sym, ap, subst, List, ℕ, codes, Some, None}
use Rattle.std.specs.Net.Grammar.{IsIpText}
use Rattle.std.specs.declared.net.ip_addr.IpAddr.{IpAddr}
use Rattle.esc_conformity.specs.HostAddresses.{version_word}
use Rattle.esc_conformity.proofs.Versions.{version_is, version_written}
use Rattle.esc_conformity.proofs.address.ip_version.Goals as goal

pub returns-in-Ok-V4-clause-version : goal.returns-in-Ok-V4-clause-version
returns-in-Ok-V4-clause-version c =
    let a = c.in-Ok-V4.field-0 in
    version_is c.args.text.now (Some (codes "v4")) (
      a,
      subst (λ (t : List ℕ). IsIpText t a) c.as_bytes.ensures.value c.in-Ok-V4.ensures,
      sym (ap version_word c.in-Ok-V4.field-0-is),
    )

pub returns-in-Ok-V4-clause-written : goal.returns-in-Ok-V4-clause-written
returns-in-Ok-V4-clause-written c = version_written c.args.text.now

pub returns-in-Ok-V6-clause-version : goal.returns-in-Ok-V6-clause-version
returns-in-Ok-V6-clause-version c =
    let a = c.in-Ok-V6.field-0 in
    version_is c.args.text.now (Some (codes "v6")) (
      a,
      subst (λ (t : List ℕ). IsIpText t a) c.as_bytes.ensures.value c.in-Ok-V6.ensures,
      sym (ap version_word c.in-Ok-V6.field-0-is),
    )

pub returns-in-Ok-V6-clause-written : goal.returns-in-Ok-V6-clause-written
returns-in-Ok-V6-clause-written c = version_written c.args.text.now

pub returns-in-Err-clause-version : goal.returns-in-Err-clause-version
returns-in-Err-clause-version c =
    version_is c.args.text.now None
    (subst (λ (t : List ℕ). (a : IpAddr) → IsIpText t a → ⊥) c.as_bytes.ensures.value c.in-Err.ensures)

pub returns-in-Err-clause-written : goal.returns-in-Err-clause-written
returns-in-Err-clause-written c = version_written c.args.text.now
