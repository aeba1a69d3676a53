use Rattle.std.proofs.Common.{List, sym, subst}
use Rattle.std.specs.List.{Contains}
use Rattle.std.specs.List.Sorted.{IsStrictlySortedBy}
use Rattle.std.proofs.lemmas.List.Filters.{dedup_is}
use Rattle.std.proofs.lemmas.List.Kept.{IsStrictlySortedBy-dedup, Contains-dedup, Contains-from_dedup}
use Rattle.std.proofs.lemmas.List.Sorted.{IsPermutation-sym, Contains-permutation}
use Rattle.std.specs.declared.net.ip_addr.IpAddr.{IpAddr}
use Rattle.std.specs.contracts.net.ip_addr.IpAddrOrd.TheImpl.{ghosts as derived}
use Rattle.std.specs.contracts.net.ip_addr.IpAddrOrd.TheImpl.Laws.{total-law, matches_eq-law}
use Rattle.std.specs.contracts.net.ip_addr.IpAddrPartialEq.TheImpl.{ghosts as equality}
use Rattle.std.specs.contracts.net.ip_addr.IpAddrEq.TheImpl.Laws.{laws-law}
use Rattle.esc_zone.proofs.AddressOrder.{sorted_by_number, one_address}
use Rattle.esc_zone.proofs.address.in_order_once.Goals as goal

pub returns : goal.returns
returns c =
    let sorted = c.sort_unstable.new.self.items in
    let left = dedup_is equality.eq _ _ c.dedup.ensures.filtered in
    let moved = c.sort_unstable.ensures.permutation in
    record {
      order = sorted_by_number _
          (subst (λ (l : List IpAddr). IsStrictlySortedBy derived.cmp l) (sym left)
          (IsStrictlySortedBy-dedup total-law matches_eq-law _ c.sort_unstable.ensures.sorted));
      same = λ t. (
        λ h. Contains-permutation _ _ t (IsPermutation-sym _ _ moved)
            (Contains-from_dedup equality.eq sorted t (subst (λ (l : List IpAddr). Contains l t) left h)),
        λ h. subst (λ (l : List IpAddr). Contains l t) (sym left)
            (Contains-dedup laws-law one_address sorted t (Contains-permutation _ _ t moved h)),
      );
    }
