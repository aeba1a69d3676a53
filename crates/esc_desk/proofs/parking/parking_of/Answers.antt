use Rattle.std.proofs.Common.{◌≡◌, None, rules, arith}
use Rattle.esc_desk.proofs.ParkedDigests.{not_full}
use Rattle.esc_desk.proofs.parking.parking_of.Goals as goal

pub returns-then-len-lt-MOST_PARKED-clause-parking : goal.returns-then-len-lt-MOST_PARKED-clause-parking
returns-then-len-lt-MOST_PARKED-clause-parking g c = λ clean k stood.
    let are = c.in_ok-parked.ensures.digests clean k stood in
    let none : k.parked c.args.digest.now ≡ None = search rules in (
      none,
      not_full k.parked
          c.in_ok-parked.parked.items are (omega (arith, c.len.ensures, c.if-len-lt-MOST_PARKED.true)),
    )
