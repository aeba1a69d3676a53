use Rattle.esc_zone.specs.Addresses.{said_texts}
use Rattle.esc_zone.proofs.Said.{given_among, among_given}
use Rattle.esc_zone.proofs.address.addresses_of.Goals as goal

pub returns : goal.returns
returns c =
    let texts = said_texts c.args.rows.now in
    let given = c.in_ok-given.given.items in
    let once = c.in_order_once.ensures in
    record {
      order = once.order;
      same = λ a. (
        λ h. given_among texts given a c.in_ok-given.ensures ((once.same a).0 h),
        λ h. (once.same a).1 (among_given texts given a c.in_ok-given.ensures h),
      );
    }
