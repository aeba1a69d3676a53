use Rattle.std.proofs.Common.{◌≡◌, refl, ◌∙◌, ap, FitsSigned, w64, ℤ, Some}
use Rattle.std.proofs.lemmas.Int.{to_z-of_z}
use Rattle.esc_envelope.proofs.RealParts.{IsShort, taken, refused}
use Rattle.esc_envelope.proofs.moment.nanoseconds.Goals as goal

pub returns-in-Ok-clause-value : goal.returns-in-Ok-clause-value
returns-in-Ok-clause-value c =
    let short : IsShort c.args.day c.args.clock c.args.nanosecond =
    record {
      first = c.if-day-lt1970.false;
      last = c.if-day-gt2261.false;
      month = c.requires.month;
      day = c.requires.day;
      hour = c.requires.hour;
      minute = c.requires.minute;
      second = c.requires.second;
      nanosecond = c.requires.nanosecond;
    } in
    let same : Some c.nanoseconds_at.result ≡ _ =
    ap (λ (z : ℤ). Some z) c.nanoseconds_at.ensures.value ∙ taken c.in-Ok.civil
    _ _ _ short (c.in-Ok.ensures.succeeds.0 refl) c.in-Ok.ensures.value.0 c.in-Ok.ensures.value.1 in
    let fits : FitsSigned w64 c.nanoseconds_at.result = record { sfits = c.nanoseconds_at.type_inv } in
    simp to_z-of_z same

pub returns-in-Err-clause-value : goal.returns-in-Err-clause-value
returns-in-Err-clause-value c =
    let short : IsShort c.args.day c.args.clock c.args.nanosecond =
    record {
      first = c.if-day-lt1970.false;
      last = c.if-day-gt2261.false;
      month = c.requires.month;
      day = c.requires.day;
      hour = c.requires.hour;
      minute = c.requires.minute;
      second = c.requires.second;
      nanosecond = c.requires.nanosecond;
    } in
    refused c.args.day c.args.clock
    c.args.nanosecond short (λ told. let accepted = c.in-Err.ensures.succeeds.1 told in cc)
