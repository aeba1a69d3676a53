-- A deposit is as its row lists it where it differs from that in no member.
use Rattle.std.proofs.Common.{◌≡◌, Bool, true, false, not, ◌&&◌, refl}
use Rattle.std.specs.Prelude.{◌||◌, ◌==◌}
use Rattle.std.specs.List.{list_all}
use Rattle.std.specs.Ordering.{int_eq}
use Rattle.std.specs.Str.{bytes_eq}
use Rattle.esc_envelope.specs.HeaderValue.{HeaderValue}
use Rattle.esc_envelope.specs.Place.{rank}
use Rattle.esc_manifest.specs.Extension.{same_prev}
use Rattle.esc_manifest.specs.Listed.{as_listed}
use Rattle.esc_manifest.specs.RowFaults.{is_diff}
use Rattle.esc_pack.specs.Forecasts.{members, differs}

-- the tests one by one, of the id, the watermark, the type, the resend and the previous id
one_by_one : (i w k r f p : Bool)
    → (not (not i) && (not (not k) && (not (not w) && (not (not r) && (not (f && not p) && true)))))
    ≡ (i && ((w && k) && (r && (not f || p))))
one_by_one false w k r f p = refl
one_by_one true false false r f p = refl
one_by_one true false true r f p = refl
one_by_one true true false r f p = refl
one_by_one true true true false f p = refl
one_by_one true true true true false p = refl
one_by_one true true true true true false = refl
one_by_one true true true true true true = refl

-- a deposit differs in no member where it is as listed
pub as_its_row : (row d : HeaderValue) → list_all (λ m. not (differs row d m)) members ≡ as_listed row d
unfolding members
as_its_row row d =
    one_by_one (bytes_eq row.id d.id)
    (int_eq row.place.watermark d.place.watermark) (rank row.place.kind == rank d.place.kind)
    (row.resend == d.resend) (is_diff row.place.kind) (same_prev row.prev d.prev)
