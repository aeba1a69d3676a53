-- A verification of objects that come one at a time, and what it gives.
use Rattle.std.specs.Prelude.{◌≡◌, ◌↔◌, ℕ, ℤ, List, string_bytes}
use Rattle.std.specs.List.{Contains}
use Rattle.std.specs.List.Sorted.{IsStrictlySortedBy}
use Rattle.esc_envelope.specs.declared.kind.Kind.{Kind}
use Rattle.esc_envelope.specs.Watermark.{printed}
use Rattle.esc_apply.specs.ObjectStreams.{Entry, InOrder}
use Rattle.esc_check.specs.declared.walk.Verification.{Verification}
use Rattle.esc_check.specs.FindingValue.{FindingValue, listing_cmp}
use Rattle.esc_check.specs.Findings.{IsFinding}
use Rattle.esc_check.specs.Gathered.{Leads}
use Rattle.esc_check.specs.TableMap.{content_of_entries}

-- these objects, in order, are being verified by a watermark: those that are left are still to
-- come, and what is found of the others is kept
pub record IsVerifying (w : ℤ) (v : Verification) (left whole : List Entry) : Type 0 where
  pub order : InOrder whole
  pub moment : v.limit.moment ≡ w
  pub text : string_bytes v.limit.text ≡ printed w
  pub leads : Leads w (printed w) v left whole

-- these are the findings in these objects, by a watermark and the declared numbers, each once and
-- in order
abbrev pub AreAllFindings : List Entry → ℤ → List (Kind × ℕ) → List FindingValue → Type 0
AreAllFindings es w counts findings =
    IsStrictlySortedBy listing_cmp findings
    × ((f : FindingValue) → Contains findings f ↔ IsFinding (content_of_entries es) w counts f)
