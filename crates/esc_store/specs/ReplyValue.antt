-- Replies and receipts as values; texts are their bytes.
use Rattle.std.specs.Prelude.{ℕ, suc, Bool, ◌&&◌, if◌then◌else◌, List, [], ◌∷◌, Option, None, Some}
use Rattle.std.specs.Prelude.{option_map, bytes_eq}
use Rattle.esc_manifest.specs.declared.row.MRow.{MRow}
use Rattle.esc_manifest.specs.ManifestRows.{id_at, resend_at}
use Rattle.esc_store.specs.declared.reply.Verdict.{Verdict}

-- a reply of the desk
pub record ReplyValue : Type 0 where
  pub receipt : ℕ
  pub number : List ℕ
  pub verdict : Verdict
  pub id : Option (List ℕ)
  pub resend : Option ℕ
  pub again : Option Bool
  pub orphans : Option ℕ

-- what a store keeps of an arrival; the row is an index in the manifest, from 0
pub record ReceiptValue : Type 0 where
  pub number : List ℕ
  pub digest : List ℕ
  pub verdict : Verdict
  pub row : Option ℕ
  pub again : Option Bool
  pub orphans : Option ℕ

-- the reply of the n-th receipt, from 1: id and resend are the row's
abbrev pub reply_kept : List MRow → ℕ → ReceiptValue → ReplyValue
reply_kept listed n r = record {
  receipt = n;
  number = r.number;
  verdict = r.verdict;
  id = option_map (id_at listed) r.row;
  resend = option_map (resend_at listed) r.row;
  again = r.again;
  orphans = r.orphans;
}

-- the replies of receipts that are numbered from n
abbrev pub replies_from : List MRow → ℕ → List ReceiptValue → List ReplyValue
replies_from listed n [] = []
replies_from listed n (r ∷ rs) = reply_kept listed n r ∷ replies_from listed (suc n) rs

-- the receipt is of an arrival with this number and this digest
abbrev pub is_alike : List ℕ → List ℕ → ReceiptValue → Bool
is_alike number digest r = bytes_eq r.number number && bytes_eq r.digest digest

-- of receipts that are numbered from n, the reply of the first with this number and this digest
abbrev pub reply_alike : List MRow → ℕ → List ℕ → List ℕ → List ReceiptValue → Option ReplyValue
reply_alike listed n number digest [] = None
reply_alike listed n number digest (r ∷ rs)
    = if is_alike number digest r then Some (reply_kept listed n r) else reply_alike listed
    (suc n) number digest rs
