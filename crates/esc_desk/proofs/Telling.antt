-- The receipts that tell of a body which no row listed.
use Rattle.std.proofs.Common.{◌≡◌, inr, ℕ, suc, Bool, true, false, cond, List, [], ◌∷◌, Some, refl, sym}
use Rattle.std.proofs.Common.{ap, subst, ◌∙◌, arith}
use Rattle.std.specs.List.{Any}
use Rattle.std.specs.Str.{bytes_eq}
use Rattle.std.specs.Cmp.Lexicographic.{bytes_decides}
use Rattle.std.proofs.lemmas.Bool.{and_parts}
use Rattle.std.proofs.lemmas.Option.{same_Some, none-some}
use Rattle.sha2.specs.Sha256.{sha256}
use Rattle.esc_tables.specs.Reading.{reading}
use Rattle.esc_manifest.specs.declared.row.MRow.{MRow}
use Rattle.esc_store.specs.declared.reply.Verdict.TheVariants.{A2}
use Rattle.esc_store.specs.StoreState.{is_unlisted, StoreState, TellsUnlisted}
use Rattle.esc_store.specs.Holding.{HasReceipts}
use Rattle.esc_store.specs.ReplyValue.{ReplyValue, ReceiptValue, reply_kept, is_alike, reply_alike}
use Rattle.esc_store.specs.ListLaws.{any_later, any_weaker}
use Rattle.esc_events.specs.Assessment.{row_with_digest}
use Rattle.esc_events.specs.Events.{EventValue}
use Rattle.esc_events.specs.StateAfter.{AreBooks, TellsOf}

-- the receipts of what is kept account for what is held
pub has_receipts : (e : List EventValue) (k : StoreState) → AreBooks sha256 reading e k → HasReceipts k
has_receipts e k books = record {
  told = books.told;
  held_told = λ r some. subst (λ (m : List MRow). Any (TellsOf m r) k.receipts)
      (sym books.listed) (books.held_told r some);
}

-- such a receipt tells of the row that has its digest now
pub tells_of_row : (m : List MRow) (digest : List ℕ) (row : ℕ) → row_with_digest m digest ≡ Some row
    → (r : ReceiptValue) → TellsUnlisted digest r → TellsOf m row r
tells_of_row m digest row lists r tells = inr ((tells.0, refl), ap (row_with_digest m) tells.1 ∙ lists)

-- a receipt of an unlisted body tells of the row that lists it later
pub any_of_row : (m : List MRow) (digest : List ℕ) (row : ℕ) → row_with_digest m digest ≡ Some row
    → (rs : List ReceiptValue) → Any (TellsUnlisted digest) rs → Any (TellsOf m row) rs
any_of_row m digest row lists rs any =
    any_weaker (TellsUnlisted digest) (TellsOf m row) (tells_of_row m digest row lists) rs any

-- the receipt of a reply with the verdict A2 is one
pub told_again : (m : List MRow) (number digest : List ℕ) (n : ℕ) (rs : List ReceiptValue) (y : ReplyValue)
    → reply_alike m n number digest rs ≡ Some y → y.verdict ≡ A2 → Any (TellsUnlisted digest) rs
told_again m number digest n [] y e verdict = absurd (none-some _ e)
told_again m number digest n (r ∷ rs) y e verdict = by_test (is_alike number digest r)
    refl e (λ behind. told_again m number digest (suc n) rs y behind verdict)
  where
    by_test : (b : Bool) → is_alike number digest r ≡ b
        → cond b (Some (reply_kept m n r)) (reply_alike m (suc n) number digest rs) ≡ Some y
        → (reply_alike m (suc n) number digest rs ≡ Some y → Any (TellsUnlisted digest) rs)
        → Any (TellsUnlisted digest) (r ∷ rs)
    by_test true like e rest =
        let same = (bytes_decides r.digest digest).0
        (and_parts (bytes_eq r.number number) (bytes_eq r.digest digest) like).1 in (
          0,
          r,
          omega arith,
          refl,
          (
            ap (λ (z : ReplyValue). is_unlisted z.verdict) (same_Some _ _ e)
                ∙ ap is_unlisted verdict,
            same,
          ),
        )
    by_test false other e rest = any_later (TellsUnlisted digest) r rs (rest e)
