-- How many receipts there are.
use Rattle.esc_store.proofs.Common.{◌≡◌, ℕ, suc, ◌+◌, List, [], ◌∷◌, length, refl, ◌∙◌, arith}
use Rattle.esc_store.proofs.Common.{last_number, ReceiptValue, receipts_from}

last_is : (n : ℕ) (rs : List ReceiptValue) (r : ReceiptValue)
    → last_number (receipts_from n (r ∷ rs)) ≡ length rs + n
last_is n [] r = omega arith
last_is n (x ∷ rs) r = last_is (suc n) rs x ∙ omega arith

-- the last number of receipts is how many there are
pub counted : (rs : List ReceiptValue) → last_number (receipts_from 1 rs) ≡ length rs
counted [] = refl
counted (r ∷ rs) = last_is 1 rs r ∙ omega arith
