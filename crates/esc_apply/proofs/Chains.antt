-- A registry that holds a chain of deposits, one step further and one step back.
use Rattle.std.proofs.Common.{◌≡◌, ℕ, zero, suc, ◌+◌, ◌<◌, ◌≤◌, Bool, true, false, cond, eqb}
use Rattle.std.proofs.Common.{List, [], ◌∷◌, ◌++◌, length, reverse, slice_get, take, drop, sum_by, Some}
use Rattle.std.proofs.Common.{None, is_some, refl, sym, ap, ap₂, subst, ◌∙◌, arith, append_assoc}
use Rattle.std.proofs.Common.{length-append, length-take}
use Rattle.std.specs.List.{find}
use Rattle.std.specs.Option.{option_and_then, unwrap_or}
use Rattle.std.proofs.lemmas.List.{reverse-append}
use Rattle.std.proofs.lemmas.List.Sums.{sum_by_push, sum_by-cons}
use Rattle.std.proofs.lemmas.Bool.{eq-eqb}
use Rattle.std.proofs.lemmas.Bool.Decides.{nat_tests}
use Rattle.esc_tables.specs.KeyName.{KeyName}
use Rattle.esc_tables.specs.DepositValue.{DepositValue}
use Rattle.esc_apply.specs.Tables.{mentions, says, tables, mention_count}
use Rattle.esc_apply.specs.Registry.{State, nothing, with_step, stepped, restored, saturated, HasSize}
use Rattle.esc_apply.specs.ChangeLaws.{Noted}
use Rattle.esc_apply.specs.Images.{image_of, before_images, chain_state}
use Rattle.esc_apply.proofs.Mentions.{count_mentions}

-- the last deposit decides what it mentions
tables-push : (c : List DepositValue) (d : DepositValue) (q : KeyName)
    → tables (c ++ d ∷ []) q ≡ cond (mentions q d) (says q d) (tables c q)
tables-push c d q = ap (λ (l : List DepositValue). option_and_then (says q) (find (mentions q) l))
    (reverse-append c (d ∷ [])) ∙ by_mention (mentions q d)
  where
    by_mention : (b : Bool) → option_and_then (says q) (cond b (Some d) (find (mentions q) (reverse c)))
        ≡ cond b (says q d) (tables c q)
    by_mention true = refl
    by_mention false = refl

zero_suc : (n : ℕ) → eqb zero (suc n) ≡ false
zero_suc n = grind (arith, nat_tests)

suc_zero : (n : ℕ) → eqb (suc n) zero ≡ false
suc_zero n = grind (arith, nat_tests)

suc_suc : (n i : ℕ) → eqb (suc n) (suc i) ≡ eqb n i
suc_suc n i = grind (arith, nat_tests)

-- the before-image of the i-th of these deposits, from 0, where others are before them
abbrev image_at : List DepositValue → List DepositValue → ℕ → KeyName → Noted
image_at b c i q = image_of (b ++ take i c) (slice_get c i) q

-- what one more deposit adds to the before-images
images-push : (b c : List DepositValue) (d : DepositValue) (i : ℕ) (q : KeyName)
    → image_at b (c ++ d ∷ []) i q
    ≡ cond (eqb (length c) i) (cond (mentions q d) (Some (tables (b ++ c) q)) None) (image_at b c i q)
images-push b [] d zero q = refl
images-push b [] d (suc i) q = rw (zero_suc i) refl
images-push b (x ∷ c) d zero q = rw (suc_zero (length c)) refl
images-push b (x ∷ c) d (suc i) q =
    ap (λ (l : List DepositValue). image_of l (slice_get (c ++ d ∷ []) i) q)
    (sym (append_assoc b (x ∷ []) (take i (c ++ d ∷ []))))
    ∙ images-push (b ++ x ∷ []) c d i q
    ∙ ap₂ (λ (l k : List DepositValue). cond {A = Noted} (eqb (length c) i)
    (cond (mentions q d) (Some (tables l q)) None) (image_of k (slice_get c i) q))
    (append_assoc b (x ∷ []) c) (append_assoc b (x ∷ []) (take i c))
    ∙ ap (λ t. cond {A = Noted} t (cond (mentions q d) (Some (tables (b ++ x ∷ c) q)) None)
    (image_at b (x ∷ c) (suc i) q)) (sym (suc_suc (length c) i))

-- the next step goes from the state of a chain to that of the chain with one deposit more
stepped-chain : (c : List DepositValue) (d : DepositValue)
    → stepped (chain_state c) (suc (length c)) d ≡ chain_state (c ++ d ∷ [])
stepped-chain c d = λ i. record { content = λ q. content q i; undo = λ j q. undo j q i }
  where
    content : (q : KeyName) → cond (mentions q d) (says q d) (tables c q) ≡ tables (c ++ d ∷ []) q
    content q = sym (tables-push c d q)

    undo : (j : ℕ) (q : KeyName) → with_step (before_images c) (suc (length c))
        (λ q. cond (mentions q d) (Some (tables c q)) None) j q ≡ before_images (c ++ d ∷ []) j q
    undo zero q = rw (suc_zero (length c)) refl
    undo (suc i) q =
        ap (λ t. cond {A = Noted} t (cond (mentions q d) (Some (tables c q)) None) (image_at [] c i q))
        (suc_suc (length c) i)
        ∙ sym (images-push [] c d i q)

images_past : (b c : List DepositValue) (q : KeyName) → image_of b (slice_get c (length c)) q ≡ None
images_past b [] q = refl
images_past b (x ∷ c) q = images_past b c q

-- past the end of a chain nothing is noted
pub fresh-chain : (c : List DepositValue) (j : ℕ) → j ≡ suc (length c) → (chain_state c).undo j ≡ nothing
fresh-chain c j is = subst (λ (n : ℕ). (chain_state c).undo n ≡ nothing)
    (sym is) (λ i q. images_past (take (length c) c) c q i)

-- the step back undoes a step
restored-stepped : (s : State) (j : ℕ) (d : DepositValue)
    → s.undo j ≡ nothing → restored (stepped s j d) j ≡ s
restored-stepped s j d none = λ i. record { content = λ q. content q i; undo = λ k q. undo k q i }
  where
    content : (q : KeyName) → unwrap_or
        (cond {A = Noted} (eqb j j) (cond (mentions q d) (Some (s.content q)) None) (s.undo j q))
        (cond (mentions q d) (says q d) (s.content q)) ≡ s.content q
    content q = ap (λ t. unwrap_or (cond {A = Noted} t (cond (mentions q d) (Some (s.content q)) None)
        (s.undo j q)) (cond (mentions q d) (says q d) (s.content q))) (eq-eqb j j refl)
        ∙ by_mention (mentions q d)
      where
        by_mention : (b : Bool) → unwrap_or (cond {A = Noted} b (Some (s.content q)) None)
            (cond b (says q d) (s.content q)) ≡ s.content q
        by_mention true = refl
        by_mention false = refl

    undo : (k : ℕ) (q : KeyName) → with_step (stepped s j d).undo j nothing k q ≡ s.undo k q
    undo k q = by_step (eqb j k) refl
      where
        by_step : (b : Bool) → eqb j k ≡ b → cond {A = Noted} b None (cond
            {A = Noted} b (cond (mentions q d) (Some (s.content q)) None) (s.undo k q)) ≡ s.undo k q
        by_step true e = let is : j ≡ k = grind (arith, nat_tests) in
            subst (λ (n : ℕ). None ≡ s.undo n q) is (λ i. sym none i q)
        by_step false e = refl

-- the step back goes from the state of a chain to that of the chain without its last deposit
restored-chain : (c : List DepositValue) (d : DepositValue)
    → restored (chain_state (c ++ d ∷ [])) (suc (length c)) ≡ chain_state c
restored-chain c d = ap (λ (s : State). restored s (suc (length c))) (sym (stepped-chain c d))
    ∙ restored-stepped (chain_state c) (suc (length c)) d (fresh-chain c (suc (length c)) refl)

-- what the last step of a chain noted has as many keys as its deposit mentions
size_last : (c : List DepositValue) (d : DepositValue) (n : ℕ)
    → HasSize ((chain_state (c ++ d ∷ [])).undo (suc (length c))) n → n ≡ mention_count d
size_last c d n (es, are, len) = sym len ∙ count_mentions d es are.once
    (λ q. ap is_some (are.each q ∙ images-push [] c d (length c) q) ∙ by_mention q (mentions q d))
  where
    by_mention : (q : KeyName) (b : Bool) → is_some (cond {A = Noted} (eqb (length c) (length c))
        (cond b (Some (tables c q)) None) (image_at [] c (length c) q)) ≡ b
    by_mention q true = ap (λ t. is_some (cond {A = Noted} t (Some (tables c q))
        (image_at [] c (length c) q))) (eq-eqb (length c) (length c) refl)
    by_mention q false = ap (λ t. is_some (cond {A = Noted} t None (image_at [] c (length c) q)))
        (eq-eqb (length c) (length c) refl)

-- ---- forward
-- the next step of a chain, where that is step j
pub applied_next : (Held : State → Type 0) (c : List DepositValue) (j : ℕ) (d : DepositValue)
    → length c + 1 ≡ j → Held (stepped (chain_state c) j d) → Held (chain_state (c ++ d ∷ []))
applied_next Held c j d at held = subst
    Held (ap (λ (n : ℕ). stepped (chain_state c) n d) (omega (arith, at)) ∙ stepped-chain c d) held

-- the first step of a chain, where the step's number is 1
pub first_applied : (Before Held : State → Type 0) (k : List DepositValue) (j : ℕ) (d : DepositValue)
    → length k + 1 ≡ j → j ≡ 1
    → Before (chain_state k) → (Before (chain_state []) → Held (chain_state (d ∷ [])))
    → Held (chain_state (k ++ d ∷ []))
first_applied Before Held [] j d at one held made = made held
first_applied Before Held (x ∷ k) j d at one held made = absurd (omega (arith, at, one))

-- the next step of a chain k with the first i of the deposits
pub next_step : (k ds : List DepositValue) (steps i pos : ℕ)
    → length k ≡ steps → i ≤ length ds → pos ≡ steps + i → length (k ++ take i ds) + 1 ≡ pos + 1
next_step k ds steps i pos len within at = omega (arith, length-append k (take i ds), length-take i ds)

-- one of the deposits more is applied
pub one_more : (Held : State → Type 0) (k ds : List DepositValue) (i : ℕ) (d : DepositValue)
    → Held (chain_state ((k ++ take i ds) ++ d ∷ []))
    → take (i + 1) ds ≡ take i ds ++ d ∷ [] → Held (chain_state (k ++ take (i + 1) ds))
one_more Held k ds i d held more =
    subst Held
    (ap chain_state (append_assoc k (take i ds) (d ∷ []) ∙ ap (λ (l : List DepositValue). k ++ l) (sym more)))
    held

-- n writes more
pub one_more_sum : (ds : List DepositValue) (i before now : ℕ) (d : DepositValue) → take (i + 1) ds
    ≡ take i ds ++ d ∷ [] → before ≡ saturated (now + sum_by mention_count (take i ds))
    → saturated (before + mention_count d) ≡ saturated (now + sum_by mention_count (take (i + 1) ds))
one_more_sum ds i before now d more was =
    let sum : sum_by mention_count (take (i + 1) ds) ≡ sum_by mention_count (take i ds)
    + mention_count d = ap (sum_by mention_count) more ∙ sum_by_push mention_count (take i ds) d in
    omega (arith, sum, was)

-- ---- back
-- a chain at a place: what is before, and the deposit there
split_at : (c : List DepositValue) (j : ℕ) → j < length c → (d : DepositValue)
    × (take (suc j) c ≡ take j c ++ d ∷ []) × (drop j c ≡ d ∷ drop (suc j) c) × (length (take j c) ≡ j)
split_at [] j below = absurd (omega arith)
split_at (x ∷ c) zero below = (x, refl, refl, refl)
split_at (x ∷ c) (suc j) below =
    let rest = split_at c j (omega arith) in
    (rest.0, ap (λ (l : List DepositValue). x ∷ l) rest.1, rest.2, ap suc rest.3)

-- the last step of a chain, where that is step j
pub undone_last : (Held : State → Type 0) (c : List DepositValue) (d : DepositValue) (j n : ℕ)
    → length c + 1 ≡ j → HasSize ((chain_state (c ++ d ∷ [])).undo j) n
    → Held (restored (chain_state (c ++ d ∷ [])) j) → Held (chain_state c) × (n ≡ mention_count d)
undone_last Held c d j n at size held =
    let is : j ≡ suc (length c) = omega (arith, at) in (
      subst Held (ap (λ (i : ℕ). restored (chain_state (c ++ d ∷ [])) i) is ∙ restored-chain c d) held,
      size_last c d n (subst (λ (i : ℕ). HasSize ((chain_state (c ++ d ∷ [])).undo i) n) is size),
    )

-- one step less: the state of the shorter chain is held, and n writes more were made
pub one_less : (Before Held : State → Type 0) (k : List DepositValue) (left j writes n : ℕ)
    → left ≡ suc j → j < length k
    → writes ≡ saturated (sum_by mention_count (drop left k)) → Before (chain_state (take left k))
    → ((c : List DepositValue) (d : DepositValue) → length c + 1 ≡ left
    → Before (chain_state (c ++ d ∷ [])) → Held (chain_state c) × (n ≡ mention_count d))
    → Held (chain_state (take j k)) × (saturated (writes + n) ≡ saturated (sum_by mention_count (drop j k)))
one_less Before Held k left j writes n is below counted before undone =
    (gone.0, omega (arith, gone.1, rest, same, counted))
  where
    last : (d : DepositValue) × (take (suc j) k ≡ take j k ++ d ∷ [])
        × (drop j k ≡ d ∷ drop (suc j) k) × (length (take j k) ≡ j)
    last = split_at k j below

    gone : Held (chain_state (take j k)) × (n ≡ mention_count last.0)
    gone = undone (take j k) last.0 (omega (arith, is, last.3)) (subst
        (λ (l : List DepositValue). Before (chain_state l)) (ap (λ i. take i k) is ∙ last.1) before)

    rest : sum_by mention_count (drop j k) ≡ mention_count last.0 + sum_by mention_count (drop (suc j) k)
    rest = ap (sum_by mention_count) last.2 ∙ sum_by-cons mention_count last.0 (drop (suc j) k)

    same : sum_by mention_count (drop left k) ≡ sum_by mention_count (drop (suc j) k)
    same = ap (λ i. sum_by mention_count (drop i k)) is
