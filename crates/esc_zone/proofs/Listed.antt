-- Lists that grow by what a list gives.
use Rattle.std.proofs.Common.{◌≡◌, ℕ, ◌+◌, ◌<◌, List, [], ◌∷◌, ◌++◌, length, take, get_or}
use Rattle.std.proofs.Common.{Option, None, Some, map}
use Rattle.std.proofs.Common.{refl, sym, ◌∙◌, ap, subst, append_assoc}
use Rattle.std.proofs.lemmas.List.{take_more, map-append}
use Rattle.std.specs.Option.{option_map}
use Rattle.std.specs.List.{cons_option, filter_map}
use Rattle.std.proofs.lemmas.List.Elements.{filter_map-append}
use Rattle.esc_zone.specs.Lists.{GivesOne, GivesEach}

-- the list up to the next place
pub front_more : {X : Type 0} → (xs : List X) (i : ℕ) (x : X) → i < length xs → x ≡ get_or xs i x
    → take (i + 1) xs ≡ take i xs ++ x ∷ []
front_more xs i x h is = take_more xs i x h ∙ ap (λ y. take i xs ++ y ∷ []) (sym is)

cons_more : {Y : Type 0} → (o : Option Y) (ys zs : List Y) → cons_option o ys ++ zs ≡ cons_option o (ys ++ zs)
cons_more None ys zs = refl
cons_more (Some y) ys zs = refl

gives_more : {X Y : Type 0} → (R : X → Y → Type 0) (xs : List X) (ys : List Y) (x : X) (o : Option Y)
    → GivesOne R x o → GivesEach R xs ys → GivesEach R (xs ++ x ∷ []) (ys ++ cons_option o [])
gives_more R [] ys x o one h = (o, [], one, ap (λ l. l ++ cons_option o []) h, refl)
gives_more R (x' ∷ xs) ys x o one h = (
  h.0,
  h.1 ++ cons_option o [],
  h.2,
  ap (λ l. l ++ cons_option o []) h.3 ∙ cons_more h.0 h.1 (cons_option o []),
  gives_more R xs h.1 x o one h.4,
)

-- a loop's step: what the next of these gives is added
pub gives_step : {X Y : Type 0} → (R : X → Y → Type 0) (xs : List X) (i : ℕ) (x : X) (ys : List Y)
    → (o : Option Y) → i < length xs → x ≡ get_or xs i x → GivesOne R x o → GivesEach R (take i xs) ys
    → GivesEach R (take (i + 1) xs) (ys ++ cons_option o [])
gives_step R xs i x ys o h is one g =
    subst (λ l. GivesEach R l (ys ++ cons_option o [])) (sym (front_more xs i x h is))
    (gives_more R (take i xs) ys x o one g)

-- the same, of what a function makes of these
pub gives_step_of : {A X Y : Type 0} → (f : A → X) (R : X → Y → Type 0) (xs : List A) (i : ℕ) (x : A)
    → (ys : List Y) (o : Option Y) → i < length xs → x ≡ get_or xs i x → GivesOne R (f x) o
    → GivesEach R (map f (take i xs)) ys
    → GivesEach R (map f (take (i + 1) xs)) (ys ++ cons_option o [])
gives_step_of f R xs i x ys o h is one g =
    subst (λ l. GivesEach R l (ys ++ cons_option o []))
    (sym (ap (map f) (front_more xs i x h is) ∙ map-append f (take i xs) (x ∷ [])))
    (gives_more R (map f (take i xs)) ys (f x) o one g)

map_option : {A B : Type 0} → (f : A → B) (o : Option A) (o' : Option B) → option_map f o ≡ o'
    → map f (cons_option o []) ≡ cons_option o' []
map_option f None o' h = ap (λ o. cons_option o []) h
map_option f (Some x) o' h = ap (λ o. cons_option o []) h

filter_one : {A B : Type 0} → (h : A → Option B) (x : A) → filter_map h (x ∷ []) ≡ cons_option (h x) []
filter_one h x = refl

-- a loop's step: f of the next one's part is added
pub parts_step : {A B C : Type 0} → (f : A → B) (h : C → Option B) (xs : List C) (i : ℕ) (x : C) (ys : List A)
    → (o : Option A) → i < length xs → x ≡ get_or xs i x → option_map f o ≡ h x
    → map f ys ≡ filter_map h (take i xs)
    → map f (ys ++ cons_option o []) ≡ filter_map h (take (i + 1) xs)
parts_step f h xs i x ys o lt is one before =
    map-append f ys (cons_option o []) ∙ ap (λ l. l ++ map f (cons_option o [])) before
    ∙ ap (λ l. filter_map h (take i xs) ++ l) (map_option f o (h x) one)
    ∙ sym (ap (filter_map h) (front_more xs i x lt is) ∙ filter_map-append h (take i xs) (x ∷ []))

-- the same, after what was there before
pub parts_step_after : {A B C : Type 0} → (f : A → B) (h : C → Option B) (xs : List C) (i : ℕ) (x : C) (ys : List A)
    → (start : List B) (o : Option A) → i < length xs → x ≡ get_or xs i x → option_map f o ≡ h x
    → map f ys ≡ start ++ filter_map h (take i xs)
    → map f (ys ++ cons_option o []) ≡ start ++ filter_map h (take (i + 1) xs)
parts_step_after f h xs i x ys start o lt is one before =
    map-append f ys (cons_option o []) ∙ ap (λ l. l ++ map f (cons_option o [])) before
    ∙ ap (λ l. (start ++ filter_map h (take i xs)) ++ l) (map_option f o (h x) one)
    ∙ append_assoc start (filter_map h (take i xs)) (cons_option (h x) [])
    ∙ ap (λ l. start ++ l)
    (sym (ap (filter_map h) (front_more xs i x lt is) ∙ filter_map-append h (take i xs) (x ∷ [])))

-- the same, of what a function makes of these
pub parts_step_both : {A B C D : Type 0} → (f : A → B) (g : D → C) (h : C → Option B) (xs : List D) (i : ℕ) (x : D)
    → (ys : List A) (o : Option A) → i < length xs → x ≡ get_or xs i x → option_map f o ≡ h (g x)
    → map f ys ≡ filter_map h (map g (take i xs))
    → map f (ys ++ cons_option o []) ≡ filter_map h (map g (take (i + 1) xs))
parts_step_both f g h xs i x ys o lt is one before =
    map-append f ys (cons_option o []) ∙ ap (λ l. l ++ map f (cons_option o [])) before
    ∙ ap (λ l. filter_map h (map g (take i xs)) ++ l) (map_option f o (h (g x)) one)
    ∙ sym (ap (λ l. filter_map h (map g l)) (front_more xs i x lt is)
    ∙ ap (filter_map h) (map-append g (take i xs) (x ∷ []))
    ∙ filter_map-append h (map g (take i xs)) (g x ∷ []))

-- what is added itself
pub parts_step_of : {A B C : Type 0} → (g : A → C) (h : C → Option B) (xs : List A) (i : ℕ) (x : A) (ys : List B)
    → (o : Option B) → i < length xs → x ≡ get_or xs i x → o ≡ h (g x) → ys ≡ filter_map h (map g (take i xs))
    → ys ++ cons_option o [] ≡ filter_map h (map g (take (i + 1) xs))
parts_step_of g h xs i x ys o lt is one before =
    ap (λ l. l ++ cons_option o []) before
    ∙ ap (λ p. filter_map h (map g (take i xs)) ++ cons_option p []) one
    ∙ sym (ap (λ l. filter_map h (map g l)) (front_more xs i x lt is)
    ∙ ap (filter_map h) (map-append g (take i xs) (x ∷ []))
    ∙ filter_map-append h (map g (take i xs)) (g x ∷ []))
