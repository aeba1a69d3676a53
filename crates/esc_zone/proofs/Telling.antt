-- How many lines are told.
use lib.Dec.{eqb-suc-zero}
use Rattle.std.proofs.Common.{◌≡◌, ℕ, ◌<◌, ◌≤◌, ◌+◌, ◌==◌, List, [], ◌∷◌, ◌++◌, Bool, cond, arith, length}
use Rattle.std.proofs.Common.{true, false, Option, None, Some, map, refl, sym, ap, subst, ◌∙◌, take, get_or}
use Rattle.std.specs.Prelude.{if◌then◌else◌, MatchBool, MatchOption, String, string_bytes}
use Rattle.std.specs.declared.alloc.Global.{Global}
use Rattle.std.specs.declared.net.ip_addr.IpAddr.{IpAddr}
use Rattle.std.specs.List.{count_by, cons_option}
use Rattle.std.proofs.lemmas.List.{length-append, length-map}
use Rattle.std.proofs.lemmas.List.Sums.{sum_by-append, sum_by-cons}
use Rattle.esc_tables.specs.ObjectValue.{RowValue}
use Rattle.esc_zone.specs.declared.counts.Outcome.{Outcome}
use Rattle.esc_zone.specs.declared.status.Hold.{Hold}
use Rattle.esc_zone.specs.Delegations.{has_place, kept_out, texts_of, server_texts, IsUsable}
use Rattle.esc_zone.specs.Drafts.{ZoneNotes}
use Rattle.esc_zone.specs.Addresses.{IsServersText, said_texts}
use Rattle.esc_zone.specs.declared.address.Said.{Said}
use Rattle.esc_zone.specs.Lists.{GivesOne, GivesEach, Itself, IsOrderedOnce}
use Rattle.esc_zone.specs.Names.{name_cmp}
use Rattle.esc_zone.specs.Statuses.{hold_of}
use Rattle.esc_zone.specs.Told.{TellsOfSigners, TellsOfServed, TellsOfDelegation, TellsOfDomain}
use Rattle.esc_zone.specs.Told.{TellsOfAddresses}
use Rattle.esc_zone.proofs.Delegated.{when_true, when_false, when_kept, when_let_in}
use Rattle.esc_zone.proofs.Listed.{front_more, gives_step_of}

-- a byte that ends a line counts 1
abbrev line_end : ℕ → ℕ
line_end b = cond (b == 10) 1 0

-- a text that is followed by others, and the end of a line, has more lines
pub one_more : (text line : List ℕ) → count_by (λ b. b == 10) text
    < count_by (λ b. b == 10) ((text ++ line) ++ 10 ∷ [])
one_more text line =
    omega (arith, sum_by-append line_end (text ++ line) (10 ∷ []), sum_by-append line_end text line)

-- a line more is enough for one thing
pub one_told : (b : Bool) {before after : ℕ} → before < after → (if b then 1 else 0) + before ≤ after
one_told true h = omega (arith, h)
one_told false h = omega (arith, h)

-- a loop's step: the next thing is among these, or a line is told
pub told_step : {Y : Type 0} → (i start before after : ℕ) (ys : List Y) (o : Option Y) (zs : List Y)
    → zs ≡ ys ++ cons_option o [] → 1 + before ≤ length (cons_option o []) + after
    → i + start ≤ length ys + before → i + 1 + start ≤ length zs + after
told_step i start before after ys o zs e one h =
    omega (arith, one, h, ap length e, length-append ys (cons_option o []))

counted : {X : Type 0} → (p : X → Bool) (xs : List X) (x : X)
    → count_by p (xs ++ x ∷ []) ≡ count_by p xs + (if p x then 1 else 0)
counted {X} p xs x =
    let f : X → ℕ = λ y. cond (p y) 1 0 in
    omega (arith, sum_by-append f xs (x ∷ []), sum_by-cons f x [])

-- the same, of things of which some count
pub counted_step : {X Y : Type 0} → (p : X → Bool) (xs : List X) (i : ℕ) (x : X) (start before after : ℕ)
    → (ys : List Y) (o : Option Y) (zs : List Y) → i < length xs → x ≡ get_or xs i x
    → zs ≡ ys ++ cons_option o []
    → (if p x then 1 else 0) + before ≤ length (cons_option o []) + after
    → count_by p (take i xs) + start ≤ length ys + before
    → count_by p (take (i + 1) xs) + start ≤ length zs + after
counted_step p xs i x start before after ys o zs l is e one h =
    let c = ap (count_by p) (front_more xs i x l is) ∙ counted p (take i xs) x in
    omega (arith, c, one, h, ap length e, length-append ys (cons_option o []))

-- the same: the text of the next row is an address, or a line is told
pub told_row : (rows : List Said) (i : ℕ) (row : Said) (o : Option IpAddr) (start before after : ℕ)
    → i < length rows → row ≡ get_or rows i row → GivesOne IsServersText (string_bytes row.text) o
    → 1 + before ≤ length (cons_option o []) + after
    → TellsOfAddresses (said_texts (take i rows)) start before
    → TellsOfAddresses (said_texts (take (i + 1) rows)) start after
told_row rows i row o start before after l is one more t =
    let text : Said → List ℕ = λ r. string_bytes r.text in
    let long = ap length (front_more rows i row l is) in (
      t.0 ++ cons_option o [],
      gives_step_of text IsServersText rows i row t.0 o l is one t.1,
      omega (
        arith,
        long,
        more,
        t.2,
        length-map (take i rows) text,
        length-map (take (i + 1) rows) text,
        length-append (take i rows) (row ∷ []),
        length-append t.0 (cons_option o []),
      ),
    )

-- what is told later counts, too
pub told_later : (texts : List (List ℕ)) (start before after : ℕ) → before ≤ after
    → TellsOfAddresses texts start before → TellsOfAddresses texts start after
told_later texts start before after h t = (t.0, t.1, omega (arith, h, t.2))

-- there are as many texts as servers
texts_long : (servers : List (String Global)) → length (texts_of servers) ≡ length servers
texts_long servers = length-map servers string_bytes

-- what was asked, where this is so, or is not
when_true_of : (b : Bool) (P Q : Type 0) → b ≡ true → MatchBool b P Q → P
when_true_of true P Q h p = p
when_true_of false P Q h p = absurd (cc h)

when_false_of : (b : Bool) (P Q : Type 0) → b ≡ false → MatchBool b P Q → Q
when_false_of true P Q h q = absurd (cc h)
when_false_of false P Q h q = q

-- a domain that is let in has servers
some_there : (o : Option Hold) (none : Bool) → None ≡ kept_out o none → none ≡ false
some_there (Some _) none e = absurd (cc e)
some_there None true e = absurd (cc e)
some_there None false e = refl

-- what is told between two moments is told between an earlier one and a later one
signers_within : (name : List ℕ) (rows : List RowValue) (start before after end : ℕ)
    → start ≤ before → after ≤ end → TellsOfSigners name rows before after
    → TellsOfSigners name rows start end
signers_within name rows start before after end h k t = (t.0, t.1, omega (arith, h, k, t.2))

served_within : (name : List ℕ) (rows : List RowValue) (texts hosts : List (List ℕ))
    → (start before after end : ℕ) → start ≤ before → after ≤ end
    → TellsOfServed name rows texts hosts before after → TellsOfServed name rows texts hosts start end
served_within name rows texts [] start before after end h k t = omega (arith, h, k, t)
served_within name rows texts (x ∷ xs) start before after end h k t = (
  t.0,
  omega (arith, h, t.1),
  signers_within name rows t.0 t.0 after end (omega arith) k t.2,
)

delegation_within : (z : ZoneNotes) (name : List ℕ) (rows : List RowValue) (texts : List (List ℕ))
    → (b : Bool) → has_place z name ≡ b → (start before after end : ℕ) → start ≤ before → after ≤ end
    → TellsOfDelegation z name rows texts before after → TellsOfDelegation z name rows texts start end
delegation_within z name rows texts true e start before after end h k t =
    let told = when_true_of (has_place z name) _ _ e t in
    when_true (has_place z name) _ _ e
    (told.0, told.1, served_within name rows texts told.0 start before after end h k told.2)
delegation_within z name rows texts false e start before after end h k t =
    let more = when_false_of (has_place z name) _ _ e t in
    when_false (has_place z name) _ _ e (omega (arith, h, k, more))

pub told_within : (z : ZoneNotes) (name : List ℕ) (rows : List RowValue)
    → (start before after end : ℕ) → start ≤ before → after ≤ end
    → TellsOfDomain z name rows before after → TellsOfDomain z name rows start end
told_within z name rows start before after end h k = by (hold_of rows) refl
  where
    none : (b : Bool) (texts : List (List ℕ)) → (length texts == 0) ≡ b
        → MatchBool (length texts == 0) (before ≤ after) (TellsOfDelegation z name rows texts before after)
        → MatchBool (length texts == 0) (start ≤ end) (TellsOfDelegation z name rows texts start end)
    none true texts e t = when_true (length texts == 0) _ _ e
        (let le = when_true_of (length texts == 0) _ _ e t in omega (arith, h, k, le))
    none false texts e t = when_false (length texts == 0) _ _ e
        (delegation_within z name rows texts (has_place z name) refl start before after end h k
        (when_false_of (length texts == 0) _ _ e t))

    by : (o : Option Hold) → hold_of rows ≡ o → TellsOfDomain z name rows before after
        → TellsOfDomain z name rows start end
    by (Some out) e = rw e λ le. omega (arith, h, k, le)
    by None e = rw e λ t. (t.0, t.1, none (length t.0 == 0) t.0 refl t.2)

module _ (z : ZoneNotes) (name : List ℕ) (rows : List RowValue) where
  -- what is told where no server is left
  pub none_served : (servers : List (String Global)) (hosts : List (List ℕ)) (before now after : ℕ)
      → has_place z name ≡ true → GivesEach (Itself (IsUsable z name)) (texts_of servers) hosts
      → (length hosts == 0) ≡ true → length servers + before ≤ length hosts + now → now < after
      → TellsOfDelegation z name rows (texts_of servers) before after
  none_served servers [] before now after h g none told more =
      when_true (has_place z name) _ _ h ([], g, omega (arith, told, more, texts_long servers))
  none_served servers (x ∷ xs) before now after h g none told more =
      let e : false ≡ true = sym (eqb-suc-zero (length xs)) ∙ none in absurd (cc e)

  -- what is told where one is
  pub some_served : (servers : List (String Global)) (hosts : List (List ℕ)) (before now after : ℕ)
      → has_place z name ≡ true → GivesEach (Itself (IsUsable z name)) (texts_of servers) hosts
      → (length hosts == 0) ≡ false → length servers + before ≤ length hosts + now
      → TellsOfSigners name rows now after
      → TellsOfDelegation z name rows (texts_of servers) before after
  some_served servers [] before now after h g some told signers = absurd (cc some)
  some_served servers (x ∷ xs) before now after h g some told signers =
      when_true (has_place z name) _ _ h
      (x ∷ xs, g, (now, omega (arith, told, texts_long servers), signers))

  -- what is told of a domain that is kept out, or has no servers
  pub kept_told : (servers : List (String Global)) (out : Outcome) (before after : ℕ)
      → Some out ≡ kept_out (hold_of rows) (length servers == 0)
      → IsOrderedOnce name_cmp (server_texts rows) (texts_of servers) → before ≤ after
      → TellsOfDomain z name rows before after
  kept_told servers out before after h texts le =
      when_kept (hold_of rows) (length servers == 0) out _ _ h le (λ none. (
        texts_of servers,
        texts,
        when_true (length (texts_of servers) == 0) _ _
            (ap (λ n. n == 0) (texts_long servers) ∙ none) le,
      ))

  -- what is told of one that is let in
  pub let_in_told : (servers : List (String Global)) (before after : ℕ)
      → None ≡ kept_out (hold_of rows) (length servers == 0)
      → IsOrderedOnce name_cmp (server_texts rows) (texts_of servers)
      → TellsOfDelegation z name rows (texts_of servers) before after
      → TellsOfDomain z name rows before after
  let_in_told servers before after h texts told =
      when_let_in (hold_of rows) (length servers == 0) _ _ h (
        texts_of servers,
        texts,
        when_false (length (texts_of servers) == 0) _ _
            (ap (λ n. n == 0) (texts_long servers) ∙ some_there (hold_of rows) (length servers == 0) h) told,
      )
