-- The addresses that the texts of rows are.
use Rattle.std.proofs.Common.{◌≡◌, ℕ, ◌+◌, ◌<◌, List, [], ◌∷◌, length, take, get_or, inl, inr}
use Rattle.std.proofs.Common.{◌⊎◌, subst}
use Rattle.std.proofs.Common.{sym, arith, zero, suc, string_bytes}
use Rattle.std.specs.Prelude.{Bool, true, false, IsTrue, Result, Ok, Err, is_ok, Option, Some, None}
use Rattle.std.specs.List.{Contains, cons_option}
use Rattle.std.specs.Result.{result_ok}
use Rattle.std.specs.Net.Grammar.{Parses}
use Rattle.std.specs.declared.net.ip_addr.IpAddr.{IpAddr}
use Rattle.std.proofs.NetLemmas.Theorems.{IsIpText_unique}
use Rattle.std.proofs.lemmas.List.Elements.{Contains-append_left, Contains-append_right, Contains-push}
use Rattle.std.proofs.lemmas.List.Elements.{Contains-append_cases, Contains-push_cases}
use Rattle.esc_zone.specs.declared.address.Said.{Said}
use Rattle.esc_zone.specs.Addresses.{IsServersText, IsAmongTexts, said_texts}
use Rattle.esc_zone.specs.Lists.{GivesOne, GivesEach}

-- what is false is not true
pub false_is : (b : Bool) → b ≡ false → IsTrue b → ⊥
false_is b e t = cc

-- a text that was refused is no address, and one that was read is one
pub refused_text : {E : Type 0} (text : List ℕ) (r : Result IpAddr E) → is_ok r ≡ false
    → Parses IsServersText text r → (a : IpAddr) → IsServersText text a → ⊥
refused_text text (Ok a) e p = absurd (cc e)
refused_text text (Err x) e p = p

-- a text that is parsed is that of an address
pub read_text : {E : Type 0} (text : List ℕ) (r : Result IpAddr E) → is_ok r ≡ true
    → Parses IsServersText text r → (a : IpAddr) × IsServersText text a
read_text text (Ok a) e p = (a, p)
read_text text (Err x) e p = absurd (cc e)

among_suc : (rows : List Said) (i : ℕ) (a : IpAddr) (row : Said) → row ≡ get_or rows i row
    → IsAmongTexts (said_texts (take (suc i) rows)) a
    → IsAmongTexts (said_texts (take i rows)) a ⊎ IsServersText (string_bytes row.text) a
among_suc [] i a row is h = absurd h
among_suc (r ∷ rows) zero a row is h =
    elim h [
      | inl p ↦ inr (subst (λ (x : Said). IsServersText (string_bytes x.text) a) (sym is) p)
      | inr q ↦ absurd q
    ]
among_suc (r ∷ rows) (suc i) a row is h =
    elim h [
      | inl p ↦ inl (inl p)
      | inr q ↦ elim (among_suc rows i a row is q) [ inl x ↦ inl (inr x) | inr y ↦ inr y ]
    ]

-- an address is one of the rows up to one place, if it is that row's, or one of those before it
pub among_split : (rows : List Said) (i : ℕ) (a : IpAddr) (row : Said) → row ≡ get_or rows i row
    → IsAmongTexts (said_texts (take (i + 1) rows)) a
    → IsAmongTexts (said_texts (take i rows)) a ⊎ IsServersText (string_bytes row.text) a
among_split rows i a row is h =
    let e : i + 1 ≡ suc i = omega arith in
    among_suc rows i a row is (subst (λ n. IsAmongTexts (said_texts (take n rows)) a) e h)

-- the address of a row's text is among those of the rows
pub among_at : (rows : List Said) (i : ℕ) (a : IpAddr) (row : Said) → row ≡ get_or rows i row
    → i < length rows → IsServersText (string_bytes row.text) a → IsAmongTexts (said_texts rows) a
among_at [] i a row is h p = absurd (omega arith)
among_at (r ∷ rows) zero a row is h p = inl (subst (λ (x : Said). IsServersText (string_bytes x.text) a) is p)
among_at (r ∷ rows) (suc i) a row is h p = inr (among_at rows i a row is (omega arith) p)

-- a text that is read gives its address, and one that is refused gives none
pub parsed_gives : {E : Type 0} (text : List ℕ) (r : Result IpAddr E) (o : Option IpAddr) → o ≡ result_ok r
    → Parses IsServersText text r → GivesOne IsServersText text o
parsed_gives text (Ok a) o e p = subst (λ (x : Option IpAddr). GivesOne IsServersText text x) (sym e) p
parsed_gives text (Err x) o e p = subst (λ (y : Option IpAddr). GivesOne IsServersText text y) (sym e) p

given_first : (text : List ℕ) (texts : List (List ℕ)) (o : Option IpAddr) (rest : List IpAddr) (a : IpAddr)
    → GivesOne IsServersText text o → (Contains rest a → IsAmongTexts texts a)
    → Contains (cons_option o rest) a → IsServersText text a ⊎ IsAmongTexts texts a
given_first text texts None rest a one more c = inr (more c)
given_first text texts (Some y) rest a one more c =
    elim (Contains-append_cases (y ∷ []) rest a c) [
      | inl here ↦ elim (Contains-push_cases [] y a here) [
        | inl none ↦ absurd (omega (arith, none.1))
        | inr is ↦ inl (subst (λ (x : IpAddr). IsServersText text x) is one)
      ]
      | inr there ↦ inr (more there)
    ]

-- an address that these texts give is one of them
pub given_among : (texts : List (List ℕ)) (given : List IpAddr) (a : IpAddr)
    → GivesEach IsServersText texts given → Contains given a → IsAmongTexts texts a
given_among [] given a g c =
    let none = subst (λ (l : List IpAddr). Contains l a) g c in absurd (omega (arith, none.1))
given_among (text ∷ texts) given a g c =
    given_first text texts g.0 g.1 a g.2 (given_among texts g.1 a g.4)
    (subst (λ (l : List IpAddr). Contains l a) g.3 c)

among_first : (text : List ℕ) (texts : List (List ℕ)) (o : Option IpAddr) (rest : List IpAddr) (a : IpAddr)
    → GivesOne IsServersText text o → (IsAmongTexts texts a → Contains rest a)
    → IsServersText text a ⊎ IsAmongTexts texts a → Contains (cons_option o rest) a
among_first text texts None rest a one more (inl here) = absurd (one a here)
among_first text texts None rest a one more (inr there) = more there
among_first text texts (Some y) rest a one more (inl here) =
    subst (λ (x : IpAddr). Contains (y ∷ rest) x) (IsIpText_unique text y a one.0 here.0)
    (Contains-append_left (y ∷ []) rest y (Contains-push [] y))
among_first text texts (Some y) rest a one more (inr there) =
    Contains-append_right (y ∷ []) rest a (more there)

-- an address that is one of these texts is given by them
pub among_given : (texts : List (List ℕ)) (given : List IpAddr) (a : IpAddr)
    → GivesEach IsServersText texts given → IsAmongTexts texts a → Contains given a
among_given [] given a g h = absurd h
among_given (text ∷ texts) given a g h =
    subst (λ (l : List IpAddr). Contains l a) (sym g.3)
    (among_first text texts g.0 g.1 a g.2 (among_given texts g.1 a g.4) h)
