-- What is added for a domain.
use lib.Dec.{eqb-suc-zero}
use Rattle.std.proofs.Common.{◌≡◌, ℕ, List, [], ◌∷◌, ◌++◌, length, Option, None, Some, true, false}
use Rattle.std.proofs.Common.{refl, sym, ◌∙◌, ap, subst, Bool}
use Rattle.std.specs.Prelude.{◌==◌, MatchBool, MatchOption, OnOk, Result, Ok, Err, String}
use Rattle.std.specs.declared.alloc.Global.{Global}
use Rattle.esc_tables.specs.ObjectValue.{RowValue}
use Rattle.esc_zone.specs.declared.signer.Ds.{Ds}
use Rattle.esc_zone.specs.declared.status.Hold.{Hold}
use Rattle.esc_zone.specs.declared.counts.Outcome.{Outcome}
use Rattle.esc_zone.specs.Statuses.{hold_of}
use Rattle.esc_zone.specs.Drafts.{ZoneNotes}
use Rattle.esc_zone.specs.Names.{name_cmp}
use Rattle.esc_zone.specs.Lists.{GivesEach, Itself, IsOrderedOnce}
use Rattle.esc_zone.specs.Records.{RecordsValue}
use Rattle.esc_zone.specs.Delegations.{with_records, server_records, signer_records, IsUsable}
use Rattle.esc_zone.specs.Delegations.{has_place, kept_out, texts_of, server_texts, AddsDelegation, AddsDomain}
use Rattle.esc_zone.specs.Signers.{AreSigners}
use Rattle.esc_zone.proofs.Added.{with_both}

-- what is asked where this is so, or is not
pub when_true : (b : Bool) (P Q : Type 0) → b ≡ true → P → MatchBool b P Q
when_true true P Q h p = p
when_true false P Q h p = absurd (cc h)

pub when_false : (b : Bool) (P Q : Type 0) → b ≡ false → Q → MatchBool b P Q
when_false true P Q h q = absurd (cc h)
when_false false P Q h q = q

-- what is asked of a domain that is kept out, or let in
pub when_kept : (o : Option Hold) (none : Bool) (out : Outcome) (P Q : Type 0)
    → Some out ≡ kept_out o none → Q → (none ≡ true → P) → MatchOption o P (λ h. Q)
when_kept (Some _) none out P Q e q p = q
when_kept None true out P Q e q p = p refl
when_kept None false out P Q e q p = absurd (cc e)

pub when_let_in : (o : Option Hold) (none : Bool) (P Q : Type 0)
    → None ≡ kept_out o none → P → MatchOption o P (λ h. Q)
when_let_in (Some _) none P Q e p = absurd (cc e)
when_let_in None none P Q e p = p

-- what holds, holds if all is well
pub on_ok_of : {T E : Type 0} (r : Result T E) (P : Type 0) → P → OnOk r P
on_ok_of (Ok x) P p = p
on_ok_of (Err e) P p = tt

none_there : {X : Type 0} (xs : List X) → (length xs == 0) ≡ true → xs ≡ []
none_there [] h = refl
none_there (x ∷ xs) h = let e : false ≡ true = sym (eqb-suc-zero (length xs)) ∙ h in absurd (cc e)

-- nothing, where no server is left
pub no_server : (z : ZoneNotes) (name : List ℕ) (rows : List RowValue) (texts hosts : List (List ℕ))
    → (before after : RecordsValue)
    → has_place z name ≡ true → GivesEach (Itself (IsUsable z name)) texts hosts
    → (length hosts == 0) ≡ true → after ≡ before → AddsDelegation z name rows texts before after
no_server z name rows texts hosts before after h g none e =
    let left = subst (λ (ys : List (List ℕ)). GivesEach (Itself (IsUsable z name)) texts ys)
    (none_there hosts none) g in
    when_true (has_place z name) _ _ h ([], left, e)

with_all : (name : List ℕ) (hosts : List (List ℕ)) (signers : List Ds) (before now after : RecordsValue)
    → now ≡ with_records before (server_records before.ttl name hosts)
    → after ≡ with_records now (signer_records now.ttl name signers)
    → after ≡ with_records before
    (server_records before.ttl name hosts ++ signer_records before.ttl name signers)
with_all name hosts signers before now after h e =
    e ∙ ap (λ (n : RecordsValue). with_records n (signer_records n.ttl name signers)) h
    ∙ with_both before (server_records before.ttl name hosts) (signer_records before.ttl name signers)

-- servers, and the DS of these rows after them
pub some_servers : (z : ZoneNotes) (name : List ℕ) (rows : List RowValue) (texts hosts : List (List ℕ))
    → (before now after : RecordsValue)
    → has_place z name ≡ true → GivesEach (Itself (IsUsable z name)) texts hosts
    → (length hosts == 0) ≡ false → now ≡ with_records before (server_records before.ttl name hosts)
    → (signers : List Ds) × AreSigners name rows signers
    × (after ≡ with_records now (signer_records now.ttl name signers))
    → AddsDelegation z name rows texts before after
some_servers z name rows texts [] before now after h g some e f = absurd (cc some)
some_servers z name rows texts (host ∷ hosts) before now after h g some e f =
    when_true (has_place z name) _ _ h
    (host ∷ hosts, g, (f.0, f.1, with_all name (host ∷ hosts) f.0 before now after e f.2))

nothing_asked : (b : Bool) (z : ZoneNotes) (name : List ℕ) (rows : List RowValue) (before after : RecordsValue)
    → has_place z name ≡ b → after ≡ before → AddsDelegation z name rows [] before after
nothing_asked true z name rows before after h e = when_true (has_place z name) _ _ h ([], refl, e)
nothing_asked false z name rows before after h e = when_false (has_place z name) _ _ h e

-- nothing, for a domain that is kept out or has no servers
pub domain_kept : (z : ZoneNotes) (name : List ℕ) (rows : List RowValue) (servers : List (String Global))
    → (out : Outcome) (before after : RecordsValue)
    → Some out ≡ kept_out (hold_of rows) (length servers == 0)
    → IsOrderedOnce name_cmp (server_texts rows) (texts_of servers) → after ≡ before
    → AddsDomain z name rows before after
domain_kept z name rows servers out before after h texts e =
    when_kept (hold_of rows) (length servers == 0) out _ _ h e (λ none. (
      texts_of servers,
      texts,
      subst (λ (l : List (String Global)). AddsDelegation z name rows (texts_of l) before after)
          (sym (none_there servers none)) (nothing_asked (has_place z name) z name rows before after refl e),
    ))

-- what is added for its servers, for a domain that is let in
pub domain_let_in : (z : ZoneNotes) (name : List ℕ) (rows : List RowValue) (servers : List (String Global))
    → (before after : RecordsValue) → None ≡ kept_out (hold_of rows) (length servers == 0)
    → IsOrderedOnce name_cmp (server_texts rows) (texts_of servers)
    → AddsDelegation z name rows (texts_of servers) before after → AddsDomain z name rows before after
domain_let_in z name rows servers before after h texts adds =
    when_let_in (hold_of rows) (length servers == 0) _ _ h (texts_of servers, texts, adds)
