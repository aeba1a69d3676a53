-- What passes over objects append, object by object.
use Rattle.std.proofs.Common.{◌≡◌, ℕ, List, [], ◌∷◌, ◌++◌, Option, refl, sym, ap, ◌∙◌, subst}
use Rattle.std.proofs.Common.{append_assoc, append-nil, map, Bool, true, false, Some, None}
use Rattle.std.specs.Prelude.{MatchBool, MatchOption}
use Rattle.std.specs.Io.KnownBytes.{Appends}
use Rattle.esc_apply.specs.ObjectStreams.{Entry}
use Rattle.esc_tables.specs.ObjectValue.{RowValue}
use Rattle.esc_zone.specs.declared.draft.Server.{Server}
use Rattle.esc_zone.specs.Addresses.{said_texts}
use Rattle.esc_zone.specs.Drafts.{ZoneNotes}
use Rattle.esc_zone.specs.Fields.{normal}
use Rattle.esc_zone.specs.Statuses.{hold_of}
use Rattle.esc_zone.specs.Delegations.{AddsServed, AddsDelegation, AddsDomain, has_place, with_records}
use Rattle.esc_zone.specs.Delegations.{server_records}
use Rattle.esc_zone.specs.Records.{RecordsValue}
use Rattle.esc_zone.specs.Glue.{is_glue, AddsGlue}
use Rattle.esc_zone.specs.Mirrors.{OriginalNotes, mirror_servers}
use Rattle.esc_zone.specs.Passes.{zone_lines, IsDomainText, IsMirrorText, IsTextOfEach, AppendsEach}
use Rattle.esc_zone.specs.Passes.{NotedServer, IsGlueText, without_texts}
use Rattle.esc_zone.proofs.Lines.{grows_by_none, grows_by_both}

-- nothing yet
pub none_yet : {X : Type 0} → (R : X → List ℕ → Type 0) (known : Option (List ℕ)) → AppendsEach R [] known known
none_yet R known = ([], refl, grows_by_none known)

text_more : {X : Type 0} → (R : X → List ℕ → Type 0) (xs : List X) (x : X) (text last : List ℕ)
    → IsTextOfEach R xs text → R x last → IsTextOfEach R (xs ++ x ∷ []) (text ++ last)
text_more R [] x text last h is = (last, [], is, refl, ap (λ t. t ++ last) h ∙ sym (append-nil last))
text_more R (y ∷ xs) x text last h is = (
  h.0,
  h.1 ++ last,
  h.2,
  text_more R xs x h.1 last h.3 is,
  ap (λ t. t ++ last) h.4 ∙ append_assoc h.0 h.1 last,
)

-- what one more gives
pub one_more : {X : Type 0} → (R : X → List ℕ → Type 0) (xs : List X) (x : X) (a b c : Option (List ℕ))
    → (last : List ℕ) → AppendsEach R xs a b → R x last → Appends b c last → AppendsEach R (xs ++ x ∷ []) a c
one_more R xs x a b c last h is more =
    (h.0 ++ last, text_more R xs x h.0 last h.1 is, grows_by_both a b c h.0 last h.2 more)

-- one of those that are left is done
pub next_done : {X : Type 0} → (all done left rest : List X) (x : X) → all ≡ done ++ left → left ≡ x ∷ rest
    → all ≡ (done ++ x ∷ []) ++ rest
next_done all done left rest x is next = is ∙ ap (λ l. done ++ l) next ∙ sym (append_assoc done (x ∷ []) rest)

-- all are done
pub all_done : {X : Type 0} → (R : X → List ℕ → Type 0) (all done left : List X) (a b : Option (List ℕ))
    → all ≡ done ++ left → left ≡ [] → AppendsEach R done a b → AppendsEach R all a b
all_done R all done left a b is none h =
    subst (λ xs. AppendsEach R xs a b) (sym (is ∙ ap (λ l. done ++ l) none ∙ append-nil done)) h

-- what two cases show
by_test : (b : Bool) (P Q R : Type 0) → (P → R) → (Q → R) → MatchBool b P Q → R
by_test true P Q R p q h = p h
by_test false P Q R p q h = q h

by_option : {X : Type 0} → (o : Option X) (P : Type 0) (Q : X → Type 0) (R : Type 0)
    → (P → R) → ((x : X) → Q x → R) → MatchOption o P Q → R
by_option None P Q R p q h = p h
by_option (Some x) P Q R p q h = q x h

abbrev ttl_of : RecordsValue → ℕ
ttl_of r = r.ttl

served_ttl : (name : List ℕ) (rows : List RowValue) (hosts : List (List ℕ)) (before after : RecordsValue)
    → AddsServed name rows hosts before after → after.ttl ≡ before.ttl
served_ttl name rows [] before after h = ap ttl_of h
served_ttl name rows (host ∷ hosts) before after h = ap ttl_of h.2

delegation_ttl : (z : ZoneNotes) (name : List ℕ) (rows : List RowValue) (texts : List (List ℕ))
    → (before after : RecordsValue) → AddsDelegation z name rows texts before after → after.ttl ≡ before.ttl
delegation_ttl z name rows texts before after h =
    by_test (has_place z name) _ _ (after.ttl ≡ before.ttl) (λ w. served_ttl name rows w.0 before after w.2)
    (λ e. ap ttl_of e) h

domain_ttl : (z : ZoneNotes) (name : List ℕ) (rows : List RowValue) (before after : RecordsValue)
    → AddsDomain z name rows before after → after.ttl ≡ before.ttl
domain_ttl z name rows before after h =
    by_option (hold_of rows) _ _ (after.ttl ≡ before.ttl) (λ w. delegation_ttl z name rows w.0 before after w.2)
    (λ hold e. ap ttl_of e) h

-- what is added for a domain to no lines is its text
pub domain_added : (z now : ZoneNotes) (domain : Entry) (before after : RecordsValue)
    → now ≡ z → before ≡ zone_lines z []
    → AddsDomain now (normal domain.0.text) domain.1.children before after
    → IsDomainText z domain after.text × (after.ttl ≡ z.ttl)
domain_added z now domain before after same fresh h =
    let name = normal domain.0.text in
    let rows = domain.1.children in
    let here : AddsDomain z name rows before after = subst (λ n. AddsDomain n name rows before after) same h in
    let start : AddsDomain z name rows (zone_lines z []) after =
    subst (λ b. AddsDomain z name rows b after) fresh here in
    let ttl = domain_ttl z name rows (zone_lines z []) after start in
    let is : after ≡ zone_lines z after.text = λ i. record { ttl = ttl i; text = after.text } in
    (subst (λ a. AddsDomain z name rows (zone_lines z []) a) is start, ttl)

-- lines that were written leave none
pub none_left : (z : ZoneNotes) (sent left : RecordsValue) → sent.ttl ≡ z.ttl → left ≡ record sent { text = [] }
    → left ≡ zone_lines z []
none_left z sent left ttl is = is ∙ ap (λ t. record sent { ttl = t; text = [] }) ttl

-- what is added for a name that is no domain to no lines is its text
pub mirror_added : (z now : ZoneNotes) (o other : OriginalNotes) (mirror : Entry) (before after : RecordsValue)
    → now ≡ z → other ≡ o → before ≡ zone_lines z []
    → after ≡ with_records before (server_records before.ttl (normal mirror.0.text)
    (mirror_servers now other (normal mirror.0.text) mirror.1.parent))
    → IsMirrorText z o mirror after.text × (after.ttl ≡ z.ttl)
mirror_added z now o other mirror before after same alike fresh h =
    let name = normal mirror.0.text in
    let all = λ (b : RecordsValue) (n : ZoneNotes) (p : OriginalNotes). with_records b
    (server_records b.ttl name (mirror_servers n p name mirror.1.parent)) in
    let is : after ≡ all (zone_lines z []) z o = h ∙ (λ i. all (fresh i) (same i) (alike i)) in
    (ap (λ (r : RecordsValue). r.text) is, ap ttl_of is)

-- what is seen of a server
abbrev pub noted_server : List ℕ × Server → NotedServer
noted_server entry = record { name = entry.0; user = entry.1.user; texts = said_texts entry.1.rows.items }

glue_ttl : (z : ZoneNotes) (host : List ℕ) (user : Option (List ℕ)) (texts : List (List ℕ))
    → (before after : RecordsValue) → AddsGlue z host user texts before after → after.ttl ≡ before.ttl
glue_ttl z host user texts before after h =
    by_option user _ _ (after.ttl ≡ before.ttl) (λ e. ap ttl_of e)
    (λ name w. by_test (is_glue z host name) _ _ (after.ttl ≡ before.ttl) (λ a. ap ttl_of a.2) (λ e. ap ttl_of e) w) h

-- what is added for a server to no lines is its text
pub glue_added : (z now : ZoneNotes) (server : NotedServer) (before after : RecordsValue)
    → now ≡ without_texts z → before ≡ zone_lines z []
    → AddsGlue now server.name server.user server.texts before after
    → IsGlueText z server after.text × (after.ttl ≡ z.ttl)
glue_added z now server before after same fresh h =
    let here : AddsGlue (without_texts z) server.name server.user server.texts before after =
    subst (λ n. AddsGlue n server.name server.user server.texts before after) same h in
    let start : AddsGlue z server.name server.user server.texts (zone_lines z []) after =
    subst (λ b. AddsGlue z server.name server.user server.texts b after) fresh here in
    let ttl = glue_ttl z server.name server.user server.texts (zone_lines z []) after start in
    let is : after ≡ zone_lines z after.text = λ i. record { ttl = ttl i; text = after.text } in
    (subst (λ a. AddsGlue z server.name server.user server.texts (zone_lines z []) a) is start, ttl)

text_of_seen : {X Y : Type 0} → (f : X → Y) (R : Y → List ℕ → Type 0) (xs : List X) (text : List ℕ)
    → IsTextOfEach (λ x. R (f x)) xs text → IsTextOfEach R (map f xs) text
text_of_seen f R [] text h = h
text_of_seen f R (x ∷ xs) text h = (h.0, h.1, h.2, text_of_seen f R xs h.1 h.3, h.4)

-- what things give is what is given by what is seen of them
pub by_seen : {X Y : Type 0} → (f : X → Y) (R : Y → List ℕ → Type 0) (xs : List X) (a b : Option (List ℕ))
    → AppendsEach (λ x. R (f x)) xs a b → AppendsEach R (map f xs) a b
by_seen f R xs a b h = (h.0, text_of_seen f R xs h.0 h.1, h.2)
