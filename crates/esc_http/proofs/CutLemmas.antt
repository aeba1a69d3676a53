-- The response with an export, whole or in part.
use Rattle.std.proofs.Common.{◌≡◌, ℕ, ◌+◌, ◌-◌, ◌≤◌, ◌<◌, List, [], ◌++◌, length, drop, refl, sym, ◌∙◌, ap}
use Rattle.std.proofs.Common.{append_assoc, append-nil, length-append, length-drop, codes, arith, subst}
use Rattle.std.proofs.Common.{Option, Some, None, inl, inr}
use Rattle.std.specs.Io.KnownBytes.{Appends, Keeps}
use Rattle.std.proofs.KnownBytes.{Appends-trans}
use Rattle.std.proofs.Math.Seq.{drop-append_seam}
use Rattle.sha2.specs.Sha256.{sha256}
use Rattle.sqlite_trees.specs.declared.store.Store.{Ghosts}
use Rattle.esc_envelope.specs.declared.kind.Kind.{Kind}
use Rattle.esc_tables.specs.DepositValue.{DepositValue}
use Rattle.esc_tables.specs.Reading.{reading}
use Rattle.esc_apply.specs.ObjectStreams.{Entry, InOrder}
use Rattle.esc_apply.specs.Registry.{IsEntriesOf}
use Rattle.esc_apply.specs.Tables.{tables}
use Rattle.esc_store.specs.declared.fault.StoreFault.{StoreFault}
use Rattle.esc_store.specs.Faults.{IsFailure}
use Rattle.esc_store.specs.StandingLaws.{was_honest}
use Rattle.esc_store.specs.StoreState.{StoreState}
use Rattle.esc_events.specs.Events.{EventValue}
use Rattle.esc_events.specs.LatestTables.{AreEntries}
use Rattle.esc_events.specs.StateAfter.{IsStateAfter, deposits_of, held_body}
use Rattle.esc_desk.specs.declared.desk.Desk.{Desk}
use Rattle.esc_desk.specs.Calls.{IsUnchangedDesk, ForStoreEvents}
use Rattle.esc_desk.specs.Laws.{TablesAreOfEvents}
use Rattle.esc_desk.specs.Reflection.{StoreReflects}
use Rattle.esc_reports.specs.declared.catalog.Report.{Report}
use Rattle.esc_reports.specs.declared.catalog.Report.TheVariants.{Export}
use Rattle.esc_reports.specs.Reports.{IsReport}
use Rattle.esc_request.specs.Response.{response_head}
use Rattle.esc_request.specs.Sent.{AppendsBeginning}
use Rattle.esc_http.specs.Answering.{IsAnswered, IsOrMemory, wants}
use Rattle.esc_http.specs.Exports.{Passes, AppendsPart, IsExportAfter, BeginsExportAfter}
use Rattle.esc_http.specs.Response.{fault_response, report_media, report_response}
use Rattle.esc_http.proofs.AnswerLemmas.{leaves_still, unchanged_then}

-- nothing was written, and then this was
pub kept_then : (a b c : Option (List ℕ)) (text : List ℕ) → Keeps a b → Appends b c text → Appends a c text
kept_then None b c text kept appends = tt
kept_then (Some x) None c text kept appends = absurd kept
kept_then (Some x) (Some y) None text kept appends = absurd appends
kept_then (Some x) (Some y) (Some z) text kept appends = appends ∙ ap (λ (l : List ℕ). l ++ text) kept

pub kept_begins : (a b c : Option (List ℕ)) (text : List ℕ) → Keeps a b → AppendsBeginning b c text
    → AppendsBeginning a c text
kept_begins a b c text kept (sent, unsent, parts, appends) =
    (sent, unsent, parts, kept_then a b c sent kept appends)

-- a part was sent, and the rest waits
pub begins : {a b : Option (List ℕ)} {waited taken waits : List ℕ} → Passes a b waited taken waits
    → AppendsBeginning a b (waited ++ taken)
begins {waits = waits} p = (p.sent, waits, p.whole, p.appends)

-- what waits was sent, too
pub sends_all : (a b c : Option (List ℕ)) (waited taken waits last : List ℕ) → Passes a b waited taken waits
    → last ≡ waits → Appends b c last → Appends a c (waited ++ taken)
sends_all a b c waited taken waits last p is appends =
    subst (Appends a c) (ap (λ (l : List ℕ). p.sent ++ l) is ∙ sym p.whole)
    (Appends-trans a b c _ _ p.appends appends)

-- a beginning of what waits was sent, too
pub begins_then : (a b c : Option (List ℕ)) (waited taken waits last : List ℕ) → Passes a b waited taken waits
    → last ≡ waits → AppendsBeginning b c last → AppendsBeginning a c (waited ++ taken)
begins_then a b c waited taken waits last p is (more, unsent, parts, appends) = (
  p.sent ++ more,
  unsent,
  p.whole ∙ ap (λ (l : List ℕ). p.sent ++ l) (sym is ∙ parts) ∙ sym (append_assoc p.sent more unsent),
  Appends-trans a b c _ _ p.appends appends,
)

-- how much was counted
pub counted : (m n k : ℕ) → m ≡ n + k → k ≡ m - n
counted m n k is = grind arith

-- all was taken that was to come
pub all_came : (m n k : ℕ) → m ≡ n + k → n ≤ 0 → k ≡ m
all_came m n k is none = grind arith

-- the export begins with all of itself
pub begins_whole : (kind : Kind) (text : List ℕ) (e : List EventValue) → IsExportAfter kind text e
    → BeginsExportAfter kind text e
begins_whole kind text e is = λ apart es entries order. ([], sym (is apart es entries order) ∙ sym (append-nil text))

-- the tables after these events have a listing by key, and the export is that of it
pub exported : (kind : Kind) (text : List ℕ) (e : List EventValue) (kept : StoreState)
    → ((ds : List DepositValue) → (es : List Entry) × InOrder es × IsEntriesOf (tables ds) es)
    → TablesAreOfEvents → IsStateAfter sha256 reading e kept → IsExportAfter kind text e
    → IsReport e (Export kind) text
exported kind text e kept listed of_events stands_for is = λ apart.
    let entries = listed (deposits_of reading (held_body sha256 reading e) kept.steps) in
    let latest = (of_events e kept stands_for apart).latest in
    let tables_are : AreEntries e entries.0 =
    record { chain = kept.steps; latest = latest; objects = entries.2 } in
    record {
      entries = entries.0;
      tables = tables_are;
      order = entries.1;
      is = is apart entries.0 tables_are entries.1;
    }

-- what was taken of an export, and the rest of it as it was counted
abbrev pub body_of : List ℕ → List ℕ → List ℕ
body_of text taken = taken ++ drop (length taken) text

-- the response begins with what was sent
pub cut_response : (kind : Kind) (text waited taken sent unsent : List ℕ)
    → waited ≡ response_head (codes "200 OK") (report_media (Export kind)) [] (length text)
    → length taken ≤ length text → waited ++ taken ≡ sent ++ unsent
    → report_response (Export kind) (body_of text taken) ≡ sent ++ (unsent ++ drop (length taken) text)
cut_response kind text waited taken sent unsent head within parts =
    let rest = drop (length taken) text in
    let size : length (taken ++ rest) ≡ length text = grind (arith, length-append, length-drop) in
    ap (λ (n : ℕ). response_head (codes "200 OK") (report_media (Export kind)) [] n ++ (taken ++ rest)) size
    ∙ ap (λ (l : List ℕ). l ++ (taken ++ rest)) (sym head)
    ∙ sym (append_assoc waited taken rest)
    ∙ ap (λ (l : List ℕ). l ++ rest) parts
    ∙ append_assoc sent unsent rest

-- a beginning of what waited and what was taken is one of the response
pub begins_response : (kind : Kind) (a b : Option (List ℕ)) (text waited taken : List ℕ)
    → waited ≡ response_head (codes "200 OK") (report_media (Export kind)) [] (length text)
    → length taken ≤ length text → AppendsBeginning a b (waited ++ taken)
    → AppendsBeginning a b (report_response (Export kind) (body_of text taken))
begins_response kind a b text waited taken head within (sent, unsent, parts, appends) =
    (sent, _, cut_response kind text waited taken sent unsent head within parts, appends)

-- the whole export was sent
pub whole_response : (kind : Kind) (a b : Option (List ℕ)) (text again waited : List ℕ) (left : ℕ)
    → waited ≡ response_head (codes "200 OK") (report_media (Export kind)) [] (length text)
    → length text ≡ left → length again ≡ left → Appends a b (waited ++ again)
    → Appends a b (report_response (Export kind) again)
whole_response kind a b text again waited left head size same appends =
    subst (Appends a b) (ap (λ (l : List ℕ). l ++ again) (head
    ∙ ap (response_head (codes "200 OK") (report_media (Export kind)) []) (size ∙ sym same))) appends

longer : (xs ys : List ℕ) → 0 < length xs → 0 < length (xs ++ ys)
longer xs ys some = grind (arith, length-append)

nine : 0 < length (codes "HTTP/1.1 ")
nine = grind arith

head_some : (media : List ℕ) (n : ℕ) → 0 < length (response_head (codes "200 OK") media [] n)
head_some media n = longer (codes "HTTP/1.1 ") (drop 9 (response_head (codes "200 OK") media [] n)) nine

-- what wasn't sent of it is missing of the response
pub part_of_response : (kind : Kind) (a b : Option (List ℕ)) (text waited taken waits : List ℕ)
    → waited ≡ response_head (codes "200 OK") (report_media (Export kind)) [] (length text)
    → length taken ≤ length text → Passes a b waited taken waits
    → AppendsPart a b (report_response (Export kind) (body_of text taken))
part_of_response kind a b text waited taken waits head within p = record {
  sent = p.sent;
  unsent = waits ++ drop (length taken) text;
  parts = cut_response kind text waited taken p.sent waits head within p.whole;
  some = longer waits _ (p.some (subst (λ (l : List ℕ). 0 < length l) (sym head)
      (head_some (report_media (Export kind)) (length text))));
  appends = p.appends;
}

module _ {S : Type 0} (g : Ghosts S) (old mid new : Desk S) (kind : Kind) where
  -- a store that stands for some events still does
  reflects_still : (e : List EventValue) → IsUnchangedDesk g old mid → StoreReflects g old.store e
      → StoreReflects g mid.store e
  reflects_still e same reflects = record {
    kept = reflects.kept;
    stands = same.same.stands _ reflects.stands;
    stands_for = reflects.stands_for;
  }

  -- the export was counted, and sent whole
  pub answered_whole : (text again : List ℕ) → IsUnchangedDesk g old mid → IsUnchangedDesk g mid new
      → ForStoreEvents g old mid (λ e. IsReport e (Export kind) text)
      → ForStoreEvents g mid new (IsExportAfter kind again)
      → IsAnswered g old new (wants (Export kind)) (report_response (Export kind) again)
  answered_whole text again first second counted sent =
      let same = unchanged_then g old mid new first second in (
        same,
        leaves_still g old new same,
        inl (record {
          body = again;
          is = λ honest e reflects apart.
              let is = counted (was_honest second.same honest) e reflects apart in
              record {
                entries = is.entries;
                tables = is.tables;
                order = is.order;
                is = sent honest e (reflects_still e first reflects) apart is.entries is.tables is.order;
              };
          sends = inl refl;
        }),
      )

  -- the export was counted, and sent in part
  pub answered_cut : (text taken : List ℕ) → IsUnchangedDesk g old mid → IsUnchangedDesk g mid new
      → ForStoreEvents g old mid (λ e. IsReport e (Export kind) text)
      → ForStoreEvents g mid new (BeginsExportAfter kind taken)
      → IsAnswered g old new (wants (Export kind)) (report_response (Export kind) (body_of text taken))
  answered_cut text taken first second counted sent =
      let same = unchanged_then g old mid new first second in (
        same,
        leaves_still g old new same,
        inl (record {
          body = body_of text taken;
          is = λ honest e reflects apart.
              let is = counted (was_honest second.same honest) e reflects apart in
              let parts = sent honest e (reflects_still e first reflects) apart is.entries is.tables is.order in
              record {
                entries = is.entries;
                tables = is.tables;
                order = is.order;
                is = ap (λ (l : List ℕ). taken ++ drop (length taken) l) (is.is ∙ parts.1)
                    ∙ ap (λ (l : List ℕ). taken ++ l) (drop-append_seam taken parts.0) ∙ sym parts.1;
              };
          sends = inl refl;
        }),
      )

-- no report was made, by this fault
pub answered_fault : {S : Type 0} (g : Ghosts S) (old new : Desk S)
    (report : Report) (fault : StoreFault) (text : List ℕ) → IsUnchangedDesk g old new → IsFailure fault
    → IsOrMemory (fault_response fault) text → IsAnswered g old new (wants report) text
answered_fault g old new report fault text same cause sends =
    (same, leaves_still g old new same, inr (record { fault = fault; cause = cause; sends = sends }))
