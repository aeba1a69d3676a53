-- What is sent of an export, piece after piece.
use Rattle.std.proofs.Common.{◌≡◌, ℕ, ◌+◌, ◌<◌, ◌≤◌, List, [], ◌∷◌, ◌++◌, length, refl, sym, ◌∙◌, ap}
use Rattle.std.proofs.Common.{append_assoc, append-nil, Option, Some, None, length-append, arith, subst}
use Rattle.std.proofs.Common.{Result, Ok, Err, OnErr, Bool, true, false, ◌-◌, take, drop, filter, cond, inl, inr}
use Rattle.std.specs.List.{flat_map}
use Rattle.std.proofs.Math.Seq.{drop-append_seam}
use Rattle.std.proofs.lemmas.List.{take_rest}
use Rattle.std.proofs.lemmas.List.Elements.{filter-append}
use Rattle.std.specs.Io.KnownBytes.{Appends}
use Rattle.std.proofs.KnownBytes.{Appends-trans, Appends-nil, Keeps-refl, Keeps-trans}
use Rattle.std.proofs.lemmas.List.Concat.{flat_map-append}
use Rattle.std.specs.List.Sorted.{IsStrictlySortedBy}
use Rattle.esc_apply.specs.ObjectStreams.{Entry, InOrder, GivesFirst}
use Rattle.esc_csv.specs.Lines.{line_text, text_of}
use Rattle.esc_envelope.specs.declared.kind.Kind.{Kind}
use Rattle.esc_check.specs.Export.{export_heading, is_of, object_lines, export_lines, export_text}
use Rattle.esc_store.specs.Faults.{IsFailure}
use Rattle.esc_events.specs.Events.{EventValue}
use Rattle.esc_desk.specs.declared.walk.Walk.{Walk}
use Rattle.esc_desk.specs.WalkCalls.{WalkFollows, walked_by}
use Rattle.esc_http.specs.declared.outbox.Outbox.{Outbox}
use Rattle.esc_http.specs.declared.serve_fault.ServeFault.{ServeFault}
use Rattle.esc_http.specs.declared.serve_fault.ServeFault.TheVariants.{Read, Write, Export}
use Rattle.esc_http.specs.Exports.{entries_of, Passes, HandsOn, Stops, IsCut, FailsOr}

-- at most one entry is in order
pub one_in_order : (o : Option Entry) → InOrder (entries_of o)
unfolding IsStrictlySortedBy
one_in_order None = tt
one_in_order (Some e) = (tt, tt)

-- at most one entry was to come, it was given, and none is left
pub gives_one : (o left : Option Entry) (es : List Entry) → left ≡ None → es ≡ entries_of o
    → GivesFirst (λ l. (l ≡ entries_of left) × InOrder l) es o
unfolding IsStrictlySortedBy
gives_one None left es none is = (is, (sym (ap entries_of none), tt))
gives_one (Some e) left es none is = ([], is, (sym (ap entries_of none), tt))

-- the lines of the first object, and then those of the others
first_lines : (kind : Kind) (e : Entry) (es : List Entry) → text_of (export_lines kind (e ∷ es))
    ≡ text_of (export_lines kind (e ∷ [])) ++ text_of (export_lines kind es)
first_lines kind e es =
    let of_object = λ (x : Entry). object_lines x.0 x.1 in
    ap (λ (l : List Entry). text_of (flat_map of_object l)) (filter-append (is_of kind) (e ∷ []) es)
    ∙ ap text_of (flat_map-append of_object (filter (is_of kind) (e ∷ [])) (filter (is_of kind) es))
    ∙ flat_map-append line_text (export_lines kind (e ∷ [])) (export_lines kind es)

-- an export is the heading, and the lines of its objects
export_parts : (kind : Kind) (es : List Entry)
    → export_text kind es ≡ export_text kind [] ++ text_of (export_lines kind es)
export_parts kind es =
    ap (λ (l : List ℕ). l ++ text_of (export_lines kind es)) (sym (append-nil (line_text export_heading)))

-- what the export of one object has after the heading: its lines
pub lines_behind : (kind : Kind) (e : Entry) (heading text : List ℕ) (n : ℕ)
    → heading ≡ export_text kind [] → text ≡ export_text kind (e ∷ []) → n ≡ length heading
    → take (length text - n) (drop n text) ≡ text_of (export_lines kind (e ∷ []))
lines_behind kind e heading text n first one is =
    take_rest text n
    ∙ ap (λ (k : ℕ). drop k text) is
    ∙ ap (drop (length heading)) (one ∙ export_parts kind (e ∷ [])
    ∙ ap (λ (l : List ℕ). l ++ text_of (export_lines kind (e ∷ []))) (sym first))
    ∙ drop-append_seam heading (text_of (export_lines kind (e ∷ [])))

-- a part of the heading was taken: what is left of it and the lines of all objects are the rest
pub rest_of_heading : (kind : Kind) (es : List Entry) (heading taken rest : List ℕ)
    → heading ≡ export_text kind [] → heading ≡ taken ++ rest
    → export_text kind es ≡ taken ++ (rest ++ text_of (export_lines kind es))
rest_of_heading kind es heading taken rest first parts =
    export_parts kind es
    ∙ ap (λ (l : List ℕ). l ++ text_of (export_lines kind es)) (sym first ∙ parts)
    ∙ append_assoc taken rest (text_of (export_lines kind es))

-- a part of the lines of an object was taken: what is left of them and the lines of the objects
-- after it are the rest
pub rest_of_lines : (kind : Kind) (e : Entry) (es left : List Entry) (whole taken more rest : List ℕ)
    → left ≡ e ∷ es → taken ++ text_of (export_lines kind left) ≡ whole
    → text_of (export_lines kind (e ∷ [])) ≡ more ++ rest
    → whole ≡ (taken ++ more) ++ (rest ++ text_of (export_lines kind es))
rest_of_lines kind e es left whole taken more rest is written parts =
    sym written
    ∙ ap (λ (l : List Entry). taken ++ text_of (export_lines kind l)) is
    ∙ ap (λ (l : List ℕ). taken ++ l) (first_lines kind e es
    ∙ ap (λ (l : List ℕ). l ++ text_of (export_lines kind es)) parts
    ∙ append_assoc more rest (text_of (export_lines kind es)))
    ∙ sym (append_assoc taken more (rest ++ text_of (export_lines kind es)))

-- what holds in any case holds where there is an error
pub on_err_any : {X E P : Type 0} (r : Result X E) → P → OnErr r P
on_err_any (Ok x) p = tt
on_err_any (Err e) p = p

abbrev err_or : {A E : Type 0} → Result A E → E → E
err_or (Ok x) e = e
err_or (Err x) e = x

-- an error that is equal to another is so whatever a success would be
pub err_again : {A B E : Type 0} (x y : E) → ◌≡◌ {A = Result A E} (Err x) (Err y)
    → ◌≡◌ {A = Result B E} (Err x) (Err y)
err_again {A} x y is = ap Err (ap (λ (r : Result A _). err_or r x) is)

long_first : (xs ys : List ℕ) → 0 < length xs → 0 < length (xs ++ ys)
long_first xs ys some = grind (arith, length-append)

long_last : (xs : List ℕ) (y : ℕ) → 0 < length (xs ++ y ∷ [])
long_last xs y = grind (arith, length-append)

-- all bytes that waited were sent but the last, or a beginning of them
pub passes_but_last : (a b : Option (List ℕ)) (waiting most sent unsent : List ℕ) (last : ℕ)
    → waiting ≡ most ++ last ∷ [] → most ≡ sent ++ unsent → Appends a b sent
    → Passes a b waiting [] (unsent ++ last ∷ [])
passes_but_last a b waiting most sent unsent last is parts appends = record {
  sent = sent;
  appends = appends;
  whole = append-nil waiting ∙ is ∙ ap (λ (l : List ℕ). l ++ last ∷ []) parts ∙ append_assoc sent unsent (last ∷ []);
  some = λ _. long_last unsent last;
}

passes_nothing : (a : Option (List ℕ)) (waiting : List ℕ) → Passes a a waiting [] waiting
passes_nothing a waiting =
    record { sent = []; appends = Appends-nil a; whole = append-nil waiting; some = λ some. some }

-- it stops before any byte
pub stops_before : (a : Option (List ℕ)) (x y : Outbox) → y.has_sent ≡ x.has_sent → Stops a a x y []
stops_before a x y same = record {
  waits = x.waiting.items;
  passes = passes_nothing a x.waiting.items;
  within = arith-zero;
  unsent = λ none. (sym same ∙ none, Keeps-refl a);
}
  where
    arith-zero : 0 ≤ x.left
    arith-zero = grind arith

-- bytes were put by, and then a write failed
pub stops_full : (a b : Option (List ℕ)) (x y z : Outbox) (bytes waits : List ℕ)
    → y.waiting.items ≡ x.waiting.items ++ bytes → x.left ≡ y.left + length bytes → z.has_sent ≡ true
    → Passes a b y.waiting.items [] waits → Stops a b x z bytes
stops_full a b x y z bytes waits put left sent p = record {
  waits = waits;
  passes = record {
    sent = p.sent;
    appends = p.appends;
    whole = sym put ∙ sym (append-nil y.waiting.items) ∙ p.whole;
    some = λ some. p.some (subst (λ (l : List ℕ). 0 < length l) (sym put) (long_first x.waiting.items bytes some));
  };
  within = fits x.left y.left (length bytes) left;
  unsent = λ none. let clash : true ≡ false = sym sent ∙ none in absurd cc;
}
  where
    fits : (m n k : ℕ) → m ≡ n + k → k ≤ m
    fits m n k is = grind arith

module _ {a b c : Option (List ℕ)} where
  pub passes_then : {first second third taken more : List ℕ} → Passes a b first taken second
      → Passes b c second more third → Passes a c first (taken ++ more) third
  passes_then {first} {second} {third} {taken} {more} p q = record {
    sent = p.sent ++ q.sent;
    appends = Appends-trans a b c _ _ p.appends q.appends;
    whole = sym (append_assoc first taken more) ∙ ap (λ (l : List ℕ). l ++ more) p.whole
        ∙ append_assoc p.sent second more ∙ ap (λ (l : List ℕ). p.sent ++ l) q.whole
        ∙ sym (append_assoc p.sent q.sent third);
    some = λ some. q.some (p.some some);
  }

  module _ {x y z : Outbox} {taken more : List ℕ} where
    -- some bytes, and then more
    pub hands_then : HandsOn a b x y taken → HandsOn b c y z more → HandsOn a c x z (taken ++ more)
    hands_then p q = record {
      passes = passes_then p.passes q.passes;
      left = in_all x.left y.left z.left p.left q.left;
      unsent = λ none. let then = q.unsent none in
          let first = p.unsent then.0 in (first.0, Keeps-trans a b c first.1 then.1);
    }
      where
        in_all : (l m n : ℕ) → l ≡ m + length taken → m ≡ n + length more → l ≡ n + length (taken ++ more)
        in_all l m n first then = grind (arith, length-append)

    -- some bytes, and then it stops
    pub stops_then : HandsOn a b x y taken → Stops b c y z more → Stops a c x z (taken ++ more)
    stops_then p q = record {
      waits = q.waits;
      passes = passes_then p.passes q.passes;
      within = in_all x.left y.left p.left q.within;
      unsent = λ none. let then = q.unsent none in
          let first = p.unsent then.0 in (first.0, Keeps-trans a b c first.1 then.1);
    }
      where
        in_all : (l m : ℕ) → l ≡ m + length taken → length more ≤ m → length (taken ++ more) ≤ l
        in_all l m first then = grind (arith, length-append)

-- it stops after these bytes
pub stops_there : {a b : Option (List ℕ)} {x y : Outbox} {taken : List ℕ} → HandsOn a b x y taken
    → Stops a b x y taken
stops_there {a} {b} {x} {y} {taken} p = record {
  waits = y.waiting.items;
  passes = p.passes;
  within = fits x.left y.left p.left;
  unsent = p.unsent;
}
  where
    fits : (m n : ℕ) → m ≡ n + length taken → length taken ≤ m
    fits m n is = grind arith

filter_again : {X : Type 0} (p : X → Bool) (xs : List X) → filter p (filter p xs) ≡ filter p xs
filter_again p [] = refl
filter_again {X} p (x ∷ xs) = by_test (p x) refl (filter_again p xs)
  where
    by_test : (b : Bool) → p x ≡ b → filter p (filter p xs) ≡ filter p xs
        → filter p (cond b (x ∷ filter p xs) (filter p xs)) ≡ cond b (x ∷ filter p xs) (filter p xs)
    by_test true e rest = ap (λ t. cond t (x ∷ filter p (filter p xs)) (filter p (filter p xs))) e
        ∙ ap (λ (ys : List X). x ∷ ys) rest
    by_test false e rest = rest

-- the export of a kind is made of the objects of that kind
pub export_of_kind : (kind : Kind) (es : List Entry)
    → export_text kind (filter (is_of kind) es) ≡ export_text kind es
export_of_kind kind es = ap (λ (kept : List Entry). text_of (export_heading
    ∷ flat_map (λ (e : Entry). object_lines e.0 e.1) kept)) (filter_again (is_of kind) es)

-- what is read by a walk follows from what was read before it
pub walked : {R P : Type 0} {Follows : R → R → Type 0} {Reflects : R → List EventValue → Type 0}
    {old mid : R} {walk after : Walk R P} → ((a b c : R) → Follows a b → Follows b c → Follows a c)
    → Follows old mid → walked_by walk ≡ mid → WalkFollows Follows Reflects walk after
    → Follows old (walked_by after)
walked {Follows = Follows} {old} {mid} {walk} {after} goes_on p is q =
    goes_on old mid (walked_by after) p (subst (λ r. Follows r (walked_by after)) is q.same)

-- a walk fails as the desk does
pub cut_by : (has_failed : Bool) (fault : ServeFault) → IsCut (FailsOr IsFailure) has_failed fault
    → IsCut IsFailure has_failed fault
cut_by has_failed Read cut = cut
cut_by has_failed Write cut = cut
cut_by has_failed (Export fault) cut = elim cut [ inl h ↦ h | inr h ↦ h ]
