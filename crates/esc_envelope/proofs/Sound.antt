-- The tables of an envelope have their forms.
use Rattle.std.proofs.Common.{◌≡◌, ℕ, ◌≤◌, List, ◌++◌, Option, Some, None, refl, subst, arith}
use Rattle.std.specs.Prelude.{All, Result, Ok, Err, codes}
use Rattle.std.proofs.lemmas.List.Elements.{All-append}
use Rattle.serde_json.specs.Data.{Data}
use Rattle.esc_bundle.specs.declared.refusal.Refusal.{Refusal}
use Rattle.esc_bundle.specs.declared.refusal.Refusal.TheVariants.{NotJson, WrongMember, WrongTable}
use Rattle.esc_bundle.specs.Tests.{◌>>=◌, or_fault}
use Rattle.esc_envelope.specs.EnvelopeValue.{EnvelopeValue}
use Rattle.esc_envelope.specs.Envelope.{json_of, envelope_in, envelope_of}
use Rattle.esc_envelope.specs.Members.{header_of, counts_of, array_of}
use Rattle.esc_envelope.specs.DeclaredTables.{IsTable, AreContents, AreDeletes, contents_in, deletes_in}
use Rattle.esc_envelope.proofs.Declared.{are_contents, are_deletes}

-- ---- one step

Found : {A B : Type 0} → Option A → (A → Result B Refusal) → B → Type 0
Found {A} o next y = (x : A) × (o ≡ Some x) × (next x ≡ Ok y)

found : {A B : Type 0} (n : Refusal) (o : Option A) (next : A → Result B Refusal) (y : B)
    → (or_fault n o >>= next) ≡ Ok y → Found o next y
unfolding Found
found n None next y h = absurd cc
found n (Some x) next y h = (x, refl, h)

same_ok : (x y : EnvelopeValue) → ◌≡◌ {A = Result EnvelopeValue Refusal} (Ok x) (Ok y) → x ≡ y
same_ok x y h = cc

-- ---- the envelope

abbrev IsSound : EnvelopeValue → Type 0
IsSound e = All IsTable (e.contents ++ e.deletes) × AreContents e.contents × AreDeletes e.deletes

sound_in : (json : Data) (e : EnvelopeValue) → envelope_in json ≡ Ok e → IsSound e
unfolding envelope_in Found
sound_in json e h =
    let header = found WrongMember (header_of json) _ e h in
    let counts = found WrongMember (counts_of json) _ e header.2 in
    let declared = found WrongMember (array_of (codes "contents") json) _ e counts.2 in
    let deleted = found WrongMember (array_of (codes "deletes") json) _ e declared.2 in
    let contents = found WrongTable (contents_in declared.0) _ e deleted.2 in
    let deletes = found WrongTable (deletes_in deleted.0) _ e contents.2 in
    let what_is = are_contents declared.0 contents.0 contents.1 in
    let what_was = are_deletes deleted.0 deletes.0 deletes.1 in
    subst IsSound (same_ok _ e deletes.2)
    (All-append IsTable contents.0 deletes.0 what_is.0 what_was.0, what_is.1, what_was.1)

-- an envelope that is read is sound
pub sound : (text : List ℕ) (e : EnvelopeValue) → envelope_of text ≡ Ok e → IsSound e
unfolding envelope_of Found
sound text e h = let json = found NotJson (json_of text) envelope_in e h in sound_in json.0 e json.2
