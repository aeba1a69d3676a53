-- Faults of texts and rows that give no DS.
use Rattle.std.proofs.Common.{◌≡◌, ◌≢◌, ℕ, List, sym, subst, Option, None, Some, false}
use Rattle.std.specs.Prelude.{Result, Ok, Err, IsErrAnd, codes}
use Rattle.esc_tables.specs.ObjectValue.{RowValue}
use Rattle.esc_zone.specs.declared.signer.Ds.{Ds}
use Rattle.esc_zone.specs.declared.signer.DsFault.{DsFault}
use Rattle.esc_zone.specs.declared.signer.Given.{Given}
use Rattle.esc_zone.specs.Fields.{first_text}
use Rattle.esc_zone.specs.Lists.{GivesOne}
use Rattle.esc_zone.specs.Signers.{Reads, IsNumber, IsKeyText, IsRowKeyDs, IsSigner, no_memory}

-- a fault that is passed on, of something without which there is nothing
pub passed_on : {Y : Type 0} (P : Y → Type 0) (fault : DsFault) (r : Result Y DsFault)
    → IsErrAnd r (λ e. e ≡ fault) → (fault ≢ no_memory → (y : Y) → P y → ⊥) → Reads P r
passed_on P fault (Ok y) a h = absurd a
passed_on {Y} P fault (Err e) a h = subst (λ (f : DsFault). f ≢ no_memory → (y : Y) → P y → ⊥) (sym a) h

-- a row whose text of this field is no number gives no DS of a key
pub without_flags : (name : List ℕ) (row : RowValue) (text : List ℕ) → text ≡ first_text (codes "flags") row
    → ((n : ℕ) → IsNumber 0xffff text n → ⊥) → (ds : Ds) → IsRowKeyDs name row ds → ⊥
without_flags name row text e none ds k =
    none k.flags (subst (λ (t : List ℕ). IsNumber 0xffff t k.flags) (sym e) k.of_flags)

pub without_protocol : (name : List ℕ) (row : RowValue) (text : List ℕ) → text ≡ first_text (codes "protocol") row
    → ((n : ℕ) → IsNumber 0xff text n → ⊥) → (ds : Ds) → IsRowKeyDs name row ds → ⊥
without_protocol name row text e none ds k =
    none 3 (subst (λ (t : List ℕ). IsNumber 0xff t 3) (sym e) k.of_protocol)

pub without_algorithm : (name : List ℕ) (row : RowValue) (text : List ℕ) → text ≡ first_text (codes "keyAlg") row
    → ((n : ℕ) → IsNumber 0xff text n → ⊥) → (ds : Ds) → IsRowKeyDs name row ds → ⊥
without_algorithm name row text e none ds k =
    none ds.algorithm (subst (λ (t : List ℕ). IsNumber 0xff t ds.algorithm) (sym e) k.of_algorithm)

-- nor does one whose key is none
pub without_key : (name : List ℕ) (row : RowValue) (text : List ℕ) → text ≡ first_text (codes "pubKey") row
    → ((key : List ℕ) → IsKeyText text key → ⊥) → (ds : Ds) → IsRowKeyDs name row ds → ⊥
without_key name row text e none ds k =
    none k.key (subst (λ (t : List ℕ). IsKeyText t k.key) (sym e) k.of_key)

-- a row that gives nothing gives no DS
pub none_given : (name : List ℕ) (row : RowValue) (given : Option Given) → given ≡ None
    → GivesOne (λ (r : RowValue) (g : Given). IsSigner name r g.ds) row given
    → (ds : Ds) → IsSigner name row ds → ⊥
none_given name row None e h ds k = h (record { ds = ds; is_of_key = false }) k
none_given name row (Some g) e h ds k = absurd (cc e)

-- nor does one with a fault
pub none_faulty : (name : List ℕ) (row : RowValue)
    → ((g : Given) → IsSigner name row g.ds → ⊥) → (ds : Ds) → IsSigner name row ds → ⊥
none_faulty name row h ds k = h (record { ds = ds; is_of_key = false }) k
