-- Lines of records, and more of them, are lines of records.
use Rattle.std.proofs.Common.{◌≡◌, true, ℕ, ◌^◌, ◌<◌, List, [], ◌∷◌, ◌++◌, Option, None, Some, ◌∙◌, ap}
use Rattle.std.proofs.Common.{ap₂, sym, append-nil, append_assoc, refl}
use Rattle.std.specs.Io.KnownBytes.{Appends}
use Rattle.std.proofs.lemmas.Grind.{flat_map-append}
use Rattle.std.proofs.lemmas.List.Elements.{All-append, All-push, All-nil}
use Rattle.esc_zone.specs.Names.{is_zone_name}
use Rattle.esc_zone.specs.Records.{RecordValue, record_line, record_text, IsRecord, AreLines, AppendsLines, IsSaid}

-- one record more
pub more_lines : (ttl : ℕ) (text owner said : List ℕ)
    → AreLines text → is_zone_name owner ≡ true → ttl < 2 ^ 32 → IsSaid said
    → AreLines (text ++ record_line ttl owner said)
more_lines ttl text owner said held named fits is =
    let r : RecordValue = record { owner = owner; ttl = ttl; said = is.0 } in
    let right : IsRecord r = record { owner = named; ttl = fits; said = is.1 } in
    record {
      records = held.records ++ r ∷ [];
      each = All-push IsRecord held.records r held.each right;
      lines = flat_map-append record_text held.records (r ∷ []) ∙ ap₂ (λ (a b : List ℕ). a ++ b)
          held.lines (append-nil (record_text r) ∙ ap (record_line ttl owner) is.2);
    }

joined : (a b : List ℕ) → AreLines a → AreLines b → AreLines (a ++ b)
joined a b p q = record {
  records = p.records ++ q.records;
  each = All-append IsRecord p.records q.records p.each q.each;
  lines = flat_map-append record_text p.records q.records ∙ ap₂ (λ (x y : List ℕ). x ++ y) p.lines q.lines;
}

-- bytes that grew by one text, and then by another
pub grows_by_both : (a b c : Option (List ℕ)) (s t : List ℕ)
    → Appends a b s → Appends b c t → Appends a c (s ++ t)
grows_by_both None b c s t p q = tt
grows_by_both (Some x) None c s t p q = absurd p
grows_by_both (Some x) (Some y) None s t p q = absurd q
grows_by_both (Some x) (Some y) (Some z) s t p q = q ∙ ap (λ (w : List ℕ). w ++ t) p ∙ append_assoc x s t

-- bytes that did not grow
pub grows_by_none : (a : Option (List ℕ)) → Appends a a []
grows_by_none None = tt
grows_by_none (Some x) = sym (append-nil x)

-- what has not grown has grown by no lines
pub no_lines : (a : Option (List ℕ)) → AppendsLines a a
no_lines a = record {
  text = [];
  grown = grows_by_none a;
  lines = record { records = []; each = All-nil IsRecord; lines = refl };
}

-- what has grown by lines, and then by more of them
pub then_lines : (a b c : Option (List ℕ)) → AppendsLines a b → AppendsLines b c → AppendsLines a c
then_lines a b c p q = record {
  text = p.text ++ q.text;
  grown = grows_by_both a b c p.text q.text p.grown q.grown;
  lines = joined p.text q.text p.lines q.lines;
}
