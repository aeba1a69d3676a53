-- A reader from one read to the next.
use Rattle.std.proofs.Common.{inl, refl, ◌∙◌, arith}
use Rattle.sqlite_catalog.proofs.QuietLemmas.{quiet_then}
use Rattle.sqlite_trees.specs.declared.store.Store.{Ghosts}
use Rattle.esc_store.specs.declared.reader.StoreReader.{StoreReader}
use Rattle.esc_desk.specs.Readers.{IsUnwrittenReader}

-- nothing was read
pub unwritten_stays : {S : Type 0} {g : Ghosts S} {a : StoreReader S} → IsUnwrittenReader g a a
unwritten_stays = record {
  manifest = refl;
  unwritten = record {
    shield = λ h. h;
    clean = omega arith;
    counts = omega arith;
    closes = λ _ up. inl up;
    outcomes = λ _ h. h;
  };
}

-- one read, and then another
pub unwritten_then : {S : Type 0} {g : Ghosts S} {a b c : StoreReader S}
    → IsUnwrittenReader g a b → IsUnwrittenReader g b c → IsUnwrittenReader g a c
unwritten_then p q = record {
  manifest = q.manifest ∙ p.manifest;
  unwritten = quiet_then p.unwritten q.unwritten;
}
