-- Reads of a store's trees, one after another, in the words of a reader's contracts.
use Rattle.std.specs.Prelude.{Result}
use Rattle.std.proofs.lemmas.Result.{on_ok_weaker}
use Rattle.sqlite_trees.specs.declared.store.Store.{Ghosts}
use Rattle.esc_store.specs.Reading.{IsReadOnly}
use Rattle.esc_store.specs.ReadingLaws.{read_only_made, read_only_failed, read_only_then}
use Rattle.esc_store.specs.ResultLaws.{on_any}
use Rattle.esc_store.specs.declared.reader.StoreReader.{StoreReader}
use Rattle.esc_desk.specs.ReaderLaws.{unwritten_stays}
use Rattle.esc_desk.specs.Readers.{IsUnwrittenReader, ReaderReflects}
use Rattle.esc_desk.specs.Reading.{IsReadOf}

module _ {S X E : Type 0} (g : Ghosts S) (old : StoreReader S) where
  -- a reader whose store was read
  pub reader_read : (new : StoreReader S) (result : Result X E) → IsReadOnly g old new result
      → IsReadOf (λ a b. IsUnwrittenReader g a b) (λ reader e. ReaderReflects g reader e) old new result
  reader_read new result same = record {
    follows = record { manifest = same.manifest; unwritten = same.unwritten };
    reflects = on_ok_weaker result (λ stands e was. record {
      kept = was.kept;
      stands = stands was.kept was.stands;
      stands_for = was.stands_for;
    }) same.stands;
  }

  -- nothing was read
  pub reader_unread : (result : Result X E)
      → IsReadOf (λ a b. IsUnwrittenReader g a b) (λ reader e. ReaderReflects g reader e) old old result
  reader_unread result = record {
    follows = unwritten_stays;
    reflects = on_any result (λ e was. was);
  }

-- the store of a reader, read once or several times
pub ruleset reads_stay = (read_only_made, read_only_failed, read_only_then)

-- a reader whose store was read, once or several times
pub ruleset reader_reads = (reader_read, reader_unread, read_only_made, read_only_failed, read_only_then)
