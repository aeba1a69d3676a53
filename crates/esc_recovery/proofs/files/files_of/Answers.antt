use Rattle.esc_recovery.proofs.Founds.{images_of}
use Rattle.esc_recovery.proofs.files.files_of.Goals as goal

pub returns : goal.returns
returns g c = record {
  left = λ clean e doubtful left image may.
      images_of g.D.Disk c.args.desk.store.conn
      c.store_below.result e doubtful _ _ c.close.ensures c.store_below.ensures.quiet
      c.store_below.ensures.numbered c.store_below.ensures.sound clean left image may;
}
