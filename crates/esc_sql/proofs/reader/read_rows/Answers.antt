use Rattle.esc_sql.proofs.Calls.{rules, ◌≡◌, ◌++◌, ◌∷◌, [], subst, one_more}
use Rattle.esc_sql.proofs.reader.read_rows.Goals as goal

pub loop-at-preserved : goal.loop-at-preserved
loop-at-preserved g c =
    let pushed : c.push.new.self.items ≡ c.loop-at.all.items ++ c.in_ok-one.one ∷ [] = search rules in
    let read = subst (λ row. g.T.FromRow.is_read row c.in_ok-one.one) c.index-rows-at.is c.in_ok-one.ensures in
    rw pushed (one_more g.T.FromRow.is_read c.args.rows.now
    c.loop-at.all.items c.in_ok-one.one c.loop-at.at c.index-rows-at.result (search rules)
    c.loop-at.invariant read)
