use Rattle.std.{proofs.Common.{◌≡◌, ◌+◌, ◌++◌, ◌∷◌, [], length, true, sym, ap, ◌∙◌, arith, length-append}, proofs.lemmas.Bool.cond-true, specs.Result.is_ok}
use Rattle.lert_levels.proofs.streams.TableLaws.{started_next}
use Rattle.lert_levels.proofs.streams.room.start_all.Goals as goal

pub loop-table-preserved : goal.loop-table-preserved
loop-table-preserved g c =
    let ok : is_ok c.push.result ≡ true = sym c.is_ok-is_put.ensures.value ∙ c.if-prove.false in
    let items : c.push.new.self.items ≡ c.loop-table.cursors.items ++ c.start.result ∷ [] =
    c.push.ensures.items ∙ cond-true (is_ok c.push.result) (c.loop-table.cursors.items ++ c.start.result ∷ []) _ ok in
    record {
      started = started_next (λ table. g.T.CountTable.quotient_bits table + g.T.CountTable.width table) (λ table cursor. g.T.CountTable.left table cursor.place)
          (λ cursor. cursor.gave) (λ table cursor. g.T.CountTable.stands table cursor.place) g.T.CountTable.pieces c.args.tables.now c.loop-table.cursors.items c.push.new.self.items
          c.loop-table.table-index c.table-item.result c.start.result c.loop-table.invariant.started c.loop-table-test.true c.table-item.is
          c.start.ensures.stands c.start.ensures.left c.start.ensures.gave c.start.ensures.given items;
      len = ap length items ∙ length-append c.loop-table.cursors.items (c.start.result ∷ []) ∙ ap (λ n. n + 1) c.loop-table.invariant.len;
      room = omega (arith, c.push.ensures.capacity, c.loop-table.invariant.room);
    }
