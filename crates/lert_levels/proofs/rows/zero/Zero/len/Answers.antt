use Rattle.std.proofs.{Common.{◌≡◌, ◌∙◌, length, ap, sym, arith}, lemmas.List.length-map}
use Rattle.lert_levels.proofs.rows.zero.Zero.len.Goals as goal

pub returns : goal.returns
returns g c =
    let count : length c.tables.result.now ≡ length c.args.self.now.bins =
    sym (length-map c.tables.result.now g.T.CountTable.pieces) ∙ ap length c.tables.ensures.pieces ∙ length-map c.args.self.now.bins (λ bin. bin.pieces) in
    record { count = count; some = λ any. omega (arith, count, c.tables.ensures.some any); few = omega (arith, count, c.tables.ensures.few) }
