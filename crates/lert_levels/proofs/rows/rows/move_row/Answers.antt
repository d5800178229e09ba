use Rattle.std.proofs.{Common.{◌≡◌, ◌-◌, ◌∙◌, ◌∷◌, [], length, drop, ap, arith, refl}, lemmas.Bool.{cond_below, cond_above}, lemmas.List.{length-take-le, length-append}}
use Rattle.lert_levels.specs.rows.Rows.{kept}
use Rattle.lert_levels.proofs.{rows.MoveLaws.{kept_joined, kept_begun, row_moved}, rows.rows.move_row.Goals.{then-not-begins, else-not-begins, After-put}}
use Rattle.lert_levels.proofs.rows.rows.move_row.Goals as goal

pub put-requires : goal.put-requires
put-requires c =
    let row = c.args.row.now in
    elim c.if-not-begins.branch [
      | then-not-begins w ↦ omega (arith, ap length (w.row-is ∙ w.drop_newest.ensures), length-take-le (length row - 1) row (omega arith), c.requires.few)
      | else-not-begins w ↦ omega (arith, ap length w.row-is, c.requires.few)
    ]

pub drop_oldest-requires : goal.drop_oldest-requires
drop_oldest-requires c = omega (arith, ap length c.put.ensures, length-append c.if-not-begins.row (c.arrival-bin.result ∷ []))

-- the bins that stay
stay : (c : After-put) → c.if-not-begins.row ≡ kept c.args.settings.now c.args.m c.args.level c.args.row.now
stay c = elim c.if-not-begins.branch [
  | then-not-begins w ↦ kept_joined c.args.settings.now c.args.m c.args.level c.args.row.now _ c.begins.result w.if-not-begins.true c.begins.ensures (w.row-is ∙ w.drop_newest.ensures)
  | else-not-begins w ↦ kept_begun c.args.settings.now c.args.m c.args.level c.args.row.now _ c.begins.result w.if-not-begins.false c.begins.ensures w.row-is
]

pub returns-then-level-depth-2 : goal.returns-then-level-depth-2
returns-then-level-depth-2 c =
    row_moved c.args.settings.now c.args.m c.args.level c.depth-depth.result 1 c.args.row.now c.bins.result.now c.if-not-begins.row c.drop_oldest.new.self c.arrival-bin.result
    c.depth-depth.ensures.value c.if-level-depth.false c.bins.ensures.bins c.arrival-bin.ensures (stay (goal.at.returns-then-level-depth-2 c).After-put)
    (cond_below c.args.level c.depth-depth.result 1 0 c.if-level-depth-2.true) (c.drop_oldest.ensures ∙ ap (drop 1) c.put.ensures)

pub returns-else-level-depth-2 : goal.returns-else-level-depth-2
returns-else-level-depth-2 c =
    row_moved c.args.settings.now c.args.m c.args.level c.depth-depth.result 0 c.args.row.now c.bins.result.now c.if-not-begins.row c.put.new.self c.arrival-bin.result
    c.depth-depth.ensures.value c.if-level-depth.false c.bins.ensures.bins c.arrival-bin.ensures (stay (goal.at.returns-else-level-depth-2 c).After-put)
    (cond_above c.args.level c.depth-depth.result 1 0 0 c.if-level-depth-2.false refl) c.put.ensures
