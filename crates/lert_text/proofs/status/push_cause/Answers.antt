use Rattle.std.proofs.{Common.{◌≡◌, ◌++◌, ◌<◌, [], get_or, length, map, take, flat_map, sym, ap, ◌∙◌, arith}, lemmas.List.Folds.flat_map-map}
use Rattle.lert_text.specs.{Parts.part_of, StatusLine.{causes, part_text, parts}}
use Rattle.lert_text.proofs.Rows.{row_is, row_names, row_fits}
use Rattle.lert_text.proofs.status.push_cause.Goals as goal

pub push_parts-requires : goal.push_parts-requires
push_parts-requires c =
    let there : c.args.number < length causes = omega (arith, c.requires.most) in
    let is = row_is c.args.causes.now c.from.result c.args.number _ c.requires.table c.from.ensures there in
    record {
      places = row_names c.args.number _ is there;
      room = omega (arith, c.requires.room, row_fits c.args.number _ is there);
    }

pub returns : goal.returns
returns c =
    let there : c.args.number < length causes = omega (arith, c.requires.most) in
    let row = get_or c.args.causes.now c.from.result record { ref_ptr = (0, 0); now = [] } in
    let is : map part_of row.now ≡ parts c.args.number = row_is c.args.causes.now c.from.result c.args.number _ c.requires.table c.from.ensures there in
    let said = part_text c.args.fields.now in
    record {
      within = omega (arith, c.push_parts.ensures.within, row_fits c.args.number row.now is there);
      text = c.push_parts.ensures.text
          ∙ ap (λ text. take c.args.at c.args.into.now ++ text) (sym (flat_map-map said part_of row.now) ∙ ap (flat_map said) is);
    }
