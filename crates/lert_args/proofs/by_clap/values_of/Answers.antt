use Rattle.std.proofs.{Common.{[], ◌+◌, ◌∙◌, ◌≤◌, ap, length, map, subst, sym}, lemmas.List.take_all, lemmas.List.Folds.list_all_at, lemmas.Result.err_from_is_err_and}
use Rattle.std.specs.{List.list_all, Prelude.option_and_then}
use Rattle.clap.specs.Words.{first_value, found_of}
use Rattle.lert_args.specs.{App.is_read, Word.number_of}
use Rattle.lert_args.proofs.Loops.{all_more, room_more, same_rule, values_more}
use Rattle.lert_args.proofs.by_clap.values_of.Goals as goal

pub push_reserved-requires : goal.push_reserved-requires
push_reserved-requires c =
    room_more _ _ c.loop-option.option-index _ c.loop-option.invariant.number c.loop-option.invariant.room c.loop-option-test.true

pub loop-option-preserved : goal.loop-option-preserved
loop-option-preserved c =
    let found = found_of c.args.matches.now in
    let options = c.args.options.now in
    let so_far = c.loop-option.invariant in
    let i = c.loop-option.option-index in
    let pushed = c.push_reserved.ensures in
    let value = c.in_ok-value_of.ensures in
    record {
      values = values_more (λ option. option_and_then number_of (first_value found option.now)) options i (record { ref_ptr = (0, 0); now = [] }) _ _ _
          c.loop-option-test.true so_far.values value.value pushed.items;
      read = all_more (λ option. is_read (first_value found option.now)) options i (record { ref_ptr = (0, 0); now = [] })
          c.loop-option-test.true so_far.read value.read;
      room = subst (λ n. length options ≤ n) (sym pushed.capacity) so_far.room;
      number = pushed.len ∙ ap (λ n. n + 1) so_far.number;
    }

pub returns-in_err-value_of : goal.returns-in_err-value_of
returns-in_err-value_of c =
    let p = err_from_is_err_and c.from_residual-in_err-value_of.result c.from_residual-in_err-value_of.ensures.1 in
    let refused = c.in_err-value_of.ensures.refused in
    rw (p.1, p.2) (record {
      values = tt;
      read = tt;
      refused = λ rule usage. (
        same_rule _ 0 rule refused.0 usage,
        list_all_at (λ option. is_read (first_value (found_of c.args.matches.now) option.now)) c.args.options.now c.loop-option.option-index
            (record { ref_ptr = (0, 0); now = [] }) c.loop-option-test.true refused.1,
      );
    })

pub returns : goal.returns
returns c =
    let all = take_all c.loop-option.option-index c.args.options.now c.loop-option-test.false in
    let found = found_of c.args.matches.now in
    record {
      values = c.loop-option.invariant.values ∙ ap (map (λ option. option_and_then number_of (first_value found option.now))) all;
      read = sym (ap (list_all (λ option. is_read (first_value found option.now))) all) ∙ c.loop-option.invariant.read;
      refused = tt;
    }
