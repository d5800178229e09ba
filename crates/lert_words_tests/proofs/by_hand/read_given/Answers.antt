use Rattle.std.proofs.{Common.rules, lemmas.Result.err_from_is_err_and}
use Rattle.lert_words_tests.proofs.PassLaws.{IsRead-more, IsRead-none, refused_at}
use Rattle.lert_words_tests.proofs.by_hand.read_given.Goals as goal

pub loop-place-init : goal.loop-place-init
loop-place-init c = record {
  sized = c.in_ok-vec.ensures.len;
  stage = tt;
  read =
      IsRead-none c.args.options.now c.args.words.now _ (c.in_ok-vec.ensures.items_if_clones_equal (search rules))
      c.in_ok-with_capacity.ensures.items;
}

pub returns-in_err-stage-clause-refused : goal.returns-in_err-stage-clause-refused
returns-in_err-stage-clause-refused c =
    let p = err_from_is_err_and c.from_residual-in_err-stage.result c.from_residual-in_err-stage.ensures.1 in
    rw (p.1, p.2)
    (λ same. refused_at c.args.options.now c.args.words.now c.loop-place.place c.loop-place.given c.loop-place.stage _ c.loop-place.invariant.read c.word.ensures _ _
    c.in_err-stage.ensures.steps same)

pub loop-place-preserved : goal.loop-place-preserved
loop-place-preserved c = record {
  sized = c.read_word.ensures.sized;
  stage = c.in_ok-stage.ensures.stage;
  read =
      IsRead-more c.args.options.now c.args.words.now c.loop-place.place c.loop-place.given c.loop-place.stage _ c.loop-place.invariant.read c.word.ensures _ _
      c.in_ok-stage.ensures.steps;
}
