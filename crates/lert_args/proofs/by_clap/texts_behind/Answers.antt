use Rattle.std.proofs.{Common.{List, ◌++◌, ◌<◌, ◌≤◌, ℕ, ap, drop, map, subst}, lemmas.Result.err_from_is_err_and}
use Rattle.std.specs.Borrow.{Bor}
use Rattle.lert_args.proofs.Loops.{text_more, texts_done}
use Rattle.lert_args.proofs.by_clap.texts_behind.Goals as goal

pub loop-number-preserved : goal.loop-number-preserved
loop-number-preserved c =
    text_more c.loop-number.texts.items c.push.new.self.items c.word.result c.args.words.now _ c.loop-number.number c.in_ok-push.ensures.items c.word.ensures c.loop-number.invariant

pub returns-in_err-push : goal.returns-in_err-push
returns-in_err-push c = let p = err_from_is_err_and c.from_residual.result c.from_residual.ensures.1 in rw p.1 tt

pub loop-number-init : goal.loop-number-init
loop-number-init c = ap (λ xs. map (λ (text : Bor (List ℕ)). text.now) xs ++ drop 1 c.args.words.now) c.new-texts.ensures.items

pub word-requires : goal.word-requires
word-requires c = subst (λ n. c.loop-number.number < n) c.len-number-end.ensures c.loop-number-test.true

pub returns : goal.returns
returns c =
    texts_done _ c.args.words.now _ c.loop-number.number (subst (λ n. n ≤ c.loop-number.number) c.len-number-end.ensures c.loop-number-test.false)
    c.loop-number.invariant
