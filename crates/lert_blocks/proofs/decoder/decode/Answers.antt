use Rattle.std.proofs.{Common.{rules, refl, subst, sym, ◌∙◌, arith}, lemmas.Result.err_from_is_err_and}
use Rattle.lert_blocks.proofs.StepLaws.{Goes, Goes-none, Goes-more, Goes-left, Goes-out, walk_at, put_kept, put_ascend, put_counts, put_few}
use Rattle.lert_blocks.proofs.decoder.decode.Goals as goal

pub loop-at-init : goal.loop-at-init
loop-at-init c = record {
  goes = Goes-none c.args.width c.args.first c.args.from c.args.slots c.args.walk.now c.args.pieces.now.items c.requires.from;
  fits = let h = c.fits-walk in search rules;
  capacity = refl;
}

pub returns-then-occupied-eq0-clause-found : goal.returns-then-occupied-eq0-clause-found
returns-then-occupied-eq0-clause-found c =
    Goes-out c.args.width c.args.first c.args.from c.args.slots c.args.walk.now c.loop-at.at c.loop-at.occupied c.loop-at.least c.args.pieces.now.items c.loop-at.pieces.items
    c.loop-at.invariant.goes (omega arith) (omega arith) c.if-occupied-eq0.true

pub returns-in_err-step-clause-found : goal.returns-in_err-step-clause-found
returns-in_err-step-clause-found c =
    let p = err_from_is_err_and c.from_residual.result c.from_residual.ensures.1 in
    rw (p.1, p.2)
    (Goes-left c.args.width c.args.first c.args.from c.args.slots c.args.walk.now c.loop-at.at c.loop-at.occupied c.loop-at.least c.args.pieces.now.items c.loop-at.pieces.items
    c.loop-at.invariant.goes (omega arith) (omega arith) (omega arith) c.loop-at.invariant.fits _ c.in_err-step.ensures)

pub loop-at-preserved : goal.loop-at-preserved
loop-at-preserved c =
    record {
      goes = subst (Goes c.args.width c.args.first c.args.from c.args.slots c.args.walk.now c.behind-next.result _ c.args.pieces.now.items) (sym c.push_reserved.ensures.items)
          (Goes-more c.args.width c.args.first c.args.from c.args.slots c.args.walk.now c.loop-at.at c.loop-at.occupied c.loop-at.least c.args.pieces.now.items c.loop-at.pieces.items
          c.loop-at.invariant.goes (omega arith) (omega arith) c.in_ok-step.step c.piece_of.result c.behind-next.result c.in_ok-step.ensures c.piece_of.ensures c.behind-next.ensures);
      fits = let h = c.behind-next.type_inv in search rules;
      capacity = c.push_reserved.ensures.capacity ∙ c.loop-at.invariant.capacity;
    }

-- ---- what stands behind the pieces that were there

pub returns-then-occupied-eq0-clause-kept : goal.returns-then-occupied-eq0-clause-kept
returns-then-occupied-eq0-clause-kept c =
    put_kept c.args.width c.args.first c.args.from c.args.slots c.args.walk.now
    (walk_at c.loop-at.occupied c.loop-at.least) c.loop-at.at c.args.pieces.now.items c.loop-at.pieces.items c.loop-at.invariant.goes

pub returns-then-occupied-eq0-clause-few : goal.returns-then-occupied-eq0-clause-few
returns-then-occupied-eq0-clause-few c =
    put_few c.args.width c.args.first c.args.from c.args.slots c.args.walk.now
    (walk_at c.loop-at.occupied c.loop-at.least) c.loop-at.at c.args.pieces.now.items c.loop-at.pieces.items c.loop-at.invariant.goes

pub returns-then-occupied-eq0-clause-capacity : goal.returns-then-occupied-eq0-clause-capacity
returns-then-occupied-eq0-clause-capacity c = c.loop-at.invariant.capacity

pub returns-in_err-step-clause-kept : goal.returns-in_err-step-clause-kept
returns-in_err-step-clause-kept c =
    put_kept c.args.width c.args.first c.args.from c.args.slots c.args.walk.now
    (walk_at c.loop-at.occupied c.loop-at.least) c.loop-at.at c.args.pieces.now.items c.loop-at.pieces.items c.loop-at.invariant.goes

pub returns-in_err-step-clause-few : goal.returns-in_err-step-clause-few
returns-in_err-step-clause-few c =
    put_few c.args.width c.args.first c.args.from c.args.slots c.args.walk.now
    (walk_at c.loop-at.occupied c.loop-at.least) c.loop-at.at c.args.pieces.now.items c.loop-at.pieces.items c.loop-at.invariant.goes

pub returns-in_err-step-clause-capacity : goal.returns-in_err-step-clause-capacity
returns-in_err-step-clause-capacity c = c.loop-at.invariant.capacity

pub returns-clause-kept : goal.returns-clause-kept
returns-clause-kept c =
    put_kept c.args.width c.args.first c.args.from c.args.slots c.args.walk.now
    (walk_at c.loop-at.occupied c.loop-at.least) c.loop-at.at c.args.pieces.now.items c.loop-at.pieces.items c.loop-at.invariant.goes

pub returns-clause-few : goal.returns-clause-few
returns-clause-few c =
    put_few c.args.width c.args.first c.args.from c.args.slots c.args.walk.now
    (walk_at c.loop-at.occupied c.loop-at.least) c.loop-at.at c.args.pieces.now.items c.loop-at.pieces.items c.loop-at.invariant.goes

pub returns-clause-capacity : goal.returns-clause-capacity
returns-clause-capacity c = c.loop-at.invariant.capacity

pub returns-then-occupied-eq0-clause-rises : goal.returns-then-occupied-eq0-clause-rises
returns-then-occupied-eq0-clause-rises c = omega arith

pub returns-then-occupied-eq0-clause-least : goal.returns-then-occupied-eq0-clause-least
returns-then-occupied-eq0-clause-least c = λ least. least

pub returns-then-occupied-eq0-clause-upto : goal.returns-then-occupied-eq0-clause-upto
returns-then-occupied-eq0-clause-upto c = tt

pub returns-then-occupied-eq0-clause-ascend : goal.returns-then-occupied-eq0-clause-ascend
returns-then-occupied-eq0-clause-ascend c = tt

pub returns-then-occupied-eq0-clause-counts : goal.returns-then-occupied-eq0-clause-counts
returns-then-occupied-eq0-clause-counts c = tt

pub returns-in_err-step-clause-rises : goal.returns-in_err-step-clause-rises
returns-in_err-step-clause-rises c = omega arith

pub returns-in_err-step-clause-least : goal.returns-in_err-step-clause-least
returns-in_err-step-clause-least c = λ least. least

pub returns-in_err-step-clause-upto : goal.returns-in_err-step-clause-upto
returns-in_err-step-clause-upto c = rw (err_from_is_err_and c.from_residual.result c.from_residual.ensures.1).1 tt

pub returns-in_err-step-clause-ascend : goal.returns-in_err-step-clause-ascend
returns-in_err-step-clause-ascend c = rw (err_from_is_err_and c.from_residual.result c.from_residual.ensures.1).1 tt

pub returns-in_err-step-clause-counts : goal.returns-in_err-step-clause-counts
returns-in_err-step-clause-counts c = rw (err_from_is_err_and c.from_residual.result c.from_residual.ensures.1).1 tt

pub returns-then-occupied-eq0-clause-same : goal.returns-then-occupied-eq0-clause-same
returns-then-occupied-eq0-clause-same c = refl

pub returns-in_err-step-clause-same : goal.returns-in_err-step-clause-same
returns-in_err-step-clause-same c = rw (err_from_is_err_and c.from_residual.result c.from_residual.ensures.1).1 refl

-- ---- the end of the word

pub returns-clause-found : goal.returns-clause-found
returns-clause-found c = λ ends more are. (let goes = c.loop-at.invariant.goes in (goes.put, goes.is, goes.found ends more are))

pub returns-clause-ascend : goal.returns-clause-ascend
returns-clause-ascend c =
    put_ascend c.args.width c.args.first c.args.from c.args.slots c.args.walk.now
    (walk_at c.loop-at.occupied c.loop-at.least) c.loop-at.at c.args.pieces.now.items c.loop-at.pieces.items c.loop-at.invariant.goes

pub returns-clause-counts : goal.returns-clause-counts
returns-clause-counts c =
    put_counts c.args.width c.args.first c.args.from c.args.slots c.args.walk.now
    (walk_at c.loop-at.occupied c.loop-at.least) c.loop-at.at c.args.pieces.now.items c.loop-at.pieces.items c.loop-at.invariant.goes

pub returns-clause-rises : goal.returns-clause-rises
returns-clause-rises c = c.loop-at.invariant.goes.rises

pub returns-clause-least : goal.returns-clause-least
returns-clause-least c = c.loop-at.invariant.goes.low

pub returns-clause-at : goal.returns-clause-at
returns-clause-at c = tt

pub returns-clause-same : goal.returns-clause-same
returns-clause-same c = tt

-- ---- how far it came

pub returns-then-occupied-eq0-clause-at : goal.returns-then-occupied-eq0-clause-at
returns-then-occupied-eq0-clause-at c =
    let goes = c.loop-at.invariant.goes in
    (goes.behind, goes.within, omega (arith, c.loop-at-test.true, c.min-word.ensures))

pub returns-in_err-step-clause-at : goal.returns-in_err-step-clause-at
returns-in_err-step-clause-at c =
    let p = err_from_is_err_and c.from_residual.result c.from_residual.ensures.1 in
    let left = c.in_err-step.ensures in
    rw (p.1, p.2)
    (omega (arith, c.loop-at.invariant.goes.behind, left.from), left.within, omega (arith, c.loop-at-test.true, c.min-word.ensures, left.near))

pub returns-clause-upto : goal.returns-clause-upto
returns-clause-upto c =
    let goes = c.loop-at.invariant.goes in
    (omega (arith, c.loop-at-test.false, c.min-word.ensures), goes.within, omega (arith, goes.within, c.requires.few), goes.behind)
