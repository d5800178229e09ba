use Rattle.std.proofs.{Common.{◌≡◌, ◌++◌, ◌∷◌, ◌∙◌, [], None, replicate, true, ap, sym, arith, append-nil}, lemmas.Bool.cond-true}
use Rattle.std.specs.Result.{is_ok}
use Rattle.lert_levels.proofs.PartLaws.{one_added}
use Rattle.lert_levels.proofs.parts.add_streams.Goals as goal

pub loop-init : goal.loop-init
loop-init c = record { parts = sym (append-nil c.args.parts.now.items); room = omega arith }

pub loop-preserved : goal.loop-preserved
loop-preserved c =
    let ok : is_ok c.push.result ≡ true = sym c.is_ok-is_put.ensures.value ∙ c.if-prove.false in
    let put = c.push.ensures.items ∙ cond-true (is_ok c.push.result) (c.loop.parts.items ++ None ∷ []) _ ok in
    record {
      parts = one_added c.args.parts.now.items c.loop.parts.items c.push.new.self.items c.loop.counter c.loop.invariant.parts put;
      room = omega (arith, c.push.ensures.capacity, c.loop.invariant.room);
    }

pub returns : goal.returns
returns c =
    let all : c.loop.counter ≡ c.args.count = omega (arith, c.loop-test.false, c.loop.auto.counter-end) in
    record { parts = c.loop.invariant.parts ∙ ap (λ n. c.args.parts.now.items ++ replicate n None) all; room = c.loop.invariant.room }
