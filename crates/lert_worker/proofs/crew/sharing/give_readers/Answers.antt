use Rattle.std.proofs.{Common.{◌∙◌, ◌∷◌, ap, refl, subst, sym, arith}, lemmas.List.drop_all}
use Rattle.lert_trace.specs.Reader.{Reading}
use Rattle.lert_worker.specs.crew.Sharing.{AreManned}
use Rattle.lert_worker.proofs.crew.{Pouring.{given_rest, given_there}, Shared.{all_below, manned_more, manned_none}}
use Rattle.lert_worker.proofs.crew.sharing.give_readers.Goals as goal

pub give_one-requires : goal.give_one-requires
give_one-requires g c = record {
  some = let n = c.loop-trace.invariant.manned.number in let s = c.requires.some in omega (arith, n, s);
  most = let t = c.loop-trace-test.true in let n = c.len-count.ensures in let f = c.requires.few in omega (arith, t, n, f);
  above = all_below c.loop-trace.trace c.args.readers.now.items c.args.crew.now c.loop-trace.crew c.loop-trace.invariant.manned;
}

pub loop-trace-preserved : goal.loop-trace-preserved
loop-trace-preserved g c =
    let rest = c.loop-trace.invariant.rest in
    record {
      manned = manned_more c.loop-trace.trace c.args.readers.now.items c.in-Some.reader c.args.crew.now c.loop-trace.crew c.give_one.new.crew
          (given_there c.loop-trace.trace c.args.readers.now.items c.in-Some.reader c.pop_front.new.self.items (sym rest ∙ c.in-Some.ensures.items)) c.loop-trace.invariant.manned
          c.in_default-give_one.ensures.given;
      rest = given_rest c.loop-trace.trace c.args.readers.now.items c.in-Some.reader c.pop_front.new.self.items (sym rest ∙ c.in-Some.ensures.items);
    }

pub returns : goal.returns
returns g c = record {
  given = subst (λ n. AreManned n c.args.readers.now.items c.args.crew.now c.loop-trace.crew)
      (let a = c.loop-trace-test.false in let b = c.loop-trace.auto.trace-end in let d = c.len-count.ensures in omega (arith, a, b, d)) c.loop-trace.invariant.manned;
  emptied = c.loop-trace.invariant.rest
      ∙ drop_all c.loop-trace.trace c.args.readers.now.items (let a = c.loop-trace-test.false in let d = c.len-count.ensures in omega (arith, a, d));
  some_given = tt;
  rest = tt;
  refused = tt;
}

pub loop-trace-init : goal.loop-trace-init
loop-trace-init g c = record { manned = manned_none c.args.readers.now.items c.args.crew.now c.requires.free; rest = refl }

pub loop-trace-smaller : goal.loop-trace-smaller
loop-trace-smaller g c = let t = c.loop-trace-test.true in omega (arith, t)

pub returns-in-Err : goal.returns-in-Err
returns-in-Err g c = record {
  given = tt;
  emptied = tt;
  some_given = subst (AreManned c.loop-trace.trace c.args.readers.now.items c.args.crew.now) (sym c.in-Err.ensures.unchanged) c.loop-trace.invariant.manned;
  rest = c.push_front_reserved.ensures.items
      ∙ (ap (λ (x : Reading g.row.S.Denot). x ∷ c.pop_front.new.self.items) c.in-Err.ensures.back ∙ (sym c.in-Some.ensures.items ∙ c.loop-trace.invariant.rest));
  refused = let t = c.loop-trace-test.true in let n = c.len-count.ensures in omega (arith, t, n);
}
