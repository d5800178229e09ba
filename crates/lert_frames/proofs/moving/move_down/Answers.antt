use Rattle.lert_bay.specs.Kept.{seen_by}
use Rattle.std.{proofs.Common.{◌≡◌, ℕ, ◌+◌, ◌≤◌, ◌∙◌, ◌++◌, List, ap, sym, subst, refl, inr, arith}, proofs.lemmas.Result.err_from_is_err_and}
use Rattle.lert_bay.{specs.declared.bay.TheConstants.FRAMES, specs.Settled.part}
use Rattle.lert_frames.{specs.Outlet.IsOut, proofs.CallLaws.{writes_none, writes_on, writes_as, writes_wider, told_then, no_shorter}, proofs.OutletLaws.out_all}
use Rattle.lert_frames.{proofs.PartLaws.{part_is, part_join}, proofs.WithinLaws.part_within}
use Rattle.lert_frames.proofs.moving.move_down.Goals as goal

pub returns-in_err-move_part : goal.returns-in_err-move_part
returns-in_err-move_part g c =
    let p = err_from_is_err_and c.from_residual.result c.from_residual.ensures.1 in
    let inv = c.loop-moved.invariant in
    let step = c.in_err-move_part.ensures in
    rw p.1 (record {
      moved = λ seen told later told_later within. tt;
      empty = tt;
      place = tt;
      size = step.size ∙ inv.size;
      writes = λ begin end low high.
          writes_on g.met.B.Bay.since_earlier (writes_wider inv.writes low (omega arith) (omega (arith, inv.some, high)))
          (writes_as (λ _. refl) (step.writes begin end (omega (arith, inv.place)) (omega (arith, inv.place))));
    })

pub loop-moved-preserved : goal.loop-moved-preserved
loop-moved-preserved g c =
    let inv = c.loop-moved.invariant in
    let step = c.in_ok-move_part.ensures in
    let from = c.args.from in
    let to = c.args.to in
    let moved = c.loop-moved.moved in
    let more = c.min-more.result in
    let few : moved + more ≤ c.args.count = omega (arith, c.min-more.ensures) in
    record {
      some = few;
      empty = step.empty;
      place = omega (arith, step.place, inv.place);
      size = step.size ∙ inv.size;
      writes = writes_on g.met.B.Bay.since_earlier (writes_wider inv.writes (omega arith) (omega arith) (omega arith))
          (writes_as (λ never. absurd never) (step.writes to (to + (moved + more)) (omega (arith, inv.place)) (omega (arith, inv.place))));
      out = λ seen told later told_later within.
          let mid = told_then inv.writes.within told in
          let longer = no_shorter inv.writes.within told mid.1 in
          let there = step.out mid.0 mid.1 later told_later (omega (arith, within, longer, few)) to _ (inv.out seen told mid.0 mid.1 within) in
          let same = part_within _ to (to + moved) _ _ seen mid.0 told mid.1 inv.writes.within (from + moved) (from + moved + more) (omega (arith, within, few)) (omega arith)
          (inr (omega (arith, c.requires.order))) in
          let whole : part (seen FRAMES) from (from + moved) ++ part (mid.0 FRAMES) (from + moved) (from + moved + more) ≡ part (seen FRAMES) from (from + (moved + more)) =
          ap (λ (bytes : List ℕ). part (seen FRAMES) from (from + moved) ++ bytes) same
          ∙ (part_join (seen FRAMES) from (from + moved) (from + moved + more) (omega arith) (omega arith) (omega (arith, within, few))
          ∙ ap (part (seen FRAMES) from) (let sum : from + moved + more ≡ from + (moved + more) = omega arith in sum)) in
          subst (λ (bytes : List ℕ). IsOut to bytes (later FRAMES) c.move_part.new.outlet) whole there;
    }

pub loop-moved-init : goal.loop-moved-init
loop-moved-init g c =
    let e = c.start.ensures in
    record {
      some = omega arith;
      empty = omega (arith, e.place, e.at);
      place = omega (arith, e.at);
      size = e.size ∙ c.requires.size;
      writes = writes_none (seen_by g.B.Faulty g.B.Bay) g.met.B.Bay.only_now (λ never. never);
      out = λ seen told later told_later within.
          let none = part_is (seen FRAMES) c.args.from 0 (c.args.from + 0) refl in
          subst (λ (bytes : List ℕ). IsOut c.args.to bytes (later FRAMES) c.start.new.self) (sym none) (e.out (later FRAMES));
    }

pub returns : goal.returns
returns g c =
    let inv = c.loop-moved.invariant in
    let all : c.loop-moved.moved ≡ c.args.count = omega (arith, inv.some) in
    let place : c.args.to + c.args.count ≡ c.loop-moved.outlet.at = omega (arith, inv.place, all) in
    let to = c.args.to in
    record {
      empty = c.loop-moved.invariant.empty;
      size = c.loop-moved.invariant.size;
      moved = λ seen told later told_later within.
          let out = inv.out seen told later told_later within in
          ap (part (later FRAMES) c.args.to) place ∙ (out_all c.args.to _ (later FRAMES) c.loop-moved.outlet out inv.empty ∙ ap (λ n. part (seen FRAMES) c.args.from (c.args.from + n)) all);
      place = omega (arith, c.loop-moved.invariant.place, c.loop-moved.invariant.some, c.loop-moved-test.false);
      writes = λ begin end low high.
          writes_as (λ failed. cc) (writes_wider inv.writes low (omega arith) (omega (arith, inv.some, high)));
    }
