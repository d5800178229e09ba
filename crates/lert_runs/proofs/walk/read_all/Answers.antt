use Rattle.std.proofs.{Common.{◌≡◌, ◌^◌, ◌<◌, ap, length, arith, inl, inr, ◌⊎◌, refl}, lemmas.Nat.{one_shl, pow_pos}}
use Rattle.lert_counter.specs.{Group.group, Reading.read_as, declared.group.Group.Group}
use Rattle.lert_runs.specs.RunText.{run_text}
use Rattle.lert_runs.proofs.{WalkLemmas.{stands_first, stands_next, next}, ReadLemmas.{read_first, read_more, read_some, read_end, below-next}}
use Rattle.lert_runs.proofs.walk.read_all.Goals.{else-at-gt0-via-then-at-gt0+else-group-last, else-at-gt0-via-else-at-gt0}
use Rattle.lert_runs.proofs.walk.read_all.Goals as goal

pub loop-at-init : goal.loop-at-init
loop-at-init c = record {
  read = read_first c.args.width c.args.run.now;
  small = pow_pos c.args.width;
  of_text = λ ps text. (stands_first c.args.width c.args.run.now ps text, λ more. absurd (omega arith));
}

pub returns-in_default : goal.returns-in_default
returns-in_default c = (
  λ yes. cc yes,
  λ text.
      let s = (c.loop-at.invariant.of_text text.0 text.1).0 in
      let n = next c.args.width c.loop-at.at c.args.run.now text.0 s c.loop-at-test.true in
      cc (c.read_group.ensures.in_run (n.pair).0 (n.pair).1 (run_text c.args.width n.back) n.counts n.slots n.follows, c.in_default.is),
)

pub returns-then-group-limit : goal.returns-then-group-limit
returns-then-group-limit c = (
  λ yes. cc yes,
  λ text.
      let s = (c.loop-at.invariant.of_text text.0 text.1).0 in
      let n = next c.args.width c.loop-at.at c.args.run.now text.0 s c.loop-at-test.true in
      let same : c.in-Some.group ≡ read_as c.args.width (n.pair).0 (n.pair).1 =
      cc (c.read_group.ensures.in_run (n.pair).0 (n.pair).1 (run_text c.args.width n.back) n.counts n.slots n.follows, c.in-Some.is) in
      let x = ap (λ (g : Group). g.x) same in
      let below = below-next (2 ^ c.args.width) text.0 s.done n.back s.rest n.pair s.split n.is text.2 in
      let limit = one_shl c.args.width 64 (omega arith) in
      absurd (omega (arith, c.if-group-limit.true)),
)

pub returns-then-group-last : goal.returns-then-group-last
returns-then-group-last c = (
  λ yes. cc yes,
  λ text.
      let at_text = c.loop-at.invariant.of_text text.0 text.1 in
      let n = next c.args.width c.loop-at.at c.args.run.now text.0 at_text.0 c.loop-at-test.true in
      let same : c.in-Some.group ≡ read_as c.args.width (n.pair).0 (n.pair).1 =
      cc (c.read_group.ensures.in_run (n.pair).0 (n.pair).1 (run_text c.args.width n.back) n.counts n.slots n.follows, c.in-Some.is) in
      let x = ap (λ (g : Group). g.x) same in
      let above = at_text.1 c.if-at-gt0.true in
      absurd (omega (arith, n.from, above, c.if-group-last.true, x)),
)

pub loop-at-smaller : goal.loop-at-smaller
loop-at-smaller c =
    let more : (c.loop-at.at ≡ 0) ⊎ (c.loop-at.last < c.in-Some.group.x) = elim c.else-at-gt0.branch [
      | else-at-gt0-via-then-at-gt0+else-group-last w ↦ inr w.if-group-last.false
      | else-at-gt0-via-else-at-gt0 w ↦ inl (omega (arith, w.if-at-gt0.false))
    ] in
    let read = read_more c.args.width c.loop-at.at c.loop-at.last c.args.run.now c.in-Some.group c.loop-at.invariant.read more c.loop-at-test.true c.in-Some.ensures.begins in
    let some = read_some c.args.width _ c.in-Some.group c.in-Some.ensures.begins in
    omega (arith, read.within, some)

pub loop-at-preserved : goal.loop-at-preserved
loop-at-preserved c =
    let more : (c.loop-at.at ≡ 0) ⊎ (c.loop-at.last < c.in-Some.group.x) = elim c.else-at-gt0.branch [
      | else-at-gt0-via-then-at-gt0+else-group-last w ↦ inr w.if-group-last.false
      | else-at-gt0-via-else-at-gt0 w ↦ inl (omega (arith, w.if-at-gt0.false))
    ] in
    record {
      read = read_more c.args.width c.loop-at.at c.loop-at.last c.args.run.now c.in-Some.group c.loop-at.invariant.read more c.loop-at-test.true c.in-Some.ensures.begins;
      small = (let limit = one_shl c.args.width 64 (omega arith) in omega (arith, c.if-group-limit.false));
      of_text = λ ps text.
          let at_text = c.loop-at.invariant.of_text ps text in
          let n = next c.args.width c.loop-at.at c.args.run.now ps at_text.0 c.loop-at-test.true in
          let same : c.in-Some.group ≡ read_as c.args.width (n.pair).0 (n.pair).1 =
          cc (c.read_group.ensures.in_run (n.pair).0 (n.pair).1 (run_text c.args.width n.back) n.counts n.slots n.follows, c.in-Some.is) in
          let x : c.in-Some.group.x ≡ (n.pair).0 = ap (λ (g : Group). g.x) same in
          let used : c.in-Some.group.used ≡ length (group c.args.width (n.pair).0 (n.pair).1) = ap (λ (g : Group). g.used) same in
          rw (used, x) (stands_next c.args.width c.loop-at.at c.args.run.now ps at_text.0 n, λ some. omega arith);
    }

pub returns : goal.returns
returns c = (
  λ _. read_end c.args.width c.loop-at.at c.loop-at.last c.args.run.now c.loop-at.invariant.read c.loop-at.invariant.small (omega arith),
  λ _. refl,
)
