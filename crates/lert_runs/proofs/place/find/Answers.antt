use Rattle.std.proofs.Common.{◌≡◌, ap, sym, ◌∙◌, refl, arith, length}
use Rattle.lert_counter.specs.{Group.group, Reading.read_as, declared.group.Group.Group}
use Rattle.lert_runs.specs.RunText.{run_text}
use Rattle.lert_runs.proofs.BeforeLemmas.{looks_before}
use Rattle.lert_runs.proofs.WalkLemmas.{next, looks_next, place_here, place_before, place_end}
use Rattle.lert_runs.proofs.place.find.Goals as goal

pub loop-start-init : goal.loop-start-init
loop-start-init c = λ ps text. looks_before c.args.width c.args.x c.walk_begin-start.result c.args.run.now ps text (c.walk_begin-start.ensures ps text)

pub returns-in_default : goal.returns-in_default
returns-in_default c = λ ps text.
    let n = next c.args.width c.loop-start.start c.args.run.now ps (c.loop-start.invariant ps text).stands c.loop-start-test.true in
    cc (c.scan_group.ensures.there (n.pair).0 (n.pair).1 (run_text c.args.width n.back) n.counts n.slots n.follows, c.in_default.is)

pub returns-then-x-group : goal.returns-then-x-group
returns-then-x-group c = λ ps text.
    let l = c.loop-start.invariant ps text in
    let n = next c.args.width c.loop-start.start c.args.run.now ps l.stands c.loop-start-test.true in
    let same : c.in-Some.group ≡ read_as c.args.width (n.pair).0 (n.pair).1 =
    cc (c.scan_group.ensures.there (n.pair).0 (n.pair).1 (run_text c.args.width n.back) n.counts n.slots n.follows, c.in-Some.is) in
    place_before c.args.width c.args.x c.loop-start.start c.args.run.now ps l n c.absent-then-x-group.result (let e = ap (λ (g : Group). g.x) same in omega arith) c.absent-then-x-group.ensures

pub returns-then-group-x : goal.returns-then-group-x
returns-then-group-x c = λ ps text.
    let l = c.loop-start.invariant ps text in
    let n = next c.args.width c.loop-start.start c.args.run.now ps l.stands c.loop-start-test.true in
    let same : c.in-Some.group ≡ read_as c.args.width (n.pair).0 (n.pair).1 =
    cc (c.scan_group.ensures.there (n.pair).0 (n.pair).1 (run_text c.args.width n.back) n.counts n.slots n.follows, c.in-Some.is) in
    place_here c.args.width c.args.x c.loop-start.start c.args.run.now ps l n _ (sym (ap (λ (g : Group). g.x) same) ∙ c.if-group-x.true) refl (ap (λ (g : Group). g.used) same)
    (ap (λ (g : Group). g.count) same)

pub overflow_add-start : goal.overflow_add-start
overflow_add-start c =
    let text = c.requires.run_text in
    let n = next c.args.width c.loop-start.start c.args.run.now text.0 (c.loop-start.invariant text.0 text.1).stands c.loop-start-test.true in
    let same : c.in-Some.group ≡ read_as c.args.width (n.pair).0 (n.pair).1 =
    cc (c.scan_group.ensures.there (n.pair).0 (n.pair).1 (run_text c.args.width n.back) n.counts n.slots n.follows, c.in-Some.is) in
    let used = ap (λ (g : Group). g.used) same in
    omega (arith, n.within, used)

pub loop-start-smaller : goal.loop-start-smaller
loop-start-smaller c =
    let text = c.requires.run_text in
    let n = next c.args.width c.loop-start.start c.args.run.now text.0 (c.loop-start.invariant text.0 text.1).stands c.loop-start-test.true in
    let same : c.in-Some.group ≡ read_as c.args.width (n.pair).0 (n.pair).1 =
    cc (c.scan_group.ensures.there (n.pair).0 (n.pair).1 (run_text c.args.width n.back) n.counts n.slots n.follows, c.in-Some.is) in
    let used = ap (λ (g : Group). g.used) same in
    omega (arith, n.some, n.within)

pub loop-start-preserved : goal.loop-start-preserved
loop-start-preserved c = λ ps text.
    let l = c.loop-start.invariant ps text in
    let n = next c.args.width c.loop-start.start c.args.run.now ps l.stands c.loop-start-test.true in
    let same : c.in-Some.group ≡ read_as c.args.width (n.pair).0 (n.pair).1 =
    cc (c.scan_group.ensures.there (n.pair).0 (n.pair).1 (run_text c.args.width n.back) n.counts n.slots n.follows, c.in-Some.is) in
    let used : c.in-Some.group.used ≡ length (group c.args.width (n.pair).0 (n.pair).1) = ap (λ (g : Group). g.used) same in
    rw used (looks_next c.args.width c.args.x c.loop-start.start c.args.run.now ps l n (let e = ap (λ (g : Group). g.x) same in omega (arith, c.if-group-x.false)))

pub returns : goal.returns
returns c = λ ps text.
    place_end c.args.width c.args.x c.loop-start.start c.args.run.now ps (c.loop-start.invariant ps text) c.absent-2.result (omega arith) c.absent-2.ensures
