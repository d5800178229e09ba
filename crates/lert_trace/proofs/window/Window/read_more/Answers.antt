use Rattle.std.proofs.{Common.{◌-◌, ◌≤◌, length, sym, subst, arith}, lemmas.Result.err_from_is_err_and}
use Rattle.lert_trace.proofs.Pending.{take-read, StillAhead-read, StillAhead-unread, IsBlock-read, IsBlock-unread, length-read, handed-none}
use Rattle.lert_trace.proofs.window.Window.read_more.Goals as goal

pub slide-requires : goal.slide-requires
slide-requires g c = record { ordered = c.self.invariant.ordered; within = subst (λ n. c.self.inside.end ≤ n) (sym c.self.invariant.sized) c.self.invariant.within }

pub invariant_of-self : goal.invariant_of-self
invariant_of-self g c =
    IsBlock-unread c.self.inside.block c.slide.new.block c.read.new.into c.self.inside.start c.self.inside.end c.self.invariant c.slide.auto.block c.read.auto.into

pub returns-in_err-count : goal.returns-in_err-count
returns-in_err-count g c =
    let p = err_from_is_err_and c.from_residual.result c.from_residual.ensures.1 in
    let failed = c.in_err-count.ensures in
    rw (p.1, p.2, ← c.self.view_is)
    (record {
      ahead = StillAhead-unread c.self.inside.block c.slide.new.block c.read.new.into c.self.inside.start c.self.inside.end c.self.invariant c.slide.auto.block c.read.auto.into
          _ _ c.slide.ensures failed.refused;
      more = tt;
      at_end = tt;
      cause = failed.cause;
      mark = failed.mark;
    })

pub invariant_of-self-2 : goal.invariant_of-self-2
invariant_of-self-2 g c =
    IsBlock-read c.self.inside.block c.slide.new.block c.read.new.into c.self.inside.start c.self.inside.end c.self.invariant c.slide.auto.block c.read.auto.into
    c.in_ok-count.count c.in_ok-count.ensures.within

pub returns-clause-ahead : goal.returns-clause-ahead
returns-clause-ahead g c =
    let end = c.self.inside.end - c.self.inside.start in
    let within : end ≤ length c.slide.new.block = omega (arith, c.slide.auto.block, c.self.invariant.sized, c.self.invariant.within) in
    rw (← c.self.view_is, take-read c.slide.new.block c.read.new.into end c.in_ok-count.count (4096 - end) within c.in_ok-count.ensures.within, c.slide.ensures)
    (StillAhead-read _ _ _ c.read.new.into c.in_ok-count.count c.in_ok-count.ensures.told c.in_ok-count.ensures.untold)

pub returns-clause-more : goal.returns-clause-more
returns-clause-more g c =
    rw (← c.self.view_is)
    (length-read c.self.inside.block c.slide.new.block c.read.new.into c.self.inside.start c.self.inside.end c.self.invariant c.slide.auto.block c.read.auto.into
    c.in_ok-count.count c.in_ok-count.ensures.within)

pub returns-clause-at_end : goal.returns-clause-at_end
returns-clause-at_end g c =
    rw (← c.self.view_is)
    (λ zero bytes was. handed-none c.in_ok-count.count c.read.new.into bytes _ (c.in_ok-count.ensures.told bytes was) zero)

pub returns-clause-cause : goal.returns-clause-cause
returns-clause-cause g c = rw (← c.self.view_is) c.in_ok-count.ensures.cause

pub returns-clause-mark : goal.returns-clause-mark
returns-clause-mark g c = rw (← c.self.view_is) c.in_ok-count.ensures.mark
