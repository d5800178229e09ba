use Rattle.std.proofs.{Common.{Some, ap, ◌∙◌}, lemmas.Result.err_from_is_err_and}
use Rattle.lert_bay.specs.Memory.{seen_of, handed_of}
use Rattle.lert_bay.proofs.{Counting.{counted_ok, counted_err, no_cause, same_images}, Steps.{elapses, settled_seen, settled_images}}
use Rattle.lert_bay.proofs.mem_bay.MemBayBay.sync.Goals as goal

pub returns-in_err-begin : goal.returns-in_err-begin
returns-in_err-begin c =
    let p = err_from_is_err_and c.from_residual.result c.from_residual.ensures.1 in
    let b = c.in_err-begin.ensures in
    rw (p.1, p.2)
    (record {
      fails = b.fails;
      counted = counted_err c.args.self.now c.begin.new.self _ b.begun b.err;
      seen = ap (λ d. Some (seen_of d.files)) b.begun;
      durable = λ seen is. tt;
      failed = same_images _ _ (ap (λ d. d.files) b.begun);
      time = elapses c.args.self.now c.begin.new.self (ap (λ d. d.past) b.begun);
      handed = ap (λ d. handed_of d.handed) b.begun;
      cause = b.cause;
    })

pub returns-clause-fails : goal.returns-clause-fails
returns-clause-fails c = c.in_ok-begin.ensures.fails

pub returns-clause-counted : goal.returns-clause-counted
returns-clause-counted c =
    let is = c.settle.ensures.settled in
    counted_ok c.args.self.now c.begin.new.self c.settle.new.self tt c.begin.ensures.begun c.in_ok-begin.ensures.ok (ap (λ d. d.plan) is) (ap (λ d. d.past) is)
    (ap (λ d. d.mark) is) (ap (λ d. d.faults) is)

pub returns-clause-seen : goal.returns-clause-seen
returns-clause-seen c = ap (λ files. Some files) (settled_seen c.begin.new.self.files c.settle.new.self.files c.args.file c.settle.ensures.within
    (ap (λ d. d.files) c.settle.ensures.settled) ∙ ap (λ d. seen_of d.files) c.begin.ensures.begun)

pub returns-clause-durable : goal.returns-clause-durable
returns-clause-durable c = settled_images c.args.self.now.files c.begin.new.self.files c.settle.new.self.files c.args.file (ap (λ d. d.files) c.begin.ensures.begun)
    c.settle.ensures.within (ap (λ d. d.files) c.settle.ensures.settled)

pub returns-clause-failed : goal.returns-clause-failed
returns-clause-failed c = tt

pub returns-clause-time : goal.returns-clause-time
returns-clause-time c = elapses c.args.self.now c.settle.new.self (ap (λ d. d.past) c.settle.ensures.settled ∙ ap (λ d. d.past) c.begin.ensures.begun)

pub returns-clause-handed : goal.returns-clause-handed
returns-clause-handed c = ap (λ d. handed_of d.handed) c.settle.ensures.settled ∙ ap (λ d. handed_of d.handed) c.begin.ensures.begun

pub returns-clause-cause : goal.returns-clause-cause
returns-clause-cause c = no_cause c.args.self.now.faults c.begin.new.self.faults c.settle.new.self.faults tt c.in_ok-begin.ensures.ok (ap (λ d. d.faults) c.settle.ensures.settled)
