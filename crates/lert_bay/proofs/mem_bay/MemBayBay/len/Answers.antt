use Rattle.std.proofs.{Common.{Some, ap, refl}, lemmas.Result.err_from_is_err_and}
use Rattle.lert_bay.specs.Memory.{seen_of, handed_of}
use Rattle.lert_bay.proofs.{Counting.{counted_ok, counted_err, no_cause, same_images, length_told}, Steps.elapses}
use Rattle.lert_bay.proofs.mem_bay.MemBayBay.len.Goals as goal

pub returns-in_err-begin : goal.returns-in_err-begin
returns-in_err-begin c =
    let p = err_from_is_err_and c.from_residual.result c.from_residual.ensures.1 in
    let b = c.in_err-begin.ensures in
    rw (p.1, p.2)
    (record {
      fails = b.fails;
      counted = counted_err c.args.self.now c.begin.new.self _ b.begun b.err;
      told = λ seen is. tt;
      seen = ap (λ d. Some (seen_of d.files)) b.begun;
      images = same_images _ _ (ap (λ d. d.files) b.begun);
      time = elapses c.args.self.now c.begin.new.self (ap (λ d. d.past) b.begun);
      handed = ap (λ d. handed_of d.handed) b.begun;
      cause = record { never_falls = b.cause.never_falls; failed = b.cause.failed };
    })

pub returns-clause-fails : goal.returns-clause-fails
returns-clause-fails c = c.in_ok-begin.ensures.fails

pub returns-clause-counted : goal.returns-clause-counted
returns-clause-counted c = counted_ok c.args.self.now c.begin.new.self c.begin.new.self _ c.begin.ensures.begun c.in_ok-begin.ensures.ok refl refl refl refl

pub returns-clause-told : goal.returns-clause-told
returns-clause-told c =
    length_told c.args.self.now.files c.begin.new.self.files c.args.file c.bytes.result.now (ap (λ d. d.files) c.begin.ensures.begun) c.bytes.ensures

pub returns-clause-seen : goal.returns-clause-seen
returns-clause-seen c = ap (λ d. Some (seen_of d.files)) c.begin.ensures.begun

pub returns-clause-images : goal.returns-clause-images
returns-clause-images c = same_images _ _ (ap (λ d. d.files) c.begin.ensures.begun)

pub returns-clause-time : goal.returns-clause-time
returns-clause-time c = elapses c.args.self.now c.begin.new.self (ap (λ d. d.past) c.begin.ensures.begun)

pub returns-clause-handed : goal.returns-clause-handed
returns-clause-handed c = ap (λ d. handed_of d.handed) c.begin.ensures.begun

pub returns-clause-cause : goal.returns-clause-cause
returns-clause-cause c = no_cause c.args.self.now.faults c.begin.new.self.faults c.begin.new.self.faults _ c.in_ok-begin.ensures.ok refl
