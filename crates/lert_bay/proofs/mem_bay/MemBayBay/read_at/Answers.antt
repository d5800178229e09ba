use Rattle.std.proofs.{Common.{◌<◌, Some, ap, sym, ◌∙◌, subst}, lemmas.Result.err_from_is_err_and}
use Rattle.lert_bay.specs.Memory.{seen_of}
use Rattle.lert_bay.proofs.{Counting.{counted_ok, counted_err, no_cause, same_images, hands_none, copies_told, copies_within}, HandedLaws.hands_counted, Steps.elapses}
use Rattle.lert_bay.proofs.mem_bay.MemBayBay.read_at.Goals as goal

pub returns-in_err-begin : goal.returns-in_err-begin
returns-in_err-begin c =
    let p = err_from_is_err_and c.from_residual.result c.from_residual.ensures.1 in
    let b = c.in_err-begin.ensures in
    rw (p.1, p.2)
    (record {
      fails = b.fails;
      counted = counted_err c.args.self.now c.begin.new.self _ b.begun b.err;
      within = tt;
      told = λ seen is. tt;
      seen = ap (λ d. Some (seen_of d.files)) b.begun;
      images = same_images _ _ (ap (λ d. d.files) b.begun);
      time = elapses c.args.self.now c.begin.new.self (ap (λ d. d.past) b.begun);
      handed = hands_none c.args.file _ _ _ _ (ap (λ d. d.handed) b.begun);
      cause = record { never_falls = b.cause.never_falls; failed = b.cause.failed };
    })

pub returns-clause-fails : goal.returns-clause-fails
returns-clause-fails c = c.in_ok-begin.ensures.fails

pub returns-clause-counted : goal.returns-clause-counted
returns-clause-counted c =
    let is = c.count_read.ensures.counted in
    counted_ok c.args.self.now c.begin.new.self c.count_read.new.self c.read-count.result c.begin.ensures.begun c.in_ok-begin.ensures.ok (ap (λ d. d.plan) is) (ap (λ d. d.past) is)
    (ap (λ d. d.mark) is) (ap (λ d. d.faults) is)

pub returns-clause-within : goal.returns-clause-within
returns-clause-within c = copies_within c.args.at c.read-count.result c.read-count.new.into _ c.read-count.ensures

pub returns-clause-told : goal.returns-clause-told
returns-clause-told c = copies_told c.args.self.now.files c.self.inside.files c.args.file c.args.at c.read-count.result c.read-count.new.into c.index-self-file.result
    (ap (λ d. d.files) (c.self.view_is ∙ c.begin.ensures.begun)) (subst (λ n. c.args.file < n) (sym c.self.invariant.0) c.requires) c.read-count.ensures

pub returns-clause-seen : goal.returns-clause-seen
returns-clause-seen c = ap (λ d. Some (seen_of d.files)) (c.count_read.ensures.counted) ∙ ap (λ d. Some (seen_of d.files)) c.begin.ensures.begun

pub returns-clause-images : goal.returns-clause-images
returns-clause-images c = same_images _ _ (ap (λ d. d.files) c.count_read.ensures.counted ∙ ap (λ d. d.files) c.begin.ensures.begun)

pub returns-clause-time : goal.returns-clause-time
returns-clause-time c = elapses c.args.self.now c.count_read.new.self (ap (λ d. d.past) c.count_read.ensures.counted ∙ ap (λ d. d.past) c.begin.ensures.begun)

pub returns-clause-handed : goal.returns-clause-handed
returns-clause-handed c = hands_counted c.args.file c.read-count.result _ c.args.self.now.handed c.begin.new.self.handed c.count_read.new.self.handed
    (ap (λ d. d.handed) c.begin.ensures.begun) c.count_read.ensures.within (ap (λ d. d.handed) c.count_read.ensures.counted) c.count_read.ensures.never_falls

pub returns-clause-cause : goal.returns-clause-cause
returns-clause-cause c = no_cause c.args.self.now.faults c.begin.new.self.faults c.count_read.new.self.faults c.read-count.result c.in_ok-begin.ensures.ok
    (ap (λ d. d.faults) c.count_read.ensures.counted)
