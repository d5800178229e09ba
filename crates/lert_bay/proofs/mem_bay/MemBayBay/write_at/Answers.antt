use Rattle.std.proofs.{Common.{ℕ, List, length, refl, ap, subst, arith}, lemmas.List.take_all}
use Rattle.lert_bay.specs.{Files.{Holds, LeftByFailure}, Memory.Rewrites}
use Rattle.lert_bay.proofs.{Tearing.torn_held, Steps.{write_turns, write_images, write_time, write_handed, part_written}}
use Rattle.lert_bay.proofs.mem_bay.MemBayBay.write_at.Goals as goal

-- the call is to fail: a part is written
pub returns-then-is_err-clause-failed : goal.returns-then-is_err-clause-failed
returns-then-is_err-clause-failed c =
    write_turns c.args.self.now c.begin.new.self c.write_part.new.self c.write_part.new.self c.args.file c.args.at (length c.args.bytes.now)
    (LeftByFailure c.args.at (length c.args.bytes.now))
    (record { files = ap (λ d. d.files) c.begin.ensures.begun; past = ap (λ d. d.past) c.begin.ensures.begun })
    (part_written c.write_part.result c.begin.new.self c.write_part.new.self c.args.file c.args.at _ c.args.bytes.now (omega arith) c.write_part.ensures.ok
    c.write_part.ensures.err) refl

pub returns-then-is_err-clause-images : goal.returns-then-is_err-clause-images
returns-then-is_err-clause-images c =
    write_images c.args.self.now c.begin.new.self c.write_part.new.self c.write_part.new.self c.args.file c.args.at (length c.args.bytes.now)
    (LeftByFailure c.args.at (length c.args.bytes.now)) (λ old new left. left.torn)
    (record { files = ap (λ d. d.files) c.begin.ensures.begun; past = ap (λ d. d.past) c.begin.ensures.begun })
    (part_written c.write_part.result c.begin.new.self c.write_part.new.self c.args.file c.args.at _ c.args.bytes.now (omega arith) c.write_part.ensures.ok
    c.write_part.ensures.err) refl

pub returns-then-is_err-clause-time : goal.returns-then-is_err-clause-time
returns-then-is_err-clause-time c =
    write_time c.args.self.now c.begin.new.self c.write_part.new.self c.write_part.new.self c.args.file c.args.at (length c.args.bytes.now)
    (LeftByFailure c.args.at (length c.args.bytes.now))
    (record { files = ap (λ d. d.files) c.begin.ensures.begun; past = ap (λ d. d.past) c.begin.ensures.begun })
    (part_written c.write_part.result c.begin.new.self c.write_part.new.self c.args.file c.args.at _ c.args.bytes.now (omega arith) c.write_part.ensures.ok
    c.write_part.ensures.err) refl

pub returns-then-is_err-clause-handed : goal.returns-then-is_err-clause-handed
returns-then-is_err-clause-handed c =
    write_handed c.args.self.now c.begin.new.self c.write_part.new.self c.write_part.new.self c.args.file c.args.at (length c.args.bytes.now)
    (LeftByFailure c.args.at (length c.args.bytes.now)) (ap (λ d. d.handed) c.begin.ensures.begun)
    (part_written c.write_part.result c.begin.new.self c.write_part.new.self c.args.file c.args.at _ c.args.bytes.now (omega arith) c.write_part.ensures.ok
    c.write_part.ensures.err) refl

-- all is written
pub returns-in-Ok-clause-written : goal.returns-in-Ok-clause-written
returns-in-Ok-clause-written c =
    write_turns c.args.self.now c.begin.new.self c.write_part-2.new.self c.write_part-2.new.self c.args.file c.args.at (length c.args.bytes.now) (Holds c.args.at c.args.bytes.now)
    (record { files = ap (λ d. d.files) c.begin.ensures.begun; past = ap (λ d. d.past) c.begin.ensures.begun })
    (subst (λ (piece : List ℕ). Rewrites c.args.file c.args.at (length c.args.bytes.now) (Holds c.args.at piece) c.begin.new.self c.write_part-2.new.self)
    (take_all (length c.args.bytes.now) c.args.bytes.now (omega arith)) c.in-Ok.ensures.ok) refl

pub returns-in-Ok-clause-images : goal.returns-in-Ok-clause-images
returns-in-Ok-clause-images c =
    write_images c.args.self.now c.begin.new.self c.write_part-2.new.self c.write_part-2.new.self c.args.file c.args.at (length c.args.bytes.now)
    (Holds c.args.at c.args.bytes.now) (torn_held c.args.at c.args.bytes.now)
    (record { files = ap (λ d. d.files) c.begin.ensures.begun; past = ap (λ d. d.past) c.begin.ensures.begun })
    (subst (λ (piece : List ℕ). Rewrites c.args.file c.args.at (length c.args.bytes.now) (Holds c.args.at piece) c.begin.new.self c.write_part-2.new.self)
    (take_all (length c.args.bytes.now) c.args.bytes.now (omega arith)) c.in-Ok.ensures.ok) refl

pub returns-in-Ok-clause-time : goal.returns-in-Ok-clause-time
returns-in-Ok-clause-time c =
    write_time c.args.self.now c.begin.new.self c.write_part-2.new.self c.write_part-2.new.self c.args.file c.args.at (length c.args.bytes.now) (Holds c.args.at _)
    (record { files = ap (λ d. d.files) c.begin.ensures.begun; past = ap (λ d. d.past) c.begin.ensures.begun }) c.in-Ok.ensures.ok refl

pub returns-in-Ok-clause-handed : goal.returns-in-Ok-clause-handed
returns-in-Ok-clause-handed c =
    write_handed c.args.self.now c.begin.new.self c.write_part-2.new.self c.write_part-2.new.self c.args.file c.args.at (length c.args.bytes.now) (Holds c.args.at _)
    (ap (λ d. d.handed) c.begin.ensures.begun) c.in-Ok.ensures.ok refl

-- there is no memory
pub returns-in-Err-clause-failed : goal.returns-in-Err-clause-failed
returns-in-Err-clause-failed c =
    write_turns c.args.self.now c.begin.new.self c.write_part-2.new.self c.count_fault.new.self c.args.file c.args.at (length c.args.bytes.now)
    (LeftByFailure c.args.at (length c.args.bytes.now))
    (record { files = ap (λ d. d.files) c.begin.ensures.begun; past = ap (λ d. d.past) c.begin.ensures.begun })
    (part_written c.write_part-2.result c.begin.new.self c.write_part-2.new.self c.args.file c.args.at _ c.args.bytes.now (omega arith) c.write_part-2.ensures.ok
    c.write_part-2.ensures.err) (ap (λ d. d.files) c.count_fault.ensures.fault)

pub returns-in-Err-clause-images : goal.returns-in-Err-clause-images
returns-in-Err-clause-images c =
    write_images c.args.self.now c.begin.new.self c.write_part-2.new.self c.count_fault.new.self c.args.file c.args.at (length c.args.bytes.now)
    (LeftByFailure c.args.at (length c.args.bytes.now)) (λ old new left. left.torn)
    (record { files = ap (λ d. d.files) c.begin.ensures.begun; past = ap (λ d. d.past) c.begin.ensures.begun })
    (part_written c.write_part-2.result c.begin.new.self c.write_part-2.new.self c.args.file c.args.at _ c.args.bytes.now (omega arith) c.write_part-2.ensures.ok
    c.write_part-2.ensures.err) (ap (λ d. d.files) c.count_fault.ensures.fault)

pub returns-in-Err-clause-time : goal.returns-in-Err-clause-time
returns-in-Err-clause-time c =
    write_time c.args.self.now c.begin.new.self c.write_part-2.new.self c.count_fault.new.self c.args.file c.args.at (length c.args.bytes.now)
    (LeftByFailure c.args.at (length c.args.bytes.now))
    (record { files = ap (λ d. d.files) c.begin.ensures.begun; past = ap (λ d. d.past) c.begin.ensures.begun })
    (part_written c.write_part-2.result c.begin.new.self c.write_part-2.new.self c.args.file c.args.at _ c.args.bytes.now (omega arith) c.write_part-2.ensures.ok
    c.write_part-2.ensures.err) (ap (λ d. d.past) c.count_fault.ensures.fault)

pub returns-in-Err-clause-handed : goal.returns-in-Err-clause-handed
returns-in-Err-clause-handed c =
    write_handed c.args.self.now c.begin.new.self c.write_part-2.new.self c.count_fault.new.self c.args.file c.args.at (length c.args.bytes.now)
    (LeftByFailure c.args.at (length c.args.bytes.now)) (ap (λ d. d.handed) c.begin.ensures.begun)
    (part_written c.write_part-2.result c.begin.new.self c.write_part-2.new.self c.args.file c.args.at _ c.args.bytes.now (omega arith) c.write_part-2.ensures.ok
    c.write_part-2.ensures.err) (ap (λ d. d.handed) c.count_fault.ensures.fault)
