use Rattle.std.proofs.Common.{◌≡◌, ◌<◌, ℕ, length, subst, arith, ◌∙◌}
use Rattle.lert_bay.proofs.Crashing.{LeftBelow, left_none, left_one, left_all, left_only, left_lost, left_as_read}
use Rattle.lert_bay.proofs.mem_bay.MemBay.crashed.Goals as goal

pub loop-file-init : goal.loop-file-init
loop-file-init c = left_none c.args.pick c.self.inside.files

pub loop-file-preserved : goal.loop-file-preserved
loop-file-preserved c =
    let within : c.loop-file.file-index < length c.loop-file.file-items = omega (arith, c.loop-file-test.true, c.loop-file.invariant.long, c.self.invariant.0) in
    left_one c.args.pick c.loop-file.file-index c.self.inside.files c.loop-file.file-items c.file-item.result c.crash.new.self c.loop-file.invariant within c.crash.ensures.lost
    c.crash.ensures.as_read c.crash.ensures.image c.crash.ensures.durable

pub invariant_of-self : goal.invariant_of-self
invariant_of-self c = (c.loop-file.invariant.long ∙ c.self.invariant.0, c.self.invariant.1)

pub returns-clause-image : goal.returns-clause-image
returns-clause-image c =
    let all : c.loop-file.file-index ≡ length c.self.inside.files = omega (arith, c.loop-file-test.false, c.loop-file.auto.file-index-end, c.self.invariant.0) in
    rw (← c.self.view_is)
    (left_all c.args.pick c.self.inside.files c.loop-file.file-items
    (subst (λ (n : ℕ). LeftBelow c.args.pick n c.self.inside.files c.loop-file.file-items) all c.loop-file.invariant))

pub returns-clause-durable : goal.returns-clause-durable
returns-clause-durable c =
    let all : c.loop-file.file-index ≡ length c.self.inside.files = omega (arith, c.loop-file-test.false, c.loop-file.auto.file-index-end, c.self.invariant.0) in
    left_only c.args.pick c.self.inside.files c.loop-file.file-items
    (subst (λ (n : ℕ). LeftBelow c.args.pick n c.self.inside.files c.loop-file.file-items) all c.loop-file.invariant)

pub returns-clause-lost : goal.returns-clause-lost
returns-clause-lost c =
    let all : c.loop-file.file-index ≡ length c.self.inside.files = omega (arith, c.loop-file-test.false, c.loop-file.auto.file-index-end, c.self.invariant.0) in
    rw (← c.self.view_is)
    (left_lost c.args.pick c.self.inside.files c.loop-file.file-items
    (subst (λ (n : ℕ). LeftBelow c.args.pick n c.self.inside.files c.loop-file.file-items) all c.loop-file.invariant))

pub returns-clause-as_read : goal.returns-clause-as_read
returns-clause-as_read c =
    let all : c.loop-file.file-index ≡ length c.self.inside.files = omega (arith, c.loop-file-test.false, c.loop-file.auto.file-index-end, c.self.invariant.0) in
    rw (← c.self.view_is)
    (left_as_read c.args.pick c.self.inside.files c.loop-file.file-items
    (subst (λ (n : ℕ). LeftBelow c.args.pick n c.self.inside.files c.loop-file.file-items) all c.loop-file.invariant))
