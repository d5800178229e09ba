use Rattle.std.proofs.{Common.{take, ap, sym, ◌∙◌, inl, arith, refl}, lemmas.List.take-take}
use Rattle.lert_files.proofs.HeadLaws.{front_read, read_whole, whole_file, gateless_there, fault_there, headed_there}
use Rattle.lert_files.proofs.journal_header.check_header.Goals as goal

pub returns-clause-told : goal.returns-clause-told
returns-clause-told c file end_is is =
    let whole = c.in_default.ensures.whole in
    let head_is = read_whole c.args.count c.args.head.now file c.told-head c.requires is whole.0 in
    let kept = c.in-Some-read_header.ensures in
    headed_there c.args.settings.now c.args.cone c.in-Some-read_header.kept.version c.args.head.now file c.in-Some-read_header.kept kept.0 head_is kept.1
    (whole_file c.args.count c.args.head.now file is whole.0) kept.2 (λ k. c.fits-head k) c.told-head (omega (arith, end_is, c.if-end.false)) (c.if-not-is_own.ensures.own refl)

pub returns-then-not-is_own-clause-told : goal.returns-then-not-is_own-clause-told
returns-then-not-is_own-clause-told c file end_is is =
    let whole = c.in_default.ensures.whole in
    let head_is = read_whole c.args.count c.args.head.now file c.told-head c.requires is whole.0 in
    let kept = c.in-Some-read_header.ensures in
    fault_there c.args.settings.now c.args.cone c.in-Some-read_header.kept.version c.args.head.now file c.in-Some-read_header.kept kept.0 head_is kept.1
    (whole_file c.args.count c.args.head.now file is whole.0) kept.2 (c.if-not-is_own.ensures.other refl)

pub returns-then-end-clause-told : goal.returns-then-end-clause-told
returns-then-end-clause-told c file end_is is =
    let whole = c.in_default.ensures.whole in
    let head_is = read_whole c.args.count c.args.head.now file c.told-head c.requires is whole.0 in
    let kept = c.in-Some-read_header.ensures in
    gateless_there c.args.settings.now c.args.cone c.in-Some-read_header.kept.version c.args.head.now file c.in-Some-read_header.kept kept.0 head_is kept.1
    (whole_file c.args.count c.args.head.now file is whole.0) kept.2 c.args.end end_is (omega (arith, c.if-end.true)) (c.if-not-is_own.ensures.own refl)

pub returns-in-Some-clause-told : goal.returns-in-Some-clause-told
returns-in-Some-clause-told c file end_is is =
    inl (c.in-Some.at, refl, inl (sym (c.in-Some.ensures.place file (ap (take 32) is ∙ take-take 32 32 file (omega arith)))))

-- bytes that leave the header nowhere have one
pub unreachable-requires : goal.unreachable-requires
unreachable-requires c =
    let whole = c.in_default.ensures.whole in
    absurd (c.in_default-read_header.ensures _ whole.1 (front_read c.args.count c.args.head.now whole.0 ∙ whole.2))
