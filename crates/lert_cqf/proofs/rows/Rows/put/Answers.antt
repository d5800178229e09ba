use Rattle.std.proofs.{Common.{true, false, arith}, lemmas.Option.get_or_from_slice_get}
use Rattle.lert_cqf.proofs.TableLemmas.{occupied_long, held, not_held, put_within, growing, beginning, kept_grown, kept_begun}
use Rattle.lert_cqf.proofs.rows.Rows.put.Goals as goal

pub get-requires : goal.get-requires
get-requires c =
    let k = c.requires.kept.4 in
    let p = c.requires.kept.6 in
    let within = put_within _ _ _ _ _ _ _ _ _ _ k _ _ _ _ p in
    let long = occupied_long _ _ _ _ _ _ _ _ _ _ k in
    omega arith

pub grow_run-requires-clause-growing : goal.grow_run-requires-clause-growing
grow_run-requires-clause-growing c =
    let k = c.requires.kept.4 in
    let p = c.requires.kept.6 in
    let within = put_within _ _ _ _ _ _ _ _ _ _ k _ _ _ _ p in
    let set = get_or_from_slice_get c.args.self.now.occupied c.args.home true false c.if-get.ensures in
    (_, _, growing _ _ _ _ _ _ _ _ _ _ k _ _ _ _ p (held _ _ _ _ _ _ _ _ _ _ k c.args.home within set))

pub add_run-requires-clause-beginning : goal.add_run-requires-clause-beginning
add_run-requires-clause-beginning c =
    let k = c.requires.kept.4 in
    let p = c.requires.kept.6 in
    let set = get_or_from_slice_get c.args.self.now.occupied c.args.home false false c.if-get.ensures in
    (_, _, beginning _ _ _ _ _ _ _ _ _ _ k _ _ _ _ p (not_held _ _ _ _ _ _ _ _ _ _ k c.args.home set))

pub add_run-requires-clause-occupied : goal.add_run-requires-clause-occupied
add_run-requires-clause-occupied c =
    let k = c.requires.kept.4 in
    let p = c.requires.kept.6 in
    let within = put_within _ _ _ _ _ _ _ _ _ _ k _ _ _ _ p in
    let long = occupied_long _ _ _ _ _ _ _ _ _ _ k in
    omega arith

pub returns-then-get : goal.returns-then-get
returns-then-get c = λ table quotient_bits events room tail k p.
    let within = put_within _ _ _ _ _ _ _ _ _ _ k _ _ _ _ p in
    let set = get_or_from_slice_get c.args.self.now.occupied c.args.home true false c.if-get.ensures in
    let h = held _ _ _ _ _ _ _ _ _ _ k c.args.home within set in
    kept_grown _ _ _ _ _ _ _ _ _ _ k _ _ _ _ p h _ _ _ _ _ (c.grow_run.ensures.stand _ _ (growing _ _ _ _ _ _ _ _ _ _ k _ _ _ _ p h)) c.grow_run.ensures.occupied

pub returns-else-get : goal.returns-else-get
returns-else-get c = λ table quotient_bits events room tail k p.
    let set = get_or_from_slice_get c.args.self.now.occupied c.args.home false false c.if-get.ensures in
    let l = not_held _ _ _ _ _ _ _ _ _ _ k c.args.home set in
    kept_begun _ _ _ _ _ _ _ _ _ _ k _ _ _ _ p l _ _ _ _ _ (c.add_run.ensures.stand _ _ (beginning _ _ _ _ _ _ _ _ _ _ k _ _ _ _ p l)) c.add_run.ensures.occupied
