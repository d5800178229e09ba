use Rattle.std.proofs.Common.{◌≡◌, ◌∙◌, arith, sym}
use Rattle.lert_worker_tests.proofs.fleet.call_both_cones.Goals as goal

pub try_admit-requires-clause-belongs : goal.try_admit-requires-clause-belongs
try_admit-requires-clause-belongs g c = c.requires.passes.belongs

pub try_admit-requires-clause-number : goal.try_admit-requires-clause-number
try_admit-requires-clause-number g c = c.requires.entries.0 ∙ sym c.requires.passes.lo_is

pub try_admit-requires-2-clause-belongs : goal.try_admit-requires-2-clause-belongs
try_admit-requires-2-clause-belongs g c = c.requires.passes.other_belongs

pub try_admit-requires-2-clause-number : goal.try_admit-requires-2-clause-number
try_admit-requires-2-clause-number g c = c.requires.entries.1 ∙ sym c.requires.passes.other_lo_is

pub admit-requires-clause-belongs : goal.admit-requires-clause-belongs
admit-requires-clause-belongs g c = c.try_admit-2.ensures.belongs

pub admit-requires-clause-number : goal.admit-requires-clause-number
admit-requires-clause-number g c = c.requires.entries.1 ∙ sym (c.try_admit-2.ensures.others.lo_is ∙ c.requires.passes.other_lo_is)

pub admit-requires-2-clause-belongs : goal.admit-requires-2-clause-belongs
admit-requires-2-clause-belongs g c = c.try_admit.ensures.belongs

pub admit-requires-2-clause-number : goal.admit-requires-2-clause-number
admit-requires-2-clause-number g c = c.requires.entries.0 ∙ sym (c.try_admit.ensures.others.lo_is ∙ c.requires.passes.lo_is)

pub join-requires-clause-belongs : goal.join-requires-clause-belongs
join-requires-clause-belongs g c = (c.admit-2.ensures.belongs, c.admit.ensures.belongs)

pub join-requires-clause-meets : goal.join-requires-clause-meets
join-requires-clause-meets g c =
    let second = c.admit.ensures.others.lo_is ∙ c.try_admit-2.ensures.others.lo_is ∙ c.requires.passes.other_lo_is in
    second ∙ sym (c.admit-2.ensures.others.hi_is ∙ c.try_admit.ensures.others.hi_is ∙ c.requires.passes.hi_is)

pub close-requires-clause-belongs : goal.close-requires-clause-belongs
close-requires-clause-belongs g c = c.join.ensures.belongs

pub close-requires-clause-whole : goal.close-requires-clause-whole
close-requires-clause-whole g c =
    let joined = c.join.ensures.joined in
    let passes = c.requires.passes in
    record {
      lo_is = joined.lo_is ∙ c.admit-2.ensures.others.lo_is ∙ c.try_admit.ensures.others.lo_is ∙ passes.lo_is;
      hi_is = λ cone lock is. joined.hi_is ∙ c.admit.ensures.others.hi_is ∙ c.try_admit-2.ensures.others.hi_is ∙ passes.other_hi_is ∙ sym (passes.all cone lock is);
    }
