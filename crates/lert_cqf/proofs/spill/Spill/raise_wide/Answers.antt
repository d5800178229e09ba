use Rattle.std.proofs.{Common.{◌+◌, ◌/◌, ap, ap₂, sym, ◌∙◌, subst, length, get_or, List, ℕ, arith}, lemmas.List.with_items_is}
use Rattle.lert_cqf.specs.{Rows.IsRaised, Spill.{sums, IsRaisedTo, AreRaised}}
use Rattle.lert_cqf.proofs.SumLemmas.{sums_long, sums_at, near_raised, sums_raised}
use Rattle.lert_cqf.proofs.spill.Spill.raise_wide.Goals as goal

pub raise-requires-clause-within : goal.raise-requires-clause-within
raise-requires-clause-within c =
    let own = c.self.inside.own.items in
    omega (arith, c.requires.within, sums_long 0 own c.self.inside.common.items, ap length c.self.view_is, ap length c.deref_mut-else-self-len.ensures.value)

pub raise-requires-clause-room : goal.raise-requires-clause-room
raise-requires-clause-room c = λ g low high.
    let own = c.self.inside.own.items in
    let common = c.self.inside.common.items in
    let long = sums_long 0 own common in
    let same = ap length c.self.view_is in
    let room = c.requires.room g (omega arith) in
    let sum = sums_at own common g (omega (arith, c.requires.within, long, same)) in
    omega (arith, room, sum, ap (λ (t : List ℕ). get_or t g 0) c.self.view_is, ap (λ (t : List ℕ). get_or t g 0) c.deref_mut-else-self-len.ensures.value)

pub raise_far-requires-clause-within : goal.raise_far-requires-clause-within
raise_far-requires-clause-within c =
    let own = c.self.inside.own.items in
    omega (arith, c.requires.within, sums_long 0 own c.self.inside.common.items, ap length c.self.view_is, ap length c.deref_mut.ensures.value)

pub raise_far-requires-clause-room : goal.raise_far-requires-clause-room
raise_far-requires-clause-room c = λ g within.
    let own = c.self.inside.own.items in
    let common = c.self.inside.common.items in
    let own_is = c.deref_mut.ensures.value in
    let common_is = c.deref_mut-then-self-len.ensures.value in
    let long = sums_long 0 own common in
    let same = ap length c.self.view_is in
    let room = c.requires.room g (omega (arith, within, long, same, ap length own_is)) in
    let sum = sums_at own common g (omega (arith, within, ap length own_is)) in
    omega (arith, room, sum, ap (λ (t : List ℕ). get_or t g 0) c.self.view_is, ap (λ (t : List ℕ). get_or t g 0) own_is, ap (λ (t : List ℕ). get_or t (g / 64) 0) common_is)

pub overflow_add-to : goal.overflow_add-to
overflow_add-to c =
    let own = c.self.inside.own in
    let long = sums_long 0 own.items c.self.inside.common.items in
    let same = ap length c.self.view_is in
    record { fits = omega (arith, c.requires.within, long, same, own.ok.0, own.small) }

pub returns-else-self-len : goal.returns-else-self-len
returns-else-self-len c =
    let own = c.self.inside.own in
    let common = c.self.inside.common.items in
    let numbers = c.raise.new.numbers in
    let long = sums_long 0 own.items common in
    let same = ap length c.self.view_is in
    let new = with_items_is own numbers (c.raise.auto.numbers ∙ c.deref_mut-else-self-len.ensures.len) in
    let raised : IsRaisedTo own.items numbers c.args.from (c.args.to + 1) = rw c.deref_mut-else-self-len.ensures.value at c.raise.ensures in
    subst (λ (t : List ℕ). IsRaised c.args.self.now (sums t common) c.args.from c.args.to) (sym new)
    (subst (λ (t : List ℕ). IsRaised t (sums numbers common) c.args.from c.args.to) c.self.view_is
    (sums_raised own.items common numbers common c.args.from c.args.to (omega (arith, c.requires.far)) (omega (arith, c.requires.within, long, same))
    (near_raised own.items common numbers c.args.from c.args.to raised)))

pub returns-then-self-len : goal.returns-then-self-len
returns-then-self-len c =
    let own = c.self.inside.own in
    let common = c.self.inside.common in
    let own_is = c.deref_mut.ensures in
    let common_is = c.deref_mut-then-self-len.ensures in
    let numbers = c.raise_far.new.own in
    let blocks = c.raise_far.new.common in
    let long = sums_long 0 own.items common.items in
    let same = ap length c.self.view_is in
    let new = with_items_is own numbers (c.raise_far.auto.own ∙ own_is.len) in
    let new_blocks = with_items_is common blocks (c.raise_far.auto.common ∙ common_is.len) in
    let raised : AreRaised own.items common.items numbers blocks c.args.from c.args.to = rw (own_is.value, common_is.value) at c.raise_far.ensures in
    subst (λ (t : List ℕ). IsRaised c.args.self.now t c.args.from c.args.to) (sym (ap₂ sums new new_blocks))
    (subst (λ (t : List ℕ). IsRaised t (sums numbers blocks) c.args.from c.args.to) c.self.view_is
    (sums_raised own.items common.items numbers blocks c.args.from c.args.to (omega (arith, c.requires.far)) (omega (arith, c.requires.within, long, same)) raised))
