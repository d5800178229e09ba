use Rattle.std.proofs.{Common.{◌≡◌, ◌-◌, ap, ◌∙◌, List, ℕ, false, get_or, min, length, arith}, lemmas.List.with_items_is}
use Rattle.lert_cqf.specs.Rows.{filled_gap}
use Rattle.lert_cqf.proofs.RotateLemmas.{first_unique}
use Rattle.lert_cqf.proofs.rows.Rows.open_slot.Goals as goal

pub returns-clause-slots : goal.returns-clause-slots
returns-clause-slots c = λ f first.
    let slots = c.args.self.now.slots in
    let same : c.in-Some.free ≡ f = first_unique false c.args.self.now.used c.args.place c.in-Some.free f c.in-Some.ensures first in
    with_items_is slots c.rotate_up.new.slots (c.rotate_up.auto.slots ∙ c.deref_mut.ensures.len)
    ∙ c.rotate_up.ensures
    ∙ ap (λ (t : List ℕ). filled_gap t c.args.place c.in-Some.free (get_or t c.in-Some.free 0)) c.deref_mut.ensures.value
    ∙ ap (λ k. filled_gap slots.items c.args.place k (get_or slots.items k 0)) same

pub returns-clause-spill : goal.returns-clause-spill
returns-clause-spill c = λ f first.
    let spill = c.args.self.now.spill in
    let same : c.in-Some.free ≡ f = first_unique false c.args.self.now.used c.args.place c.in-Some.free f c.in-Some.ensures first in
    let to : c.min.result ≡ min f (length spill - 1) = omega (arith, c.min.ensures, c.len-last_home.ensures) in
    rw to at c.raise.ensures
