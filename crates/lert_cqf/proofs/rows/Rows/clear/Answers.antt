use Rattle.std.proofs.{Common.{◌≡◌, ◌+◌, ◌-◌, ◌++◌, List, ℕ, length, replicate, drop, arith, ap, ◌∙◌}, lemmas.List.{replicate-append-replicate, with_items_is}}
use Rattle.lert_cqf.proofs.rows.Rows.clear.Goals as goal

pub returns-clause-slots : goal.returns-clause-slots
returns-clause-slots c =
    let slots = c.args.self.now.slots in
    let end = c.args.end in
    let all : end + (length slots.items - end) ≡ length slots.items = omega (arith, c.requires.within) in
    with_items_is slots c.clear_first.new.slots (c.clear_first.auto.slots ∙ c.deref_mut.ensures.len)
    ∙ c.clear_first.ensures
    ∙ ap (λ (t : List ℕ). replicate end 0 ++ drop end t) c.deref_mut.ensures.value
    ∙ ap (λ (rest : List ℕ). replicate end 0 ++ rest) c.requires.past
    ∙ replicate-append-replicate end (length slots.items - end) 0
    ∙ ap (λ n. replicate n 0) all
