use Rattle.std.proofs.Common.{◌≤◌, ◌++◌, length, refl, sym, subst}
use Rattle.std.proofs.lemmas.List.{drop_at, Elements.All-drop}
use Rattle.lert_buffers.specs.Rings.{AreWeighed}
use Rattle.lert_spec.specs.declared.item.Item.{Item}
use Rattle.lert_buffers.proofs.transfer.drain.Goals as goal

pub push_all-requires-2-clause-some : goal.push_all-requires-2-clause-some
push_all-requires-2-clause-some c =
    let front = c.as_slices.result.0.now in
    let back = c.as_slices.result.1.now in
    subst AreWeighed (drop_at front back (length front) refl)
    (All-drop (λ (i : Item). 1 ≤ i.weight) (length front) (front ++ back) (subst AreWeighed (sym c.as_slices.ensures) c.requires.some))
