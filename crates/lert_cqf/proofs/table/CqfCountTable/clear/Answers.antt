use Rattle.std.proofs.Common.{◌≡◌, ◌-◌, ◌≤◌, List, length, replicate, drop, arith, refl, sym, subst}
use Rattle.lert_spec.specs.{Table.total, declared.piece.Piece.Piece}
use Rattle.lert_cqf.specs.Contents.{IsKept, built}
use Rattle.lert_cqf.proofs.{PastLemmas.{len_within, end_within, past_end, slots_short}, TableLemmas.kept_empty}
use Rattle.lert_cqf.proofs.table.CqfCountTable.clear.Goals as goal

pub start-end-requires-clause-within : goal.start-end-requires-clause-within
start-end-requires-clause-within c = len_within _ _ _ _ _ _ _ _ _ _ c.self.invariant.0 c.len-homes.result c.len-homes.ensures

pub start-end-requires-clause-fits : goal.start-end-requires-clause-fits
start-end-requires-clause-fits c =
    omega (arith, end_within _ _ _ _ _ _ _ _ _ _ c.self.invariant.0 c.len-homes.result c.len-homes.ensures, slots_short _ _ _ _ _ _ _ _ _ _ c.self.invariant.0 c.len-homes.result c.len-homes.ensures)

pub clear-requires-clause-within : goal.clear-requires-clause-within
clear-requires-clause-within c =
    subst (λ end. end ≤ length c.self.inside.rows.slots.items) (sym c.start-end.ensures) (end_within _ _ _ _ _ _ _ _ _ _ c.self.invariant.0 c.len-homes.result c.len-homes.ensures)

pub clear-requires-clause-past : goal.clear-requires-clause-past
clear-requires-clause-past c =
    let slots = c.self.inside.rows.slots.items in
    subst (λ end. drop end slots ≡ replicate (length slots - end) 0) (sym c.start-end.ensures) (past_end _ _ _ _ _ _ _ _ _ _ c.self.invariant.0 c.len-homes.result c.len-homes.ensures)

pub invariant_of-self : goal.invariant_of-self
invariant_of-self c =
    let e = c.clear.ensures in
    subst (λ (t : List Piece). IsKept (built t) c.self.inside.quotient_bits c.self.inside.width 0 c.self.inside.room c.clear.new.self.slots.items c.clear.new.self.occupied
    c.clear.new.self.run_ends c.clear.new.self.used c.clear.new.self.spill × (0 ≡ total (built t)))
    (sym c.new.ensures)
    (kept_empty _ _ _ _ _ _ _ _ _ _ c.self.invariant.0 _ _ _ _ _ e.slots e.occupied e.run_ends e.used e.spill, refl)
