use Rattle.std.proofs.Common.{◌+◌, cond, List, drop, length, Some, sym, ap, ap₂, ◌∙◌}
use Rattle.lert_place.specs.{Kept.Shelf, Shelf.{NamedBay, bay_of}}
use Rattle.lert_bay.specs.Memory.{Disk}
use Rattle.lert_place.proofs.Shelves.{at_place, copied_is}
use Rattle.lert_place.proofs.mem_place.MemPlace.bay_copy.Goals as goal

pub returns-in_err-copy : goal.returns-in_err-copy
returns-in_err-copy c = rw c.from_residual.ensures tt

-- it is the one that the loop looks at, since none before it is
pub returns-then-is_of : goal.returns-then-is_of
returns-then-is_of c =
    let all = c.self.inside.bays.items in
    let here = c.bay-item.result in
    let behind = bay_of (drop (c.loop-bay.bay-index + 1) all) c.args.dir.now c.args.cone in
    let read = c.deref-bay-items in
    record {
      source = here.bay;
      found = ap (λ (s : Shelf). bay_of s.bays c.args.dir.now c.args.cone) (sym c.self.view_is)
          ∙ c.loop-bay.invariant
          ∙ at_place (λ (xs : List NamedBay). bay_of xs c.args.dir.now c.args.cone) all read.result.now c.loop-bay.bay-index here read.ensures.value c.loop-bay-test.true c.bay-item.is
          ∙ ap (λ is. cond is (Some here.bay) behind) (sym c.is_of.ensures ∙ c.if-is_of.true);
      marked = c.marked.ensures ∙ ap₂ (λ (copy : Disk) number. record copy { mark = number })
          (copied_is c.copied.result c.in_ok-copy.copy c.bay.inside.bay (sym c.in_ok-copy.was ∙ c.ok.ensures.value) c.copied.ensures
          ∙ ap (λ (x : NamedBay). x.bay) c.bay.view_is)
          (c.from.ensures ∙ c.count.ensures ∙ ap (λ (s : Shelf). length s.ledger.bays.handed) c.self.view_is);
    }

pub loop-bay-preserved : goal.loop-bay-preserved
loop-bay-preserved c =
    let all = c.self.inside.bays.items in
    let here = c.bay-item.result in
    let behind = bay_of (drop (c.loop-bay.bay-index + 1) all) c.args.dir.now c.args.cone in
    let read = c.deref-bay-items in
    c.loop-bay.invariant
    ∙ at_place (λ (xs : List NamedBay). bay_of xs c.args.dir.now c.args.cone) all read.result.now c.loop-bay.bay-index here read.ensures.value c.loop-bay-test.true c.bay-item.is
    ∙ ap (λ is. cond is (Some here.bay) behind) (sym c.is_of.ensures ∙ c.if-is_of.false)
