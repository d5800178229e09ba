use Rattle.std.proofs.Common.{◌≡◌, arith, Some, None, ap, ◌∙◌, get_or, refl}
use Rattle.lert_counter.specs.{Group.group, Reading.read_as}
use Rattle.lert_counter.proofs.FrontLemmas.{begins_split, checked_read}
use Rattle.lert_counter.proofs.read.read_counter.Goals as goal

pub returns-in_err-found : goal.returns-in_err-found
returns-in_err-found c = record {
  there = λ count least most begins.
      let found = c.scan_counter.ensures.there count _ least most (begins_split c.args.rest.now (group c.args.width (get_or c.args.rest.now 0 0) count) begins) in
      let none : c.scan_counter.result ≡ None = c.in_err-found.was in cc (found, none);
  read = rw c.from_residual.ensures tt;
}

pub returns : goal.returns
returns c =
    let was : c.scan_counter.result ≡ Some c.in_ok-found.found = c.in_ok-found.was in
    let shape = c.in_ok-found.ensures.shape in
    record {
      there = λ count least most begins.
          let found = c.scan_counter.ensures.there count _ least most (begins_split c.args.rest.now (group c.args.width (get_or c.args.rest.now 0 0) count) begins) in
          let same : c.in_ok-found.found ≡ read_as c.args.width (get_or c.args.rest.now 0 0) count = cc (found, was) in
          let x : c.in_ok-found.found.x ≡ get_or c.args.rest.now 0 0 = ap (λ g. g.x) same in
          let counts : c.in_ok-found.found.count ≡ count = ap (λ g. g.count) same in
          c.checked.ensures.there (rw (x, counts) begins) ∙ rw (x, counts) refl;
      read = checked_read c.args.width 3 (get_or c.args.rest.now 0 0) c.args.rest.now c.in_ok-found.found c.checked.result (omega arith) (omega arith) (omega arith) shape.0 c.checked.ensures.read;
    }
