use Rattle.std.proofs.Common.{◌≡◌, arith, Some, None, ap, ◌∙◌, get_or, refl}
use Rattle.lert_counter.specs.{Group.{group, BeginsWith}, Reading.read_as}
use Rattle.lert_counter.proofs.FrontLemmas.{begins_split, checked_read}
use Rattle.lert_counter.proofs.read.read_zero_counter.Goals as goal

pub returns-in_err-found-clause-counter : goal.returns-in_err-found-clause-counter
returns-in_err-found-clause-counter c = record {
  there = λ count least most begins.
      let at_zero : BeginsWith c.args.rest.now (group c.args.width 0 count) = rw c.requires.first at begins in
      let found = c.scan_zero.ensures.there count _ least most (begins_split c.args.rest.now (group c.args.width 0 count) at_zero) in
      let none : c.scan_zero.result ≡ None = c.in_err-found.was in cc (found, none);
  read = rw c.from_residual.ensures tt;
}

pub returns-clause-counter : goal.returns-clause-counter
returns-clause-counter c =
    let was : c.scan_zero.result ≡ Some c.in_ok-found.found = c.in_ok-found.was in
    let shape = c.in_ok-found.ensures.shape in
    record {
      there = λ count least most begins.
          let at_zero : BeginsWith c.args.rest.now (group c.args.width 0 count) = rw c.requires.first at begins in
          let found = c.scan_zero.ensures.there count _ least most (begins_split c.args.rest.now (group c.args.width 0 count) at_zero) in
          let same : c.in_ok-found.found ≡ read_as c.args.width 0 count = cc (found, was) in
          let x : c.in_ok-found.found.x ≡ 0 = ap (λ g. g.x) same in
          let counts : c.in_ok-found.found.count ≡ count = ap (λ g. g.count) same in
          c.checked.ensures.there (rw (x, counts) at_zero) ∙ rw (x, counts, c.requires.first) refl;
      read = checked_read c.args.width 4 (get_or c.args.rest.now 0 0) c.args.rest.now c.in_ok-found.found c.checked.result (omega arith) (omega arith) (omega arith) (omega arith)
          c.checked.ensures.read;
    }
