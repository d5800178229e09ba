use Rattle.std.proofs.{Common.{◌≡◌, ℕ, arith, None, Some, ap, sym, ◌∙◌, get_or, length, refl, inl, inr, min, take, subst, List}, lemmas.List.take_min}
use Rattle.lert_counter.specs.{Reading.{HasTwoZeros, read_as}, Group.{group, BeginsWith}}
use Rattle.lert_counter.proofs.FrontLemmas.{begins_alone, zeros_later}
use Rattle.lert_counter.proofs.read.read_zero.Goals as goal

-- ---- a counter

pub returns-in-Some-clause-zero : goal.returns-in-Some-clause-zero
returns-in-Some-clause-zero c =
    let counter = c.in-Some.ensures.counter in
    record {
      there = λ count least most begins.
          let at_first : BeginsWith c.args.rest.now (group c.args.width (get_or c.args.rest.now 0 0) count) = rw c.requires.first begins in
          counter.there count least most at_first ∙ ap (λ x. Some (read_as c.args.width x count)) c.requires.first;
      read = (counter.read.1, inr counter.read.0);
      none = tt;
    }

pub returns-in-Some-clause-alone : goal.returns-in-Some-clause-alone
returns-in-Some-clause-alone c = λ apart. absurd (apart (c.in-Some.ensures.zeros refl))

-- ---- nothing, or 0 alone

pub returns-then-has_two_zeros-clause-zero : goal.returns-then-has_two_zeros-clause-zero
returns-then-has_two_zeros-clause-zero c = record {
  there = λ count least most begins.
      let at_first : BeginsWith c.args.rest.now (group c.args.width (get_or c.args.rest.now 0 0) count) = rw c.requires.first begins in
      sym c.in_default.is
      ∙ (c.read_zero_counter.ensures.counter.there count least most at_first
      ∙ ap (λ x. Some (read_as c.args.width x count)) c.requires.first);
  read = tt;
  none =
      let shorter : c.min.result ≡ min 9 (length c.args.rest.now) = omega (arith, c.min.ensures) in
      let nine = ap (λ n. take n c.args.rest.now) shorter ∙ take_min 9 c.args.rest.now in
      subst HasTwoZeros nine (c.has_two_zeros.ensures.found c.if-has_two_zeros.true);
}

pub returns-clause-zero : goal.returns-clause-zero
returns-clause-zero c = record {
  there = λ count least most begins.
      let at_first : BeginsWith c.args.rest.now (group c.args.width (get_or c.args.rest.now 0 0) count) = rw c.requires.first begins in
      let found = c.read_zero_counter.ensures.counter.there count least most at_first in
      let none : c.read_zero_counter.result ≡ None = c.in_default.is in
      cc (found, none);
  read = (
    begins_alone c.args.width c.args.rest.now (omega arith) c.requires.first,
    inl (
      refl,
      (
          let shorter : c.min.result ≡ min 9 (length c.args.rest.now) = omega (arith, c.min.ensures) in
          let nine = ap (λ n. take n c.args.rest.now) shorter ∙ take_min 9 c.args.rest.now in
          subst (λ (t : List ℕ). ¬ HasTwoZeros t) nine (c.has_two_zeros.ensures.absent c.if-has_two_zeros.false)),
    ),
  );
  none = tt;
}

pub returns-then-has_two_zeros-clause-alone : goal.returns-then-has_two_zeros-clause-alone
returns-then-has_two_zeros-clause-alone c = λ apart.
    absurd (apart (zeros_later c.args.rest.now c.min.result c.requires.second (c.has_two_zeros.ensures.found c.if-has_two_zeros.true)))

pub returns-clause-alone : goal.returns-clause-alone
returns-clause-alone c = λ apart. refl
