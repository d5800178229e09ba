use Rattle.std.proofs.{Common.{◌≡◌, arith, ◌+◌, ◌-◌, length, get_or, refl, ap, ◌∙◌, None, Some, take, drop}, lemmas.List.{take_rest, length-drop, get_or-drop}}
use Rattle.lert_counter.specs.Group.{group}
use Rattle.lert_counter.proofs.{RoundTrip.zero_found, read.scan_zero.Goals.{then-last-rest-via-then-last-rest, then-last-rest-via-else-last-rest+then-rest-last-ne0}}
use Rattle.lert_counter.proofs.read.scan_zero.Goals as goal

pub returns-in_err-digits-clause-there : goal.returns-in_err-digits-clause-there
returns-in_err-digits-clause-there c = λ count back least most text.
    let found = zero_found c.args.width c.base_beside.result count back c.args.rest.now c.scan_digits.result c.base_beside.ensures.value least most text c.scan_digits.ensures.there in
    let none : c.scan_digits.result ≡ None = c.in_err-digits.was in
    cc (found.1, none)

pub returns-then-last-rest-clause-there : goal.returns-then-last-rest-clause-there
returns-then-last-rest-clause-there c = λ count back least most text.
    let found = zero_found c.args.width c.base_beside.result count back c.args.rest.now c.scan_digits.result c.base_beside.ensures.value least most text c.scan_digits.ensures.there in
    let was : c.scan_digits.result ≡ Some c.in_ok-digits.digits = c.in_ok-digits.was in
    let same : c.in_ok-digits.digits ≡ record { number = count - 4; len = found.0 } = cc (found.1, was) in
    let len : c.in_ok-digits.digits.len ≡ found.0 = ap (λ d. d.len) same in
    elim c.then-last-rest.branch [
      | then-last-rest-via-then-last-rest w ↦ absurd (omega (arith, found.4))
      | then-last-rest-via-else-last-rest+then-rest-last-ne0 w ↦ absurd (w.if-rest-last-ne0.true (ap (λ n. get_or c.args.rest.now (n + 2) 0) len ∙ found.3))
    ]

pub returns-clause-there : goal.returns-clause-there
returns-clause-there c = λ count back least most text.
    let found = zero_found c.args.width c.base_beside.result count back c.args.rest.now c.scan_digits.result c.base_beside.ensures.value least most text c.scan_digits.ensures.there in
    let was : c.scan_digits.result ≡ Some c.in_ok-digits.digits = c.in_ok-digits.was in
    let same : c.in_ok-digits.digits ≡ record { number = count - 4; len = found.0 } = cc (found.1, was) in
    let number : c.in_ok-digits.digits.number ≡ count - 4 = ap (λ d. d.number) same in
    let len : c.in_ok-digits.digits.len ≡ found.0 = ap (λ d. d.len) same in
    let counts : c.in_ok-digits.digits.number + 4 ≡ count = omega arith in
    let used : c.in_ok-digits.digits.len + 2 + 1 ≡ length (group c.args.width 0 count) = omega (arith, found.2) in
    c.counted.ensures.within (omega arith) ∙ rw (counts, used) refl

pub returns-clause-zeros : goal.returns-clause-zeros
returns-clause-zeros c = λ some.
    let rest = c.args.rest.now in
    let len = c.in_ok-digits.digits.len in
    let told : get_or (take (length rest - 1) (drop 1 rest)) len 0 ≡ 0 = c.in_ok-digits.ensures.stops in
    let first : get_or (drop 1 rest) len 0 ≡ 0 = rw take_rest at told in
    let place : 1 + (len + 1) ≡ len + 2 = omega arith in
    let second : get_or rest (len + 2) 0 ≡ 0 = omega (arith, c.if-rest-last-ne0.false) in
    (len, simp length-drop (omega arith), first, get_or-drop 1 rest (len + 1) 0 ∙ rw place second)
