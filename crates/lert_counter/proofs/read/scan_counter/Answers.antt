use Rattle.std.proofs.Common.{◌≡◌, ◌≢◌, arith, ◌+◌, ◌-◌, length, get_or, refl, ap, ◌∙◌, None, Some}
use Rattle.lert_counter.specs.{Group.group, Reading.{number_of, digits_at}}
use Rattle.lert_counter.proofs.{RoundTrip.counter_found, SpelledLemmas.{counter_spelled, spelled_counter, counted_spelled, start_guarded, start_bare}}
use Rattle.lert_counter.proofs.read.scan_counter.Goals.{then-rest-eq0, else-rest-eq0}
use Rattle.lert_counter.proofs.read.scan_counter.Goals as goal

pub returns-in_err-digits-clause-there : goal.returns-in_err-digits-clause-there
returns-in_err-digits-clause-there c = λ count back least most text.
    let guard : get_or c.args.rest.now 1 0 ≡ 0 → c.if-rest-eq0.start ≡ 2 =
    elim c.if-rest-eq0.branch [ then-rest-eq0 w ↦ λ _. w.start-is | else-rest-eq0 w ↦ λ z. absurd (w.if-rest-eq0.false z) ] in
    let bare : get_or c.args.rest.now 1 0 ≢ 0 → c.if-rest-eq0.start ≡ 1 =
    elim c.if-rest-eq0.branch [ then-rest-eq0 w ↦ λ z. absurd (z w.if-rest-eq0.true) | else-rest-eq0 w ↦ λ _. w.start-is ] in
    let found = counter_found c.args.width (get_or c.args.rest.now 0 0) c.base_beside.result count c.if-rest-eq0.start back c.args.rest.now c.scan_digits.result
    c.base_beside.ensures.value (omega arith) least most text guard bare c.scan_digits.ensures.there in
    let none : c.scan_digits.result ≡ None = c.in_err-digits.was in
    cc (found.1, none)

pub returns-clause-there : goal.returns-clause-there
returns-clause-there c = λ count back least most text.
    let guard : get_or c.args.rest.now 1 0 ≡ 0 → c.if-rest-eq0.start ≡ 2 =
    elim c.if-rest-eq0.branch [ then-rest-eq0 w ↦ λ _. w.start-is | else-rest-eq0 w ↦ λ z. absurd (w.if-rest-eq0.false z) ] in
    let bare : get_or c.args.rest.now 1 0 ≢ 0 → c.if-rest-eq0.start ≡ 1 =
    elim c.if-rest-eq0.branch [ then-rest-eq0 w ↦ λ z. absurd (z w.if-rest-eq0.true) | else-rest-eq0 w ↦ λ _. w.start-is ] in
    let found = counter_found c.args.width (get_or c.args.rest.now 0 0) c.base_beside.result count c.if-rest-eq0.start back c.args.rest.now c.scan_digits.result
    c.base_beside.ensures.value (omega arith) least most text guard bare c.scan_digits.ensures.there in
    let was : c.scan_digits.result ≡ Some c.in_ok-digits.digits = c.in_ok-digits.was in
    let same : c.in_ok-digits.digits ≡ record { number = count - 3; len = found.0 } = cc (found.1, was) in
    let number : c.in_ok-digits.digits.number ≡ count - 3 = ap (λ d. d.number) same in
    let len : c.in_ok-digits.digits.len ≡ found.0 = ap (λ d. d.len) same in
    let counts : c.in_ok-digits.digits.number + 3 ≡ count = omega arith in
    let used : c.if-rest-eq0.start + c.in_ok-digits.digits.len + 1 ≡ length (group c.args.width (get_or c.args.rest.now 0 0) count) = omega (arith, found.2) in
    c.counted.ensures.within (omega arith) ∙ rw (counts, used) refl

pub returns-in_err-digits-clause-none : goal.returns-in_err-digits-clause-none
returns-in_err-digits-clause-none c = λ _ count len s.
    let start : c.if-rest-eq0.start ≡ digits_at c.args.rest.now =
    elim c.if-rest-eq0.branch [
      | then-rest-eq0 w ↦ w.start-is ∙ start_guarded c.args.rest.now w.if-rest-eq0.true
      | else-rest-eq0 w ↦ w.start-is
          ∙ start_bare c.args.rest.now w.if-rest-eq0.false
    ] in
    let found = spelled_counter c.args.width c.base_beside.result c.if-rest-eq0.start count len c.args.rest.now c.base_beside.ensures.value start s in
    let there = c.scan_digits.ensures.there found.ds found.back found.few found.text_is (omega (arith, found.count_is, found.small)) in
    let none : c.scan_digits.result ≡ None = c.in_err-digits.was in
    cc (there, none)

pub returns-clause-read : goal.returns-clause-read
returns-clause-read c =
    let start : c.if-rest-eq0.start ≡ digits_at c.args.rest.now =
    elim c.if-rest-eq0.branch [
      | then-rest-eq0 w ↦ w.start-is ∙ start_guarded c.args.rest.now w.if-rest-eq0.true
      | else-rest-eq0 w ↦ w.start-is
          ∙ start_bare c.args.rest.now w.if-rest-eq0.false
    ] in
    counted_spelled c.args.width (get_or c.args.rest.now 0 0) (c.in_ok-digits.digits.number + 3) c.in_ok-digits.digits.len _ c.args.rest.now c.counted.result c.counted.ensures.shape refl
    (ap (λ k. k + c.in_ok-digits.digits.len + 1) start)
    (λ small. counter_spelled c.args.width c.base_beside.result c.if-rest-eq0.start c.in_ok-digits.digits.number c.in_ok-digits.digits.len c.args.rest.now c.base_beside.ensures.value start small
    c.in_ok-digits.ensures.read)

pub returns-clause-none : goal.returns-clause-none
returns-clause-none c = λ none count len s.
    let start : c.if-rest-eq0.start ≡ digits_at c.args.rest.now =
    elim c.if-rest-eq0.branch [
      | then-rest-eq0 w ↦ w.start-is ∙ start_guarded c.args.rest.now w.if-rest-eq0.true
      | else-rest-eq0 w ↦ w.start-is
          ∙ start_bare c.args.rest.now w.if-rest-eq0.false
    ] in
    let found = spelled_counter c.args.width c.base_beside.result c.if-rest-eq0.start count len c.args.rest.now c.base_beside.ensures.value start s in
    let there = c.scan_digits.ensures.there found.ds found.back found.few found.text_is (omega (arith, found.count_is, found.small)) in
    let was : c.scan_digits.result ≡ Some c.in_ok-digits.digits = c.in_ok-digits.was in
    let same : c.in_ok-digits.digits ≡ record { number = number_of c.base_beside.result found.ds; len = length found.ds } = cc (there, was) in
    let number = ap (λ d. d.number) same in
    let within = c.counted.ensures.within (omega (arith, number, found.count_is, found.small)) in
    cc (within, none)
