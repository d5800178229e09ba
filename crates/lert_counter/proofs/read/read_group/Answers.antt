use Rattle.std.proofs.{Common.{◌≡◌, ℕ, ◌<◌, arith, Some, ◌++◌, ◌∷◌, List, length, get_or, drop, ap, ◌∙◌, sym, subst, inl, inr, length-append}, lemmas.Bool.Decides.nat_tests}
use Rattle.std.proofs.lemmas.Option.{none-some, IfSome_then}
use Rattle.lert_counter.specs.{Group.group, Reading.{read_as, HasTwoZeros}}
use Rattle.lert_counter.proofs.{CounterLemmas.group-one, GroupLemmas.length_group-positive, FrontLemmas.{short_of, read_one, begins_front}}
use Rattle.lert_counter.proofs.FrontLemmas.ShortOf.{known, alone_or_counter, behind_counter}
use Rattle.lert_counter.proofs.read.read_group.Goals as goal

-- what can't be, over plain values: a search would go through all that is known

pos_zero : (n first : ℕ) → 0 < n → first ≡ n → first ≡ 0 → ⊥
pos_zero n first some is none = absurd (omega (arith, some, is, none))

less_zero : (n first : ℕ) → n < first → first ≡ 0 → ⊥
less_zero n first less none = absurd (omega (arith, less, none))

pub returns-then-is_empty-clause-in_run : goal.returns-then-is_empty-clause-in_run
returns-then-is_empty-clause-in_run c = λ x count back counts text follows.
    let none : length c.args.rest.now ≡ 0 = grind (arith, nat_tests) in
    let some = length_group-positive c.args.width x count counts.0 in
    absurd (omega (arith, ap (λ (t : List ℕ). length t) text, length-append (group c.args.width x count) back))

-- ---- the first values decide

pub returns-in-Some-clause-begins : goal.returns-in-Some-clause-begins
returns-in-Some-clause-begins c = c.in-Some.ensures.begins c.args.width

pub returns-in-Some-clause-alone : goal.returns-in-Some-clause-alone
returns-in-Some-clause-alone c = c.in-Some.ensures.alone

pub returns-in-Some-clause-above : goal.returns-in-Some-clause-above
returns-in-Some-clause-above c = c.in-Some.ensures.above

pub returns-in-Some-clause-twice : goal.returns-in-Some-clause-twice
returns-in-Some-clause-twice c = c.in-Some.ensures.twice

pub returns-in-Some-clause-two_zeros : goal.returns-in-Some-clause-two_zeros
returns-in-Some-clause-two_zeros c = c.in-Some.ensures.two_zeros

pub returns-in-Some-clause-three_zeros : goal.returns-in-Some-clause-three_zeros
returns-in-Some-clause-three_zeros c = c.in-Some.ensures.three_zeros

pub returns-in-Some-clause-counter : goal.returns-in-Some-clause-counter
returns-in-Some-clause-counter c = λ long below. absurd (none-some c.in-Some.group (sym (c.in-Some.ensures.below long below)))

pub returns-in-Some-clause-zero : goal.returns-in-Some-clause-zero
returns-in-Some-clause-zero c = λ long first second. absurd (none-some c.in-Some.group (sym (c.in-Some.ensures.zero long first second)))

pub returns-in-Some-clause-in_run : goal.returns-in-Some-clause-in_run
returns-in-Some-clause-in_run c = λ x count back counts text follows.
    elim (short_of c.args.width x count back c.args.rest.now (Some c.in-Some.group) counts text follows c.in-Some.ensures) [
      | known e ↦ e
      | alone_or_counter z none long first which ↦ absurd (none-some _ (sym none))
      | behind_counter p none long first least ↦ absurd (none-some _ (sym none))
    ]

-- ---- digits may stand behind the first value

pub returns-then-rest-eq0-clause-begins : goal.returns-then-rest-eq0-clause-begins
returns-then-rest-eq0-clause-begins c = IfSome_then c.read_zero.result c.read_zero.ensures.zero.read (λ g r. r.0)

pub returns-then-rest-eq0-clause-zero : goal.returns-then-rest-eq0-clause-zero
returns-then-rest-eq0-clause-zero c = λ long first second. c.read_zero.ensures.zero

pub returns-clause-begins : goal.returns-clause-begins
returns-clause-begins c = IfSome_then c.read_counter.result c.read_counter.ensures.read (λ g r. r.1)

pub returns-clause-counter : goal.returns-clause-counter
returns-clause-counter c = λ long below. c.read_counter.ensures

pub returns-then-rest-eq0-clause-in_run : goal.returns-then-rest-eq0-clause-in_run
returns-then-rest-eq0-clause-in_run c = λ x count back counts text follows.
    elim (short_of c.args.width x count back c.args.rest.now c.short_group.result counts text follows c.short_group.ensures) [
      | known e ↦ absurd (none-some _ (sym c.in_default.is ∙ e))
      | behind_counter p none long first least ↦ absurd (pos_zero x _ p first c.if-rest-eq0.true)
      | alone_or_counter z none long first which ↦ elim which [
        | inl e ↦ (let is : c.args.rest.now ≡ x ∷ back = text ∙ ap (λ n. group c.args.width x n ++ back) e ∙ ap (λ (t : List ℕ). t ++ back) (group-one c.args.width x) in
            c.read_zero.ensures.alone (λ zeros. follows.apart z (subst HasTwoZeros (ap (λ (t : List ℕ). drop 1 t) is) zeros))
            ∙ ap Some (sym (read_one c.args.width x count e ∙ ap (λ y. record { x = y; count = 1; used = 1 }) z)))
        | inr least ↦ (let whole : c.args.rest.now ≡ group c.args.width 0 count ++ back = text ∙ ap (λ y. group c.args.width y count ++ back) z in
            c.read_zero.ensures.zero.there count least counts.1 (begins_front c.args.rest.now (group c.args.width 0 count) back whole) ∙ ap (λ y. Some (read_as c.args.width y count)) (sym z))
      ]
    ]

pub returns-clause-in_run : goal.returns-clause-in_run
returns-clause-in_run c = λ x count back counts text follows.
    elim (short_of c.args.width x count back c.args.rest.now c.short_group.result counts text follows c.short_group.ensures) [
      | known e ↦ absurd (none-some _ (sym c.in_default.is ∙ e))
      | alone_or_counter z none long first which ↦ absurd (c.if-rest-eq0.false first)
      | behind_counter p none long first least ↦
          (let whole : c.args.rest.now ≡ group c.args.width (get_or c.args.rest.now 0 0) count ++ back = text ∙ ap (λ y. group c.args.width y count ++ back) (sym first) in
          c.read_counter.ensures.there count least counts.1 (begins_front c.args.rest.now (group c.args.width (get_or c.args.rest.now 0 0) count) back whole)
          ∙ ap (λ y. Some (read_as c.args.width y count)) first)
    ]

-- ---- where the first values didn't decide, no clause of theirs speaks

pub returns-then-rest-eq0-clause-alone : goal.returns-then-rest-eq0-clause-alone
returns-then-rest-eq0-clause-alone c one = absurd (none-some _ (sym c.in_default.is ∙ c.short_group.ensures.alone one))

pub returns-then-rest-eq0-clause-above : goal.returns-then-rest-eq0-clause-above
returns-then-rest-eq0-clause-above c long some less = absurd (none-some _ (sym c.in_default.is ∙ c.short_group.ensures.above long some less))

pub returns-then-rest-eq0-clause-twice : goal.returns-then-rest-eq0-clause-twice
returns-then-rest-eq0-clause-twice c long some same = absurd (none-some _ (sym c.in_default.is ∙ c.short_group.ensures.twice long some same))

pub returns-then-rest-eq0-clause-two_zeros : goal.returns-then-rest-eq0-clause-two_zeros
returns-then-rest-eq0-clause-two_zeros c long first second third = absurd (none-some _ (sym c.in_default.is ∙ c.short_group.ensures.two_zeros long first second third))

pub returns-then-rest-eq0-clause-three_zeros : goal.returns-then-rest-eq0-clause-three_zeros
returns-then-rest-eq0-clause-three_zeros c long first second third = absurd (none-some _ (sym c.in_default.is ∙ c.short_group.ensures.three_zeros long first second third))

pub returns-clause-alone : goal.returns-clause-alone
returns-clause-alone c one = absurd (none-some _ (sym c.in_default.is ∙ c.short_group.ensures.alone one))

pub returns-clause-above : goal.returns-clause-above
returns-clause-above c long some less = absurd (none-some _ (sym c.in_default.is ∙ c.short_group.ensures.above long some less))

pub returns-clause-twice : goal.returns-clause-twice
returns-clause-twice c long some same = absurd (none-some _ (sym c.in_default.is ∙ c.short_group.ensures.twice long some same))

pub returns-clause-two_zeros : goal.returns-clause-two_zeros
returns-clause-two_zeros c long first second third = absurd (none-some _ (sym c.in_default.is ∙ c.short_group.ensures.two_zeros long first second third))

pub returns-clause-three_zeros : goal.returns-clause-three_zeros
returns-clause-three_zeros c long first second third = absurd (none-some _ (sym c.in_default.is ∙ c.short_group.ensures.three_zeros long first second third))

pub returns-then-rest-eq0-clause-counter : goal.returns-then-rest-eq0-clause-counter
returns-then-rest-eq0-clause-counter c long below = absurd (less_zero _ _ below c.if-rest-eq0.true)

pub returns-clause-zero : goal.returns-clause-zero
returns-clause-zero c long first second = absurd (c.if-rest-eq0.false first)
