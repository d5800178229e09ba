use Rattle.std.proofs.{Common.{◌≡◌, ◌<◌, ◌≤◌, ℕ, arith, Option, Some, None, ◌++◌, ◌∷◌, List, get_or, drop, ap, ◌∙◌, sym, subst, refl, inl, inr}, lemmas.Bool.cases_lt}
use Rattle.std.specs.Prelude.{is_some}
use Rattle.lert_counter.specs.{Group.group, declared.group.Group.Group, Reading.{read_as, HasTwoZeros}}
use Rattle.lert_counter.proofs.{CounterLemmas.group-one, FrontLemmas.{short_of, read_one}, FrontLemmas.ShortOf.{known, alone_or_counter, behind_counter}}
use Rattle.lert_counter.proofs.read.scan_group.Goals as goal

-- what can't be, over plain values: a search would go through all that is known

some_none : {A : Type 0} (x : A) → ◌≡◌ {A = Option A} (Some x) None → ⊥
some_none x is = cc

pos_zero : (n : ℕ) → 0 < n → n ≡ 0 → ⊥
pos_zero n some none = absurd (omega (arith, some, none))

none_pos : (n first : ℕ) → 0 < n → first ≡ n → first ≤ 0 → ⊥
none_pos n first some is none = absurd (omega (arith, some, is, none))

less_none : (less first : ℕ) → less < first → first ≤ 0 → ⊥
less_none less first some none = absurd (omega (arith, some, none))

pub returns-in-Some : goal.returns-in-Some
returns-in-Some c = record {
  there = λ x count back counts text follows.
      elim (short_of c.args.width x count back c.args.rest.now (Some c.in-Some.group) counts text follows c.in-Some.ensures) [
        | known e ↦ e
        | alone_or_counter z none long first which ↦ absurd (some_none _ none)
        | behind_counter p none long first least ↦ absurd (some_none _ none)
      ];
  spelled = λ more below. absurd (some_none _ (let e = c.in-Some.ensures.below more below in e));
  none = λ e. absurd (some_none _ e);
}

pub returns-then-rest-gt0 : goal.returns-then-rest-gt0
returns-then-rest-gt0 c = record {
  there = λ x count back counts text follows.
      elim (short_of c.args.width x count back c.args.rest.now c.short_group.result counts text follows c.short_group.ensures) [
        | known e ↦ absurd (some_none _ (sym e ∙ c.in_default.is))
        | alone_or_counter z none long first which ↦ absurd (pos_zero _ c.if-rest-gt0.true first)
        | behind_counter p none long first least ↦
            (let whole : c.args.rest.now ≡ group c.args.width (get_or c.args.rest.now 0 0) count ++ back = text ∙ ap (λ y. group c.args.width y count ++ back) (sym first) in
            c.scan_counter.ensures.there count back least counts.1 whole ∙ ap (λ y. Some (read_as c.args.width y count)) first)
      ];
  spelled = λ more below. c.scan_counter.ensures.read;
  none = λ e.
      let n = c.short_group.ensures.none (ap (λ (o : Option Group). is_some o) c.in_default.is) in
      let below : get_or c.args.rest.now 1 0 < get_or c.args.rest.now 0 0 =
      elim (cases_lt (get_or c.args.rest.now 1 0) (get_or c.args.rest.now 0 0)) [
        | inl less ↦ less
        | inr more ↦ (let apart = n.1 in let above = c.short_group.ensures.above n.0 (omega arith) (omega arith) in absurd (some_none _ (sym above ∙ c.in_default.is)))
      ] in
      (n.0, below, c.scan_counter.ensures.none e);
}

pub returns-in-Some-scan_zero : goal.returns-in-Some-scan_zero
returns-in-Some-scan_zero c = record {
  there = λ x count back counts text follows.
      elim (short_of c.args.width x count back c.args.rest.now c.short_group.result counts text follows c.short_group.ensures) [
        | known e ↦ absurd (some_none _ (sym e ∙ c.in_default.is))
        | behind_counter p none long first least ↦ absurd (none_pos x _ p first c.if-rest-gt0.false)
        | alone_or_counter z none long first which ↦ elim which [
          | inl e ↦ absurd (follows.apart z (
              let is : c.args.rest.now ≡ x ∷ back = text ∙ ap (λ n. group c.args.width x n ++ back) e ∙ ap (λ (t : List ℕ). t ++ back) (group-one c.args.width x) in
              subst HasTwoZeros (ap (λ (t : List ℕ). drop 1 t) is) (c.in-Some-scan_zero.ensures.zeros refl)))
          | inr least ↦
              (let whole : c.args.rest.now ≡ group c.args.width 0 count ++ back = text ∙ ap (λ y. group c.args.width y count ++ back) z in
              let found = c.scan_zero.ensures.there count back least counts.1 whole in
              let was = c.in-Some-scan_zero.is in
              let same : Some c.in-Some-scan_zero.group ≡ Some (read_as c.args.width 0 count) = sym was ∙ found in
              same ∙ ap (λ y. Some (read_as c.args.width y count)) (sym z))
        ]
      ];
  spelled = λ more below. absurd (less_none _ _ below c.if-rest-gt0.false);
  none = λ e. absurd (some_none _ e);
}

pub returns : goal.returns
returns c = record {
  there = λ x count back counts text follows.
      elim (short_of c.args.width x count back c.args.rest.now c.short_group.result counts text follows c.short_group.ensures) [
        | known e ↦ absurd (some_none _ (sym e ∙ c.in_default.is))
        | behind_counter p none long first least ↦ absurd (none_pos x _ p first c.if-rest-gt0.false)
        | alone_or_counter z none long first which ↦ elim which [
          | inl e ↦ ap Some (sym (read_one c.args.width x count e ∙ ap (λ y. record { x = y; count = 1; used = 1 }) z))
          | inr least ↦
              (let whole : c.args.rest.now ≡ group c.args.width 0 count ++ back = text ∙ ap (λ y. group c.args.width y count ++ back) z in
              absurd (some_none _ (sym (c.scan_zero.ensures.there count back least counts.1 whole) ∙ c.in_default-scan_zero.is)))
        ]
      ];
  spelled = λ more below. absurd (less_none _ _ below c.if-rest-gt0.false);
  none = λ e. absurd (some_none _ e);
}
