-- Which fault a test of a packet answers.
use Rattle.std.proofs.{Common.{◌≡◌, ℕ, ◌+◌, ◌<◌, ◌≤◌, true, false, List, length, Some, Ok, Err, IsErrOf, refl, sym, ap, ap₂, ◌∙◌, subst, arith, inl, inr}, lemmas.Bool.false≢true}
use Rattle.std.proofs.lemmas.Option.{none-some, same_Some}
use Rattle.std.specs.Prelude.{◌↔◌}
use Rattle.lert_base.specs.{Packet.Packet, declared.cone_fault.ConeFault.ConeFault}
use Rattle.lert_base.specs.declared.cone_fault.ConeFault.TheVariants.{Closed, Broken, CapacityFull, WeightFull, OldJournal, BayFailed, Unsound}
use Rattle.lert_spec.specs.{Counts.{weighed, weight_of}, Edges.{capacity, weight_room}, declared.item.Item.Item}
use Rattle.lert_cone.specs.{History.{most_version}, declared.state.ConeState.TheVariants.{Running, Finished}}
use Rattle.lert_cone.specs.{Refuses.{FailsTest, PassesTest, first_weighed}, Stands.{Standing, is_broken, is_finished, is_refusal, version_of}}
use Rattle.lert_journal.specs.Payload.{IsJournaled}
use Rattle.lert_cone.proofs.{Refusals.{no_fault, one_fault}, WeighLaws.of_version}

-- ---- what the clauses of an answer say of its faults

module _ {B : Type 0} (cone : Standing B) (items : List Item) where
  abbrev pub IsFull : (n len : ℕ) → Type 0
  IsFull n len = (cone.state ≡ Running) × (n ≡ cone.events) × (len ≡ length items) × (capacity cone.listing.settings < n + len)

  abbrev pub IsHeavy : (weight more : ℕ) → Type 0
  IsHeavy weight more = (cone.state ≡ Running) × (weight ≡ cone.weight) × (more ≡ weight_of weighed items)
      × (cone.events + length items ≤ capacity cone.listing.settings) × (weight_room cone.listing.settings < weight + more)

  abbrev pub IsUnsayable : (place : ℕ) → Type 0
  IsUnsayable place = (cone.state ≡ Running) × (cone.events + length items ≤ capacity cone.listing.settings)
      × (cone.weight + weight_of weighed items ≤ weight_room cone.listing.settings) × (version_of cone ≡ 1) × (first_weighed items ≡ Some place)

  -- a running one is stopped by nothing
  not_stopped_closed : {X : Type 0} → cone.state ≡ Running → cone.state ≡ Finished → X
  not_stopped_closed running finished = absurd (false≢true (ap is_finished (sym running ∙ finished)))

  not_stopped_broken : {X : Type 0} → cone.state ≡ Running → is_broken cone.state ≡ true → X
  not_stopped_broken running broken = absurd (false≢true (sym (ap is_broken running) ∙ broken))

  -- ---- each fault comes exactly for its reason

  fails_full : (fault : ConeFault) → FailsTest cone items fault → (n len : ℕ) → IsFull n len → fault ≡ CapacityFull n len
  fails_full Closed (inl finished) n len why = not_stopped_closed why.0 finished
  fails_full Closed (inr never) n len why = absurd never.1
  fails_full Broken (inl broken) n len why = not_stopped_broken why.0 broken
  fails_full Broken (inr never) n len why = absurd never.1
  fails_full (CapacityFull m more) (inl never) n len why = absurd never
  fails_full (CapacityFull m more) (inr is) n len why = ap₂ CapacityFull (is.1.0 ∙ sym why.1) (is.1.1 ∙ sym why.2)
  fails_full BayFailed (inl never) n len why = absurd never
  fails_full BayFailed (inr never) n len why = absurd never.1
  fails_full (Unsound file at) (inl never) n len why = absurd never
  fails_full (Unsound file at) (inr never) n len why = absurd never.1
  fails_full (WeightFull weight more) (inl never) n len why = absurd never
  fails_full (WeightFull weight more) (inr is) n len why = absurd (omega (arith, is.1.2, why.1, why.2, why.3))
  fails_full (OldJournal place) (inl never) n len why = absurd never
  fails_full (OldJournal place) (inr is) n len why = absurd (omega (arith, is.1.0, why.1, why.2, why.3))

  fails_heavy : (fault : ConeFault) → FailsTest cone items fault → (weight more : ℕ) → IsHeavy weight more → fault ≡ WeightFull weight more
  fails_heavy Closed (inl finished) weight more why = not_stopped_closed why.0 finished
  fails_heavy Closed (inr never) weight more why = absurd never.1
  fails_heavy Broken (inl broken) weight more why = not_stopped_broken why.0 broken
  fails_heavy Broken (inr never) weight more why = absurd never.1
  fails_heavy (CapacityFull m len) (inl never) weight more why = absurd never
  fails_heavy (CapacityFull m len) (inr is) weight more why = absurd (omega (arith, is.1.2, why.3))
  fails_heavy BayFailed (inl never) weight more why = absurd never
  fails_heavy BayFailed (inr never) weight more why = absurd never.1
  fails_heavy (Unsound file at) (inl never) weight more why = absurd never
  fails_heavy (Unsound file at) (inr never) weight more why = absurd never.1
  fails_heavy (WeightFull held further) (inl never) weight more why = absurd never
  fails_heavy (WeightFull held further) (inr is) weight more why = ap₂ WeightFull (is.1.0 ∙ sym why.1) (is.1.1 ∙ sym why.2)
  fails_heavy (OldJournal place) (inl never) weight more why = absurd never
  fails_heavy (OldJournal place) (inr is) weight more why = absurd (omega (arith, is.1.1, why.1, why.2, why.4))

  fails_old : (fault : ConeFault) → FailsTest cone items fault → (place : ℕ) → IsUnsayable place → fault ≡ OldJournal place
  fails_old Closed (inl finished) place why = not_stopped_closed why.0 finished
  fails_old Closed (inr never) place why = absurd never.1
  fails_old Broken (inl broken) place why = not_stopped_broken why.0 broken
  fails_old Broken (inr never) place why = absurd never.1
  fails_old (CapacityFull m len) (inl never) place why = absurd never
  fails_old (CapacityFull m len) (inr is) place why = absurd (omega (arith, is.1.2, why.1))
  fails_old BayFailed (inl never) place why = absurd never
  fails_old BayFailed (inr never) place why = absurd never.1
  fails_old (Unsound file at) (inl never) place why = absurd never
  fails_old (Unsound file at) (inr never) place why = absurd never.1
  fails_old (WeightFull held further) (inl never) place why = absurd never
  fails_old (WeightFull held further) (inr is) place why = absurd (omega (arith, is.1.3, why.2))
  fails_old (OldJournal other) (inl never) place why = absurd never
  fails_old (OldJournal other) (inr is) place why = ap OldJournal (same_Some other place (sym is.1.3 ∙ why.4))

  fails_closed : (fault : ConeFault) → FailsTest cone items fault → cone.state ≡ Finished → fault ≡ Closed
  fails_closed Closed fails finished = refl
  fails_closed Broken (inl broken) finished = absurd (false≢true (sym (ap is_broken finished) ∙ broken))
  fails_closed Broken (inr never) finished = absurd never.1
  fails_closed (CapacityFull m len) (inl never) finished = absurd never
  fails_closed (CapacityFull m len) (inr is) finished = not_stopped_closed is.0 finished
  fails_closed BayFailed (inl never) finished = absurd never
  fails_closed BayFailed (inr never) finished = absurd never.1
  fails_closed (Unsound file at) (inl never) finished = absurd never
  fails_closed (Unsound file at) (inr never) finished = absurd never.1
  fails_closed (WeightFull held further) (inl never) finished = absurd never
  fails_closed (WeightFull held further) (inr is) finished = not_stopped_closed is.0 finished
  fails_closed (OldJournal place) (inl never) finished = absurd never
  fails_closed (OldJournal place) (inr is) finished = not_stopped_closed is.0 finished

  fails_broken : (fault : ConeFault) → FailsTest cone items fault → is_broken cone.state ≡ true → fault ≡ Broken
  fails_broken Closed (inl finished) broken = absurd (false≢true (sym (ap is_broken finished) ∙ broken))
  fails_broken Closed (inr never) broken = absurd never.1
  fails_broken Broken fails broken = refl
  fails_broken (CapacityFull m len) (inl never) broken = absurd never
  fails_broken (CapacityFull m len) (inr is) broken = not_stopped_broken is.0 broken
  fails_broken BayFailed (inl never) broken = absurd never
  fails_broken BayFailed (inr never) broken = absurd never.1
  fails_broken (Unsound file at) (inl never) broken = absurd never
  fails_broken (Unsound file at) (inr never) broken = absurd never.1
  fails_broken (WeightFull held further) (inl never) broken = absurd never
  fails_broken (WeightFull held further) (inr is) broken = not_stopped_broken is.0 broken
  fails_broken (OldJournal place) (inl never) broken = absurd never
  fails_broken (OldJournal place) (inr is) broken = not_stopped_broken is.0 broken

  pub refusal_of : (fault : ConeFault) → FailsTest cone items fault → is_refusal fault ≡ true
  refusal_of Closed fails = refl
  refusal_of Broken fails = refl
  refusal_of (CapacityFull m len) fails = refl
  refusal_of BayFailed (inl never) = absurd never
  refusal_of BayFailed (inr never) = absurd never.1
  refusal_of (Unsound file at) (inl never) = absurd never
  refusal_of (Unsound file at) (inr never) = absurd never.1
  refusal_of (WeightFull held further) fails = refl
  refusal_of (OldJournal place) fails = refl

  -- a test that fails with a fault
  module _ {T : Type 0} (fault : ConeFault) (fails : FailsTest cone items fault) where
    pub failed_full : (n len : ℕ) → ◌↔◌ (IsErrOf {T = T} {E = ConeFault} (Err fault) (CapacityFull n len)) (IsFull n len)
    failed_full n len = ((λ same. is_full (subst (FailsTest cone items) (one_fault same) fails)), (λ why. ap Err (fails_full fault fails n len why)))
      where
        is_full : FailsTest cone items (CapacityFull n len) → IsFull n len
        is_full (inl never) = absurd never
        is_full (inr is) = (is.0, is.1.0, is.1.1, omega (arith, is.1.0, is.1.1, is.1.2))

    pub failed_heavy : (weight more : ℕ) → ◌↔◌ (IsErrOf {T = T} {E = ConeFault} (Err fault) (WeightFull weight more)) (IsHeavy weight more)
    failed_heavy weight more = ((λ same. is_heavy (subst (FailsTest cone items) (one_fault same) fails)), (λ why. ap Err (fails_heavy fault fails weight more why)))
      where
        is_heavy : FailsTest cone items (WeightFull weight more) → IsHeavy weight more
        is_heavy (inl never) = absurd never
        is_heavy (inr is) = (is.0, is.1.0, is.1.1, is.1.2, omega (arith, is.1.0, is.1.1, is.1.3))

    pub failed_old : (place : ℕ) → ◌↔◌ (IsErrOf {T = T} {E = ConeFault} (Err fault) (OldJournal place)) (IsUnsayable place)
    failed_old place = ((λ same. is_old (subst (FailsTest cone items) (one_fault same) fails)), (λ why. ap Err (fails_old fault fails place why)))
      where
        is_old : FailsTest cone items (OldJournal place) → IsUnsayable place
        is_old (inl never) = absurd never
        is_old (inr is) = (is.0, is.1.0, is.1.1, is.1.2, is.1.3)

    pub failed_closed : ◌↔◌ (IsErrOf {T = T} {E = ConeFault} (Err fault) Closed) (cone.state ≡ Finished)
    failed_closed = ((λ same. is_closed (subst (FailsTest cone items) (one_fault same) fails)), (λ why. ap Err (fails_closed fault fails why)))
      where
        is_closed : FailsTest cone items Closed → cone.state ≡ Finished
        is_closed (inl is) = is
        is_closed (inr never) = absurd never.1

    pub failed_broken : ◌↔◌ (IsErrOf {T = T} {E = ConeFault} (Err fault) Broken) (is_broken cone.state ≡ true)
    failed_broken = ((λ same. is_broken_off (subst (FailsTest cone items) (one_fault same) fails)), (λ why. ap Err (fails_broken fault fails why)))
      where
        is_broken_off : FailsTest cone items Broken → is_broken cone.state ≡ true
        is_broken_off (inl is) = is
        is_broken_off (inr never) = absurd never.1

  -- a test that passes
  module _ {T : Type 0} {value : T} (more : ℕ) (passes : PassesTest cone items more) where
    pub passed_full : (n len : ℕ) → ◌↔◌ (IsErrOf {T = T} {E = ConeFault} (Ok value) (CapacityFull n len)) (IsFull n len)
    passed_full n len = ((λ same. absurd (no_fault same)), (λ why. absurd (omega (arith, why.1, why.2, why.3, passes.within))))

    pub passed_heavy : (weight further : ℕ) → ◌↔◌ (IsErrOf {T = T} {E = ConeFault} (Ok value) (WeightFull weight further)) (IsHeavy weight further)
    passed_heavy weight further = ((λ same. absurd (no_fault same)), (λ why. absurd (omega (arith, why.1, why.2, why.4, passes.light, passes.more_is))))

    pub passed_old : (place : ℕ) → ◌↔◌ (IsErrOf {T = T} {E = ConeFault} (Ok value) (OldJournal place)) (IsUnsayable place)
    passed_old place = ((λ same. absurd (no_fault same)), (λ why. absurd (none-some place (sym (passes.sayable why.3) ∙ why.4))))

  -- and a call that breaks off behind it
  module _ {U : Type 0} (more : ℕ) (passes : PassesTest cone items more) (fault : ConeFault) (broke : is_refusal fault ≡ false) where
    refused_not : (other : ConeFault) → is_refusal other ≡ true → IsErrOf {T = U} {E = ConeFault} (Err fault) other → ⊥
    refused_not other refusal same = false≢true (sym broke ∙ ap is_refusal (one_fault same) ∙ refusal)

    pub broke_full : (n len : ℕ) → ◌↔◌ (IsErrOf {T = U} {E = ConeFault} (Err fault) (CapacityFull n len)) (IsFull n len)
    broke_full n len = ((λ same. absurd (refused_not (CapacityFull n len) refl same)), (λ why. absurd (omega (arith, why.1, why.2, why.3, passes.within))))

    pub broke_heavy : (weight further : ℕ) → ◌↔◌ (IsErrOf {T = U} {E = ConeFault} (Err fault) (WeightFull weight further)) (IsHeavy weight further)
    broke_heavy weight further = (
      (λ same. absurd (refused_not (WeightFull weight further) refl same)),
      (λ why. absurd (omega (arith, why.1, why.2, why.4, passes.light, passes.more_is))),
    )

    pub broke_old : (place : ℕ) → ◌↔◌ (IsErrOf {T = U} {E = ConeFault} (Err fault) (OldJournal place)) (IsUnsayable place)
    broke_old place = ((λ same. absurd (refused_not (OldJournal place) refl same)), (λ why. absurd (none-some place (sym (passes.sayable why.3) ∙ why.4))))

-- a packet that is handed in is one that the files hold, where the test lets it pass
pub journaled_by : {B : Type 0} {cone : Standing B} {packet : Packet} {more : ℕ} → PassesTest cone packet.items more →
    IsJournaled most_version cone.listing.settings cone.listing.cone packet → IsJournaled cone.last.version cone.listing.settings cone.listing.cone packet
journaled_by {cone = cone} {packet = packet} passes may = record {
  some = may.some;
  few = may.few;
  by_most = may.by_most;
  trace_most = may.trace_most;
  of_cone = may.of_cone;
  weighed = of_version cone.last.version packet.items passes.sayable may.weighed;
}
