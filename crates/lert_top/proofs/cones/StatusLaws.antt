-- What statuses, counts of faults and bays exclude.
use Rattle.std.proofs.{Common.{◌≡◌, ℕ, ◌^◌, ◌<◌, ◌≤◌, List, Option, Some, Result, Ok, Err, subst, arith, lit<}, Math.Nat.pow-le-pow_right}
use Rattle.std.specs.Prelude.{IfErr, OnOk}
use Rattle.lert_spec.specs.declared.numbers.Numbers.{Numbers}
use Rattle.lert_bay.specs.Files.{Files}
use Rattle.lert_io.specs.Fault.{HasRisen, IsFaultless}
use Rattle.lert_ingest.specs.{declared.status.Status.TheVariants.{Done, Usage, PlaceFault, OutOfMemory}, Bays.{AreFaultless, AreTold, AreToldFresh, HasFailed, IsStale, IsUntold}}
use Rattle.lert_ingest.proofs.BayLaws.{slice_get-some}

pub some_is : {X : Type 0} {x y : X} → Some x ≡ Some y → x ≡ y
some_is same = cc

-- some statuses differ
pub no_memory_no_place : OutOfMemory ≡ PlaceFault → ⊥
no_memory_no_place same = cc

pub no_memory_not_done : OutOfMemory ≡ Done → ⊥
no_memory_not_done same = cc

pub no_memory_no_usage : (rule : ℕ) → OutOfMemory ≡ Usage rule → ⊥
no_memory_no_usage rule same = cc

pub no_place_no_usage : (rule : ℕ) → PlaceFault ≡ Usage rule → ⊥
no_place_no_usage rule same = cc

-- what rose had no room for a count without a fault
pub no_rise : (a b : ℕ) → IsFaultless a b → HasRisen a b → ⊥
no_rise a b none rose = absurd (omega (arith, none.same, rose none.below_last))

-- without a fault from a first moment on there is none from a later one on
pub faultless_since : (a b c : ℕ) → a ≤ b → b ≤ c → IsFaultless a c → IsFaultless b c
faultless_since a b c one two none = record { same = omega (arith, one, two, none.same); below_last = omega (arith, one, two, none.same, none.below_last) }

pub faultless_until : (a b c : ℕ) → a ≤ b → b ≤ c → IsFaultless a c → IsFaultless a b
faultless_until a b c one two none = record { same = omega (arith, one, two, none.same); below_last = none.below_last }

-- no fault of a bay was counted, or one was
pub failed_or_not : {B : Type 0} (faults : B → ℕ) (bays later : List B) (cone : ℕ) → AreFaultless faults bays later → HasFailed faults bays later cone → ⊥
failed_or_not faults bays later cone none failed =
    no_rise (faults failed.before) (faults failed.now) (none cone failed.before failed.now failed.was failed.is) failed.rose

-- a bay isn't stale where all are fresh
pub stale_or_not : {B : Type 0} (files : B → Option Files) (bays : List B) (cone : ℕ) → AreToldFresh files bays → IsStale files bays cone → ⊥
stale_or_not files bays cone fresh stale =
    let there = slice_get-some bays cone stale.named in
    let held = fresh cone there.0 there.1 in
    stale.not_empty there.0 there.1 held.0 held.1 held.2

-- a bay tells its files where all tell them
pub untold_or_not : {B : Type 0} (files : B → Option Files) (bays : List B) (cone : ℕ) → AreTold files bays → IsUntold files bays cone → ⊥
untold_or_not files bays cone told untold =
    let there = slice_get-some bays cone untold.named in
    let held = told cone there.0 there.1 in
    untold.untold there.0 there.1 held.0 held.1

-- fresh bays that tell it tell their files
pub fresh_told : {B : Type 0} (files : B → Option Files) (bays : List B) → AreToldFresh files bays → AreTold files bays
fresh_told files bays fresh = λ cone bay is. let held = fresh cone bay is in (held.0, held.1)

-- what is so of a result, at its value
pub err_at : {E : Type 0} (r : Result (Unit {0}) E) (e : E) (P : E → Type 0) → r ≡ Err e → IfErr r P → P e
err_at r e P is shows = subst (λ x. IfErr x P) is shows

pub ok_at : {E : Type 0} (r : Result (Unit {0}) E) (P : Type 0) → r ≡ Ok tt → OnOk r P → P
ok_at r P is shows = subst (λ x. OnOk x P) is shows

-- there are at most 256 cones
pub few_cones : (s : Numbers) (number : ℕ) → s.cone_bits ≤ 8 → number ≡ 2 ^ s.cone_bits → number ≤ 256
few_cones s number bits is = let power = pow-le-pow_right {n = 2} (lit< tt) {i = s.cone_bits} {j = 8} bits in omega (arith, is, power)

pub few_numbers : (number : ℕ) → number ≤ 256 → number < 4294967296
few_numbers number few = omega (arith, few)
