-- What four workers bring and leave.
use Rattle.std.proofs.{Common.{◌≡◌, ℕ, zero, suc, ◌+◌, ◌≤◌, ◌<◌, ◌^◌, List, [], ◌∷◌, length, Option, Some, None, All, refl, sym, ap, ◌∙◌, subst, arith}, lemmas.List.Elements.{All-nil, All-cons}}
use Rattle.std.proofs.lemmas.Option.{none-some, same_Some, slice_get_within}
use Rattle.std.specs.Prelude.{slice_get}
use Rattle.lert_base.specs.{declared.cone_fault.ConeFault.ConeFault, declared.held.Held.Ghosts as HeldOf, Packet.Packet}
use Rattle.lert_fleet.specs.{Cones.{FleetSight, FleetPassSight, IsPassOf}, Each.EachTwo}
use Rattle.lert_fleet.proofs.Places.{some_at}
use Rattle.lert_spec.specs.declared.numbers.Numbers.{Numbers}
use Rattle.lert_worker.specs.Ran.{HasRun, MayRun, Working}
use Rattle.lert_worker_tests.specs.{Fours.{AreBack, AreHired, IsBack, IsHired}, Pairs.IsStarted}

-- what holds at each place holds of each
pub all_of : {A : Type 0} (P : A → Type 0) (xs : List A) → ((place : ℕ) (x : A) → slice_get xs place ≡ Some x → P x) → All P xs
all_of P [] each = All-nil P
all_of P (x ∷ xs) each = All-cons P x xs (each 0 x refl) (all_of P xs (λ place. each (suc place)))

pub at_four : {A : Type 0} (P : ℕ → A → Type 0) (a b c d : A) → P 0 a → P 1 b → P 2 c → P 3 d
    → (place : ℕ) (x : A) → slice_get (a ∷ b ∷ c ∷ d ∷ []) place ≡ Some x → P place x
at_four P a b c d first second third fourth zero x is = subst (P 0) (same_Some a x is) first
at_four P a b c d first second third fourth (suc zero) x is = subst (P 1) (same_Some b x is) second
at_four P a b c d first second third fourth (suc (suc zero)) x is = subst (P 2) (same_Some c x is) third
at_four P a b c d first second third fourth (suc (suc (suc zero))) x is = subst (P 3) (same_Some d x is) fourth
at_four P a b c d first second third fourth (suc (suc (suc (suc place)))) x is = absurd (none-some x is)

module _ {S H : Type 0} (settings : Numbers) (fleet : FleetSight H) where
  pub hired : (number : ℕ) (pass : FleetPassSight H ConeFault) (worker : Working S H) → IsStarted number settings pass worker
      → IsPassOf pass fleet → pass.lo ≡ number → pass.hi ≡ number + 1 → IsHired number settings fleet worker
  hired number pass worker started belongs lo hi = record {
    number_is = started.number_is;
    settings_is = started.settings_is;
    back = record {
      belongs = subst (λ (p : FleetPassSight H ConeFault). IsPassOf p fleet) (sym started.pass_is) belongs;
      lo_is = ap (λ (p : FleetPassSight H ConeFault). p.lo) started.pass_is ∙ lo;
      hi_is = ap (λ (p : FleetPassSight H ConeFault). p.hi) started.pass_is ∙ hi;
      one = ap length started.traces_are;
    };
  }

  pub may_run : {T R : Type 0} (held : HeldOf H T R ConeFault) → length fleet ≡ 2 ^ settings.cone_bits
      → ((state : H) (packet : Packet) → held.fits (held.terms state) packet)
      → (number : ℕ) → number < 4 → (worker : Working S H) → IsHired number settings fleet worker → MayRun held fleet worker
  may_run held cones fits number few worker hired = record {
    belongs = hired.back.belongs;
    lo_is = hired.back.lo_is ∙ sym hired.number_is;
    hi_is = hired.back.hi_is ∙ ap (λ n. n + 1) (sym hired.number_is);
    number_most = (let is = hired.number_is in omega (arith, few, is));
    cones = cones ∙ ap (λ (s : Numbers). 2 ^ s.cone_bits) (sym hired.settings_is);
    fits = λ cone lock is packet journaled. fits lock.first packet;
  }

  pub may_all : {T R : Type 0} (held : HeldOf H T R ConeFault) → length fleet ≡ 2 ^ settings.cone_bits
      → ((state : H) (packet : Packet) → held.fits (held.terms state) packet)
      → (workers : List (Working S H)) → length workers ≡ 4 → AreHired settings fleet workers → All (MayRun held fleet) workers
  may_all held cones fits workers four hired = all_of (MayRun held fleet) workers (λ place worker is.
      may_run held cones fits place (let within = slice_get_within workers place worker is in omega (arith, within, four)) worker (hired place worker is))

  pub all_back : (remaining : S → Option (List ℕ)) (faults mark : S → ℕ) (old new : List (Working S H)) → AreHired settings fleet old
      → EachTwo (HasRun remaining faults mark fleet) old new → AreBack fleet new
  all_back remaining faults mark old new hired ran place worker is =
      let within = slice_get_within new place worker is in
      let as_many = ran.as_many in
      let was = some_at old place (omega (arith, within, as_many)) in
      let one = ran.each place was.0 worker was.1 is in
      let back = (hired place was.0 was.1).back in record {
        belongs = one.belongs;
        lo_is = one.lo_is ∙ back.lo_is;
        hi_is = one.hi_is ∙ back.hi_is;
        one = ap length one.traces_are ∙ back.one;
      }
