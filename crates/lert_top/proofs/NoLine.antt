-- What is said where no line was read: the words broke a rule, or there was no memory.
use Rattle.std.proofs.{Common.{◌≡◌, ◌<◌, ℕ, List, [], length, Option, refl, sym, subst, arith}, lemmas.Option.slice_get_within}
use Rattle.lert_bay.specs.{Files.Files, Kept.Bays}
use Rattle.lert_top.proofs.{cones.AskedLaws.traces_same, recovery.JournalLaws.journals_same, recovery.RecoverEnding.has_recovered, recovery.SoundLaws.sound_same}
use Rattle.lert_ingest.proofs.BayLaws.{are_same}
use Rattle.lert_ingest.specs.{Bays.AreLater, Traces.AreTracesLater, declared.status.Status.TheVariants.{OutOfMemory, PlaceFault, Usage}}
use Rattle.lert_top.specs.{recovery.Moments.AreReturnedSpared, recovery.Recovered.{HasRecovered, unopened, unopened_memory}, runs.Ran.HasPutBack}
use Rattle.lert_spec.specs.declared.numbers.Numbers.{Numbers}

pub usage_not_place : (rule : ℕ) → Usage rule ≡ PlaceFault → ⊥
usage_not_place rule same = cc

pub rule_is : (rule other : ℕ) → Usage rule ≡ Usage other → rule ≡ other
rule_is rule other same = cc

-- a number below none
pub below_none : {P : Type 0} (number : ℕ) → number < 0 → P
below_none number within = absurd (omega (arith, within))

module _ {B : Type 0} (handed : List B) (none : handed ≡ []) where
  pub sound_none : (bays : Bays B) (s : Numbers) (returned : ℕ → Option B) → AreReturnedSpared bays s handed returned
  sound_none bays s returned cone before now was is =
      below_none cone (subst (λ (xs : List B). cone < length xs) none (slice_get_within handed cone before was))

  module _ (files : B → Option Files) (faults mark : B → ℕ) where
    pub later_none : AreLater files faults mark handed []
    later_none = subst (λ (bays : List B). AreLater files faults mark bays []) (sym none) (are_same files faults mark [])

    pub recovered_none : {K : Type 0} (taken : K → Option (List ℕ)) (sink_faults : K → ℕ) (s : Numbers) (out : K) →
        HasRecovered taken sink_faults files faults s out out handed [] OutOfMemory
    recovered_none taken sink_faults s out =
        subst (λ (bays : List B). HasRecovered taken sink_faults files faults s out out bays [] OutOfMemory) (sym none)
        (has_recovered taken sink_faults files faults s out out [] [] OutOfMemory (unopened (unopened_memory refl) refl)
        (λ other. absurd (other refl)) (journals_same files []) (sound_same files s []))

    pub put_back_none : {S : Type 0} (trace_faults trace_mark : S → ℕ) (traces : List S) → traces ≡ [] →
        (returned : ℕ → Option S) (returned_bay : ℕ → Option B) →
        HasPutBack trace_faults trace_mark files faults mark traces [] returned handed [] returned_bay
    put_back_none trace_faults trace_mark traces no_trace returned returned_bay = record {
      traces_later = subst (λ (xs : List _). AreTracesLater trace_faults trace_mark xs []) (sym no_trace) (traces_same trace_faults trace_mark []);
      traces_back = λ trace within. below_none trace within;
      bays_later = later_none;
      bays_back = λ cone within. below_none cone within;
    }
