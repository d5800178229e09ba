-- Which status comes of a run, and what a run says in all.
use Rattle.std.proofs.{Common.{◌≡◌, ◌≢◌, ◌⊎◌, ℕ, ◌^◌, ◌<◌, List, [], length, Option, Some, Result, Ok, Err, slice_get, refl, ap, sym, ◌∙◌, subst, inl, inr, arith}, lemmas.Bool.cases_lt}
use Rattle.std.proofs.lemmas.Option.{slice_get_within}
use Rattle.lert_bay.specs.Files.{Files}
use Rattle.lert_cone.specs.Sound.{AreEmpty}
use Rattle.lert_spec.specs.{declared.item.Item.Item, declared.numbers.Numbers.Numbers}
use Rattle.lert_ingest.specs.{declared.status.Status.Status, declared.status.Status.TheVariants.{NotFresh, OutOfMemory, PlaceFault, Usage}}
use Rattle.lert_ingest.specs.{Bays.{AreFaultlessTo, AreFreshBelow, AreLater, AreToldFresh}, Stops.IsExact}
use Rattle.lert_ingest.proofs.{BayLaws.slice_get-some, Exactly.{exact_memory, exact_turned}}
use Rattle.lert_top.specs.{cones.Finish.EndShows, cones.Unmade.{BrokeEarly, unmade_stale, unmade_failed, unmade_memory}, runs.Ran.IsDone, runs.Run.{HasRun, RunShows, made, unmade, stopped, ended}}
use Rattle.lert_top.proofs.{cones.StatusLaws.no_rise, runs.Ending.{are_faultless_until, ends_done}}

errors_same : {T : Type 0} {E : Type 0} (r : Result T E) (a b : E) → r ≡ Err a → r ≡ Err b → a ≡ b
errors_same r a b one two = let same : Err a ≡ Err b = sym one ∙ two in cc

ok_or_not : {T : Type 0} {E : Type 0} (r : Result T E) (t : T) (e : E) → r ≡ Ok t → r ≡ Err e → ⊥
ok_or_not r t e one two = let same : Ok t ≡ Err e = sym one ∙ two in cc

module _ {S K B : Type 0} (remaining : S → Option (List ℕ)) (faults : S → ℕ) (taken : K → Option (List ℕ)) (sink_faults : K → ℕ) (files : B → Option Files)
    (bay_faults : B → ℕ) (s : Numbers) (workers : ℕ) (opened backs : List S) (before after : K) (bays later : List B) where
  abbrev Exact : List B → List B → Type 0 → (Status → Type 0) → Type 0
  Exact = IsExact remaining faults files bay_faults s workers opened backs

  -- reading stopped with a status, which is the run's
  pub exact_stopped : (read : Result (Unit {0}) Status) (status : Status) → read ≡ Err status → Exact bays later (read ≡ Ok tt) (λ other. read ≡ Err other) →
      Exact bays later (IsDone sink_faults before after status) (λ other. status ≡ other)
  exact_stopped read status is exact = exact_turned remaining faults files bay_faults s opened backs workers workers bays later bays later _ _ _ _
      (λ texts are. (are, λ ok. absurd (ok_or_not read tt status ok is), λ other failed. errors_same read status other is failed)) exact

  -- all was read, and the cones ended with the run's status
  pub exact_ended : (mark : B → ℕ) (then : List B) (traces : List (List Item)) → AreLater files bay_faults mark bays then → AreLater files bay_faults mark then later →
      (read : Result (Unit {0}) Status) → read ≡ Ok tt → Exact bays then (read ≡ Ok tt) (λ other. read ≡ Err other) →
      (status : Status) → EndShows taken sink_faults files bay_faults s workers traces before after bays later status →
      Exact bays later (IsDone sink_faults before after status) (λ other. status ≡ other)
  exact_ended mark then traces one two read is exact status shows = exact_turned remaining faults files bay_faults s opened backs workers workers bays then bays later _ _ _ _ (λ texts are. (
    record {
      told = are.told;
      faultless = are_faultless_until files bay_faults mark bays then later one two are.faultless;
      traces_faultless = are.traces_faultless;
      bytes_are = are.bytes_are;
      few = are.few;
    },
    λ ok. ends_done taken sink_faults files bay_faults s workers traces before after bays later status shows are.told are.faultless,
    λ other failed. absurd (ok_or_not read tt other is failed),
  )) exact

  abbrev Shows : Status → Type 0
  Shows = RunShows remaining faults taken sink_faults files bay_faults s workers opened backs before after bays later

  -- traces and bays that were opened end neither in a fault of the place nor in one of the words
  no_place : Shows PlaceFault → ⊥
  no_place (unmade shows same same_traces) = elim shows [ ]
  no_place (made fresh (stopped shows same)) = elim shows [ ]
  no_place (made fresh (ended traces items read fits shows)) = elim shows [ ]

  no_usage : (rule : ℕ) → Shows (Usage rule) → ⊥
  no_usage rule (unmade shows same same_traces) = elim shows [ ]
  no_usage rule (made fresh (stopped shows same)) = elim shows [ ]
  no_usage rule (made fresh (ended traces items read fits shows)) = elim shows [ ]

  pub not_place_fault : (status : Status) → Shows status → status ≡ PlaceFault → ⊥
  not_place_fault status shows is = no_place (subst Shows is shows)

  pub not_usage : (rule : ℕ) (status : Status) → Shows status → status ≡ Usage rule → ⊥
  not_usage rule status shows is = no_usage rule (subst Shows is shows)

  -- the files of the bays below one that failed early had no byte
  fresh_below : (cone : ℕ) → BrokeEarly files s bays later cone → AreFreshBelow files bays cone
  fresh_below cone (inl unasked) = unasked.below
  fresh_below cone (inr unheaded) = λ other below. unheaded.fresh other

  stale_exactly : (cone : ℕ) (bay : B) (seen : Files) → AreFaultlessTo bay_faults cone bays later → slice_get bays cone ≡ Some bay → files bay ≡ Some seen →
      (AreEmpty seen → ⊥) →
      ((other : ℕ) (lower : B) → other < cone → slice_get bays other ≡ Some lower → (held : Files) × (files lower ≡ Some held) × AreEmpty held) →
      (status : Status) → Shows status → (status ≡ NotFresh cone) ⊎ (status ≡ OutOfMemory)
  stale_exactly cone bay seen none there told not_empty lower status (made fresh shows) = absurd (not_empty (fresh cone bay there seen told))
  stale_exactly cone bay seen none there told not_empty lower status (unmade (unmade_stale other stale same unused) same_sink same_traces) =
      let found = slice_get-some bays other stale.named in
      elim (cases_lt other cone) [
        | inl below ↦
            let held = lower other found.0 below found.1 in
            absurd (stale.not_empty found.0 found.1 held.0 held.1 held.2)
        | inr above ↦
            elim (cases_lt cone other) [
              | inl under ↦ absurd (not_empty (stale.lower cone under bay there seen told))
              | inr reached ↦ let same : other ≡ cone = omega (arith, above, reached) in inl (ap NotFresh same)
            ]
      ]
  stale_exactly cone bay seen none there told not_empty lower status (unmade (unmade_failed other failed early) same_sink same_traces) =
      elim (cases_lt cone other) [
        | inl under ↦ absurd (not_empty (fresh_below other early cone under bay there seen told))
        | inr reached ↦ absurd (no_rise (bay_faults failed.before) (bay_faults failed.now) (none other failed.before failed.now failed.was failed.is reached) failed.rose)
      ]
  stale_exactly cone bay seen none there told not_empty lower status (unmade (unmade_memory unused) same_sink same_traces) = inr refl

  pub HasRun-shows : (status : Status) → Shows status → (status ≢ OutOfMemory → length bays ≡ 2 ^ s.cone_bits) →
      (AreToldFresh files bays → Exact bays later (IsDone sink_faults before after status) (λ other. status ≡ other)) →
      HasRun remaining faults taken sink_faults files bay_faults s workers opened backs before after bays later status
  HasRun-shows status shows number exact = record {
    shows = shows;
    number = number;
    stale_exactly = λ cone none bay there seen told not_empty lower. stale_exactly cone bay seen none there told not_empty lower status shows;
    exact = exact;
  }

  -- there was no memory before a bay was opened, and nothing was read or written
  pub run_none : backs ≡ opened → after ≡ before → later ≡ [] → HasRun remaining faults taken sink_faults files bay_faults s workers opened backs before after bays later OutOfMemory
  run_none backs_are after_is none_later = HasRun-shows OutOfMemory
      (unmade (unmade_memory (λ cone first last was is. absurd (let gone = slice_get_within later cone last is in omega (arith, gone, ap length none_later)))) after_is backs_are)
      (λ other. absurd (other refl)) (λ fresh. exact_memory remaining faults files bay_faults s opened backs workers bays later _ _ (λ texts are. refl))
