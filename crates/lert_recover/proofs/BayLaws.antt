-- What an answer, a cone or a refusal, says of a bay, and so of the bay before calls that came first.
use Rattle.std.proofs.Common.{ℕ, ◌≡◌, ◌≤◌, Bool, Option, Result, Ok, Err, length, ap, sym, ◌∙◌, subst}
use Rattle.std.specs.Prelude.{IfOk, MatchResult, if◌then◌else◌}
use Rattle.lert_bay.specs.{Files.Files, Kept.{Bays, CallsBay}}
use Rattle.lert_bay.proofs.KeptLaws.{IsLawful, calls_on}
use Rattle.lert_cone.specs.{declared.state.ConeState.TheVariants.{Finished, Running}, Replaying.{Replaying, readied}, Stands.{IsSameCone, Standing}}
use Rattle.lert_spec.specs.declared.numbers.Numbers.{Numbers}
use Rattle.lert_files.specs.{declared.fault.ReopenFault.ReopenFault, declared.fault.ReopenFault.TheVariants.Failed, Opened.WritesNothing}
use Rattle.lert_files.proofs.QuietLaws.{quiet_on}
use Rattle.lert_recover.specs.Replayed.{IsJournalSame}
use Rattle.lert_recover.proofs.ReplayingLaws.{journal_on, journal_same}

-- whatever the answer, the journal reads as before, and what is kept of the bay
pub record SaysOfBay {B E : Type 0} (bays : Bays B) (bay_in : E → B) (fault_in : E → ReopenFault) (bay : B) (result : Result (Standing B) E) : Type 0 where
  pub reads : MatchResult result (λ now. IsJournalSame (bays.files bay) (bays.files now.bay)) (λ refused. IsJournalSame (bays.files bay) (bays.files (bay_in refused)))
  pub kept : MatchResult result (λ now. CallsBay bays bay now.bay ⊥) (λ refused. CallsBay bays bay (bay_in refused) (fault_in refused ≡ Failed))

module _ {B E : Type 0} (bays : Bays B) (lawful : IsLawful bays) (bay_in : E → B) (before bay : B) (First : Type 0) where
  pub bay_before : (fault_in : E → ReopenFault) → WritesNothing bays before bay First → (result : Result (Standing B) E) →
      SaysOfBay bays bay_in fault_in bay result → SaysOfBay bays bay_in fault_in before result
  bay_before fault_in quiet (Ok now) says = record {
    reads = journal_on (journal_same (bays.files before) (bays.files bay) quiet.seen) says.reads;
    kept = calls_on bays lawful before bay now.bay First ⊥ quiet.kept says.kept;
  }
  bay_before fault_in quiet (Err refused) says = record {
    reads = journal_on (journal_same (bays.files before) (bays.files bay) quiet.seen) says.reads;
    kept = calls_on bays lawful before bay (bay_in refused) First (fault_in refused ≡ Failed) quiet.kept says.kept;
  }

  -- where nothing was written before, and nothing is
  pub quiet_before : WritesNothing bays before bay First → (result : Result (Standing B) E) →
      MatchResult result (λ now. WritesNothing bays bay now.bay ⊥) (λ refused. WritesNothing bays bay (bay_in refused) ⊥) →
      MatchResult result (λ now. WritesNothing bays before now.bay ⊥) (λ refused. WritesNothing bays before (bay_in refused) ⊥)
  quiet_before quiet (Ok now) behind = quiet_on lawful quiet behind
  quiet_before quiet (Err refused) behind = quiet_on lawful quiet behind

module _ {B E : Type 0} (start : Replaying B) where
  -- what a cone is that was made and replayed its journal
  pub own_of : (s : Numbers) (cone : ℕ) → start.listing.settings ≡ s → start.listing.cone ≡ cone → start.listing.closed ≡ start.last.closed → (result : Result (Standing B) E) →
      IfOk result (λ now. IsSameCone (readied start) now) →
      IfOk result (λ now. now.events ≡ length now.listing.events) →
      IfOk result (λ now. (now.listing.closed ≡ start.listing.closed) × (now.state ≡ if start.last.closed then Finished else Running)) →
      IfOk result (λ now. (now.listing.settings ≡ s) × (now.listing.cone ≡ cone) × (now.events ≡ length now.listing.events) ×
      (now.state ≡ if now.listing.closed then Finished else Running))
  own_of s cone settings_is cone_is closed_is (Ok now) same counted state =
      (same.settings ∙ settings_is, same.cone ∙ cone_is, counted, state.1 ∙ ap (λ (b : Bool). if b then Finished else Running) (sym (state.0 ∙ closed_is)))
  own_of s cone settings_is cone_is closed_is (Err refused) same counted state = tt

  -- and what its bay was when it was made
  pub made_of : (files : B → Option Files) (faults mark : B → ℕ) (before : B) → files start.made ≡ files before → faults before ≤ faults start.made →
      mark start.made ≡ mark before → (result : Result (Standing B) E) → IfOk result (λ now. IsSameCone (readied start) now) →
      IfOk result (λ now. (files now.made ≡ files before) × (faults before ≤ faults now.made) × (mark now.made ≡ mark before))
  made_of files faults mark before files_are later mark_is (Ok now) same =
      (ap files same.made ∙ files_are, subst (λ (bay : B). faults before ≤ faults bay) (sym same.made) later, ap mark same.made ∙ mark_is)
  made_of files faults mark before files_are later mark_is (Err refused) same = tt
