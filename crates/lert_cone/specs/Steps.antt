-- What each call says that steps a cone on: a packet, and the end.
use Rattle.std.specs.Prelude.{◌≡◌, ◌↔◌, ℕ, true, List, None, Result, Err, IfErr, OnErr, IsErrOf}
use Rattle.lert_base.specs.{Packet.Packet, declared.cone_fault.ConeFault.ConeFault, declared.cone_fault.ConeFault.TheVariants.{Closed, Broken, BayFailed, Unsound}}
use Rattle.lert_bay.specs.{Files.{IfTold, Turns}, Kept.{Bays, KeepsBay}, declared.bay.TheConstants.FRAMES}
use Rattle.lert_io.specs.Fault.{HasRisen}
use Rattle.lert_cone.specs.{Stands.{Standing, StandsFor, WasSound, IsSameCone, is_broken, is_refusal}, Tally.Shows, Wrote.Anything}
use Rattle.lert_cone.specs.declared.state.ConeState.TheVariants.{Finished, BrokenByBay, BrokenByRead}

-- The call steps the cone on, or refuses before its first step, or breaks off in the middle.
pub record StepsCone {B T : Type 0} (bays : Bays B) (old new : Standing B) (result : Result T ConeFault) : Type 0 where
  -- settings, number, and what bay and log were at first stay
  pub same_cone : IsSameCone old new
  -- after any error it stands for the lists that it stood for
  pub stays : OnErr result ((h : List Packet) → StandsFor bays.files bays.leaves bays.faults old h → StandsFor bays.files bays.leaves bays.faults new h)
  -- a refusal before the first step leaves all
  pub unchanged : IfErr result (λ fault. is_refusal fault ≡ true → new ≡ old)
  -- Closed comes exactly where it is finished
  pub closed : (result ≡ Err Closed) ↔ (old.state ≡ Finished)
  -- Broken comes exactly where a call broke off before
  pub broken : (result ≡ Err Broken) ↔ (is_broken old.state ≡ true)
  -- BayFailed comes only where the bay's count of faults rose, and breaks the cone
  pub bay_failed : IsErrOf result BayFailed → (new.state ≡ BrokenByBay) × HasRisen (bays.faults old.bay) (bays.faults new.bay)
  -- Unsound breaks it, and comes only where the bay doesn't tell its files, or the cone stands for no list
  pub unsound : (file at : ℕ) → IsErrOf result (Unsound file at) → (new.state ≡ BrokenByRead file at)
      × ((h : List Packet) → StandsFor bays.files bays.leaves bays.faults old h → WasSound bays.files old → bays.files old.bay ≡ None)
  -- and, where they are told, shows there: a frame that the levels name breaks, or no report has room
  pub shows : (file at : ℕ) → IsErrOf result (Unsound file at) → IfTold (bays.files new.bay) (λ seen. Shows new.listing.version new.listing.settings new.rows new.reports (seen FRAMES) file at)
  -- files that are told stay told
  pub seen : Turns Anything (bays.files old.bay) (bays.files new.bay)
  -- time goes on, faults are counted, the mark stays, and no byte of the journal is read
  pub kept : KeepsBay bays old.bay new.bay (IsErrOf result BayFailed)
