-- The reports of a cone that stands for a list are in time.
use Rattle.lert_spec.specs.Counts.{weighed}
use Rattle.std.proofs.Common.{◌≡◌, ◌∙◌, ◌≤◌, ℕ, true, false, List, length, Option, sym, subst, arith}
use Rattle.lert_base.specs.Packet.{Packet, events_of}
use Rattle.lert_bay.specs.Files.{Files, IfTold}
use Rattle.lert_spec.specs.{declared.report.Report.Report, Edges.capacity, Timely.{IsTimelyIn, IsTimelySoFarIn}}
use Rattle.lert_spec.proofs.TimeBound.{timely_closing as timely_at_closing, timely_so_far as timely_while_open}
use Rattle.lert_cone.specs.Stands.{Standing, StandsFor, WasSound, is_broken}
use Rattle.lert_cone.proofs.StandLaws.{reports_running, reports_finished}

-- those of a cone whose reports aren't those at the end yet
pub timely_so_far : {B : Type 0} {files : B → Option Files} {leaves : B → Files → Type 0} {faults : B → ℕ} {cone : Standing B} {history : List Packet} →
    is_broken cone.state ≡ false →
    cone.listing.closed ≡ false → StandsFor files leaves faults cone history → WasSound files cone →
    IfTold (files cone.bay) (λ _. IsTimelySoFarIn weighed cone.listing.settings.threshold cone.listing.settings.bins (events_of history) cone.reports)
timely_so_far {cone = cone} {history = history} unbroken still stands sound seen told =
    let whole = stands.whole unbroken sound seen told in
    let fits : length (events_of history) ≤ capacity cone.listing.settings = omega (arith, stands.counted, stands.within) in
    subst (λ (reports : List Report). IsTimelySoFarIn weighed cone.listing.settings.threshold cone.listing.settings.bins (events_of history) reports) (sym (whole.in_step.reports_are
    ∙ reports_running cone.listing (events_of history) still whole.keys))
    (timely_while_open weighed cone.listing.settings (events_of history) stands.valid fits)

-- those at the end
pub timely : {B : Type 0} {files : B → Option Files} {leaves : B → Files → Type 0} {faults : B → ℕ} {cone : Standing B} {history : List Packet} → is_broken cone.state ≡ false →
    cone.listing.closed ≡ true → StandsFor files leaves faults cone history → WasSound files cone →
    IfTold (files cone.bay) (λ _. IsTimelyIn weighed cone.listing.settings.threshold cone.listing.settings.bins (events_of history) cone.reports)
timely {cone = cone} {history = history} unbroken ended stands sound seen told =
    let whole = stands.whole unbroken sound seen told in
    let fits : length (events_of history) ≤ capacity cone.listing.settings = omega (arith, stands.counted, stands.within) in
    subst (λ (reports : List Report). IsTimelyIn weighed cone.listing.settings.threshold cone.listing.settings.bins (events_of history) reports) (sym (whole.in_step.reports_are
    ∙ reports_finished cone.listing (events_of history) ended whole.keys))
    (timely_at_closing weighed cone.listing.settings (events_of history) stands.valid fits)
