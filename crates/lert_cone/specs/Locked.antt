-- What a lock says of the cone that it holds, by the cone's terms alone.
use Rattle.lert_spec.specs.Counts.{weighed, weight_of}
use Rattle.std.specs.Prelude.{◌≡◌, ◌+◌, Bool, true, false, List, [], ◌∷◌, ◌++◌, length, Option}
use Rattle.lert_base.specs.{Packet.{Packet, events_of}, declared.cone_fault.ConeFault.ConeFault}
use Rattle.lert_bay.specs.Files.{Files, IfTold}
use Rattle.lert_spec.specs.Look.{look_of}
use Rattle.lert_cone.specs.{declared.acked.Acked.Acked, declared.state.ConeState.ConeState, declared.state.ConeState.TheVariants.{Running, Finished, BrokenByBay, BrokenByRead}}
use Rattle.lert_cone.specs.{Refuses.IsRefused, Stands.{Terms, WereSound}}

-- it may refuse every packet from now on
abbrev pub is_stopped : ConeState → Bool
is_stopped Running = false
is_stopped Finished = true
is_stopped BrokenByBay = true
is_stopped (BrokenByRead file at) = true

-- the reply of a cone with these terms to a packet behind a list: the positions of its first and its last item, and how many
-- reports stand with it where the bay told its files as the cone was made, since no call changes whether it tells them
pub record AnswersUnder {B : Type 0} (files : B → Option Files) (terms : Terms B) (history : List Packet) (packet : Packet) (acked : Acked) : Type 0 where
  pub from_is : acked.from ≡ length (events_of history) + 1
  pub to_is : acked.to ≡ length (events_of history) + length packet.items
  pub reports_are : WereSound files terms → IfTold (files terms.made) (λ _. acked.reports ≡ length (look_of weighed terms.settings (events_of (history ++ packet ∷ []))))

-- its refusal by its rule, behind the items of the list
abbrev pub RefusesUnder : {B : Type 0} → Terms B → List Packet → Packet → ConeFault → Type 0
RefusesUnder terms history packet fault =
    IsRefused terms.settings terms.version (length (events_of history)) (weight_of weighed (events_of history)) packet.items fault
