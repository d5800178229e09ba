-- What a drill says of the keys that it generated, and of the text that it wrote.
use Rattle.std.specs.Prelude.{◌≡◌, ℕ, ◌+◌, ◌*◌, ◌^◌, ◌<◌, ◌≤◌, List, ◌++◌, length, Option, Some}
use Rattle.lert_gen.specs.Generated.{generated}
use Rattle.lert_io.specs.{Fault.HasRisen, Reading.IfTold}
use Rattle.lert_spec.specs.{declared.numbers.Numbers.Numbers, Edges.capacity, Mix.part_of}
use Rattle.lert_text.specs.{Drill.{drill_lines, drilled}, Page.IsCut}
use Rattle.lert_ingest.specs.{declared.status.Status.Status, declared.status.Status.TheVariants.{Done, CapacityFull, OutFault, OutOfMemory}}

-- each cone takes its part of the keys
abbrev pub Fits : Numbers → List ℕ → Type 0
Fits s keys = (cone : ℕ) → cone < 2 ^ s.cone_bits → length (part_of s cone keys) ≤ capacity s

-- so many keys of a cone, and those of a packet behind them, are more than it takes, and its part has as many
pub record IsOverfull (s : Numbers) (keys : List ℕ) (cone n len : ℕ) : Type 0 where
  pub named : cone < 2 ^ s.cone_bits
  pub some : 1 ≤ len
  pub few : len ≤ 4 * s.packet
  pub over : capacity s < n + len
  pub enough : n + len ≤ length (part_of s cone keys)

-- what the status of a drill says, by the sink before and after: with `Done` the text is that of a plain count, whatever the workers
module _ {K : Type 0} (taken : K → Option (List ℕ)) (faults : K → ℕ) (s : Numbers) (seed events : ℕ) (before after : K) where
  pub data DrillShows : Status → Type 0 where
    drill_done : Fits s (generated seed events) → IfTold (taken before) (λ text. taken after ≡ Some (text ++ drill_lines (drilled s (generated seed events)))) → DrillShows Done
    drill_full : (cone n len : ℕ) → IsOverfull s (generated seed events) cone n len → after ≡ before → DrillShows (CapacityFull cone n len)
    drill_cut : Fits s (generated seed events) → HasRisen (faults before) (faults after) → IsCut (taken before) (taken after) (drill_lines (drilled s (generated seed events))) →
        DrillShows OutFault
    drill_memory : after ≡ before → DrillShows OutOfMemory

-- the status of a drill whose reading stopped with another: a full cone is handed on, and all else is want of memory
abbrev pub drill_status : Status → Status
drill_status (CapacityFull cone n len) = CapacityFull cone n len
drill_status other = OutOfMemory
