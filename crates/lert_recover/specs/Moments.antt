-- What a stop at a moment of a reopening leaves.
use Rattle.std.specs.Prelude.{ℕ, List}
use Rattle.lert_base.specs.Packet.{Packet}
use Rattle.lert_bay.specs.Files.{Files}
use Rattle.lert_cone.specs.Sound.{IsSound}
use Rattle.lert_spec.specs.declared.numbers.Numbers.{Numbers}

-- every image is sound for a list
abbrev pub AreSound : (Files → Type 0) → Numbers → ℕ → List Packet → Type 0
AreSound leaves s cone history = (image : Files) → leaves image → IsSound s cone history image
