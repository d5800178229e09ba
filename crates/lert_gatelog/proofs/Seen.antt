-- What one call of a bay or two leave of it, in the words of the calls of a log.
use Rattle.std.proofs.Common.{◌≡◌, ℕ, ◌+◌, ◌<◌, ◌≤◌, List, length, take, Option, Result, ◌∙◌, arith, length-take}
use Rattle.std.specs.Prelude.{IsErr}
use Rattle.lert_io.specs.Fault.{HasCause}
use Rattle.lert_bay.specs.{Files.{Files, Changes, Turns}, Images.{Elapses, KeepsImages}, Kept.{Bays, ReadsBay}}
use Rattle.lert_bay.proofs.KeptLaws.{IsLawful, reading_call}
use Rattle.lert_gatelog.specs.Kept.{OthersStay}

-- a step of one file leaves the others
pub others_seen : (step : List ℕ → List ℕ → Type 0) (file : ℕ) (before after : Option Files) → Turns (Changes step file) before after → Turns (OthersStay file) before after
others_seen step file before after turned = record {
  told = λ old told. let new = turned.told old told in (new.0, new.1, new.2.others);
  untold = turned.untold;
}

pub others_on : (file : ℕ) (before between after : Option Files) → Turns (OthersStay file) before between → Turns (OthersStay file) between after → Turns (OthersStay file) before after
others_on file before between after one two = record {
  told = λ old told.
      let middle = one.told old told in
      let new = two.told middle.0 middle.1 in
      (new.0, new.1, λ other apart. new.2 other apart ∙ middle.2 other apart);
  untold = λ none. two.untold (one.untold none);
}

-- a call that reads
pub reads_once : {B T E : Type 0} (bays : Bays B) (lawful : IsLawful bays) (before after : B) (result : Result T E) (Fails : Type 0) → (Fails → IsErr result) →
    Elapses (bays.moment before) (bays.moment after) (bays.left_since before) (bays.left_since after) (bays.leaves after) →
    HasCause (bays.faults before) (bays.faults after) result → bays.mark after ≡ bays.mark before → bays.files after ≡ bays.files before →
    KeepsImages (bays.leaves before) (bays.leaves after) → ReadsBay bays before after Fails
reads_once bays lawful before after result Fails turned time cause mark seen images =
    reading_call bays lawful before after Fails time cause.never_falls (λ fails. cause.failed (turned fails)) mark seen images

pub short_text : (n : ℕ) (text : List ℕ) → n ≤ 32 → 0 + length (take (n + 1) text) < 9223372036854775808
short_text n text short = omega (arith, short, length-take (n + 1) text)

pub gate_in_reach : (gate n : ℕ) → gate + 1 + n < 9223372036854775808 → gate + 1 < 9223372036854775808
gate_in_reach gate n reach = omega (arith, reach)

pub behind_payload : (gate count : ℕ) → gate + (5 + count) ≡ gate + 5 + count
behind_payload gate count = omega arith

-- ---- what is read and added stays in range

pub at_most : (a b c : ℕ) → a ≤ b → b ≤ c → a ≤ c
at_most a b c one two = omega (arith, one, two)

pub behind_gate : (gate : ℕ) → gate ≤ 4611686018427387904 → gate + 5 < 18446744073709551616
behind_gate gate reach = omega (arith, reach)

pub record_small : (count most : ℕ) → count ≤ most → most < 4294967296 → 5 + count < 18446744073709551616
record_small count most within small = omega (arith, within, small)

pub record_in_reach : (gate count most : ℕ) → count ≤ most → most < 4294967296 → gate ≤ 4611686018427387904 → gate + (5 + count) < 18446744073709551616
record_in_reach gate count most within small reach = omega (arith, within, small, reach)
