-- Why a header can't be taken.
use Rattle.std.specs.Prelude.{◌≡◌, ℕ, ◌<◌, ◌++◌, List, Option}
use Rattle.lert_io.specs.{Fault.HasRisen, Reading.IfTold}
use Rattle.lert_trace.specs.{Trace.header_len, declared.fault.TraceFault.TraceFault, declared.fault.TraceFault.TheVariants.{ReadFailed, BadHeader, CutKey, TooLong, ZeroWeight}}

-- a read failed, or what is ahead leaves the header at that place
abbrev pub HeaderFault : Option (List ℕ) → List ℕ → ℕ → ℕ → TraceFault → Type 0
HeaderFault remaining pending before now ReadFailed = HasRisen before now
HeaderFault remaining pending before now (BadHeader at) =
    (at < 8) × IfTold remaining (λ bytes. header_len (pending ++ bytes) ≡ at)
HeaderFault remaining pending before now (CutKey at) = ⊥
HeaderFault remaining pending before now TooLong = ⊥
HeaderFault remaining pending before now (ZeroWeight at) = ⊥
