-- What a look at a gate answers.
use Rattle.std.specs.Prelude.{ℕ, List, Option, Result, IfOk, IfSome, IfNone, IsErrOf}
use Rattle.lert_gatelog.specs.{Gated.{IsAnnounced, IsClosed, BreaksAt}, declared.fault.LogFault.LogFault}

-- the length of a payload where an open gate announces one, none at a closed gate, and else the place at which the record
-- leaves the format
pub record Looked (most : ℕ) (bytes : List ℕ) (gate : ℕ) (result : Result (Option ℕ) LogFault) : Type 0 where
  pub announced : IfOk result (λ found. IfSome found (λ count. IsAnnounced most bytes gate count))
  pub closed : IfOk result (λ found. IfNone found (IsClosed bytes gate))
  pub malformed : (at : ℕ) → IsErrOf result (LogFault.Malformed at) → BreaksAt most bytes gate at
