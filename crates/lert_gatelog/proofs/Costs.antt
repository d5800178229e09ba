-- How many bytes a read of a record hands out, call by call.
use Rattle.std.proofs.Common.{◌≡◌, ℕ, ◌+◌, ◌≤◌, Option, Some, None, Result, Ok, Err, subst, arith}
use Rattle.lert_bay.specs.Handed.{ReadsUpTo}
use Rattle.lert_bay.proofs.HandedLaws.{up_to_on}
use Rattle.lert_gatelog.specs.{Cost.read_cost, declared.fault.LogFault.LogFault, declared.fault.LogFault.TheVariants.{Failed, Malformed}}

-- whatever the answer, a look at the gate is paid
pub least_cost : (most : ℕ) (result : Result (Option ℕ) LogFault) → 5 ≤ read_cost most result
least_cost most (Ok (Some count)) = omega arith
least_cost most (Ok None) = omega arith
least_cost most (Err Failed) = omega arith
least_cost most (Err (Malformed at)) = omega arith

-- a length, a look, and what is read behind it
pub up_to_look : (file rest cost : ℕ) (first before between after : ℕ → ℕ) → 5 + rest ≤ cost → before ≡ first → ReadsUpTo file 5 before between →
    ReadsUpTo file rest between after → ReadsUpTo file cost first after
up_to_look file rest cost first before between after within same look behind =
    subst (λ (told : ℕ → ℕ). ReadsUpTo file cost told after) same (up_to_on file 5 rest cost before between after within look behind)
