-- How many bytes of its file a read of a record hands out at most.
use Rattle.std.specs.Prelude.{ℕ, ◌+◌, Option, Some, None, Result, Ok, Err}
use Rattle.lert_gatelog.specs.{declared.fault.LogFault.LogFault, declared.fault.LogFault.TheVariants.{Failed, Malformed}}

-- the gate, the length and the payload of a record; gate and length where no payload was read; and as many as the greatest
-- record has, where it leaves the format
abbrev pub read_cost : ℕ → Result (Option ℕ) LogFault → ℕ
read_cost most (Ok (Some count)) = 5 + count
read_cost most (Ok None) = 5
read_cost most (Err Failed) = 5
read_cost most (Err (Malformed at)) = 5 + most
