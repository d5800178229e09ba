-- Bytes on their way into the file of frames.
use Rattle.std.specs.Prelude.{◌≡◌, ℕ, ◌+◌, ◌-◌, List, ◌++◌, length, take}
use Rattle.lert_bay.specs.Settled.{part}
use Rattle.lert_frames.specs.declared.outlet.Outlet.{Outlet}

-- the bytes that aren't written yet
abbrev pub unwritten : Outlet → List ℕ
unwritten o = take o.len o.bytes.items

-- where the next byte goes
abbrev pub next_place : Outlet → ℕ
next_place o = o.at + o.len

-- for how many bytes more the buffer has room
abbrev pub room_left : Outlet → ℕ
room_left o = o.bytes.len - o.len

-- how many it has room for once all are written
abbrev pub size_of : Outlet → ℕ
size_of o = o.bytes.len

-- of the text that begins at a place the front is in the file, and the rest in the buffer
pub record IsOut (begin : ℕ) (text file : List ℕ) (o : Outlet) : Type 0 where
  pub gone : List ℕ
  pub text_is : text ≡ gone ++ unwritten o
  pub at_is : o.at ≡ begin + length gone
  pub there : part file begin o.at ≡ gone
