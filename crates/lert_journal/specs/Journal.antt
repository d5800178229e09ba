-- The packets of a journal: the payloads of its open records.
use Rattle.std.specs.Prelude.{◌≡◌, ℕ, ◌+◌, ◌<◌, List, [], ◌∷◌, ◌++◌, map, All, Some}
use Rattle.std.proofs.Common.{◌⊎◌}
use Rattle.lert_base.specs.Packet.{Packet, keys_of}
use Rattle.lert_gatelog.specs.Gated.{IsGated, IsOpen, BreaksAt, next_gate}
use Rattle.lert_journal.specs.Payload.{payload_of, left, IsJournaled}
use Rattle.lert_spec.specs.{declared.numbers.Numbers.Numbers, Edges.key_limit}

-- the open records from the gate `first` on hold these packets, and end at a closed gate
abbrev pub HasPackets : ℕ → ℕ → List ℕ → ℕ → List Packet → ℕ → Type 0
HasPackets version most bytes first packets end = IsGated most bytes first (map (payload_of version) packets) end

-- they hold these packets, or these and one more
abbrev pub HasPacketsOrOneMore : ℕ → ℕ → ℕ → List Packet → ℕ → Packet → List ℕ → Type 0
HasPacketsOrOneMore version most first packets gate packet bytes =
    HasPackets version most bytes first packets gate
    ⊎ HasPackets version most bytes first (packets ++ packet ∷ []) (next_gate gate (payload_of version packet))

-- at a gate stands the open record of a packet that this cone's journal may hold
pub record HoldsPacket (version : ℕ) (s : Numbers) (cone most : ℕ) (bytes : List ℕ) (gate : ℕ) (packet : Packet) : Type 0 where
  pub stands : IsOpen most bytes gate (payload_of version packet)
  pub journaled : IsJournaled version s cone packet
  pub fits : All (λ key. key < key_limit s) (keys_of packet)

-- at a gate stands an open record whose payload leaves the format at this place of the file
pub record IsSpoiledAt (version : ℕ) (s : Numbers) (cone most : ℕ) (bytes : List ℕ) (gate at : ℕ) : Type 0 where
  pub payload : List ℕ
  pub place : ℕ
  pub stands : IsOpen most bytes gate payload
  pub first : left version s cone payload ≡ Some place
  pub at_is : at ≡ gate + 1 + place

-- the place at which what stands at a gate first leaves the format of a journal: as a gated record, or, where it is one,
-- by its payload
abbrev pub LeavesAt : ℕ → Numbers → ℕ → ℕ → List ℕ → ℕ → ℕ → Type 0
LeavesAt version s cone most bytes gate at = BreaksAt most bytes gate at ⊎ IsSpoiledAt version s cone most bytes gate at
