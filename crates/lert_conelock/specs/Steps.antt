-- What the steps of a cone lock tell the caller that makes them.
use Rattle.std.specs.Prelude.{◌≡◌, ℕ, ◌<◌, ◌≤◌, Bool, List, [], ◌∷◌, ◌++◌, ◌⊎◌, length, Option, Some, None, IsTrue, Contains}
use Rattle.atomic_table.specs.Table.{Me}
use Rattle.lert_base.specs.{declared.held.Held.Ghosts as HeldOf, Packet.{Packet, own}}
use Rattle.lert_conelock.specs.{Prefix.IsPrefix, After.{StandsAfter, RefusesAfter}, Moves.{Move, Take, Miss, Moves, IsAnothers, held_after}, Shown.{Shown, missed, taken}}

-- a seat's view, and the slot that it holds
abbrev pub Mine : Type 0 → Type 0 → Type 0
Mine H F = Me (Option H) (Option (Shown H F))

-- the seat has a live pass without the lock
pub record IsIdle {H F : Type 0} (me : Mine H F) : Type 0 where
  pub pass : Shown H F
  pub me_is : me ≡ (Some pass, [])
  pub idle : pass.tries ≡ None

-- the seat may take the lock for the packet
pub record MayTake {H F : Type 0} (me : Mine H F) (e : Packet) : Type 0 where
  pub pass : Shown H F
  pub me_is : me ≡ (Some pass, [])
  pub idle : pass.tries ≡ None
  pub own : e.by ≡ pass.lo

-- the seat has the lock for a packet
pub record IsTrying {H F : Type 0} (me : Mine H F) : Type 0 where
  pub pass : Shown H F
  pub packet : Packet
  pub me_is : me.0 ≡ Some pass
  pub tries : pass.tries ≡ Some packet

-- p found the lock held by another pass, behind these moves
pub record Missed {H F : Type 0} (p : Shown H F) (after : Mine H F) : Type 0 where
  pub before : List Move
  pub begins : IsPrefix p.moves before
  pub another : IsAnothers (held_after None before) p.lo p.hi
  pub moved : Moves p.lo p.moves (Miss p.lo p.hi ∷ []) (before ++ Miss p.lo p.hi ∷ [])
  pub after_is : after ≡ (Some (missed (before ++ Miss p.lo p.hi ∷ []) p), [])

-- p has looked: q knows the whole history, of which this many packets were found
pub record Looked {H F : Type 0} (found : ℕ) (p q : Shown H F) : Type 0 where
  pub shows : q ≡ record p { seen = q.seen }
  pub more : IsPrefix p.seen q.seen
  pub count : found ≡ length q.seen
  pub calls : (n : ℕ) → q.lo ≤ n → n < q.hi → own q.seen n ≡ own q.calls n

module _ {H T R F : Type 0} (held : HeldOf H T R F) where
  -- the state in the hands of the pass that has the lock
  pub record InHand (p : Shown H F) (state : H) : Type 0 where
    pub terms_are : held.terms state ≡ held.terms p.first
    pub stands : StandsAfter held p.first p.seen state
    pub stopped_is : IsTrue p.stopped → IsTrue (held.stopped state)
    pub over_is : (held.over state ≡ None) ⊎ ((held.over state ≡ held.over p.first)
        ⊎ ((e : Packet) × (held.over state ≡ Some e) × Contains p.known e))
    pub fresh_is : (state ≡ p.first) ⊎ ((e : Packet) × (Contains p.seen e ⊎ Contains p.known e))

  -- p took the lock for the packet, and this is in the slot now
  pub record Took (e : Packet) (p : Shown H F) (state : H) (slot : Option H) (after : Mine H F) : Type 0 where
    pub seen : List Packet
    pub stop : Bool
    pub known : List Packet
    pub moves : List Move
    pub after_is : after ≡ (Some (taken e seen stop known moves p), (0, slot) ∷ [])
    pub moved : Moves p.lo p.moves (Take p.lo ∷ []) moves
    pub more : IsPrefix p.seen seen
    pub stops : IsTrue p.stopped → IsTrue stop
    pub opened : (h : List Packet) × held.stands_for p.first h
    pub hand : InHand (taken e seen stop known moves p) state

  -- the seat has the lock, and this is in the slot
  pub record HasLock (state : H) (slot : Option H) (me : Mine H F) : Type 0 where
    pub pass : Shown H F
    pub packet : Packet
    pub me_is : me ≡ (Some pass, (0, slot) ∷ [])
    pub tries : pass.tries ≡ Some packet
    pub hand : InHand pass state

  -- the refusal is by rule, or the state in hand is stopped
  abbrev pub IsReason : Bool → Shown H F → Packet → F → Type 0
  IsReason stop p e f = IsTrue stop ⊎ RefusesAfter held p.first p.seen e f
