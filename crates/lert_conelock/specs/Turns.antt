-- What the tries of a call leave its pass with.
use Rattle.std.specs.Prelude.{◌≡◌, ℕ, ◌+◌, Bool, List, [], ◌∷◌, ◌++◌, ◌⊎◌, None, IsTrue, replicate}
use Rattle.lert_base.specs.{declared.held.Held.Ghosts as HeldOf, Packet.Packet}
use Rattle.lert_conelock.specs.{Prefix.IsPrefix, After.{AnswersAfter, RefusesAfter}, Moves.{Move, Take, Free, Miss, Moves, own_moves}, Shown.Shown}

-- p after so many takes that found the lock held: w is what it shows now
pub record Waited {H F : Type 0} (p w : Shown H F) : Type 0 where
  pub lost : ℕ
  pub moves : List Move
  pub begins : IsPrefix p.moves moves
  pub own : own_moves moves p.lo ≡ own_moves p.moves p.lo ++ replicate lost (Miss p.lo p.hi)
  pub shows : w ≡ record p { met = p.met + lost; moves = moves }

module _ {H T R F : Type 0} (held : HeldOf H T R F) where
  -- p was answered so, after the past: q is what it shows now
  pub record WasTaken (e : Packet) (reply : R) (more : ℕ) (p q : Shown H F) : Type 0 where
    pub past : List Packet
    pub stop : Bool
    pub moves : List Move
    pub begins : IsPrefix p.seen past
    pub answer : AnswersAfter held p.first past e reply
    pub stops : IsTrue p.stopped → IsTrue stop
    pub moved : Moves p.lo p.moves (Take p.lo ∷ Free p.lo ∷ []) moves
    pub shows : q ≡ record p {
      seen = past ++ e ∷ [];
      calls = p.calls ++ e ∷ [];
      waits = p.waits + more;
      stopped = stop;
      moves = moves;
      tries = None;
      known = [];
    }

  -- p was refused so, after the past
  pub record WasRefused (e : Packet) (f : F) (more : ℕ) (p q : Shown H F) : Type 0 where
    pub past : List Packet
    pub stop : Bool
    pub moves : List Move
    pub begins : IsPrefix p.seen past
    pub cause : IsTrue stop ⊎ RefusesAfter held p.first past e f
    pub stops : IsTrue p.stopped → IsTrue stop
    pub moved : Moves p.lo p.moves (Take p.lo ∷ Free p.lo ∷ []) moves
    pub shows : q ≡ record p {
      seen = past;
      refused = p.refused ++ (e, f) ∷ [];
      waits = p.waits + more;
      stopped = stop;
      moves = moves;
      tries = None;
      known = [];
    }
