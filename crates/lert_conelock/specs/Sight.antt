-- What callers see of a pass and of a lock.
use Rattle.std.specs.Prelude.{◌≡◌, ℕ, ◌+◌, ◌<◌, ◌≤◌, ◌==◌, Bool, false, ◌||◌, List, [], ◌∷◌, ◌++◌, ◌⊎◌, filter, Option, Some, None, is_none, IsTrue, Contains}
use Rattle.atomic_table.specs.Seated.{TableId}
use Rattle.lert_base.specs.{declared.held.Held.Ghosts as HeldOf, Packet.{Packet, own}}
use Rattle.lert_conelock.specs.{Prefix.IsPrefix, Moves.{Move, Miss, AreOrderly, IsAnothers, held_after, misses, own_moves}, After.{StandsAfter, AnswersAfter, RefusesAfter}, Shown.{Shown, longer}}

-- a pass: the lock that it is of, the state that this began with, the numbers from lo on and below hi,
-- and what it knows. Of calls and refused only what its own numbers brought means anything
pub record Sight (H F : Type 0) : Type 0 where
  pub lock : TableId
  pub first : Option H
  pub lo : ℕ
  pub hi : ℕ
  pub calls : List Packet
  pub refused : List (Packet × F)
  pub seen : List Packet
  pub moves : List Move
  pub met : ℕ
  pub waits : ℕ
  pub stopped : Bool

-- a lock: which one it is, the state that it began with, and how many callers it has
pub record LockSight (H : Type 0) : Type 0 where
  pub id : TableId
  pub first : H
  pub numbers : ℕ

-- the refused calls of a number, in their order
abbrev pub own_refused : {F : Type 0} → List (Packet × F) → ℕ → List (Packet × F)
own_refused refused number = filter (λ r. r.0.by == number) refused

module _ {H F : Type 0} where
  -- what callers see of a seat: of a spent one nothing
  abbrev pub sight : TableId → Option (Shown H F) → Sight H F
  sight id None = record {
    lock = id;
    first = None;
    lo = 0;
    hi = 0;
    calls = [];
    refused = [];
    seen = [];
    moves = [];
    met = 0;
    waits = 0;
    stopped = false;
  }
  sight id (Some p) = record {
    lock = id;
    first = Some p.first;
    lo = p.lo;
    hi = p.hi;
    calls = p.calls;
    refused = p.refused;
    seen = p.seen;
    moves = p.moves;
    met = p.met;
    waits = p.waits;
    stopped = p.stopped;
  }

  -- a live pass without the lock
  abbrev pub is_idle : Option (Shown H F) → Bool
  is_idle None = false
  is_idle (Some p) = is_none p.tries

  -- the first pass of a lock, which has all numbers
  abbrev pub first_pass : LockSight H → Sight H F
  first_pass lock = record {
    lock = lock.id;
    first = Some lock.first;
    lo = 0;
    hi = lock.numbers;
    calls = [];
    refused = [];
    seen = [];
    moves = [];
    met = 0;
    waits = 0;
    stopped = false;
  }

-- the pass is one of this lock
pub record BelongsTo {H F : Type 0} (pass : Sight H F) (lock : LockSight H) : Type 0 where
  pub lock_is : pass.lock ≡ lock.id
  pub first_is : pass.first ≡ Some lock.first

-- calls under the first number of a pass: it counts as many lost takes more as it missed in what all callers did since, and
-- that is orderly
pub record Counts {H F : Type 0} (old new : Sight H F) : Type 0 where
  pub lo_is : new.lo ≡ old.lo
  pub begins : IsPrefix old.moves new.moves
  pub orderly : AreOrderly None old.moves → AreOrderly None new.moves
  pub met : new.met + misses (own_moves old.moves old.lo) ≡ old.met + misses (own_moves new.moves old.lo)

-- what a call leaves of its pass, whatever it answers: its lock, its numbers, what it has seen, that the state is stopped, and
-- which takes it lost
pub record Keeps {H F : Type 0} (old new : Sight H F) : Type 0 where
  pub lock_is : new.lock ≡ old.lock
  pub first_is : new.first ≡ old.first
  pub lo_is : new.lo ≡ old.lo
  pub hi_is : new.hi ≡ old.hi
  pub begins : IsPrefix old.seen new.seen
  pub stops : IsTrue old.stopped → IsTrue new.stopped
  pub counts : Counts old new

-- a take was lost: behind these moves, of which the pass knew a beginning, another caller had the lock
pub record Loses {H F : Type 0} (old new : Sight H F) : Type 0 where
  pub before : List Move
  pub begins : IsPrefix old.moves before
  pub another : IsAnothers (held_after None before) old.lo old.hi
  pub shows : new ≡ record old { moves = before ++ Miss old.lo old.hi ∷ []; met = old.met + 1 }

-- one pass of two, of which the other began where the old one ended
pub record Joined {H F : Type 0} (old other new : Sight H F) : Type 0 where
  pub shows : new ≡ record old {
    hi = other.hi;
    calls = new.calls;
    refused = new.refused;
    seen = longer old.seen other.seen;
    moves = longer old.moves other.moves;
    met = old.met + other.met;
    waits = old.waits + other.waits;
    stopped = old.stopped || other.stopped;
  }
  pub calls_below : (n : ℕ) → n < other.lo → own new.calls n ≡ own old.calls n
  pub calls_above : (n : ℕ) → other.lo ≤ n → own new.calls n ≡ own other.calls n
  pub refused_below : (n : ℕ) → n < other.lo → own_refused new.refused n ≡ own_refused old.refused n
  pub refused_above : (n : ℕ) → other.lo ≤ n → own_refused new.refused n ≡ own_refused other.refused n
  -- both had seen the beginning of one history
  pub begins : IsPrefix old.seen new.seen
  pub other_begins : IsPrefix other.seen new.seen

module _ {H T R F : Type 0} (held : HeldOf H T R F) where
  -- the packet was taken in after the past, which begins with all that the pass had seen, and is
  -- answered as `apply` answers there
  pub record Acted (first : H) (e : Packet) (reply : R) (more : ℕ) (old new : Sight H F) : Type 0 where
    pub past : List Packet
    pub begins : IsPrefix old.seen past
    pub answer : AnswersAfter held first past e reply
    pub met : old.met ≤ new.met
    pub shows : new ≡ record old {
      seen = past ++ e ∷ [];
      calls = old.calls ++ e ∷ [];
      moves = new.moves;
      met = new.met;
      waits = old.waits + more;
      stopped = new.stopped;
    }

  -- the packet was refused after the past, by rule or since the state is stopped from then on
  pub record Declined (first : H) (e : Packet) (f : F) (more : ℕ) (old new : Sight H F) : Type 0 where
    pub past : List Packet
    pub begins : IsPrefix old.seen past
    pub cause : IsTrue new.stopped ⊎ RefusesAfter held first past e f
    pub met : old.met ≤ new.met
    pub shows : new ≡ record old {
      seen = past;
      refused = old.refused ++ (e, f) ∷ [];
      moves = new.moves;
      met = new.met;
      waits = old.waits + more;
      stopped = new.stopped;
    }

  -- the state of a lock that is closed with a pass of all its numbers
  pub record Closed (lock : LockSight H) (pass : Sight H F) (state : H) : Type 0 where
    -- the packets that were taken in: of each number its calls, and no others
    pub history : List Packet
    pub calls : (n : ℕ) → n < lock.numbers → own history n ≡ own pass.calls n
    pub numbered : (e : Packet) → Contains history e → e.by < lock.numbers
    pub begins : IsPrefix pass.seen history
    pub terms_are : held.terms state ≡ held.terms lock.first
    pub stands : StandsAfter held lock.first history state
    pub stopped_is : IsTrue pass.stopped → IsTrue (held.stopped state)
    pub over_is : (held.over state ≡ None) ⊎ ((held.over state ≡ held.over lock.first)
        ⊎ ((e : Packet) × (f : F) × (held.over state ≡ Some e) × (e.by < lock.numbers) × Contains pass.refused (e, f)))
    pub refusals : (e : Packet) (f : F) → Contains pass.refused (e, f) → IsTrue (held.stopped state)
        ⊎ ((past : List Packet) × IsPrefix past history × RefusesAfter held lock.first past e f)
    -- without a call it is the first state itself
    pub untouched : pass.calls ≡ [] → pass.refused ≡ [] → state ≡ lock.first
    -- what all callers did to the lock, whose misses are the takes that they lost; nobody has it
    pub moves : List Move
    pub knows : IsPrefix pass.moves moves
    pub orderly : AreOrderly None moves
    pub no_others : (n : ℕ) → lock.numbers ≤ n → own_moves moves n ≡ []
    pub freed : held_after None moves ≡ None
    pub met : pass.met ≡ misses moves
