-- What a pass shows to the rule of its lock. It stands in contracts alone: no code holds it.
use Rattle.std.specs.Prelude.{ℕ, ◌+◌, Bool, false, ◌||◌, if◌then◌else◌, nat_lt, nat_le, List, [], ◌∷◌, ◌++◌, length, filter, Option, Some, None}
use Rattle.lert_base.specs.Packet.{Packet}
use Rattle.lert_conelock.specs.Moves.{Move}

-- H is the state in the lock, F what a refused call is answered by
pub record Shown (H F : Type 0) : Type 0 where
  -- the state with which the lock began
  pub first : H
  -- its numbers are those from lo on and below hi
  pub lo : ℕ
  pub hi : ℕ
  -- of each of its numbers, the packets that were taken in, and those that were refused, in their order
  pub calls : List Packet
  pub refused : List (Packet × F)
  -- the history as far as the pass knows it
  pub seen : List Packet
  -- what the other pass of its last join had seen, or this one where that was less
  pub lesser : List Packet
  -- what all callers did to the lock, as far as the pass knows it
  pub moves : List Move
  -- how many takes found the lock held, and how many calls waited for it
  pub met : ℕ
  pub waits : ℕ
  -- the state is stopped
  pub stopped : Bool
  -- the packet that it has the lock for
  pub tries : Option Packet
  -- refused packets of all passes, while it has the lock
  pub known : List Packet

module _ {H F : Type 0} where
  -- the first pass of a lock
  abbrev pub whole : H → ℕ → Shown H F
  whole first numbers = record {
    first = first;
    lo = 0;
    hi = numbers;
    calls = [];
    refused = [];
    seen = [];
    lesser = [];
    moves = [];
    met = 0;
    waits = 0;
    stopped = false;
    tries = None;
    known = [];
  }

  -- a take found the lock held, and these moves are known
  abbrev pub missed : List Move → Shown H F → Shown H F
  missed moves p = record p { met = p.met + 1; moves = moves }

  -- the lock is taken for the packet, and this is known of the history, of the stop, of refusals and of moves
  abbrev pub taken : Packet → List Packet → Bool → List Packet → List Move → Shown H F → Shown H F
  taken e seen stop known moves p = record p { seen = seen; stopped = stop; known = known; tries = Some e; moves = moves }

  -- the packet was taken in
  abbrev pub committed : Packet → Shown H F → Shown H F
  committed e p = record p { seen = p.seen ++ e ∷ []; calls = p.calls ++ e ∷ [] }

  -- the packet was refused by a state that is stopped or not
  abbrev pub noted : Packet → F → Bool → Shown H F → Shown H F
  noted e f stop p = record p {
    refused = p.refused ++ (e, f) ∷ [];
    known = p.known ++ e ∷ [];
    stopped = p.stopped || stop;
  }

  -- the lock is free again, after a call that waited so often, and these moves are known
  abbrev pub freed : ℕ → List Move → Shown H F → Shown H F
  freed more moves p = record p { tries = None; known = []; waits = p.waits + more; moves = moves }

  -- the two passes of a split
  abbrev pub lower : ℕ → Shown H F → Shown H F
  lower at p = record p { hi = at }

  abbrev pub upper : ℕ → Shown H F → Shown H F
  upper at p = record p { lo = at; met = 0; waits = 0 }

-- of two lists that belong to the numbers below and from `at` on, what belongs to all
abbrev pub both_sides : {A : Type 0} → (A → ℕ) → ℕ → List A → List A → List A
both_sides number at low high = filter (λ a. nat_lt (number a) at) low ++ filter (λ a. nat_le at (number a)) high

-- of two lists, the longer one and the other one
abbrev pub longer : {A : Type 0} → List A → List A → List A
longer xs ys = if nat_lt (length xs) (length ys) then ys else xs

abbrev pub shorter : {A : Type 0} → List A → List A → List A
shorter xs ys = if nat_lt (length xs) (length ys) then xs else ys

module _ {H F : Type 0} where
  -- the pass of a join, where q begins where p ends
  abbrev pub joined : Shown H F → Shown H F → Shown H F
  joined p q = record p {
    hi = q.hi;
    calls = both_sides (λ e. e.by) q.lo p.calls q.calls;
    refused = both_sides (λ r. r.0.by) q.lo p.refused q.refused;
    seen = longer p.seen q.seen;
    lesser = shorter p.seen q.seen;
    moves = longer p.moves q.moves;
    met = p.met + q.met;
    waits = p.waits + q.waits;
    stopped = p.stopped || q.stopped;
  }

  -- the same of two seats, of which a spent one adds nothing
  abbrev pub both_of : Option (Shown H F) → Option (Shown H F) → Option (Shown H F)
  both_of None w = w
  both_of (Some p) None = Some p
  both_of (Some p) (Some q) = Some (joined p q)
