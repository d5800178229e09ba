-- The rule of a cone lock: its words, its slot and all passes show one history.
use Rattle.std.specs.Prelude.{◌≡◌, ℕ, ◌<◌, ◌≤◌, List, [], ◌⊎◌, length, slice_index, sum_by, Option, Some, None, IsTrue, Contains}
use mathlib.Core.Option.{some}
use lib.ListN.{get_elem?}
use Rattle.atomic_table.specs.Table.{State}
use Rattle.lert_base.specs.{declared.held.Held.Ghosts as HeldOf, Packet.{Packet, own}}
use Rattle.lert_conelock.specs.{Prefix.IsPrefix, Moves.{Move, AreOrderly, held_after, misses, own_moves}, After.{StandsAfter, RefusesAfter}, Shown.Shown}

-- what the seats show, in their order: a spent pass shows nothing
abbrev pub Views : Type 0 → Type 0 → Type 0
Views H F = List (Option (Shown H F))

-- the seat has a live pass, which shows p
abbrev pub Has : {H F : Type 0} → Views H F → ℕ → Shown H F → Type 0
Has views seat p = get_elem? views seat ≡ some (Some p)

-- some pass shows that the state is stopped
pub record IsStopped {H F : Type 0} (views : Views H F) : Type 0 where
  pub seat : ℕ
  pub pass : Shown H F
  pub there : Has views seat pass
  pub stopped : IsTrue pass.stopped

-- the packet was refused, and the pass that has its number shows it
pub record IsRefused {H F : Type 0} (views : Views H F) (e : Packet) : Type 0 where
  pub seat : ℕ
  pub pass : Shown H F
  pub there : Has views seat pass
  pub low : pass.lo ≤ e.by
  pub high : e.by < pass.hi
  pub refusal : F
  pub shown : Contains pass.refused (e, refusal)

-- some pass has the number
pub record IsCovered {H F : Type 0} (views : Views H F) (number : ℕ) : Type 0 where
  pub seat : ℕ
  pub pass : Shown H F
  pub there : Has views seat pass
  pub low : pass.lo ≤ number
  pub high : number < pass.hi

-- a live pass by itself
pub record IsPart {H F : Type 0} (first : H) (numbers : ℕ) (history : List Packet) (p : Shown H F) : Type 0 where
  pub first_is : p.first ≡ first
  pub not_empty : p.lo < p.hi
  pub within : p.hi ≤ numbers
  pub seen : IsPrefix p.seen history
  pub lesser : IsPrefix p.lesser history
  pub calls : (n : ℕ) → p.lo ≤ n → n < p.hi → own p.calls n ≡ own history n
  pub tried : (e : Packet) → p.tries ≡ Some e → e.by ≡ p.lo

-- some pass has the lock
pub record IsTried {H F : Type 0} (views : Views H F) : Type 0 where
  pub seat : ℕ
  pub pass : Shown H F
  pub packet : Packet
  pub there : Has views seat pass
  pub tries : pass.tries ≡ Some packet

-- how many takes of a seat's pass found the lock held
abbrev pub met_of : {H F : Type 0} → Option (Shown H F) → ℕ
met_of None = 0
met_of (Some p) = p.met

-- all passes together show these moves: each pass knows its own ones, and counts its misses
pub record Moved {H F : Type 0} (numbers : ℕ) (views : Views H F) (moves : List Move) : Type 0 where
  pub orderly : AreOrderly None moves
  pub no_others : (n : ℕ) → numbers ≤ n → own_moves moves n ≡ []
  pub begins : (seat : ℕ) (p : Shown H F) → Has views seat p → IsPrefix p.moves moves
  pub own : (seat : ℕ) (p : Shown H F) → Has views seat p → (n : ℕ) → p.lo ≤ n → n < p.hi → own_moves p.moves n ≡ own_moves moves n
  pub counted : sum_by met_of views ≡ misses moves
  -- the pass that has the lock is the one that took it last
  pub trying : (seat : ℕ) (p : Shown H F) (e : Packet) → Has views seat p → p.tries ≡ Some e → held_after None moves ≡ Some p.lo

module _ {H T R F : Type 0} (held : HeldOf H T R F) where
  -- the packet was refused so by rule, after some beginning of the history, or the state is stopped
  abbrev pub IsCaused : H → List Packet → Views H F → Packet → F → Type 0
  IsCaused first history views e f =
      IsStopped views ⊎ ((past : List Packet) × IsPrefix past history × RefusesAfter held first past e f)

  -- all passes together
  pub record Passes (first : H) (numbers : ℕ) (history : List Packet) (views : Views H F) : Type 0 where
    pub parts : (seat : ℕ) (p : Shown H F) → Has views seat p → IsPart first numbers history p
    pub apart : (a b : ℕ) (p q : Shown H F) → Has views a p → Has views b q → (a ≡ b → ⊥)
        → (p.hi ≤ q.lo) ⊎ (q.hi ≤ p.lo)
    pub cover : (n : ℕ) → n < numbers → IsCovered views n
    pub refusals : (seat : ℕ) (p : Shown H F) → Has views seat p → (e : Packet) (f : F)
        → Contains p.refused (e, f) → IsCaused first history views e f
    pub known : (seat : ℕ) (p : Shown H F) → Has views seat p → (e : Packet) → Contains p.known e → IsRefused views e
    -- at most one pass has the lock. It has seen the whole history, and knows where the state is stopped
    pub alone : (a b : ℕ) (p q : Shown H F) (e f : Packet) → Has views a p → Has views b q
        → p.tries ≡ Some e → q.tries ≡ Some f → a ≡ b
    pub trying : (seat : ℕ) (p : Shown H F) (e : Packet) → Has views seat p → p.tries ≡ Some e
        → (p.seen ≡ history) × (IsStopped views → IsTrue p.stopped)

  -- a state that is home
  pub record IsHome (first : H) (history : List Packet) (views : Views H F) (state : H) : Type 0 where
    pub terms_are : held.terms state ≡ held.terms first
    pub stands : StandsAfter held first history state
    pub stopped_is : IsStopped views → IsTrue (held.stopped state)
    pub over_is : (held.over state ≡ None) ⊎ ((held.over state ≡ held.over first)
        ⊎ ((e : Packet) × (held.over state ≡ Some e) × IsRefused views e))
    -- before the first call it is the first state itself
    pub fresh_is : (state ≡ first) ⊎ ((e : Packet) × (Contains history e ⊎ IsRefused views e))

  -- words, slot and passes show this history
  pub record HoldsWith (first : H) (numbers : ℕ) (s : State (Option H) (Option (Shown H F))) (history : List Packet) : Type 0 where
    pub two_words : length s.words ≡ 2
    pub lock_word : slice_index s.words 0 ≤ 1
    pub count_word : slice_index s.words 1 ≡ length history
    pub opened : (h : List Packet) × held.stands_for first h
    pub numbered : (e : Packet) → Contains history e → e.by < numbers
    pub passes : Passes first numbers history s.views
    -- while the lock is free, a state is home
    pub home : slice_index s.words 0 ≡ 0
        → (state : H) × (get_elem? s.homes 0 ≡ some (some (Some state))) × IsHome first history s.views state
    pub none_tries : slice_index s.words 0 ≡ 0 → (seat : ℕ) (p : Shown H F) (e : Packet)
        → Has s.views seat p → p.tries ≡ Some e → ⊥
    pub one_tries : slice_index s.words 0 ≡ 1 → IsTried s.views
    -- and nobody's take is left unfreed
    pub moves : List Move
    pub moved : Moved numbers s.views moves
    pub none_holds : slice_index s.words 0 ≡ 0 → held_after None moves ≡ None

  -- the whole rule: there is such a history
  abbrev pub Holds : H → ℕ → State (Option H) (Option (Shown H F)) → Type 0
  Holds first numbers s = (history : List Packet) × HoldsWith first numbers s history
