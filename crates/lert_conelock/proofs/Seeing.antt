-- From what a pass shows to what callers see.
use Rattle.std.proofs.Common.{◌≡◌, ℕ, ◌+◌, ◌≤◌, Bool, true, false, List, [], ◌∷◌, ◌++◌, replicate, length, Option, Some, None, sym, refl, ap, ◌∙◌, subst, inl, inr, ⊎_elim}
use Rattle.std.proofs.Common.{arith, le_refl, cond, ltb, ltb-true, ltb-false}
use Rattle.std.specs.Prelude.{IsTrue, is_none, Result, Ok, Err, IfOk, IfErr}
use Rattle.std.proofs.lemmas.Option.{same_Some}
use Rattle.std.proofs.lemmas.Bool.{false≢true}
use Rattle.std.proofs.lemmas.List.Folds.{sum_by-replicate}
use Rattle.std.proofs.lemmas.List.Sums.{sum_by-append}
use mathlib.Core.Option.{some, some-injective}
use lib.ListN.{get_elem?}
use Rattle.atomic_table.specs.Table.{Final, Seen}
use Rattle.atomic_table.specs.Seated.{TableId}
use Rattle.lert_base.specs.declared.held.Held.{Ghosts as HeldOf}
use Rattle.lert_base.specs.Packet.{Packet}
use Rattle.lert_conelock.specs.declared.turn.Turn.{Turn}
use Rattle.lert_conelock.specs.declared.turn.Turn.TheVariants.{Done, Refused, Busy}
use Rattle.lert_conelock.specs.Prefix.{IsPrefix}
use Rattle.lert_conelock.specs.After.{AnswersAfter, RefusesAfter}
use Rattle.lert_conelock.specs.Moves.{Move, Take, Free, Miss, Moves, is_missed, misses, own_moves, waits_and_takes}
use Rattle.lert_conelock.specs.Shown.{Shown, missed, joined}
use Rattle.lert_conelock.specs.Steps.{Mine, IsIdle, MayTake, Missed}
use Rattle.lert_conelock.specs.Turns.{Waited, WasTaken, WasRefused}
use Rattle.lert_conelock.specs.Sight.{Sight, LockSight, sight, is_idle, BelongsTo, Counts, Keeps, Loses, Joined, Acted, Declined, Closed}
use Rattle.lert_conelock.specs.Lost.{lost, moves_of}
use Rattle.lert_conelock.specs.Rule.{Holds}
use Rattle.lert_conelock.proofs.Prefixes.{prefix_itself, prefix_append, prefix_trans}
use Rattle.lert_conelock.proofs.Moving.{moves_on}
use Rattle.lert_conelock.proofs.Cuts.{joined_below, joined_above}
use Rattle.lert_conelock.proofs.Ending.{closes}

none_of : {A : Type 0} (o : Option A) → is_none o ≡ true → o ≡ None
none_of None e = refl
none_of (Some a) e = absurd (false≢true e)

none_is : {A : Type 0} (o : Option A) → o ≡ None → is_none o ≡ true
none_is o e = ap is_none e

-- how many takes a call that waited so often missed
missed_so : (number hi lost : ℕ) → misses (waits_and_takes number hi lost) ≡ lost
missed_so number hi lost = omega (
  arith,
  sum_by-append is_missed (replicate lost (Miss number hi)) (Take number ∷ Free number ∷ []),
  sum_by-replicate is_missed lost (Miss number hi),
)

idle_part : {H F : Type 0} (v : Option (Shown H F)) → is_idle v ≡ true → (p : Shown H F) × (v ≡ Some p) × (p.tries ≡ None)
idle_part None e = absurd (false≢true e)
idle_part (Some p) e = (p, refl, none_of p.tries e)

module _ {H F : Type 0} where
  pub idles : (me : Mine H F) → is_idle me.0 ≡ true → me.1 ≡ [] → IsIdle me
  idles me idle empty = let part = idle_part me.0 idle in record { pass = part.0; me_is = λ i. (part.1 i, empty i); idle = part.2 }

  -- the inside of a pass is one view of a seat
  module _ (tid : TableId) (me : Mine H F) (old : Sight H F) (view : sight tid me.0 ≡ old) where
    pub view_of : (p : Shown H F) → me.0 ≡ Some p → sight tid (Some p) ≡ old
    view_of p is = ap (sight tid) (sym is) ∙ view

    pub takes : (idle : IsIdle me) (e : Packet) → e.by ≡ old.lo → MayTake me e
    takes idle e number = record {
      pass = idle.pass;
      me_is = idle.me_is;
      idle = idle.idle;
      own = number ∙ sym (ap (λ (x : Sight H F). x.lo) (view_of idle.pass (λ i. (idle.me_is i).0)));
    }

    pub first_of : (lock : LockSight H) → BelongsTo old lock → (p : Shown H F) → me.0 ≡ Some p → p.first ≡ lock.first
    first_of lock belongs p is = same_Some p.first lock.first (ap (λ (x : Sight H F). x.first) (view_of p is) ∙ belongs.first_is)

  -- what callers see of a pass before and after a call
  seen_both : (P : Sight H F → Sight H F → Type 0) (tid tid' : TableId) (me' : Mine H F) (old : Sight H F)
      (p q : Shown H F) → sight tid (Some p) ≡ old → tid' ≡ tid → me' ≡ (Some q, [])
      → P (sight tid (Some p)) (sight tid (Some q)) → P old (sight tid' me'.0)
  seen_both P tid tid' me' old p q view same is fact =
      let new : sight tid (Some q) ≡ sight tid' me'.0 = λ i. sight (sym same i) (sym is i).0 in
      subst (λ (x : Sight H F). P old x) new (subst (λ (x : Sight H F). P x (sight tid (Some q))) view fact)

  -- what a call counts, by the moves that it made
  counts_of : (tid : TableId) (p q : Shown H F) (added : List Move) (n : ℕ) → q.lo ≡ p.lo → Moves p.lo p.moves added q.moves → q.met ≡ p.met + n
      → misses added ≡ n → Counts (sight tid (Some p)) (sight tid (Some q))
  counts_of tid p q added n lo_is moved met is = record {
    lo_is = lo_is;
    begins = moved.begins;
    orderly = λ _. moved.orderly;
    met = omega (arith, met, is, ap misses moved.own, sum_by-append is_missed (own_moves p.moves p.lo) added);
  }

  -- a pass after a try that lost one take, and after which nothing else is changed
  pub lost_once : (tid tid' : TableId) (me me' : Mine H F) (old : Sight H F) → sight tid me.0 ≡ old → tid' ≡ tid → (p : Shown H F) → me.0 ≡ Some p
      → Missed p me' → Loses old (sight tid' me'.0)
  lost_once tid tid' me me' old view same p is lost =
      seen_both Loses tid tid' me' old p (missed (lost.before ++ Miss p.lo p.hi ∷ []) p) (view_of tid me old view p is) same lost.after_is
      (record { before = lost.before; begins = lost.begins; another = lost.another; shows = refl })

  -- a pass after a call that lost so many takes, and made these moves
  pub record Turned (tid : TableId) (p : Shown H F) (me : Mine H F) (n : ℕ) (added : List Move) : Type 0 where
    pub pass : Shown H F
    pub me_is : me ≡ (Some pass, [])
    pub idle : pass.tries ≡ None
    pub keeps : Keeps (sight tid (Some p)) (sight tid (Some pass))
    pub met : pass.met ≡ p.met + n
    pub moved : Moves p.lo p.moves added pass.moves

  module _ (tid tid' : TableId) (me me' : Mine H F) (old : Sight H F) (view : sight tid me.0 ≡ old)
      (same : tid' ≡ tid) (p : Shown H F) (is : me.0 ≡ Some p) (n : ℕ) (added : List Move) (t : Turned tid p me' n added) where
    pub turned_keeps : Keeps old (sight tid' me'.0)
    turned_keeps = seen_both Keeps tid tid' me' old p t.pass (view_of tid me old view p is) same t.me_is t.keeps

    pub turned_met : (sight tid' me'.0).met ≡ old.met + n
    turned_met = seen_both (λ (x y : Sight H F). y.met ≡ x.met + n) tid tid' me' old p t.pass
        (view_of tid me old view p is) same t.me_is t.met

    pub turned_moved : Moves p.lo old.moves added (sight tid' me'.0).moves
    turned_moved = seen_both (λ (x y : Sight H F). Moves p.lo x.moves added y.moves) tid tid' me' old p t.pass
        (view_of tid me old view p is) same t.me_is t.moved

    pub turned_inside : (lo : ℕ) → (sight tid me.0).lo ≡ lo → (is_idle me'.0 ≡ true) × (me'.1 ≡ []) × ((sight tid' me'.0).lo ≡ lo)
    turned_inside lo was = (
      subst (λ (v : Option (Shown H F)). is_idle v ≡ true) (λ i. (sym t.me_is i).0) (none_is t.pass.tries t.idle),
      (λ i. (t.me_is i).1),
      turned_keeps.lo_is ∙ (ap (λ (x : Sight H F). x.lo) (sym view) ∙ was),
    )

  -- the moves of a call, under the numbers that callers see of its pass
  pub seen_moves : (tid : TableId) (me : Mine H F) (old : Sight H F) → sight tid me.0 ≡ old → (p : Shown H F) → me.0 ≡ Some p
      → (added : ℕ → ℕ → List Move) (new : List Move) → Moves p.lo old.moves (added p.lo p.hi) new → Moves old.lo old.moves (added old.lo old.hi) new
  seen_moves tid me old view p is added new moved = let seen = view_of tid me old view p is in
      subst (λ (x : Sight H F). Moves x.lo old.moves (added x.lo x.hi) new) seen moved

  module _ {T R : Type 0} (held : HeldOf H T R F) (e : Packet) (more : ℕ) where
    keeps_taken : (tid : TableId) (reply : R) (p q : Shown H F) (m : ℕ) (known : List Move)
        → WasTaken held e reply more (record p { met = m; moves = known }) q
        → Counts (sight tid (Some p)) (sight tid (Some q)) → Keeps (sight tid (Some p)) (sight tid (Some q))
    keeps_taken tid reply p q m known w counts = record {
      counts = counts;
      lock_is = refl;
      first_is = ap (λ (x : Shown H F). Some x.first) w.shows;
      lo_is = ap (λ (x : Shown H F). x.lo) w.shows;
      hi_is = ap (λ (x : Shown H F). x.hi) w.shows;
      begins = prefix_trans w.begins (subst (IsPrefix w.past) (ap (λ (x : Shown H F). x.seen) (sym w.shows))
          (prefix_append w.past (e ∷ [])));
      stops = λ s. subst IsTrue (ap (λ (x : Shown H F). x.stopped) (sym w.shows)) (w.stops s);
    }

    keeps_refused : (tid : TableId) (f : F) (p q : Shown H F) (m : ℕ) (known : List Move)
        → WasRefused held e f more (record p { met = m; moves = known }) q
        → Counts (sight tid (Some p)) (sight tid (Some q)) → Keeps (sight tid (Some p)) (sight tid (Some q))
    keeps_refused tid f p q m known w counts = record {
      counts = counts;
      lock_is = refl;
      first_is = ap (λ (x : Shown H F). Some x.first) w.shows;
      lo_is = ap (λ (x : Shown H F). x.lo) w.shows;
      hi_is = ap (λ (x : Shown H F). x.hi) w.shows;
      begins = subst (IsPrefix p.seen) (ap (λ (x : Shown H F). x.seen) (sym w.shows)) w.begins;
      stops = λ s. subst IsTrue (ap (λ (x : Shown H F). x.stopped) (sym w.shows)) (w.stops s);
    }

    acted_of : (tid : TableId) (first : H) (reply : R) (p q : Shown H F) (m : ℕ) (known : List Move) → p.met ≤ m → p.first ≡ first
        → WasTaken held e reply more (record p { met = m; moves = known }) q
        → Acted held first e reply more (sight tid (Some p)) (sight tid (Some q))
    acted_of tid first reply p q m known least same w = record {
      past = w.past;
      begins = w.begins;
      answer = subst (λ (x : H). AnswersAfter held x w.past e reply) same w.answer;
      met = (let now : q.met ≡ m = ap (λ (x : Shown H F). x.met) w.shows in omega arith);
      shows = λ i. record {
        lock = tid;
        first = Some (w.shows i).first;
        lo = (w.shows i).lo;
        hi = (w.shows i).hi;
        calls = (w.shows i).calls;
        refused = (w.shows i).refused;
        seen = (w.shows i).seen;
        moves = q.moves;
        met = q.met;
        waits = (w.shows i).waits;
        stopped = q.stopped;
      };
    }

    declined_of : (tid : TableId) (first : H) (f : F) (p q : Shown H F) (m : ℕ) (known : List Move) → p.met ≤ m → p.first ≡ first
        → WasRefused held e f more (record p { met = m; moves = known }) q
        → Declined held first e f more (sight tid (Some p)) (sight tid (Some q))
    declined_of tid first f p q m known least same w = record {
      past = w.past;
      begins = w.begins;
      cause = ⊎_elim (λ stop. inl (subst IsTrue (ap (λ (x : Shown H F). x.stopped) (sym w.shows)) stop))
          (λ rule. inr (subst (λ (x : H). RefusesAfter held x w.past e f) same rule)) w.cause;
      met = (let now : q.met ≡ m = ap (λ (x : Shown H F). x.met) w.shows in omega arith);
      shows = λ i. record {
        lock = tid;
        first = Some (w.shows i).first;
        lo = (w.shows i).lo;
        hi = (w.shows i).hi;
        calls = (w.shows i).calls;
        refused = (w.shows i).refused;
        seen = (w.shows i).seen;
        moves = q.moves;
        met = q.met;
        waits = (w.shows i).waits;
        stopped = q.stopped;
      };
    }

    module _ (tid tid' : TableId) (me me' : Mine H F) (old : Sight H F) (view : sight tid me.0 ≡ old)
        (same : tid' ≡ tid) (p : Shown H F) (is : me.0 ≡ Some p) (first : H) (first_is : p.first ≡ first) where
      acted : (reply : R) (m : ℕ) (known : List Move) → p.met ≤ m → (q : Shown H F) → me' ≡ (Some q, [])
          → WasTaken held e reply more (record p { met = m; moves = known }) q
          → Acted held first e reply more old (sight tid' me'.0)
      acted reply m known least q now w = seen_both (Acted held first e reply more) tid tid' me' old p q
          (view_of tid me old view p is) same now (acted_of tid first reply p q m known least first_is w)

      declined : (f : F) (m : ℕ) (known : List Move) → p.met ≤ m → (q : Shown H F) → me' ≡ (Some q, [])
          → WasRefused held e f more (record p { met = m; moves = known }) q
          → Declined held first e f more old (sight tid' me'.0)
      declined f m known least q now w = seen_both (Declined held first e f more) tid tid' me' old p q
          (view_of tid me old view p is) same now (declined_of tid first f p q m known least first_is w)

      pub acted_once : (reply : R) → (q : Shown H F) × (me' ≡ (Some q, [])) × WasTaken held e reply more p q
          → Acted held first e reply more old (sight tid' me'.0)
      acted_once reply t = acted reply p.met p.moves (le_refl p.met) t.0 t.1 t.2

      pub declined_once : (f : F) → (q : Shown H F) × (me' ≡ (Some q, [])) × WasRefused held e f more p q
          → Declined held first e f more old (sight tid' me'.0)
      declined_once f t = declined f p.met p.moves (le_refl p.met) t.0 t.1 t.2

      pub acted_at_last : (result : Result R F) → IfOk result
          (λ reply. (w q : Shown H F) × Waited p w × (me' ≡ (Some q, [])) × WasTaken held e reply more w q)
          → IfOk result (λ reply. Acted held first e reply more old (sight tid' me'.0))
      acted_at_last (Ok reply) t = acted reply (p.met + t.2.lost) t.2.moves (omega arith) t.1 t.3
          (subst (λ (x : Shown H F). WasTaken held e reply more x t.1) t.2.shows t.4)
      acted_at_last (Err f) t = tt

      pub declined_at_last : (result : Result R F) → IfErr result
          (λ f. (w q : Shown H F) × Waited p w × (me' ≡ (Some q, [])) × WasRefused held e f more w q)
          → IfErr result (λ f. Declined held first e f more old (sight tid' me'.0))
      declined_at_last (Ok reply) t = tt
      declined_at_last (Err f) t = declined f (p.met + t.2.lost) t.2.moves (omega arith) t.1 t.3
          (subst (λ (x : Shown H F). WasRefused held e f more x t.1) t.2.shows t.4)

    any_turn : (result : Turn R F) (P : Turn R F → Type 0) → ((reply : R) → result ≡ Done reply → P (Done reply))
        → ((f : F) → result ≡ Refused f → P (Refused f)) → (result ≡ Busy → P Busy) → P result
    any_turn (Done reply) P done refused busy = done reply refl
    any_turn (Refused f) P done refused busy = refused f refl
    any_turn Busy P done refused busy = busy refl

    -- whatever came of a try, its pass is one of the same range, and idle
    pub turned : (tid : TableId) (p : Shown H F) (me' : Mine H F) (result : Turn R F)
        → ((reply : R) → result ≡ Done reply → (q : Shown H F) × (me' ≡ (Some q, [])) × WasTaken held e reply more p q)
        → ((f : F) → result ≡ Refused f → (q : Shown H F) × (me' ≡ (Some q, [])) × WasRefused held e f more p q)
        → (result ≡ Busy → Missed p me') → p.tries ≡ None → Turned tid p me' (lost result) (moves_of p.lo p.hi result)
    turned tid p me' result done refused busy idle = any_turn result (λ (r : Turn R F). Turned tid p me' (lost r) (moves_of p.lo p.hi r))
        (λ reply is. let t = done reply is in
        let met_is : t.0.met ≡ p.met + 0 = (let m : t.0.met ≡ p.met = ap (λ (x : Shown H F). x.met) t.2.shows in omega arith) in
        let moved_so = subst (Moves p.lo p.moves (Take p.lo ∷ Free p.lo ∷ [])) (ap (λ (x : Shown H F). x.moves) (sym t.2.shows)) t.2.moved in record {
          pass = t.0;
          me_is = t.1;
          idle = ap (λ (x : Shown H F). x.tries) t.2.shows;
          keeps = keeps_taken tid reply p t.0 p.met p.moves t.2
              (counts_of tid p t.0 (Take p.lo ∷ Free p.lo ∷ []) 0 (ap (λ (x : Shown H F). x.lo) t.2.shows) moved_so met_is refl);
          met = met_is;
          moved = moved_so;
        })
        (λ f is. let t = refused f is in
        let met_is : t.0.met ≡ p.met + 0 = (let m : t.0.met ≡ p.met = ap (λ (x : Shown H F). x.met) t.2.shows in omega arith) in
        let moved_so = subst (Moves p.lo p.moves (Take p.lo ∷ Free p.lo ∷ [])) (ap (λ (x : Shown H F). x.moves) (sym t.2.shows)) t.2.moved in record {
          pass = t.0;
          me_is = t.1;
          idle = ap (λ (x : Shown H F). x.tries) t.2.shows;
          keeps = keeps_refused tid f p t.0 p.met p.moves t.2
              (counts_of tid p t.0 (Take p.lo ∷ Free p.lo ∷ []) 0 (ap (λ (x : Shown H F). x.lo) t.2.shows) moved_so met_is refl);
          met = met_is;
          moved = moved_so;
        })
        (λ is. let miss = busy is in record {
          pass = missed (miss.before ++ Miss p.lo p.hi ∷ []) p;
          me_is = miss.after_is;
          idle = idle;
          keeps = record {
            lock_is = refl;
            first_is = refl;
            lo_is = refl;
            hi_is = refl;
            begins = prefix_itself p.seen;
            stops = λ s. s;
            counts = counts_of tid p (missed (miss.before ++ Miss p.lo p.hi ∷ []) p) (Miss p.lo p.hi ∷ []) 1 refl miss.moved refl refl;
          };
          met = refl;
          moved = miss.moved;
        })

    -- the same after a call that lost any number of takes
    pub turned_at_last : (tid : TableId) (p : Shown H F) (me' : Mine H F) (result : Result R F)
        → IfOk result (λ reply. (w q : Shown H F) × Waited p w × (me' ≡ (Some q, [])) × WasTaken held e reply more w q)
        → IfErr result (λ f. (w q : Shown H F) × Waited p w × (me' ≡ (Some q, [])) × WasRefused held e f more w q)
        → (n : ℕ) × Turned tid p me' n (waits_and_takes p.lo p.hi n)
    turned_at_last tid p me' (Ok reply) done refused =
        let waited = done.2 in
        let was = subst (λ (x : Shown H F). WasTaken held e reply more x done.1) waited.shows done.4 in
        let moved_so = subst (Moves p.lo p.moves (waits_and_takes p.lo p.hi waited.lost)) (ap (λ (x : Shown H F). x.moves) (sym was.shows))
        (moves_on p.lo p.moves waited.moves was.moves (replicate waited.lost (Miss p.lo p.hi)) (Take p.lo ∷ Free p.lo ∷ []) waited.begins waited.own was.moved) in (
          waited.lost,
          record {
            pass = done.1;
            me_is = done.3;
            idle = ap (λ (x : Shown H F). x.tries) was.shows;
            keeps = keeps_taken tid reply p done.1 (p.met + waited.lost) waited.moves was
                (counts_of tid p done.1 (waits_and_takes p.lo p.hi waited.lost) waited.lost (ap (λ (x : Shown H F). x.lo) was.shows) moved_so
                (ap (λ (x : Shown H F). x.met) was.shows) (missed_so p.lo p.hi waited.lost));
            met = ap (λ (x : Shown H F). x.met) was.shows;
            moved = moved_so;
          },
        )
    turned_at_last tid p me' (Err f) done refused =
        let waited = refused.2 in
        let was = subst (λ (x : Shown H F). WasRefused held e f more x refused.1) waited.shows refused.4 in
        let moved_so = subst (Moves p.lo p.moves (waits_and_takes p.lo p.hi waited.lost)) (ap (λ (x : Shown H F). x.moves) (sym was.shows))
        (moves_on p.lo p.moves waited.moves was.moves (replicate waited.lost (Miss p.lo p.hi)) (Take p.lo ∷ Free p.lo ∷ []) waited.begins waited.own was.moved) in (
          waited.lost,
          record {
            pass = refused.1;
            me_is = refused.3;
            idle = ap (λ (x : Shown H F). x.tries) was.shows;
            keeps = keeps_refused tid f p refused.1 (p.met + waited.lost) waited.moves was
                (counts_of tid p refused.1 (waits_and_takes p.lo p.hi waited.lost) waited.lost (ap (λ (x : Shown H F). x.lo) was.shows) moved_so
                (ap (λ (x : Shown H F). x.met) was.shows) (missed_so p.lo p.hi waited.lost));
            met = ap (λ (x : Shown H F). x.met) was.shows;
            moved = moved_so;
          },
        )

-- the longer of two lists that begin one history
longer_begins : {A : Type 0} (xs ys : List A) (b : Bool) → IsPrefix (cond b xs ys) (cond b ys xs)
    → IsPrefix xs (cond b ys xs) × IsPrefix ys (cond b ys xs)
longer_begins xs ys true h = (h, prefix_itself ys)
longer_begins xs ys false h = (prefix_itself xs, h)

shorter_is : {A : Type 0} (xs ys : List A) (b : Bool) → ltb (length xs) (length ys) ≡ b
    → length (cond b xs ys) ≤ length (cond b ys xs)
shorter_is xs ys true e = omega (arith, ltb-true (length xs) (length ys) e)
shorter_is xs ys false e = ltb-false (length xs) (length ys) e

module _ {H F : Type 0} where
  joined_of : (tid tid' : TableId) (p q : Shown H F) → q.lo ≡ p.hi
      → (length (joined p q).lesser ≤ length (joined p q).seen → IsPrefix (joined p q).lesser (joined p q).seen)
      → Joined (sight tid (Some p)) (sight tid' (Some q)) (sight tid (Some (joined p q)))
  joined_of tid tid' p q meets agreed =
      let both = longer_begins p.seen q.seen (ltb (length p.seen) (length q.seen))
      (agreed (shorter_is p.seen q.seen (ltb (length p.seen) (length q.seen)) refl)) in record {
        shows = refl;
        calls_below = λ n h. joined_below (λ (e : Packet). e.by) q.lo p.calls q.calls n h;
        calls_above = λ n h. joined_above (λ (e : Packet). e.by) q.lo p.calls q.calls n h;
        refused_below = λ n h. joined_below (λ (r : Packet × F). r.0.by) q.lo p.refused q.refused n h;
        refused_above = λ n h. joined_above (λ (r : Packet × F). r.0.by) q.lo p.refused q.refused n h;
        begins = both.0;
        other_begins = both.1;
      }

  -- what callers see of a join
  pub seen_joined : (tid tid2 tid' : TableId) (me them me' : Mine H F) (old other : Sight H F) → sight tid me.0 ≡ old
      → sight tid2 them.0 ≡ other → (p q : Shown H F) → me.0 ≡ Some p → them.0 ≡ Some q
      → tid' ≡ tid → me'.0 ≡ Some (joined p q) → other.lo ≡ old.hi
      → ((r : Shown H F) → me'.0 ≡ Some r → length r.lesser ≤ length r.seen → IsPrefix r.lesser r.seen)
      → Joined old other (sight tid' me'.0)
  seen_joined tid tid2 tid' me them me' old other view view2 p q is is2 same is' meets agreed =
      let seen = view_of tid me old view p is in let seen2 = view_of tid2 them other view2 q is2 in
      let at : q.lo ≡ p.hi = ap (λ (x : Sight H F). x.lo) seen2 ∙ (meets ∙ ap (λ (x : Sight H F). x.hi) (sym seen)) in
      let new : sight tid (Some (joined p q)) ≡ sight tid' me'.0 = λ i. sight (sym same i) (sym is' i) in
      subst (λ (x : Sight H F). Joined old other x) new (subst
      (λ (x : Sight H F). Joined old x (sight tid (Some (joined p q)))) seen2
      (subst (λ (x : Sight H F). Joined x (sight tid2 (Some q)) (sight tid (Some (joined p q)))) seen
      (joined_of tid tid2 p q at (agreed (joined p q) is'))))

  -- the pass of a join has no lock either
  pub joined_inside : (tid tid' : TableId) (me them me' : Mine H F) (idle : IsIdle me) (idle2 : IsIdle them)
      → tid' ≡ tid → me' ≡ (Some (joined idle.pass idle2.pass), []) → (lo : ℕ) → (sight tid me.0).lo ≡ lo
      → (is_idle me'.0 ≡ true) × (me'.1 ≡ []) × ((sight tid' me'.0).lo ≡ lo)
  joined_inside tid tid' me them me' idle idle2 same is lo was = (
    subst (λ (v : Option (Shown H F)). is_idle v ≡ true) (λ i. (sym is i).0) (none_is idle.pass.tries idle.idle),
    (λ i. (is i).1),
    (λ i. (sight (same i) (is i).0).lo) ∙ ((λ i. (sight tid (sym idle.me_is i).0).lo) ∙ was),
  )

module _ {H T R F : Type 0} (held : HeldOf H T R F) where
  -- what callers see of a close
  pub ends : (lock self : LockSight H) → lock ≡ self → (tid : TableId) (me : Mine H F) (old : Sight H F)
      → sight tid me.0 ≡ old → (idle : IsIdle me) → old.lo ≡ 0 → old.hi ≡ self.numbers
      → (id : ℕ) (words : List ℕ) (slots : List (Option H)) → Final (Seen (Holds held lock.first lock.numbers) id me.0) words slots
      → (x : Option H) → get_elem? slots 0 ≡ some x → (state : H) × (x ≡ Some state) × Closed held self old state
  ends lock self lock_is tid me old view idle lo hi id words slots final x at =
      let p = idle.pass in let is : me.0 ≡ Some p = λ i. (idle.me_is i).0 in let seen = view_of tid me old view p is in
      let t = closes held lock id p tid words slots idle.idle (ap (λ (v : Sight H F). v.lo) seen ∙ lo)
      (ap (λ (v : Sight H F). v.hi) seen ∙ (hi ∙ ap (λ (l : LockSight H). l.numbers) (sym lock_is)))
      (subst (λ (v : Option (Shown H F)). Final (Seen (Holds held lock.first lock.numbers) id v) words slots) is final) in (
        t.0,
        some-injective x (Some t.0) (sym at ∙ t.1),
        subst (λ (l : LockSight H). Closed held l old t.0) lock_is (subst (λ (v : Sight H F). Closed held lock v t.0) seen t.2),
      )
