-- A call that tries again and again: each lost take is counted, and nothing else changes.
use Rattle.std.proofs.{Common.{◌≡◌, ℕ, ◌+◌, List, [], ◌∷◌, ◌++◌, replicate, Some, None, sym, refl, ap, ◌∙◌, subst, arith, append-nil}, lemmas.Option.same_Some}
use Rattle.lert_base.specs.Packet.{Packet}
use Rattle.lert_conelock.specs.{Moves.{Move, Miss, own_moves}, Shown.{Shown, missed}, Steps.{Mine, MayTake, Missed}, Turns.Waited}
use Rattle.lert_conelock.proofs.{Prefixes.{prefix_itself, prefix_trans}, Moving.misses_on}

pub record IsWaiting {H F : Type 0} (e : Packet) (before now : Mine H F) : Type 0 where
  pub pass : Shown H F
  pub waiter : Shown H F
  pub before_is : before ≡ (Some pass, [])
  pub idle : pass.tries ≡ None
  pub own : e.by ≡ pass.lo
  pub waited : Waited pass waiter
  pub now_is : now ≡ (Some waiter, [])

module _ {H F : Type 0} where
  -- a pass that didn't wait yet
  pub waited_never : (p : Shown H F) → Waited p p
  waited_never p = record {
    lost = 0;
    moves = p.moves;
    begins = prefix_itself p.moves;
    own = sym (append-nil (own_moves p.moves p.lo));
    shows = (λ i. record p { met = met_is p.met i });
  }
    where
      met_is : (n : ℕ) → n ≡ n + 0
      met_is n = omega arith

  -- one lost take more
  pub waited_on : (p w : Shown H F) (me : Mine H F) → Waited p w → Missed w me → (x : Shown H F) × Waited p x × (me ≡ (Some x, []))
  waited_on p w me waited lost = let now = subst (λ (x : Shown H F). Missed x me) waited.shows lost in
      let known : List Move = now.before ++ Miss p.lo p.hi ∷ [] in (
        record p { met = p.met + waited.lost + 1; moves = known },
        record {
          lost = waited.lost + 1;
          moves = known;
          begins = prefix_trans waited.begins now.moved.begins;
          own = misses_on p.lo p.hi waited.lost p.moves waited.moves known waited.own now.moved.own;
          shows = (λ i. record p { met = met_is p.met waited.lost i; moves = known });
        },
        now.after_is,
      )
    where
      met_is : (n m : ℕ) → n + m + 1 ≡ n + (m + 1)
      met_is n m = omega arith

  same_first : (p w : Shown H F) → Waited p w → w.first ≡ p.first
  same_first p w waited = ap (λ (x : Shown H F). x.first) waited.shows

module _ {H F : Type 0} (e : Packet) where
  pub waits_first : (me : Mine H F) → MayTake me e → IsWaiting e me me
  waits_first me may = record {
    pass = may.pass;
    waiter = may.pass;
    before_is = may.me_is;
    idle = may.idle;
    own = may.own;
    waited = waited_never may.pass;
    now_is = may.me_is;
  }

  module _ (before now : Mine H F) (w : IsWaiting e before now) where
    pub waiter_is : now.0 ≡ Some w.waiter
    waiter_is i = (w.now_is i).0

    pub waits_on : (next : Mine H F) → Missed w.waiter next → IsWaiting e before next
    waits_on next lost = let more = waited_on w.pass w.waiter next w.waited lost in record {
      pass = w.pass;
      waiter = more.0;
      before_is = w.before_is;
      idle = w.idle;
      own = w.own;
      waited = more.1;
      now_is = more.2;
    }

    pub waits_may : MayTake now e
    waits_may = record {
      pass = w.waiter;
      me_is = w.now_is;
      idle = ap (λ (x : Shown H F). x.tries) w.waited.shows ∙ w.idle;
      own = w.own ∙ sym (ap (λ (x : Shown H F). x.lo) w.waited.shows);
    }

    -- who waits is who came
    pub same_waiter : (p : Shown H F) → before.0 ≡ Some p → p ≡ w.pass
    same_waiter p is = same_Some p w.pass (sym is ∙ (λ i. (w.before_is i).0))

    pub still_first : (P : H → Type 0) → ((p : Shown H F) → before.0 ≡ Some p → P p.first) → (p : Shown H F)
        → now.0 ≡ Some p → P p.first
    still_first P was p is =
        let same : w.waiter ≡ p = same_Some w.waiter p (sym waiter_is ∙ is) in
        subst P (sym (same_first w.pass w.waiter w.waited) ∙ ap (λ (x : Shown H F). x.first) same) (was w.pass (λ i. (w.before_is i).0))

    -- what came of the last try, said of who came
    pub at_last : (P : Shown H F → Shown H F → Type 0) (me' : Mine H F) → (q : Shown H F) × (me' ≡ (Some q, [])) × P w.waiter q
        → (p : Shown H F) → before.0 ≡ Some p → (x q : Shown H F) × Waited p x × (me' ≡ (Some q, [])) × P x q
    at_last P me' t p is = (w.waiter, t.0, subst (λ (x : Shown H F). Waited x w.waiter) (sym (same_waiter p is)) w.waited, t.1, t.2)
