-- The moves of a lock go on: one pass makes a move, or shows what it showed, or passes are split and joined.
use Rattle.std.proofs.Common.{◌≡◌, ◌≢◌, ℕ, zero, suc, ◌+◌, ◌<◌, ◌≤◌, ltb, List, [], ◌∷◌, ◌++◌, ◌⊎◌, length, set, Option, Some, None, sym, refl, ap, ◌∙◌, subst, inl, inr, ⊎_elim, arith}
use Rattle.std.proofs.{lemmas.Option.{same_Some, none-some}, lemmas.Bool.cond_both, lemmas.List.Sums.{sum_by-cons, sum_by_push}}
use Rattle.std.specs.Prelude.{sum_by}
use mathlib.Core.Option.{some, some-injective, some-ne-none}
use lib.ListN.{get_elem?}
use Rattle.lert_base.specs.Packet.{Packet}
use Rattle.lert_conelock.specs.{Prefix.IsPrefix, Moves.{Move, mover, is_missed, misses, own_moves, held_next, held_after, MayCome, AreOrderly, Moves}, Shown.{Shown, lower, upper, joined}}
use Rattle.lert_conelock.specs.Rule.{Views, Has, Moved, met_of}
use Rattle.lert_conelock.proofs.{Prefixes.{prefix_itself, prefix_append, prefix_trans}, Moving.{held_more, orderly_more, own_mine, own_others, own_between}, Replaced.has_after}

module _ {H F : Type 0} where
  -- one seat's view is another one: the sum of the misses changes by its own
  pub met_replaced : (views : Views H F) (id : ℕ) (v w : Option (Shown H F)) → get_elem? views id ≡ some v
      → sum_by met_of (set views id w) + met_of v ≡ sum_by met_of views + met_of w
  met_replaced [] id v w there = absurd (some-ne-none v (sym there))
  met_replaced (x ∷ views) zero v w there =
      let is : x ≡ v = some-injective x v there in
      omega (arith, sum_by-cons met_of x views, sum_by-cons met_of w views, ap met_of is)
  met_replaced (x ∷ views) (suc id) v w there =
      omega (arith, met_replaced views id v w there, sum_by-cons met_of x views, sum_by-cons met_of x (set views id w))

  module _ (numbers : ℕ) (views : Views H F) (moves : List Move) (b : Moved numbers views moves) (id : ℕ) (p q : Shown H F) (there : Has views id p) where
    -- nothing changes of what the moves are seen by
    pub moved_same : q.lo ≡ p.lo → q.hi ≡ p.hi → q.moves ≡ p.moves → q.met ≡ p.met → ((e : Packet) → q.tries ≡ Some e → p.tries ≡ Some e)
        → Moved numbers (set views id (Some q)) moves
    moved_same lo_is hi_is moves_is met_is tries = record {
      orderly = b.orderly;
      no_others = b.no_others;
      begins = λ a r at. ⊎_elim
          (λ (t : (a ≡ id) × (q ≡ r)). subst (λ (x : Shown H F). IsPrefix x.moves moves) t.1
          (subst (λ (l : List Move). IsPrefix l moves) (sym moves_is) (b.begins id p there)))
          (λ t. b.begins a r t.1) (has_after views id p q there a r at);
      own = λ a r at n lo hi. ⊎_elim
          (λ (t : (a ≡ id) × (q ≡ r)). let low : q.lo ≡ r.lo = ap (λ (x : Shown H F). x.lo) t.1 in
          let high : q.hi ≡ r.hi = ap (λ (x : Shown H F). x.hi) t.1 in
          ap (λ (x : Shown H F). own_moves x.moves n) (sym t.1)
          ∙ (ap (λ (l : List Move). own_moves l n) moves_is ∙ b.own id p there n (omega arith) (omega arith)))
          (λ t. b.own a r t.1 n lo hi) (has_after views id p q there a r at);
      counted = (let sum = met_replaced views id (Some p) (Some q) there in let all = b.counted in omega (arith, sum, all, met_is));
      trying = λ a r e at t. ⊎_elim
          (λ (u : (a ≡ id) × (q ≡ r)). b.trying id p e there (tries e (subst (λ (x : Shown H F). x.tries ≡ Some e) (sym u.1) t))
          ∙ ap Some (sym lo_is ∙ ap (λ (x : Shown H F). x.lo) u.1))
          (λ u. b.trying a r e u.1 t) (has_after views id p q there a r at);
    }

    -- the pass makes a move
    module _ (m : Move) (mine : mover m ≡ p.lo) (not_empty : p.lo < p.hi) (within : p.hi ≤ numbers)
        (apart : (a : ℕ) (r : Shown H F) → a ≢ id → Has views a r → (p.hi ≤ r.lo) ⊎ (r.hi ≤ p.lo)) (may : MayCome (held_after None moves) m) where
      abbrev longer : List Move
      longer = moves ++ m ∷ []

      -- it knows all moves from then on
      pub moved_knows : Moves p.lo p.moves (m ∷ []) longer
      moved_knows = record {
        begins = prefix_trans (b.begins id p there) (prefix_append moves (m ∷ []));
        orderly = orderly_more None moves m b.orderly may;
        own = own_mine moves m p.lo mine ∙ ap (λ (l : List Move). l ++ m ∷ []) (sym (b.own id p there p.lo (omega arith) not_empty));
      }

      pub moved_more : q.lo ≡ p.lo → q.hi ≡ p.hi → q.moves ≡ longer → q.met ≡ p.met + is_missed m
          → ((a : ℕ) (r : Shown H F) (e : Packet) → a ≢ id → Has views a r → r.tries ≡ Some e → held_next (held_after None moves) m ≡ Some r.lo)
          → ((e : Packet) → q.tries ≡ Some e → held_next (held_after None moves) m ≡ Some p.lo)
          → Moved numbers (set views id (Some q)) longer
      moved_more lo_is hi_is moves_is met_is others_trying trying = record {
        orderly = orderly_more None moves m b.orderly may;
        no_others = λ n over. own_others moves m n (λ same. omega (arith, same, mine, not_empty, within, over)) ∙ b.no_others n over;
        begins = λ a r at. ⊎_elim
            (λ (t : (a ≡ id) × (q ≡ r)). subst (λ (x : Shown H F). IsPrefix x.moves longer) t.1
            (subst (λ (l : List Move). IsPrefix l longer) (sym moves_is) (prefix_itself longer)))
            (λ t. prefix_trans (b.begins a r t.1) (prefix_append moves (m ∷ []))) (has_after views id p q there a r at);
        own = λ a r at n lo hi. ⊎_elim
            (λ (t : (a ≡ id) × (q ≡ r)). ap (λ (x : Shown H F). own_moves x.moves n) (sym t.1) ∙ ap (λ (l : List Move). own_moves l n) moves_is)
            (λ t. b.own a r t.1 n lo hi ∙ sym (own_others moves m n (λ same. not_its a r t.0 t.1 n lo hi same)))
            (has_after views id p q there a r at);
        counted = (let sum = met_replaced views id (Some p) (Some q) there in let all = b.counted in
            omega (arith, sum, all, met_is, sum_by_push is_missed moves m));
        trying = λ a r e at t. held_more None moves m ∙ ⊎_elim
            (λ (u : (a ≡ id) × (q ≡ r)). trying e (subst (λ (x : Shown H F). x.tries ≡ Some e) (sym u.1) t)
            ∙ ap Some (sym lo_is ∙ ap (λ (x : Shown H F). x.lo) u.1))
            (λ u. others_trying a r e u.0 u.1 t) (has_after views id p q there a r at);
      }
        where
          not_its : (a : ℕ) (r : Shown H F) → a ≢ id → Has views a r → (n : ℕ) → r.lo ≤ n → n < r.hi → mover m ≡ n → ⊥
          not_its a r ne at n lo hi same = ⊎_elim (λ (far : p.hi ≤ r.lo). omega (arith, far, lo, same, mine, not_empty))
              (λ (far : r.hi ≤ p.lo). omega (arith, far, hi, same, mine)) (apart a r ne at)
