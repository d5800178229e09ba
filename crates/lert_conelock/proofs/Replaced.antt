-- One pass shows something new, and every other pass shows what it showed.
use Rattle.std.proofs.{Common.{◌≡◌, ◌≢◌, ℕ, zero, suc, ◌<◌, ◌≤◌, List, [], ◌∷◌, ◌⊎◌, length, set, Option, Some, sym, ap, ◌∙◌, subst, inl, inr, ⊎_elim, arith}, lemmas.Option.same_Some}
use Rattle.std.specs.Prelude.{IsTrue, Contains}
use mathlib.Core.Option.{some, some-injective, some-ne-none}
use mathlib.Core.Logic.{dite}
use native.Mathlib.Decide.{ℕ_discrete}
use lib.ListN.{get_elem?}
use Rattle.atomic_table.proofs.Lists.{at_set, set_here, set_else}
use Rattle.lert_base.specs.{declared.held.Held.Ghosts as HeldOf, Packet.Packet}
use Rattle.lert_conelock.specs.{Prefix.IsPrefix, Shown.Shown, Rule.{Views, Has, IsStopped, IsRefused, IsCovered, IsPart, IsCaused, Passes}}
use Rattle.lert_conelock.proofs.Prefixes.{prefix_trans}

pub at_within : {A : Type 0} (l : List A) (i : ℕ) (a : A) → get_elem? l i ≡ some a → i < length l
at_within [] i a e = absurd (some-ne-none a (sym e))
at_within (x ∷ xs) zero a e = omega arith
at_within (x ∷ xs) (suc i) a e = let h = at_within xs i a e in omega arith

pub there_again : {A : Type 0} (a b : A) → ◌≡◌ {A = mathlib.Core.Option.Option (Option A)} (some (Some a)) (some (Some b)) → a ≡ b
there_again a b e = same_Some a b (some-injective (Some a) (Some b) e)

-- q shows what p showed of numbers, refusals and the stop
pub record Grows {H F : Type 0} (p q : Shown H F) : Type 0 where
  pub lo_is : q.lo ≡ p.lo
  pub hi_is : q.hi ≡ p.hi
  pub refused : (e : Packet) (f : F) → Contains p.refused (e, f) → Contains q.refused (e, f)
  pub stops : IsTrue p.stopped → IsTrue q.stopped

module _ {H F : Type 0} (views : Views H F) (id : ℕ) (p q : Shown H F) (mine : Has views id p) where
  pub has_here : Has (set views id (Some q)) id q
  has_here = set_here views id (Some q) (at_within views id (Some p) mine)

  pub has_after : (a : ℕ) (r : Shown H F) → Has (set views id (Some q)) a r → ((a ≡ id) × (q ≡ r)) ⊎ ((a ≢ id) × Has views a r)
  has_after a r e = ⊎_elim (λ (t : (a ≡ id) × (Some q ≡ Some r)). inl (t.0, same_Some q r t.1)) (λ t. inr t)
      (at_set views id a (Some q) (Some r) e)

  pub has_else : (a : ℕ) (r : Shown H F) → a ≢ id → Has views a r → Has (set views id (Some q)) a r
  has_else a r ne e = set_else views id a (Some q) ne ∙ e

  pub forward : (a : ℕ) (r : Shown H F) → Has views a r → ((a ≡ id) × (p ≡ r)) ⊎ ((a ≢ id) × Has (set views id (Some q)) a r)
  forward a r e = dite (ℕ_discrete a id)
      (λ same. inl (same, there_again p r (sym mine ∙ subst (λ (n : ℕ). Has views n r) same e)))
      (λ ne. inr (ne, has_else a r ne e))

  pub stopped_on : Grows p q → IsStopped views → IsStopped (set views id (Some q))
  stopped_on g s = ⊎_elim
      (λ (t : (s.seat ≡ id) × (p ≡ s.pass)). record {
        seat = id;
        pass = q;
        there = has_here;
        stopped = g.stops (subst (λ (r : Shown H F). IsTrue r.stopped) (sym t.1) s.stopped);
      })
      (λ t. record { seat = s.seat; pass = s.pass; there = t.1; stopped = s.stopped })
      (forward s.seat s.pass s.there)

  pub stopped_back : IsStopped (set views id (Some q)) → IsTrue q.stopped ⊎ IsStopped views
  stopped_back s = ⊎_elim
      (λ (t : (s.seat ≡ id) × (q ≡ s.pass)). inl (subst (λ (r : Shown H F). IsTrue r.stopped) (sym t.1) s.stopped))
      (λ t. inr (record { seat = s.seat; pass = s.pass; there = t.1; stopped = s.stopped }))
      (has_after s.seat s.pass s.there)

  pub refused_on : Grows p q → (e : Packet) → IsRefused views e → IsRefused (set views id (Some q)) e
  refused_on g e r = ⊎_elim
      (λ (t : (r.seat ≡ id) × (p ≡ r.pass)). record {
        seat = id;
        pass = q;
        there = has_here;
        low = (let lo : p.lo ≡ r.pass.lo = ap (λ (x : Shown H F). x.lo) t.1 in let a = g.lo_is in let b = r.low in omega arith);
        high = (let hi : p.hi ≡ r.pass.hi = ap (λ (x : Shown H F). x.hi) t.1 in let a = g.hi_is in let b = r.high in omega arith);
        refusal = r.refusal;
        shown = g.refused e r.refusal (subst (λ (x : Shown H F). Contains x.refused (e, r.refusal)) (sym t.1) r.shown);
      })
      (λ t. record { seat = r.seat; pass = r.pass; there = t.1; low = r.low; high = r.high; refusal = r.refusal; shown = r.shown })
      (forward r.seat r.pass r.there)

  pub cover_on : Grows p q → (n : ℕ) → IsCovered views n → IsCovered (set views id (Some q)) n
  cover_on g n c = ⊎_elim
      (λ (t : (c.seat ≡ id) × (p ≡ c.pass)). record {
        seat = id;
        pass = q;
        there = has_here;
        low = (let lo : p.lo ≡ c.pass.lo = ap (λ (x : Shown H F). x.lo) t.1 in let a = g.lo_is in let b = c.low in omega arith);
        high = (let hi : p.hi ≡ c.pass.hi = ap (λ (x : Shown H F). x.hi) t.1 in let a = g.hi_is in let b = c.high in omega arith);
      })
      (λ t. record { seat = c.seat; pass = c.pass; there = t.1; low = c.low; high = c.high })
      (forward c.seat c.pass c.there)

  module _ {T R : Type 0} (held : HeldOf H T R F) (first : H) (numbers : ℕ) (old new : List Packet) where
    caused_on : Grows p q → IsPrefix old new → (e : Packet) (f : F) → IsCaused held first old views e f
        → IsCaused held first new (set views id (Some q)) e f
    caused_on g longer e f = ⊎_elim (λ s. inl (stopped_on g s)) (λ c. inr (c.0, prefix_trans c.1 longer, c.2))

    -- the rule of all passes, where one of them shows something new
    pub passes_after : Passes held first numbers old views → IsPrefix old new → Grows p q
        → ((a : ℕ) (r : Shown H F) → a ≢ id → Has views a r → IsPart first numbers new r)
        → IsPart first numbers new q
        → ((e : Packet) (f : F) → Contains q.refused (e, f) → Contains p.refused (e, f)
        ⊎ IsCaused held first new (set views id (Some q)) e f)
        → ((e : Packet) → Contains q.known e → IsRefused (set views id (Some q)) e)
        → ((e : Packet) → q.tries ≡ Some e → (a : ℕ) (r : Shown H F) (f : Packet) → a ≢ id → Has views a r → r.tries ≡ Some f → ⊥)
        → ((e : Packet) → q.tries ≡ Some e → (q.seen ≡ new) × (IsStopped (set views id (Some q)) → IsTrue q.stopped))
        → ((a : ℕ) (r : Shown H F) (e : Packet) → a ≢ id → Has views a r → r.tries ≡ Some e → (r.seen ≡ new)
        × (IsStopped (set views id (Some q)) → IsTrue r.stopped))
        → Passes held first numbers new (set views id (Some q))
    passes_after b longer g others mine' refusals known alone trying others_trying = record {
      parts = λ a r there. ⊎_elim
          (λ (t : (a ≡ id) × (q ≡ r)). subst (IsPart first numbers new) t.1 mine')
          (λ t. others a r t.0 t.1) (has_after a r there);
      apart = λ a c r s there there' ne. ⊎_elim
          (λ (t : (a ≡ id) × (q ≡ r)). ⊎_elim
          (λ (u : (c ≡ id) × (q ≡ s)). absurd (ne (t.0 ∙ sym u.0)))
          (λ u. let far = b.apart id c p s mine u.1 (λ same. u.0 (sym same)) in
          let lo : q.lo ≡ r.lo = ap (λ (x : Shown H F). x.lo) t.1 in let hi : q.hi ≡ r.hi = ap (λ (x : Shown H F). x.hi) t.1 in
          let lo' = g.lo_is in let hi' = g.hi_is in
          ⊎_elim (λ (h : p.hi ≤ s.lo). inl (omega arith)) (λ (h : s.hi ≤ p.lo). inr (omega arith)) far)
          (has_after c s there'))
          (λ t. ⊎_elim
          (λ (u : (c ≡ id) × (q ≡ s)). let far = b.apart a id r p t.1 mine t.0 in
          let lo : q.lo ≡ s.lo = ap (λ (x : Shown H F). x.lo) u.1 in let hi : q.hi ≡ s.hi = ap (λ (x : Shown H F). x.hi) u.1 in
          let lo' = g.lo_is in let hi' = g.hi_is in
          ⊎_elim (λ (h : r.hi ≤ p.lo). inl (omega arith)) (λ (h : p.hi ≤ r.lo). inr (omega arith)) far)
          (λ u. b.apart a c r s t.1 u.1 ne)
          (has_after c s there'))
          (has_after a r there);
      cover = λ n below. cover_on g n (b.cover n below);
      refusals = λ a r there e f. ⊎_elim
          (λ (t : (a ≡ id) × (q ≡ r)). subst (λ (x : Shown H F). Contains x.refused (e, f)
          → IsCaused held first new (set views id (Some q)) e f) t.1
          (λ c. ⊎_elim (λ was. caused_on g longer e f (b.refusals id p mine e f was)) (λ now. now) (refusals e f c)))
          (λ t c. caused_on g longer e f (b.refusals a r t.1 e f c)) (has_after a r there);
      known = λ a r there e. ⊎_elim
          (λ (t : (a ≡ id) × (q ≡ r)). subst (λ (x : Shown H F). Contains x.known e
          → IsRefused (set views id (Some q)) e) t.1 (known e))
          (λ t c. refused_on g e (b.known a r t.1 e c)) (has_after a r there);
      alone = λ a c r s e f there there' tries tries'. ⊎_elim
          (λ (t : (a ≡ id) × (q ≡ r)). ⊎_elim
          (λ (u : (c ≡ id) × (q ≡ s)). t.0 ∙ sym u.0)
          (λ u. absurd (alone e (subst (λ (x : Shown H F). x.tries ≡ Some e) (sym t.1) tries) c s f u.0 u.1 tries'))
          (has_after c s there'))
          (λ t. ⊎_elim
          (λ (u : (c ≡ id) × (q ≡ s)). absurd (alone f (subst (λ (x : Shown H F). x.tries ≡ Some f)
          (sym u.1) tries') a r e t.0 t.1 tries))
          (λ u. b.alone a c r s e f t.1 u.1 tries tries')
          (has_after c s there'))
          (has_after a r there);
      trying = λ a r e there. ⊎_elim
          (λ (t : (a ≡ id) × (q ≡ r)). subst (λ (x : Shown H F). x.tries ≡ Some e → (x.seen ≡ new)
          × (IsStopped (set views id (Some q)) → IsTrue x.stopped)) t.1 (trying e))
          (λ t tries. others_trying a r e t.0 t.1 tries) (has_after a r there);
    }
