-- What a walk that breaks no rule found are the pieces of its slots and run ends.
use Rattle.std.proofs.Common.{◌≡◌, ℕ, suc, zero, ◌+◌, ◌-◌, ◌*◌, ◌^◌, ◌≤◌, Bool, true, false, cond, List, [], ◌∷◌, ◌++◌, length, take, drop}
use Rattle.std.proofs.Common.{get_or, replicate, Option, Some, None, Ok, Err, Result, refl, sym, ap, ap₂, ◌∙◌, subst, inl, inr, arith, length-drop}
use Rattle.std.specs.Option.{option_map}
use Rattle.std.proofs.Math.Seq.{take-add}
use Rattle.std.proofs.lemmas.Bool.{cases_Bool, true≢false}
use Rattle.std.proofs.lemmas.Nat.{div-mul-add, mod-mul-add}
use Rattle.lert_counter.specs.Group.{group}
use Rattle.lert_counter.specs.declared.group.Group.{Group}
use Rattle.lert_slotbits.specs.Bits.{trues}
use Rattle.lert_spec.specs.declared.piece.Piece.{Piece}
use Rattle.lert_blocks.specs.Text.{quotient_of, group_of, slots_of, is_last, ends_of}
use Rattle.lert_blocks.specs.Walk.{Found, reach, group_at, after_group, walk_on, walk}
use Rattle.lert_blocks.proofs.BitLaws.{trues-cons}
use Rattle.lert_blocks.proofs.RunLaws.{runs, Rises, run_goes_on, last_before, not_last, trues_before}
use Rattle.lert_blocks.proofs.WalkLaws.{IsGroupAt, reach_within, group_at-ok}

-- ---- places

pub some_none : (k : ℕ) → ◌≡◌ {A = Option ℕ} (Some k) None → ⊥
some_none k e = cc

pub map_none : (f : ℕ → ℕ) (o : Option ℕ) → option_map f o ≡ None → o ≡ None
map_none f None e = refl
map_none f (Some n) e = cc

-- ---- run ends around a group

-- no run ends before the last slot of those reached
reach_splits : (u m : ℕ) (ends : List Bool) → suc u ≤ reach m ends → ends ≡ replicate u false ++ get_or ends u false ∷ drop (suc u) ends
reach_splits u zero ends h = absurd (omega (arith, h))
reach_splits u (suc m) [] h = absurd (omega (arith, h))
reach_splits zero (suc m) (end ∷ ends) h = refl
reach_splits (suc u) (suc m) (true ∷ ends) h = absurd (omega (arith, h))
reach_splits (suc u) (suc m) (false ∷ ends) h = ap (λ (bs : List Bool). false ∷ bs) (reach_splits u m ends (omega (arith, h)))

-- the last of some bits, or this one
abbrev pub last_of : Bool → List Bool → Bool
last_of b [] = b
last_of b (c ∷ bits) = last_of c bits

last_behind : (b c : Bool) (u : ℕ) (bits : List Bool) → last_of b (replicate u false ++ c ∷ bits) ≡ last_of c bits
last_behind b c zero bits = refl
last_behind b c (suc u) bits = last_behind false c u bits

last_or_true : (b : Bool) (bits : List Bool) → last_of b bits ≡ true → last_of true bits ≡ true
last_or_true b [] h = refl
last_or_true b (c ∷ bits) h = h

-- one is set where the last one is
some_true : (b : Bool) (bits : List Bool) → last_of b bits ≡ true → 1 ≤ cond b 1 0 + trues bits
some_true true [] h = omega arith
some_true false [] h = absurd (true≢false (sym h))
some_true b (c ∷ bits) h = let more = some_true c bits h in omega (arith, more, trues-cons c bits)

-- the last one by its place
pub last_of-is : (bits : List Bool) → get_or bits (length bits - 1) true ≡ last_of true bits
last_of-is [] = refl
last_of-is (b ∷ bits) = ap (λ n. get_or (b ∷ bits) n true) (let e : suc (length bits) - 1 ≡ length bits = omega arith in e) ∙ from b bits
  where
    from : (b : Bool) (bits : List Bool) → get_or (b ∷ bits) (length bits) true ≡ last_of b bits
    from b [] = refl
    from b (c ∷ bits) = from c bits

-- a slot ends the last run of pieces
last_of-ends : (width : ℕ) (b : Bool) (p : Piece) (ps : List Piece) → last_of b (ends_of width (p ∷ ps)) ≡ true
last_of-ends width b p [] = last_behind b true (length (group_of width p) - 1) []
last_of-ends width b p (next ∷ ps) =
    last_behind b (is_last width p (next ∷ ps)) (length (group_of width p) - 1) (ends_of width (next ∷ ps)) ∙ last_of-ends width (is_last width p (next ∷ ps)) next ps

pub last_of-ends_of : (width : ℕ) (ps : List Piece) → last_of true (ends_of width ps) ≡ true
last_of-ends_of width [] = refl
last_of-ends_of width (p ∷ ps) = last_of-ends width true p ps

-- ---- the walk

-- slots and run ends are those of pieces, whose runs are those of the first quotients
pub record AreOf (width : ℕ) (quotients : List ℕ) (ends : List Bool) (slots : List ℕ) (ps : List Piece) : Type 0 where
  pub there : length ends ≤ length slots
  pub slots_are : take (length ends) slots ≡ slots_of width ps
  pub ends_are : ends ≡ ends_of width ps
  pub runs_are : runs width ps ≡ take (trues ends) quotients

-- one group, and what is behind it
module _ (width q least : ℕ) (qs : List ℕ) (g : Group) (ends : List Bool) (slots : List ℕ) (front : IsGroupAt width least ends slots g) where
  splits : ends ≡ replicate (g.used - 1) false ++ get_or ends (g.used - 1) false ∷ drop g.used ends
  splits =
      let used : suc (g.used - 1) ≡ g.used = (let some = front.some in omega arith) in
      let reached : suc (g.used - 1) ≤ reach 9 ends = (let h = front.reached in omega arith) in
      reach_splits (g.used - 1) 9 ends reached ∙ ap (λ n. replicate (g.used - 1) false ++ get_or ends (g.used - 1) false ∷ drop n ends) used

  quotient_is : quotient_of width (record { tail = q * 2 ^ width + g.x; count = g.count }) ≡ q
  quotient_is = div-mul-add q (2 ^ width) g.x front.narrow

  group_is : group_of width (record { tail = q * 2 ^ width + g.x; count = g.count }) ≡ take g.used slots
  group_is = ap (λ x. group width x g.count) (mod-mul-add q (2 ^ width) g.x front.narrow) ∙ sym front.text

  tip_is : length (group_of width (record { tail = q * 2 ^ width + g.x; count = g.count })) - 1 ≡ g.used - 1
  tip_is = ap (λ (slots : List ℕ). length slots - 1) (group_is ∙ front.text) ∙ ap (λ n. n - 1) (sym front.len)

  trues_are : trues ends ≡ cond (get_or ends (g.used - 1) false) 1 0 + trues (drop g.used ends)
  trues_are = ap trues splits ∙ trues_before (g.used - 1) (get_or ends (g.used - 1) false) (drop g.used ends)

  joined : (later : List ℕ) (ps : List Piece) → is_last width (record { tail = q * 2 ^ width + g.x; count = g.count }) ps ≡ get_or ends (g.used - 1) false
      → AreOf width later (drop g.used ends) (drop g.used slots) ps
      → runs width (record { tail = q * 2 ^ width + g.x; count = g.count } ∷ ps) ≡ take (trues ends) (q ∷ qs)
      → AreOf width (q ∷ qs) ends slots (record { tail = q * 2 ^ width + g.x; count = g.count } ∷ ps)
  joined later ps last are runs_are =
      let some = front.some in
      let there = front.there in
      let more = are.there in
      let within = reach_within 9 ends in
      let reached = front.reached in
      let all : length ends ≡ g.used + length (drop g.used ends) = omega (arith, length-drop g.used ends) in
      record {
        there = omega (arith, length-drop g.used slots);
        slots_are =
            ap (λ n. take n slots) all ∙ (take-add g.used (length (drop g.used ends)) slots
            ∙ ap₂ (λ (xs ys : List ℕ). xs ++ ys) (sym group_is) are.slots_are);
        ends_are = splits ∙ (λ i. replicate (sym tip_is i) false ++ sym last i ∷ are.ends_are i);
        runs_are = runs_are;
      }

rises_take : (low high n : ℕ) (qs : List ℕ) → Rises low high qs → Rises low high (take n qs)
rises_take low high zero qs rise = tt
rises_take low high (suc n) [] rise = tt
rises_take low high (suc n) (q ∷ qs) rise = (rise.0, rise.1, rises_take (q + 1) high n qs rise.2)

module _ (width q high least : ℕ) (qs : List ℕ) (g : Group) (ends : List Bool) (slots : List ℕ) (front : IsGroupAt width least ends slots g) (ps : List Piece) where
  -- the group ends its run
  joined_last : get_or ends (g.used - 1) false ≡ true → Rises (q + 1) high qs → AreOf width qs (drop g.used ends) (drop g.used slots) ps
      → AreOf width (q ∷ qs) ends slots (record { tail = q * 2 ^ width + g.x; count = g.count } ∷ ps)
  joined_last set rise are =
      let p : Piece = record { tail = q * 2 ^ width + g.x; count = g.count } in
      let is : quotient_of width p ≡ q = quotient_is width q least qs g ends slots front in
      let last : is_last width p ps ≡ true =
      last_before width p ps (take (trues (drop g.used ends)) qs) high are.runs_are
      (subst (λ k. Rises (k + 1) high (take (trues (drop g.used ends)) qs)) (sym is) (rises_take (q + 1) high (trues (drop g.used ends)) qs rise)) in
      let count : trues ends ≡ suc (trues (drop g.used ends)) = trues_are width q least qs g ends slots front ∙ (ap (λ b. cond {A = ℕ} b 1 0 + trues (drop g.used ends)) set ∙ omega arith) in
      joined width q least qs g ends slots front qs ps (last ∙ sym set) are
      (ap₂ (λ k b. k ∷ cond b (runs width ps) (drop 1 (runs width ps))) is last
      ∙ (ap (λ (ks : List ℕ). q ∷ ks) are.runs_are ∙ ap (λ n. take n (q ∷ qs)) (sym count)))

  -- its run goes on
  joined_on : get_or ends (g.used - 1) false ≡ false → 1 ≤ trues (drop g.used ends) → AreOf width (q ∷ qs) (drop g.used ends) (drop g.used slots) ps
      → AreOf width (q ∷ qs) ends slots (record { tail = q * 2 ^ width + g.x; count = g.count } ∷ ps)
  joined_on clear some are =
      let p : Piece = record { tail = q * 2 ^ width + g.x; count = g.count } in
      let is : quotient_of width p ≡ q = quotient_is width q least qs g ends slots front in
      let first : runs width ps ≡ q ∷ take (trues (drop g.used ends) - 1) qs =
      are.runs_are ∙ ap (λ n. take n (q ∷ qs)) (let e : trues (drop g.used ends) ≡ suc (trues (drop g.used ends) - 1) = omega arith in e) in
      let on : is_last width p ps ≡ false = not_last width q p ps (take (trues (drop g.used ends) - 1) qs) is first in
      let count : trues ends ≡ trues (drop g.used ends) = trues_are width q least qs g ends slots front ∙ (ap (λ b. cond {A = ℕ} b 1 0 + trues (drop g.used ends)) clear ∙ omega arith) in
      joined width q least qs g ends slots front (q ∷ qs) ps (on ∙ sym clear) are
      (ap (λ b. quotient_of width p ∷ cond b (runs width ps) (drop 1 (runs width ps))) on
      ∙ (run_goes_on width p ps on ∙ (are.runs_are ∙ ap (λ n. take n (q ∷ qs)) (sym count))))

none_of : (width : ℕ) (quotients slots : List ℕ) → AreOf width quotients [] slots []
none_of width quotients slots = record { there = omega arith; slots_are = refl; ends_are = refl; runs_are = refl }

-- what a walk that leaves nothing found
abbrev pub IsBack : ℕ → ℕ → Type 0
IsBack fuel width = (least low high : ℕ) (qs : List ℕ) (ends : List Bool) (slots : List ℕ) → length ends ≤ fuel → Rises low high qs → last_of true ends ≡ true
    → (walk fuel width qs least ends slots).left ≡ None → AreOf width qs ends slots (walk fuel width qs least ends slots).pieces

module _ (fuel width q low high : ℕ) (qs : List ℕ) (ends : List Bool) (slots : List ℕ) (back : IsBack fuel width) (enough : length ends ≤ suc fuel) (rise : Rises low high (q ∷ qs))
    (closed : last_of true ends ≡ true) where
  abbrev behind_last : Group → Found
  behind_last g = walk fuel width qs 0 (drop g.used ends) (drop g.used slots)

  abbrev behind_on : Group → Found
  behind_on g = walk fuel width (q ∷ qs) (g.x + 1) (drop g.used ends) (drop g.used slots)

  back_group : (least : ℕ) (g : Group) → IsGroupAt width least ends slots g → (after_group width q g (cond (get_or ends (g.used - 1) false) (behind_last g) (behind_on g))).left ≡ None
      → AreOf width (q ∷ qs) ends slots (after_group width q g (cond (get_or ends (g.used - 1) false) (behind_last g) (behind_on g))).pieces
  back_group least g front none =
      let b = get_or ends (g.used - 1) false in
      let later = drop g.used ends in
      let some = front.some in
      let p : Piece = record { tail = q * 2 ^ width + g.x; count = g.count } in
      let split : ends ≡ replicate (g.used - 1) false ++ b ∷ later = splits width q least qs g ends slots front in
      let clear : (cond b (behind_last g) (behind_on g)).left ≡ None = map_none (λ place. g.used + place) (cond b (behind_last g) (behind_on g)).left none in
      let tip_closes : last_of b later ≡ true = sym (last_behind true b (g.used - 1) later) ∙ (ap (last_of true) (sym split) ∙ closed) in
      let closes = last_or_true b later tip_closes in
      let shorter : length later ≤ fuel = omega (arith, length-drop g.used ends) in
      elim (cases_Bool b) [
        | inl set ↦ (let here : (behind_last g).left ≡ None = sym (ap (λ c. (cond c (behind_last g) (behind_on g)).left) set) ∙ clear in
            subst (λ c. AreOf width (q ∷ qs) ends slots (p ∷ (cond c (behind_last g) (behind_on g)).pieces)) (sym set)
            (joined_last width q high least qs g ends slots front (behind_last g).pieces set rise.2 (back 0 (q + 1) high qs later (drop g.used slots) shorter rise.2 closes here)))
        | inr unset ↦ (let here : (behind_on g).left ≡ None = sym (ap (λ c. (cond c (behind_last g) (behind_on g)).left) unset) ∙ clear in
            let more : 1 ≤ 0 + trues later = subst (λ c. 1 ≤ cond {A = ℕ} c 1 0 + trues later) unset (some_true b later tip_closes) in
            subst (λ c. AreOf width (q ∷ qs) ends slots (p ∷ (cond c (behind_last g) (behind_on g)).pieces)) (sym unset)
            (joined_on width q high least qs g ends slots front (behind_on g).pieces unset (omega (arith, more))
            (back (g.x + 1) low high (q ∷ qs) later (drop g.used slots) shorter rise closes here)))
      ]

  back_found : (least : ℕ) (r : Result Group ℕ) → group_at width least ends slots ≡ r
      → (walk_on r (λ g. after_group width q g (cond (get_or ends (g.used - 1) false) (behind_last g) (behind_on g)))).left ≡ None
      → AreOf width (q ∷ qs) ends slots (walk_on r (λ g. after_group width q g (cond (get_or ends (g.used - 1) false) (behind_last g) (behind_on g)))).pieces
  back_found least (Err place) e none = absurd (some_none place none)
  back_found least (Ok g) e none = back_group least g (group_at-ok width least ends slots g e) none

pub walk_back : (fuel width : ℕ) → IsBack fuel width
walk_back zero width least low high qs [] slots enough rise closed whole = none_of width qs slots
walk_back zero width least low high qs (end ∷ ends) slots enough rise closed whole = absurd (omega (arith, enough))
walk_back (suc fuel) width least low high qs [] slots enough rise closed whole = none_of width qs slots
walk_back (suc fuel) width least low high [] (end ∷ ends) slots enough rise closed whole = absurd (some_none 0 whole)
walk_back (suc fuel) width least low high (q ∷ qs) (end ∷ ends) slots enough rise closed whole =
    back_found fuel width q low high qs (end ∷ ends) slots (walk_back fuel width) enough rise closed least (group_at width least (end ∷ ends) slots) refl whole
