-- Bays later, in lists, and in cones.
use Rattle.std.proofs.Common.{◌≡◌, ◌≢◌, ℕ, ◌+◌, ◌<◌, ◌≤◌, zero, suc, List, [], ◌∷◌, ◌++◌, length, set, get_or, Option, Some, slice_get, refl, ap, sym, ◌∙◌, subst, inl, inr, arith}
use Rattle.std.proofs.{lemmas.Bool.cases_eq, lemmas.List.{get_or-set_same, length-set}, lemmas.Option.{slice_get-get_or, slice_get_within, same_Some}}
use Rattle.lert_bay.specs.Files.{Files}
use Rattle.lert_cone.specs.Stands.{Standing}
use Rattle.lert_io.proofs.Rising.{risen_since}
use Rattle.lert_ingest.specs.{Bays.{AreLater, AreMarked, AreTold, HasFailed, IsLater, IsUntold, bays_of}, Cones.mades_of}

-- a write into a list changes one place
pub slice_get-set_same : {X : Type 0} (xs : List X) (i : ℕ) (y : X) → i < length xs → slice_get (set xs i y) i ≡ Some y
slice_get-set_same xs i y within =
    slice_get-get_or (set xs i y) i y (omega (arith, length-set xs i y)) ∙ ap Some (get_or-set_same xs i y y within)

pub slice_get-set_other : {X : Type 0} (xs : List X) (i j : ℕ) (y : X) → j ≢ i → slice_get (set xs i y) j ≡ slice_get xs j
slice_get-set_other [] i j y other = refl
slice_get-set_other (x ∷ xs) zero zero y other = absurd (other refl)
slice_get-set_other (x ∷ xs) zero (suc j) y other = refl
slice_get-set_other (x ∷ xs) (suc i) zero y other = refl
slice_get-set_other (x ∷ xs) (suc i) (suc j) y other = slice_get-set_other xs i j y (λ same. other (ap suc same))

-- the first of two lists, and the first of the second
pub slice_get-first : {X : Type 0} (xs ys : List X) (i : ℕ) → i < length xs → slice_get (xs ++ ys) i ≡ slice_get xs i
slice_get-first [] ys i below = absurd (omega (arith, below))
slice_get-first (x ∷ xs) ys zero below = refl
slice_get-first (x ∷ xs) ys (suc i) below = slice_get-first xs ys i (omega (arith, below))

pub slice_get-seam : {X : Type 0} (xs : List X) (y : X) (ys : List X) → slice_get (xs ++ y ∷ ys) (length xs) ≡ Some y
slice_get-seam [] y ys = refl
slice_get-seam (x ∷ xs) y ys = slice_get-seam xs y ys

pub slice_get-behind : {X : Type 0} (xs ys : List X) (x y : X) (zs : List X) (k : ℕ) → length xs ≡ length ys → length xs < k →
    slice_get (xs ++ x ∷ zs) k ≡ slice_get (ys ++ y ∷ zs) k
slice_get-behind [] [] x y zs zero same behind = absurd (omega (arith, behind))
slice_get-behind [] [] x y zs (suc k) same behind = refl
slice_get-behind [] (b ∷ ys) x y zs k same behind = absurd (omega (arith, same))
slice_get-behind (a ∷ xs) [] x y zs k same behind = absurd (omega (arith, same))
slice_get-behind (a ∷ xs) (b ∷ ys) x y zs zero same behind = absurd (omega (arith, behind))
slice_get-behind (a ∷ xs) (b ∷ ys) x y zs (suc k) same behind = slice_get-behind xs ys x y zs k (omega (arith, same)) (omega (arith, behind))

pub set-seam : {X : Type 0} (xs : List X) (x y : X) (ys : List X) → set (xs ++ x ∷ ys) (length xs) y ≡ xs ++ y ∷ ys
set-seam [] x y ys = refl
set-seam (z ∷ xs) x y ys = ap (λ l. z ∷ l) (set-seam xs x y ys)

pub bays_of-push : {B : Type 0} (cones : List (Standing B)) (new : Standing B) (bays : List B) → bays_of (cones ++ new ∷ []) ++ bays ≡ bays_of cones ++ new.bay ∷ bays
bays_of-push [] new bays = refl
bays_of-push (cone ∷ cones) new bays = ap (λ l. cone.bay ∷ l) (bays_of-push cones new bays)

-- the cone of a bay
pub bay_at : {B : Type 0} (cones : List (Standing B)) (at : ℕ) (cone : Standing B) → slice_get cones at ≡ Some cone → slice_get (bays_of cones) at ≡ Some cone.bay
bay_at (cone ∷ cones) zero other is = ap (λ (o : Standing _). Some o.bay) (same_Some cone other is)
bay_at (cone ∷ cones) (suc at) other is = bay_at cones at other is
bay_at [] at other is = absurd (cc)

pub made_at : {B : Type 0} (cones : List (Standing B)) (at : ℕ) (cone : Standing B) → slice_get cones at ≡ Some cone → slice_get (mades_of cones) at ≡ Some cone.made
made_at (cone ∷ cones) zero other is = ap (λ (o : Standing _). Some o.made) (same_Some cone other is)
made_at (cone ∷ cones) (suc at) other is = made_at cones at other is
made_at [] at other is = absurd (cc)

pub bay_is : {B : Type 0} (cones : List (Standing B)) (at : ℕ) (cone : Standing B) (bay : B) → slice_get cones at ≡ Some cone →
    slice_get (bays_of cones) at ≡ Some bay → bay ≡ cone.bay
bay_is cones at cone bay is found = same_Some bay cone.bay (sym found ∙ bay_at cones at cone is)

module _ {B : Type 0} (files : B → Option Files) (faults mark : B → ℕ) where
  pub later_same : (bay : B) → IsLater files faults mark bay bay
  later_same bay = record { marked = refl; never_falls = omega arith; tells = record { told = λ old was. (old, was, tt); untold = λ was. was } }

  pub later_more : (first then now : B) → IsLater files faults mark first then → IsLater files faults mark then now → IsLater files faults mark first now
  later_more first then now one two = record {
    marked = two.marked ∙ one.marked;
    never_falls = omega (arith, one.never_falls, two.never_falls);
    tells = record {
      told = λ old was. let mid = one.tells.told old was in let last = two.tells.told mid.0 mid.1 in (last.0, last.1, tt);
      untold = λ was. two.tells.untold (one.tells.untold was);
    };
  }

  pub are_same : (bays : List B) → AreLater files faults mark bays bays
  are_same bays = record {
    number = refl;
    each = λ cone before now was is. subst (IsLater files faults mark before) (same_Some before now (sym was ∙ is)) (later_same before);
  }

  pub are_more : (first then now : List B) → AreLater files faults mark first then → AreLater files faults mark then now → AreLater files faults mark first now
  are_more first then now one two = record {
    number = two.number ∙ one.number;
    each = λ cone before after was is.
        let mid = slice_get-get_or then cone before (omega (arith, slice_get_within now cone after is, two.number)) in
        later_more before (get_or then cone before) after (one.each cone before (get_or then cone before) was mid) (two.each cone (get_or then cone before) after mid is);
  }

  pub later_set : (bays : List B) (at : ℕ) (old new : B) → slice_get bays at ≡ Some old → IsLater files faults mark old new → AreLater files faults mark bays (set bays at new)
  later_set bays at old new found later = record {
    number = length-set bays at new;
    each = λ cone before now was is.
        elim (cases_eq cone at) [
          | inl same ↦
              let old_is : old ≡ before = same_Some old before (sym found ∙ (ap (slice_get bays) (sym same) ∙ was)) in
              let new_is : new ≡ now = same_Some new now (sym (slice_get-set_same bays at new (slice_get_within bays at old found)) ∙ (ap (slice_get (set bays at new)) (sym same) ∙ is)) in
              subst (IsLater files faults mark before) new_is (subst (λ o. IsLater files faults mark o new) old_is later)
          | inr other ↦
              let kept : before ≡ now = same_Some before now (sym was ∙ (sym (slice_get-set_other bays at cone new other) ∙ is)) in
              subst (IsLater files faults mark before) kept (later_same before)
        ];
  }

  pub later_seam : (xs : List B) (old new : B) (ys : List B) → IsLater files faults mark old new → AreLater files faults mark (xs ++ old ∷ ys) (xs ++ new ∷ ys)
  later_seam xs old new ys later =
      subst (AreLater files faults mark (xs ++ old ∷ ys)) (set-seam xs old new ys) (later_set (xs ++ old ∷ ys) (length xs) old new (slice_get-seam xs old ys) later)

  -- marks stay
  pub still_marked : (bays later : List B) → AreLater files faults mark bays later → AreMarked mark bays → AreMarked mark later
  still_marked bays later are marked = λ cone bay is.
      let was = slice_get-get_or bays cone bay (omega (arith, slice_get_within later cone bay is, are.number)) in
      (are.each cone (get_or bays cone bay) bay was is).marked ∙ marked cone (get_or bays cone bay) was

  -- a bay that failed since a later moment failed since an earlier one
  pub failed_since : (first then now : List B) (cone : ℕ) → AreLater files faults mark first then → AreLater files faults mark then now → HasFailed faults then now cone →
      HasFailed faults first now cone
  failed_since first then now cone one two failed =
      let was = slice_get-get_or first cone failed.before (omega (arith, slice_get_within then cone failed.before failed.was, one.number)) in
      let before = get_or first cone failed.before in
      record {
        before = before;
        now = failed.now;
        was = was;
        is = failed.is;
        rose = risen_since (faults before) (faults failed.before) (faults failed.now) (one.each cone before failed.before was failed.was).never_falls
            (two.each cone failed.before failed.now failed.was failed.is).never_falls failed.rose;
      }

  -- bays that tell their files tell them later
  pub told_later : (bays later : List B) → AreLater files faults mark bays later → AreTold files bays → AreTold files later
  told_later bays later are told = λ cone bay is.
      let was = slice_get-get_or bays cone bay (omega (arith, slice_get_within later cone bay is, are.number)) in
      let before = told cone (get_or bays cone bay) was in
      let now = (are.each cone (get_or bays cone bay) bay was is).tells.told before.0 before.1 in
      (now.0, now.1)

  -- a bay that doesn't tell its files later didn't before
  pub untold_since : (first then : List B) (cone : ℕ) → AreLater files faults mark first then → IsUntold files then cone → IsUntold files first cone
  untold_since first then cone one untold = record {
    named = omega (arith, untold.named, one.number);
    untold = λ bay there seen told.
        let mid = slice_get-get_or then cone bay untold.named in
        let told_mid = (one.each cone bay (get_or then cone bay) there mid).tells.told seen told in
        untold.untold (get_or then cone bay) mid told_mid.0 told_mid.1;
  }

-- an item within a list
pub slice_get-some : {X : Type 0} (xs : List X) (k : ℕ) → k < length xs → (x : X) × (slice_get xs k ≡ Some x)
slice_get-some [] k below = absurd (omega (arith, below))
slice_get-some (x ∷ xs) zero below = (x, refl)
slice_get-some (x ∷ xs) (suc k) below = slice_get-some xs k (omega (arith, below))

-- one bay more is put back, from behind
pub put_one : {B : Type 0} (bays left done : List B) (bay : B) (number : ℕ) (before after : ℕ → Option B) → left ++ bay ∷ done ≡ bays → after number ≡ Some bay →
    ((other : ℕ) → other ≢ number → after other ≡ before other) → number ≡ length left →
    ((cone : ℕ) → length left + 1 ≤ cone → cone < length bays → before cone ≡ slice_get bays cone) →
    (cone : ℕ) → length left ≤ cone → cone < length bays → after cone ≡ slice_get bays cone
put_one bays left done bay number before after split is others at back cone above below =
    elim (cases_eq cone number) [
      | inl same ↦
          ap after same ∙ (is ∙ (sym (slice_get-seam left bay done) ∙ (ap (slice_get (left ++ bay ∷ done)) (sym (same ∙ at)) ∙ ap (λ (xs : List _). slice_get xs cone) split)))
      | inr other ↦ others cone other ∙ back cone (omega (arith, above, other, at)) below
    ]
