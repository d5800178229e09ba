-- What is picked for a part, as one of the streams gives a piece.
use Rattle.std.proofs.{Common.{ℕ, zero, suc, ◌≡◌, ◌+◌, ◌*◌, ◌<◌, ◌≤◌, Bool, true, false, cond, Option, None, List, [], ◌∷◌, length, sum, sum_by, get_or, set, arith}, lemmas.List.Sums.sum_by-cons}
use Rattle.lert_levels.specs.flush.Merged.{is_of, pick, picked}
use Rattle.lert_spec.specs.{declared.piece.Piece.Piece, Table.total}

module _ {A : Type 0} where
  sum_by-pick : (f : A → ℕ) (b : Bool) (x : A) (rest : List A) → sum_by f (pick b x rest) ≡ cond {A = ℕ} b (f x) 0 + sum_by f rest
  sum_by-pick f true x rest = sum_by-cons f x rest
  sum_by-pick f false x rest = omega arith

  each-pick : (P : A → Type 0) (b : Bool) (x d : A) (rest : List A) → P x → ((k : ℕ) → k < length rest → P (get_or rest k d)) → (k : ℕ) → k < length (pick b x rest) → P (get_or (pick b x rest) k d)
  each-pick P true x d rest here behind zero below = here
  each-pick P true x d rest here behind (suc k) below = behind k (omega arith)
  each-pick P false x d rest here behind k below = behind k below

  -- one of what there is changes
  pub sum_by-picked-set : (f : A → ℕ) (parts : List (Option ℕ)) (part : ℕ) (xs : List A) (k : ℕ) (x d : A) → k < length xs → k < length parts →
      sum_by f (picked parts part (set xs k x)) + cond {A = ℕ} (is_of (get_or parts k None) part) (f (get_or xs k d)) 0
      ≡ sum_by f (picked parts part xs) + cond {A = ℕ} (is_of (get_or parts k None) part) (f x) 0
  sum_by-picked-set f [] part xs k x d below short = absurd (omega (arith, short))
  sum_by-picked-set f (own ∷ parts) part [] k x d below short = absurd (omega (arith, below))
  sum_by-picked-set f (own ∷ parts) part (y ∷ xs) zero x d below short =
      omega (arith, sum_by-pick f (is_of own part) x (picked parts part xs), sum_by-pick f (is_of own part) y (picked parts part xs))
  sum_by-picked-set f (own ∷ parts) part (y ∷ xs) (suc k) x d below short = omega (
    arith,
    sum_by-pick f (is_of own part) y (picked parts part xs),
    sum_by-pick f (is_of own part) y (picked parts part (set xs k x)),
    sum_by-picked-set f parts part xs k x d (omega arith) (omega arith),
  )

  -- what holds of each holds of those picked
  pub each-picked : (P : A → Type 0) (d : A) (parts : List (Option ℕ)) (part : ℕ) (xs : List A) → ((k : ℕ) → k < length xs → P (get_or xs k d)) →
      (k : ℕ) → k < length (picked parts part xs) → P (get_or (picked parts part xs) k d)
  each-picked P d [] part xs holds k below = absurd (omega (arith, below))
  each-picked P d (own ∷ parts) part [] holds k below = absurd (omega (arith, below))
  each-picked P d (own ∷ parts) part (x ∷ xs) holds k below =
      each-pick P (is_of own part) x d (picked parts part xs) (holds 0 (omega arith)) (each-picked P d parts part xs (λ j under. holds (suc j) (omega (arith, under)))) k below

cond_less : (b : Bool) (n m : ℕ) → n ≤ m → cond {A = ℕ} b n 0 ≤ cond {A = ℕ} b m 0
cond_less true n m less = less
cond_less false n m less = omega arith

sum-pick : (b : Bool) (n : ℕ) (rest : List ℕ) → sum (pick b n rest) ≡ cond {A = ℕ} b n 0 + sum rest
sum-pick b n rest = sum_by-pick (λ x. x) b n rest

-- sums of what is no greater, of all and of those picked
pub sums_less : {A : Type 0} (f : A → ℕ) (d : A) (xs : List A) (ns : List ℕ) → length ns ≡ length xs → ((k : ℕ) → k < length xs → f (get_or xs k d) ≤ get_or ns k 0) →
    sum_by f xs ≤ sum ns
sums_less f d [] ns same less = omega arith
sums_less f d (x ∷ xs) [] same less = absurd (omega (arith, same))
sums_less f d (x ∷ xs) (n ∷ ns) same less =
    let rest = sums_less f d xs ns (omega (arith, same)) (λ k below. less (suc k) (omega (arith, below))) in
    let here : f x ≤ n = less 0 (omega arith) in
    let both : sum (n ∷ ns) ≡ n + sum ns = sum_by-cons (λ y. y) n ns in
    omega (arith, rest, here, both, sum_by-cons f x xs)

-- the counts of all, each of which is at most so many times 255
pub counts_fit : (xs : List (List Piece)) (ns : List ℕ) → length ns ≡ length xs → ((k : ℕ) → k < length xs → total (get_or xs k []) ≤ 255 * get_or ns k 0) →
    sum_by total xs ≤ 255 * sum ns
counts_fit [] ns same less = omega arith
counts_fit (x ∷ xs) [] same less = absurd (omega (arith, same))
counts_fit (x ∷ xs) (n ∷ ns) same less =
    let rest = counts_fit xs ns (omega (arith, same)) (λ k below. less (suc k) (omega (arith, below))) in
    let here : total x ≤ 255 * n = less 0 (omega arith) in
    let both : sum (n ∷ ns) ≡ n + sum ns = sum_by-cons (λ y. y) n ns in
    omega (arith, rest, here, both, sum_by-cons total x xs)

pub picked_less : {A : Type 0} (f : A → ℕ) (d : A) (parts : List (Option ℕ)) (part : ℕ) (xs : List A) (ns : List ℕ) → length ns ≡ length xs →
    ((k : ℕ) → k < length xs → f (get_or xs k d) ≤ get_or ns k 0) → sum_by f (picked parts part xs) ≤ sum (picked parts part ns)
picked_less f d [] part xs ns same less = omega arith
picked_less f d (own ∷ parts) part [] ns same less = omega arith
picked_less f d (own ∷ parts) part (x ∷ xs) [] same less = absurd (omega (arith, same))
picked_less f d (own ∷ parts) part (x ∷ xs) (n ∷ ns) same less =
    let b = is_of own part in
    omega (
      arith,
      picked_less f d parts part xs ns (omega (arith, same)) (λ k below. less (suc k) (omega (arith, below))),
      cond_less b (f x) n (less 0 (omega arith)),
      sum_by-pick f b x (picked parts part xs),
      sum-pick b n (picked parts part ns),
    )
