-- The streams that have a part in a tail: one more of them, and how many they are.
use Rattle.std.proofs.Common.{◌≡◌, ◌≢◌, ℕ, zero, suc, ◌+◌, ◌<◌, ◌≤◌, Bool, if◌then◌else◌, List, [], ◌∷◌, ◌++◌, length, get_or, sum_by, arith, sym, ap, ap₂, ◌∙◌, refl, inl, inr, length-append}
use Rattle.std.proofs.{lemmas.Bool.{cases_eq, eq-eqb, ne_eqb}, lemmas.List.Sums.sum_by-append}
use Rattle.lert_merge.specs.{declared.sums.Giver.Giver, Givers.{share_in, sum_below, present, AreCounted, AreGivers}}

-- sums of functions that agree
pub sum_same : (f g : ℕ → ℕ) (n : ℕ) → ((k : ℕ) → k < n → f k ≡ g k) → sum_below f n ≡ sum_below g n
sum_same f g zero same = refl
sum_same f g (suc n) same = ap₂ (λ x y. x + y) (sum_same f g n (λ k under. same k (omega arith))) (same n (omega arith))

-- of functions that agree but at one number
sum_raised : (f g : ℕ → ℕ) (i n : ℕ) → i < n → ((k : ℕ) → k ≢ i → g k ≡ f k) → sum_below g n + f i ≡ sum_below f n + g i
sum_raised f g i zero under same = absurd (omega arith)
sum_raised f g i (suc n) under same = elim (cases_eq n i) [
  | inl here ↦ let low : sum_below g n ≡ sum_below f n = sum_same g f n (λ k below. same k (λ e. omega arith)) in
      let one : g n ≡ g i = ap g here in let other : f n ≡ f i = ap f here in
      let all : sum_below g n + g n + f i ≡ sum_below f n + f n + g i = omega arith in all
  | inr ne ↦ let low : sum_below g n + f i ≡ sum_below f n + g i = sum_raised f g i n (omega arith) same in let here : g n ≡ f n = same n ne in
      let all : sum_below g n + g n + f i ≡ sum_below f n + f n + g i = omega arith in all
]

sum_most : (f : ℕ → ℕ) (n : ℕ) → ((k : ℕ) → f k ≤ 1) → sum_below f n ≤ n
sum_most f zero most = let none : 0 ≤ 0 = omega arith in none
sum_most f (suc n) most = let low : sum_below f n ≤ n = sum_most f n most in let here : f n ≤ 1 = most n in let all : sum_below f n + f n ≤ suc n = omega arith in all

sum_none : (f : ℕ → ℕ) (n : ℕ) → ((k : ℕ) → f k ≡ 0) → sum_below f n ≡ 0
sum_none f zero none = refl
sum_none f (suc n) none = let low : sum_below f n ≡ 0 = sum_none f n none in let here : f n ≡ 0 = none n in let all : sum_below f n + f n ≡ 0 = omega arith in all

-- a sum that isn't 0 has a part that isn't
pub sum_some : (f : ℕ → ℕ) (n : ℕ) → 1 ≤ sum_below f n → (k : ℕ) × (k < n) × (1 ≤ f k)
sum_some f zero some = let no : 1 ≤ 0 = some in absurd (omega arith)
sum_some f (suc n) some = let all : 1 ≤ sum_below f n + f n = some in elim (cases_eq (f n) 0) [
  | inl none ↦ let low : 1 ≤ sum_below f n = omega arith in let rest = sum_some f n low in let within : rest.0 < n = rest.1 in (rest.0, omega arith, rest.2)
  | inr ne ↦ (n, omega arith, omega arith)
]

sum_first : (f : ℕ → ℕ) (n : ℕ) → sum_below f (suc n) ≡ f 0 + sum_below (λ k. f (suc k)) n
sum_first f zero = let all : 0 + f 0 ≡ f 0 + 0 = omega arith in all
sum_first f (suc n) = let low : sum_below f n + f n ≡ f 0 + sum_below (λ k. f (suc k)) n = sum_first f n in
    let all : sum_below f n + f n + f (suc n) ≡ f 0 + (sum_below (λ k. f (suc k)) n + f (suc n)) = omega arith in all

-- the sum over a list is that over its places
pub sum_list : {X : Type 0} (f : X → ℕ) (xs : List X) (d : X) → sum_below (λ k. f (get_or xs k d)) (length xs) ≡ sum_by f xs
sum_list f [] d = refl
sum_list f (x ∷ xs) d = sum_first (λ k. f (get_or (x ∷ xs) k d)) (length xs) ∙ ap (λ n. f x + n) (sum_list f xs d) ∙
    (let one : f x ≡ 0 + f x = omega arith in ap (λ n. n + sum_by f xs) one) ∙ sym (sum_by-append f (x ∷ []) xs)

pub share_first : (giver : Giver) (givers : List Giver) (k : ℕ) → giver.stream ≡ k → share_in (giver ∷ givers) k ≡ giver.count
share_first giver givers k same = ap (λ (b : Bool). let n : ℕ = (if b then giver.count else share_in givers k) in n) (eq-eqb giver.stream k same)

pub share_later : (giver : Giver) (givers : List Giver) (k : ℕ) → giver.stream ≢ k → share_in (giver ∷ givers) k ≡ share_in givers k
share_later giver givers k ne = ap (λ (b : Bool). let n : ℕ = (if b then giver.count else share_in givers k) in n) (ne_eqb giver.stream k ne)

-- one more, and the others' shares
pub share_here : (givers : List Giver) (giver : Giver) → AreCounted givers → share_in givers giver.stream ≡ 0 → share_in (givers ++ giver ∷ []) giver.stream ≡ giver.count
share_here [] giver counted none = share_first giver [] giver.stream refl
share_here (x ∷ givers) giver counted none = elim (cases_eq x.stream giver.stream) [
  | inl same ↦ let zero_count : x.count ≡ 0 = sym (share_first x givers giver.stream same) ∙ none in let some : 1 ≤ x.count = counted.0 in absurd (omega arith)
  | inr ne ↦ share_later x (givers ++ giver ∷ []) giver.stream ne ∙ share_here givers giver counted.1 (sym (share_later x givers giver.stream ne) ∙ none)
]

pub share_else : (givers : List Giver) (giver : Giver) (k : ℕ) → k ≢ giver.stream → share_in (givers ++ giver ∷ []) k ≡ share_in givers k
share_else [] giver k ne = share_later giver [] k (λ same. ne (sym same))
share_else (x ∷ givers) giver k ne = elim (cases_eq x.stream k) [
  | inl same ↦ share_first x (givers ++ giver ∷ []) k same ∙ sym (share_first x givers k same)
  | inr other ↦ share_later x (givers ++ giver ∷ []) k other ∙ share_else givers giver k ne ∙ sym (share_later x givers k other)
]

pub share_none : (givers : List Giver) (k : ℕ) → givers ≡ [] → share_in givers k ≡ 0
share_none givers k none = ap (λ gs. share_in gs k) none

counted_push : (givers : List Giver) (giver : Giver) → AreCounted givers → 1 ≤ giver.count → AreCounted (givers ++ giver ∷ [])
counted_push [] giver counted some = (some, tt)
counted_push (x ∷ givers) giver counted some = (counted.0, counted_push givers giver counted.1 some)

present_some : (n : ℕ) → 1 ≤ n → present n ≡ 1
present_some zero some = absurd (omega arith)
present_some (suc n) some = refl

present_most : (n : ℕ) → present n ≤ 1
present_most zero = let most : 0 ≤ 1 = omega arith in most
present_most (suc n) = let most : 1 ≤ 1 = omega arith in most

pub givers_none : (streams : ℕ) → AreGivers streams []
givers_none streams = record {
  counted = tt;
  len = sym (sum_none (λ k. present (share_in [] k)) streams (λ k. refl));
  sum = sym (sum_none (share_in []) streams (λ k. refl));
}

pub givers_push : (streams : ℕ) (givers : List Giver) (giver : Giver) → AreGivers streams givers → giver.stream < streams → share_in givers giver.stream ≡ 0 →
    1 ≤ giver.count → AreGivers streams (givers ++ giver ∷ [])
givers_push streams givers giver are within none some =
    let here : share_in (givers ++ giver ∷ []) giver.stream ≡ giver.count = share_here givers giver are.counted none in record {
      counted = counted_push givers giver are.counted some;
      len = let long : length (givers ++ giver ∷ []) ≡ length givers + 1 = length-append givers (giver ∷ []) in
          let was : length givers ≡ sum_below (λ k. present (share_in givers k)) streams = are.len in
          let raised : sum_below (λ k. present (share_in (givers ++ giver ∷ []) k)) streams + present (share_in givers giver.stream)
          ≡ sum_below (λ k. present (share_in givers k)) streams + present (share_in (givers ++ giver ∷ []) giver.stream) =
          sum_raised (λ k. present (share_in givers k)) (λ k. present (share_in (givers ++ giver ∷ []) k)) giver.stream streams within
          (λ k ne. ap present (share_else givers giver k ne)) in
          let before : present (share_in givers giver.stream) ≡ 0 = ap present none in
          let after : present (share_in (givers ++ giver ∷ []) giver.stream) ≡ 1 = ap present here ∙ present_some giver.count some in omega arith;
      sum = let more : sum_by (λ giver. giver.count) (givers ++ giver ∷ []) ≡ sum_by (λ giver. giver.count) givers + (0 + giver.count) =
          sum_by-append (λ giver. giver.count) givers (giver ∷ []) in
          let was : sum_by (λ giver. giver.count) givers ≡ sum_below (share_in givers) streams = are.sum in
          let raised : sum_below (share_in (givers ++ giver ∷ [])) streams + share_in givers giver.stream
          ≡ sum_below (share_in givers) streams + share_in (givers ++ giver ∷ []) giver.stream =
          sum_raised (share_in givers) (share_in (givers ++ giver ∷ [])) giver.stream streams within (λ k ne. share_else givers giver k ne) in omega arith;
    }

-- they are no more than the streams, and fewer where a stream isn't among them
pub givers_most : (streams : ℕ) (givers : List Giver) → AreGivers streams givers → length givers ≤ streams
givers_most streams givers are = let most : sum_below (λ k. present (share_in givers k)) streams ≤ streams =
    sum_most (λ k. present (share_in givers k)) streams (λ k. present_most (share_in givers k)) in omega (arith, are.len)

pub givers_less : (streams : ℕ) (givers : List Giver) (i : ℕ) → AreGivers streams givers → i < streams → share_in givers i ≡ 0 → length givers < streams
givers_less streams givers i are within none =
    let giver : Giver = record { stream = i; count = 1 } in
    let most : length (givers ++ giver ∷ []) ≤ streams =
    givers_most streams (givers ++ giver ∷ []) (givers_push streams givers giver are within none (let one : 1 ≤ 1 = omega arith in one)) in
    let long : length (givers ++ giver ∷ []) ≡ length givers + 1 = length-append givers (giver ∷ []) in omega arith

present_shared : (n : ℕ) → 1 ≤ present n → 1 ≤ n
present_shared zero some = some
present_shared (suc n) some = omega arith

-- and where there is a giver, a stream has a share
pub some_shared : (streams : ℕ) (givers : List Giver) → AreGivers streams givers → 1 ≤ length givers → (k : ℕ) × (k < streams) × (1 ≤ share_in givers k)
some_shared streams givers are some =
    let len : length givers ≡ sum_below (λ k. present (share_in givers k)) streams = are.len in
    let one = sum_some (λ k. present (share_in givers k)) streams (omega arith) in (one.0, one.1, present_shared (share_in givers one.0) one.2)
