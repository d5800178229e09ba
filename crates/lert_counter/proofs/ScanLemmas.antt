-- Reading digits back.
use Rattle.std.proofs.Common.{◌≡◌, ℕ, ◌+◌, ◌*◌, ◌<◌, ◌≤◌, ◌≢◌, List, [], ◌∷◌, ◌++◌, length, map, take, drop, get_or, sym, ap, ◌∙◌, inl, inr, arith}
use Rattle.std.proofs.{lemmas.List.{get_or_append_left, get_or_at, length-map, get_or-map, take-append-drop, take_all}, lemmas.List.Sums.{fold-append, fold_more}, Math.Nat.mul-le-mul_left}
use Rattle.std.proofs.{lemmas.Bool.cases_lt, lemmas.Bool.Decides.nat_tests}
use Rattle.std.specs.Prelude.{fold}
use Rattle.lert_counter.specs.{Group.written, Reading.number_of}

-- no digit is written as 0 or as x
pub written-positive : (x d : ℕ) → 0 < written x d
written-positive x d = grind (arith, nat_tests)

pub written-apart : (x d : ℕ) → written x d ≢ x
written-apart x d = grind (arith, nat_tests)

-- the slot at a place of the digits, and behind them
pub at_digit : (x : ℕ) (ds back slots : List ℕ) (i : ℕ) → slots ≡ map (written x) ds ++ x ∷ back → i < length ds → get_or slots i 0 ≡ written x (get_or ds i 0)
at_digit x ds back slots i e h =
    ap (λ (s : List ℕ). get_or s i 0) e
    ∙ get_or_append_left (map (written x) ds) (x ∷ back) 0 i (simp length-map h)
    ∙ get_or-map (written x) ds i 0 0 h

pub at_end : (x : ℕ) (ds back slots : List ℕ) → slots ≡ map (written x) ds ++ x ∷ back → get_or slots (length ds) 0 ≡ x
at_end x ds back slots e =
    ap (λ (s : List ℕ). get_or s (length ds) 0) e ∙ get_or_at (map (written x) ds) x back 0 (length ds) (length-map ds (written x))

-- a part of the digits spells no greater number
fold_grows : (b n : ℕ) (ds : List ℕ) → 0 < b → n ≤ fold (λ m d. m * b + d) n ds
fold_grows b n [] h = omega arith
fold_grows b n (d ∷ ds) h = let more = fold_grows b (n * b + d) ds h in let k : n * 1 ≤ n * b = mul-le-mul_left n h in omega arith

pub number_of-take : (b i : ℕ) (ds : List ℕ) → 0 < b → number_of b (take i ds) ≤ number_of b ds
number_of-take b i ds h =
    let e = fold-append (λ m d. m * b + d) 0 (take i ds) (drop i ds) in
    let whole : number_of b (take i ds ++ drop i ds) ≡ number_of b ds = ap (number_of b) (take-append-drop i ds) in
    let more = fold_grows b (number_of b (take i ds)) (drop i ds) h in
    omega arith

-- one slot of the text of digits: a digit, or the x behind them
module _ (x b i number : ℕ) (ds back slots : List ℕ) (text : slots ≡ map (written x) ds ++ x ∷ back) (within : i ≤ length ds) where
  -- at x the digits are all read
  pub ends_at_x : get_or slots i 0 ≡ x → i ≡ length ds
  ends_at_x e =
      elim (cases_lt i (length ds)) [
        | inl less ↦ absurd (written-apart x (get_or ds i 0) (sym (at_digit x ds back slots i text less) ∙ e))
        | inr more ↦ omega arith
      ]

  -- at another value a digit stands
  pub goes_on : get_or slots i 0 ≢ x → i < length ds
  goes_on apart =
      elim (cases_lt i (length ds)) [
        | inl less ↦ less
        | inr more ↦ absurd (apart (let e : i ≡ length ds = omega arith in ap (λ k. get_or slots k 0) e ∙ at_end x ds back slots text))
      ]

  -- and the number so far takes it up
  pub takes_digit : 0 < b → number ≡ number_of b (take i ds) → i < length ds → number_of b (take (i + 1) ds) ≡ number * b + get_or ds i 0
  takes_digit positive so_far less = fold_more (λ n d. n * b + d) 0 ds i 0 less ∙ ap (λ n. n * b + get_or ds i 0) (sym so_far)

  -- so the number stays within that of all digits
  pub bounded : get_or slots i 0 ≢ x → 0 < b → number ≡ number_of b (take i ds) → number * b + get_or ds i 0 ≤ number_of b ds
  bounded apart positive so_far =
      let whole = number_of-take b (i + 1) ds positive in
      let step = takes_digit positive so_far (goes_on apart) in omega arith

  pub reads_digit : get_or slots i 0 ≢ x → get_or slots i 0 ≡ written x (get_or ds i 0)
  reads_digit apart = at_digit x ds back slots i text (goes_on apart)

  pub spells_all : i ≡ length ds → number ≡ number_of b (take i ds) → number ≡ number_of b ds
  spells_all e so_far = so_far ∙ ap (number_of b) (take_all i ds (omega arith))
