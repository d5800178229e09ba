-- The digits of a number and how they are written.
use Rattle.std.proofs.Common.{◌≡◌, ℕ, suc, zero, ◌+◌, ◌-◌, ◌/◌, ◌%◌, ◌<◌, ◌≤◌, List, [], ◌∷◌, ◌++◌, length, map, take, get_or, set, refl, ◌∙◌, arith, length-append, append_assoc}
use Rattle.std.proofs.{lemmas.List.{take_more_set, map-append}, lemmas.Bool.Decides.nat_tests}
use Rattle.lert_counter.specs.Group.{digits, written}

-- one digit more, where the number has one more
pub digits-suc : (room b n : ℕ) → b ≤ n → digits (suc room) b n ≡ digits room b (n / b) ++ n % b ∷ []
digits-suc room b n h = grind (arith, nat_tests)

pub digits-more : (room b n : ℕ) → 0 < room → b ≤ n → digits room b n ≡ digits (room - 1) b (n / b) ++ n % b ∷ []
digits-more zero b n p h = absurd (omega arith)
digits-more (suc room) b n p h = let e : suc room - 1 ≡ room = omega arith in rw e (digits-suc room b n h)

pub front_more : (x room b n at end v : ℕ) (old mid : List ℕ) → 0 < room → b ≤ n → end < length mid
    → take end mid ≡ take at old ++ map (written x) (digits (room - 1) b (n / b)) → v ≡ written x (n % b)
    → take (end + 1) (set mid end v) ≡ take at old ++ map (written x) (digits room b n)
front_more x room b n at end v old mid p h within front is =
    take_more_set mid end v within
    ∙ (rw (front, is, digits-more room b n p h) (simp (map-append, append_assoc)))

-- how many digits there are
pub length_digits-le : (room b n : ℕ) → length (digits room b n) ≤ suc room
length_digits-le zero b n = omega arith
length_digits-le (suc room) b n =
    let h = length_digits-le room b (n / b) in
    let e = length-append (digits room b (n / b)) (n % b ∷ []) in grind (arith, nat_tests)

pub length_digits-positive : (room b n : ℕ) → 0 < length (digits room b n)
length_digits-positive zero b n = omega arith
length_digits-positive (suc room) b n =
    let e = length-append (digits room b (n / b)) (n % b ∷ []) in grind (arith, nat_tests)

-- the first of the digits as it is written
first_mapped : (f : ℕ → ℕ) (ds : List ℕ) → 0 < length ds → get_or (map f ds) 0 0 ≡ f (get_or ds 0 0)
first_mapped f [] h = absurd (omega arith)
first_mapped f (d ∷ ds) h = refl

pub digits-first : (room b n : ℕ) (f : ℕ → ℕ) → get_or (map f (digits room b n)) 0 0 ≡ f (get_or (digits room b n) 0 0)
digits-first room b n f = first_mapped f (digits room b n) (length_digits-positive room b n)

pub digits-last : (room b n : ℕ) → n < b → digits (suc room) b n ≡ n ∷ []
digits-last room b n h = grind (arith, nat_tests)
