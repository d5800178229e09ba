-- Laws of run texts.
use Rattle.std.proofs.{Common.{◌≡◌, ℕ, ◌+◌, ◌<◌, ◌≤◌, ◌≢◌, cond, eqb, List, [], ◌∷◌, ◌++◌, refl, sym, ap, ◌∙◌, arith, append_assoc}, lemmas.Bool.Decides.nat_tests}
use Rattle.lert_counter.specs.{Group.group, Reading.{HasTwoZeros, Follows}}
use Rattle.lert_counter.proofs.GroupLemmas.{group-first, group-apart}
use Rattle.lert_runs.specs.RunText.{run_text, RemaindersAscend, count_in, pairs_below, pairs_plus, group_in}

-- a run text of two parts
pub run_text-append : (width : ℕ) (ps qs : List (ℕ × ℕ)) → run_text width (ps ++ qs) ≡ run_text width ps ++ run_text width qs
run_text-append width [] qs = refl
run_text-append width (p ∷ ps) qs =
    ap (λ (t : List ℕ). group width p.0 p.1 ++ t) (run_text-append width ps qs) ∙ sym (append_assoc (group width p.0 p.1) (run_text width ps) (run_text width qs))

-- no two zeros stand in a run of remainders above 0
run_apart : (width least : ℕ) (ps : List (ℕ × ℕ)) → 0 < least → RemaindersAscend least ps → ¬ HasTwoZeros (run_text width ps)
run_apart width least [] positive h zeros = absurd (let within = zeros.1 in omega arith)
run_apart width least (p ∷ ps) positive h zeros =
    run_apart width (p.0 + 1) ps (omega arith) h.2 (group-apart width p.0 p.1 (run_text width ps) (h.1).0 (omega (arith, h.0)) zeros)

-- what may follow a group in a run text
pub run_follows : (width x : ℕ) (ps : List (ℕ × ℕ)) → RemaindersAscend (x + 1) ps → Follows x (run_text width ps)
run_follows width x [] h = record { above = λ some. absurd (omega arith); apart = λ _ zeros. absurd (let within = zeros.1 in omega arith) }
run_follows width x (p ∷ ps) h = record {
  above = λ some. let first = group-first width p.0 p.1 (run_text width ps) (h.1).0 in omega (arith, h.0);
  apart = λ z. run_apart width (x + 1) (p ∷ ps) (omega arith) h;
}

-- a remainder below the least is absent
pub count_in-below : (least x : ℕ) (ps : List (ℕ × ℕ)) → RemaindersAscend least ps → x < least → count_in ps x ≡ 0
count_in-below least x [] h low = refl
count_in-below least x (p ∷ ps) h low = let more = count_in-below (p.0 + 1) x ps h.2 (omega (arith, h.0)) in let first = h.0 in grind (arith, nat_tests)

-- the first pair is at x, before it, or behind it
pub count_in-here : (p : ℕ × ℕ) (ps : List (ℕ × ℕ)) (x : ℕ) → p.0 ≡ x → count_in (p ∷ ps) x ≡ p.1
count_in-here p ps x h = grind (arith, nat_tests)

pub count_in-later : (p : ℕ × ℕ) (ps : List (ℕ × ℕ)) (x : ℕ) → p.0 ≢ x → count_in (p ∷ ps) x ≡ count_in ps x
count_in-later p ps x h = grind (arith, nat_tests)

pub pairs_below-more : (p : ℕ × ℕ) (ps : List (ℕ × ℕ)) (x : ℕ) → p.0 < x → pairs_below (p ∷ ps) x ≡ p ∷ pairs_below ps x
pairs_below-more p ps x h = grind (arith, nat_tests)

pub pairs_below-none : (p : ℕ × ℕ) (ps : List (ℕ × ℕ)) (x : ℕ) → x ≤ p.0 → pairs_below (p ∷ ps) x ≡ []
pairs_below-none p ps x h = grind (arith, nat_tests)

pub pairs_plus-before : (p : ℕ × ℕ) (ps : List (ℕ × ℕ)) (x n : ℕ) → p.0 < x → pairs_plus (p ∷ ps) x n ≡ p ∷ pairs_plus ps x n
pairs_plus-before p ps x n h = grind (arith, nat_tests)

pub pairs_plus-here : (p : ℕ × ℕ) (ps : List (ℕ × ℕ)) (x n : ℕ) → p.0 ≡ x → pairs_plus (p ∷ ps) x n ≡ (x, p.1 + n) ∷ ps
pairs_plus-here p ps x n h = grind (arith, nat_tests)

pub pairs_plus-behind : (p : ℕ × ℕ) (ps : List (ℕ × ℕ)) (x n : ℕ) → x < p.0 → pairs_plus (p ∷ ps) x n ≡ (x, n) ∷ p ∷ ps
pairs_plus-behind p ps x n h = grind (arith, nat_tests)

pub group_in-there : (width : ℕ) (ps : List (ℕ × ℕ)) (x : ℕ) → 0 < count_in ps x → group_in width ps x ≡ group width x (count_in ps x)
group_in-there width ps x some = cond_positive (count_in ps x) [] (group width x (count_in ps x)) some
  where
    cond_positive : (n : ℕ) (a b : List ℕ) → 0 < n → cond (eqb n 0) a b ≡ b
    cond_positive n a b some = grind (arith, nat_tests)

pub group_in-absent : (width : ℕ) (ps : List (ℕ × ℕ)) (x : ℕ) → count_in ps x ≡ 0 → group_in width ps x ≡ []
group_in-absent width ps x none = rw none refl
