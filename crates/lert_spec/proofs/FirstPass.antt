-- The first number of a range that passes a test.
use Rattle.std.proofs.{Common.{ℕ, ◌≡◌, ◌≢◌, ◌+◌, ◌<◌, ◌≤◌, zero, suc, Bool, true, false, cond, Some, ap, sym, ◌∙◌, arith, inl, inr, find}, lemmas.Bool.{cases_lt, cases_Bool, false≢true}}
use Rattle.std.specs.List.{range_with_len}

-- the first number of a range that passes a test
pub record FirstPass (test : ℕ → Bool) (low n : ℕ) : Type 0 where
  pub at : ℕ
  pub found : find test (range_with_len low n) ≡ Some at
  pub from : low ≤ at
  pub within : at < low + n
  pub passes : test at ≡ true
  pub earlier : (k : ℕ) → low ≤ k → k < at → test k ≡ false

-- where some number of a range passes, there is a first one
pub first_pass : (test : ℕ → Bool) (low n m : ℕ) → low ≤ m → m < low + n → test m ≡ true → FirstPass test low n
first_pass test low zero m from within passes = absurd (omega arith)
first_pass test low (suc n) m from within passes =
    elim (cases_Bool (test low)) [
      | inl here ↦ record {
        at = low;
        found = ap (λ t. cond t (Some low) (find test (range_with_len (low + 1) n))) here;
        from = omega arith;
        within = omega arith;
        passes = here;
        earlier = λ k above below. absurd (omega arith);
      }
      | inr fails ↦ (
          let other : low ≢ m = λ same. false≢true (sym fails ∙ ap test same ∙ passes) in
          let later = first_pass test (low + 1) n m (omega arith) (omega arith) passes in
          record {
            at = later.at;
            found = ap (λ t. cond t (Some low) (find test (range_with_len (low + 1) n))) fails ∙ later.found;
            from = omega (arith, later.from);
            within = omega (arith, later.within);
            passes = later.passes;
            earlier = λ k above below. elim (cases_lt low k) [
              | inl further ↦ later.earlier k (omega arith) below
              | inr here ↦ (let same : k ≡ low = omega arith in ap test same ∙ fails)
            ];
          })
    ]

-- a number that passes, where none before it does, is the one found
pub find_is : (test : ℕ → Bool) (low n at : ℕ) → low ≤ at → at < low + n → test at ≡ true → ((k : ℕ) → low ≤ k → k < at → test k ≡ false) →
    find test (range_with_len low n) ≡ Some at
find_is test low zero at from within passes earlier = absurd (omega arith)
find_is test low (suc n) at from within passes earlier =
    elim (cases_lt low at) [
      | inl later ↦ ap (λ t. cond t (Some low) (find test (range_with_len (low + 1) n))) (earlier low (omega arith) later)
          ∙ find_is test (low + 1) n at (omega arith) (omega arith) passes (λ k above below. earlier k (omega arith) below)
      | inr here ↦ (
          let same : low ≡ at = omega arith in
          ap (λ t. cond t (Some low) (find test (range_with_len (low + 1) n))) (ap test same ∙ passes) ∙ ap Some same)
    ]
