use Rattle.std.proofs.Common.{◌≡◌, ℕ, ◌<◌, ◌≤◌, length, get_or, cond, None, Some, Bor, List}
use Rattle.std.specs.Str.{bytes_eq}
use Rattle.lert_words_tests.proofs.by_hand.put_value.Given as goal

-- the value stands where the name stood so far, and everything else is as it was
abbrev pub invariant-loop-place : goal.invariant-loop-place
invariant-loop-place l = record {
  len : length l.values ≡ length l.initial.values;
  within : l.place ≤ length l.options;
  put : (k : ℕ) (d : Bor (List ℕ)) → k < l.place → get_or l.values k None ≡ cond (bytes_eq (get_or l.options k d).now l.name) (Some l.value) (get_or l.initial.values k None);
  rest : (k : ℕ) → l.place ≤ k → get_or l.values k None ≡ get_or l.initial.values k None;
}
