-- Several calls one after the other.
use Rattle.std.proofs.Common.{ℕ, ◌≤◌, inl, inr, arith}
use Rattle.lert_bay.specs.{Files.Files, Images.{Elapses, Lasts}}

-- no call
pub lasts_none : (now : ℕ) (since : ℕ → Files → Type 0) → Lasts now now since since
lasts_none now since = record { later = omega arith; known = λ t image early past. inl past; kept = λ t image early past. past }

-- one call more
pub lasts_more : (first middle last : ℕ) (since_first since_middle since_last : ℕ → Files → Type 0) (leaves : Files → Type 0) → Lasts first middle since_first since_middle →
    Elapses middle last since_middle since_last leaves → Lasts first last since_first since_last
lasts_more first middle last since_first since_middle since_last leaves lasts elapsed = record {
  later = omega (arith, lasts.later, elapsed.later);
  known = λ t image early since. elim (elapsed.known t image (omega (arith, early, lasts.later)) since) [
    | inl past ↦ elim (lasts.known t image early past) [ inl before ↦ inl before | inr after ↦ inr (elapsed.kept first image lasts.later after) ]
    | inr now ↦ inr (elapsed.added first image lasts.later now)
  ];
  kept = λ t image early past. elapsed.kept t image (omega (arith, early, lasts.later)) (lasts.kept t image early past);
}

-- calls after calls
pub lasts_on : (first middle last : ℕ) (since_first since_middle since_last : ℕ → Files → Type 0) → Lasts first middle since_first since_middle →
    Lasts middle last since_middle since_last → ((t u : ℕ) (image : Files) → t ≤ u → since_last u image → since_last t image) → Lasts first last since_first since_last
lasts_on first middle last since_first since_middle since_last one two earlier = record {
  later = omega (arith, one.later, two.later);
  known = λ t image early since. elim (two.known t image (omega (arith, early, one.later)) since) [
    | inl past ↦ elim (one.known t image early past) [ inl before ↦ inl before | inr after ↦ inr (two.kept first image one.later after) ]
    | inr now ↦ inr (earlier first middle image one.later now)
  ];
  kept = λ t image early past. two.kept t image (omega (arith, early, one.later)) (one.kept t image early past);
}
