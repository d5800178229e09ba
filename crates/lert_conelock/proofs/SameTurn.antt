-- Two answers that are one.
use Rattle.std.proofs.Common.{◌≡◌}
use Rattle.lert_conelock.specs.{declared.turn.Turn.Turn, declared.turn.Turn.TheVariants.{Busy, Done, Refused}}

pub same_done : {A F : Type 0} (a b : A) → ◌≡◌ {A = Turn A F} (Done a) (Done b) → a ≡ b
same_done a b e = cc

pub same_refused : {A F : Type 0} (a b : F) → ◌≡◌ {A = Turn A F} (Refused a) (Refused b) → a ≡ b
same_refused a b e = cc

-- no answer is another one
pub done_refused : {A F : Type 0} (a : A) (f : F) → ◌≡◌ {A = Turn A F} (Done a) (Refused f) → ⊥
done_refused a f same = cc

pub done_busy : {A F : Type 0} (a : A) → ◌≡◌ {A = Turn A F} (Done a) Busy → ⊥
done_busy a same = cc

pub refused_busy : {A F : Type 0} (f : F) → ◌≡◌ {A = Turn A F} (Refused f) Busy → ⊥
refused_busy f same = cc
