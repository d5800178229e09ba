-- Streams that are all told.
use Rattle.std.{proofs.Common.{ℕ, zero, suc, ◌≡◌, ◌≢◌, ◌<◌, Option, Some, None, List, [], ◌∷◌, length, get_or, refl, ap, sym, ◌∙◌, arith, inl, inr}, proofs.lemmas.Option.none-some}
use Rattle.lert_bay.specs.Files.{Files, Turns}
use Rattle.lert_levels.specs.flush.Merged.{AreToCome}
use Rattle.lert_merge.{proofs.order.AskLemmas.none_or, specs.declared.order.streams.Streams.{Ghosts as StreamsOf}}
use Rattle.lert_spec.specs.declared.piece.Piece.{Piece}

-- some pieces for each number below one
record AreSome (f : ℕ → Option (List Piece)) (n : ℕ) : Type 0 where
  lists : List (List Piece)
  len : length lists ≡ n
  each : (k : ℕ) → k < n → f k ≡ Some (get_or lists k [])

some_more : (f : ℕ → Option (List Piece)) (n : ℕ) (first : List Piece) → f 0 ≡ Some first → AreSome (λ k. f (suc k)) n → AreSome f (suc n)
some_more f n first is rest = record { lists = first ∷ rest.lists; len = ap suc rest.len; each = each }
  where
    each : (k : ℕ) → k < suc n → f k ≡ Some (get_or (first ∷ rest.lists) k [])
    each zero below = is
    each (suc k) below = rest.each k (omega (arith, below))

all_some : (f : ℕ → Option (List Piece)) (n : ℕ) → ((k : ℕ) → k < n → f k ≢ None) → AreSome f n
all_some f zero told = record { lists = []; len = refl; each = λ k below. absurd (omega (arith, below)) }
all_some f (suc n) told = elim (none_or (f 0)) [
  | inl none ↦ absurd (told 0 (omega arith) none)
  | inr some ↦ some_more f n some.0 some.1 (all_some (λ k. f (suc k)) n (λ k below. told (suc k) (omega (arith, below))))
]

-- where none is untold, some lists are to come of them
pub all_to_come : {S C : Type 0} (members : StreamsOf S C) (streams : S) (ctx : C) → ((k : ℕ) → k < members.count streams → members.to_come streams k ctx ≢ None) →
    (lists : List (List Piece)) × AreToCome members streams ctx lists
all_to_come members streams ctx told =
    let some = all_some (λ k. members.to_come streams k ctx) (members.count streams) told in
    (some.lists, record { len = some.len; told = some.each })

-- ---- files that are told stay so

pub told_still : (step : Files → Files → Type 0) (before after : Option Files) → Turns step before after → before ≢ None → after ≢ None
told_still step before after turns told none = elim (none_or before) [
  | inl untold ↦ told untold
  | inr some ↦ (let then = turns.told some.0 some.1 in none-some then.0 (sym none ∙ then.1))
]

pub told_before : (step : Files → Files → Type 0) (before after : Option Files) → Turns step before after → after ≢ None → before ≢ None
told_before step before after turns told none = told (turns.untold none)
