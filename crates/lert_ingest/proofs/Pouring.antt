-- Elements of a list that are turned into those of another one, one by one.
use Rattle.std.proofs.Common.{◌≡◌, ℕ, ◌+◌, ◌≤◌, List, [], ◌∷◌, ◌++◌, length, map, ap, sym, ◌∙◌, arith, length-append, append_assoc, append-nil}

module _ {X Y : Type 0} (turn : X → Y) where
  pub poured_as : (ys : List Y) (xs : List X) (more : List Y) (rest : List X) (x : X) (y : Y) → y ≡ turn x → more ≡ ys ++ y ∷ [] → xs ≡ x ∷ rest →
      more ++ map turn rest ≡ ys ++ map turn xs
  poured_as ys xs more rest x y is pushed popped =
      ap (λ zs. zs ++ map turn rest) pushed
      ∙ (append_assoc ys (y ∷ []) (map turn rest) ∙ (ap (λ z. ys ++ z ∷ map turn rest) is ∙ ap (λ zs. ys ++ map turn zs) (sym popped)))

  -- where none is left, all are turned
  pub none_more : (ys : List Y) (xs : List X) (all : List Y) → xs ≡ [] → ys ++ map turn xs ≡ all → ys ≡ all
  none_more ys xs all none are = sym (append-nil ys) ∙ (ap (λ zs. ys ++ map turn zs) (sym none) ∙ are)

module _ {X Y : Type 0} where
  pub room_behind : (ys : List Y) (xs : List X) (more : List Y) (rest : List X) (y : Y) (x : X) → more ≡ ys ++ y ∷ [] → xs ≡ x ∷ rest → (capacity next : ℕ) → next ≡ capacity →
      length ys + length xs ≤ capacity → length more + length rest ≤ next
  room_behind ys xs more rest y x pushed popped capacity next same room =
      let longer = ap (λ (zs : List Y). length zs) pushed in
      let sum = length-append ys (y ∷ []) in
      let less = ap (λ (zs : List X). length zs) popped in
      omega (arith, longer, sum, less, same, room)
