-- Facts of several lists, place by place.
use Rattle.std.specs.Prelude.{◌≡◌, ℕ, List, length, Some, slice_get}

-- R holds of the elements at each place of two lists, which are as long
pub record EachTwo {A B : Type 0} (R : A → B → Type 0) (xs : List A) (ys : List B) : Type 0 where
  pub as_many : length ys ≡ length xs
  pub each : (place : ℕ) (x : A) (y : B) → slice_get xs place ≡ Some x → slice_get ys place ≡ Some y → R x y

-- R holds of the elements at each place of three lists, which are as long
pub record EachThree {A B C : Type 0} (R : A → B → C → Type 0) (xs : List A) (ys : List B) (zs : List C) : Type 0 where
  pub as_many : (length ys ≡ length xs) × (length zs ≡ length xs)
  pub each : (place : ℕ) (x : A) (y : B) (z : C) → slice_get xs place ≡ Some x → slice_get ys place ≡ Some y
      → slice_get zs place ≡ Some z → R x y z
