-- The key with a cone and a tail, and what it weighs among items of a region.
use Rattle.std.proofs.Common.{ℕ, ◌≡◌, ◌+◌, ◌*◌, ◌/◌, ◌%◌, ◌^◌, ◌<◌, ◌≤◌, cond, List, [], ◌∷◌, refl, ap, sym, ◌∙◌, arith, inl, inr, sum_by, All}
use Rattle.std.proofs.lemmas.{Bool.{cases_eq, eq-eqb, ne_eqb}, List.{Elements.{All-head, All-tail}, Sums.sum_by-cons}, Nat.{mul-add-lt, shr_high, mod_low, pow-add}}
use Rattle.lert_spec.specs.{declared.item.Item.Item, declared.numbers.Numbers.Numbers, Counts.{weighed, weight_for}, Edges.{key_bits, key_limit, tail_bits}, Mix.{mix, cone_of, tail_of}}
use Rattle.lert_spec.proofs.{LookLaws.HaveKeys, MixLaws.{unmixed_below, mix-unmixed, one_key}, TailLaws.{IsPartOf, key_with}, TallyLaws.{tail_weight, tails_in, WeighSome}}
use Rattle.lert_census.specs.Census.{IsCounted}

module _ (s : Numbers) (cone : ℕ) (bits : s.cone_bits ≤ key_bits s) (named : cone < 2 ^ s.cone_bits) (tail : ℕ) (below : tail < 2 ^ tail_bits s) where
  joined_below : cone * 2 ^ tail_bits s + tail < key_limit s
  joined_below =
      let whole : tail_bits s + s.cone_bits ≡ key_bits s = omega arith in
      let power = sym (pow-add 2 (tail_bits s) s.cone_bits) ∙ ap (λ n. 2 ^ n) whole in
      omega (arith, mul-add-lt cone (2 ^ tail_bits s) tail (2 ^ s.cone_bits) named below, power)

  mix-key_with : mix (key_with s cone tail) ≡ cone * 2 ^ tail_bits s + tail
  mix-key_with = mix-unmixed (cone * 2 ^ tail_bits s + tail) joined_below

  pub key_with_below : key_with s cone tail < key_limit s
  key_with_below = unmixed_below (cone * 2 ^ tail_bits s + tail) joined_below

  pub cone-key_with : cone_of s (key_with s cone tail) ≡ cone
  cone-key_with = ap (λ m. m / 2 ^ tail_bits s) mix-key_with ∙ shr_high cone (tail_bits s) tail below

  pub tail-key_with : tail_of s (key_with s cone tail) ≡ tail
  tail-key_with = ap (λ m. m % 2 ^ tail_bits s) mix-key_with ∙ mod_low cone (tail_bits s) tail below

  -- it is the only one
  pub key_with_is : (key : ℕ) → ((k : ℕ) → k < key_limit s → cone_of s k ≡ cone → tail_of s k ≡ tail → key ≡ k) → key ≡ key_with s cone tail
  key_with_is key only = only (key_with s cone tail) key_with_below cone-key_with tail-key_with

module _ (s : Numbers) (cone : ℕ) where
  pub have_keys : (items : List Item) → All (IsCounted s cone) items → HaveKeys s weighed items
  have_keys [] counted = tt
  have_keys (item ∷ items) counted = ((All-head (IsCounted s cone) item items counted).fits, have_keys items (All-tail (IsCounted s cone) item items counted))

  pub are_own : (items : List Item) → All (IsCounted s cone) items → IsPartOf weighed s cone items
  are_own [] counted = tt
  are_own (item ∷ items) counted = ((All-head (IsCounted s cone) item items counted).own, are_own items (All-tail (IsCounted s cone) item items counted))

  pub weigh_some : (items : List Item) → All (IsCounted s cone) items → WeighSome weighed items
  weigh_some [] counted = tt
  weigh_some (item ∷ items) counted = ((All-head (IsCounted s cone) item items counted).weighs, weigh_some items (All-tail (IsCounted s cone) item items counted))

  -- a tail weighs as much as its key
  pub tails-weigh : (key : ℕ) (items : List Item) → key < key_limit s → cone_of s key ≡ cone → All (IsCounted s cone) items →
      tails_in weighed s (tail_of s key) items ≡ sum_by (weight_for weighed key) items
  tails-weigh key [] below of_cone counted = refl
  tails-weigh key (other ∷ others) below of_cone counted =
      let one = All-head (IsCounted s cone) other others counted in
      let rest = tails-weigh key others below of_cone (All-tail (IsCounted s cone) other others counted) in
      let tails = sum_by-cons (tail_weight weighed s (tail_of s key)) other others in
      let keys = sum_by-cons (weight_for weighed key) other others in
      elim (cases_eq other.key key) [
        | inl same ↦ omega (
          arith,
          tails,
          keys,
          rest,
          ap (λ t. cond {A = ℕ} t other.weight 0) (eq-eqb (tail_of s other.key) (tail_of s key) (ap (tail_of s) same)),
          ap (λ t. cond {A = ℕ} t other.weight 0) (eq-eqb other.key key same),
        )
        | inr differs ↦ omega (
          arith,
          tails,
          keys,
          rest,
          ap (λ t. cond {A = ℕ} t other.weight 0)
              (ne_eqb (tail_of s other.key) (tail_of s key) (λ tails_same. differs (one_key s other.key key one.fits below (one.own ∙ sym of_cone) tails_same))),
          ap (λ t. cond {A = ℕ} t other.weight 0) (ne_eqb other.key key differs),
        )
      ]
