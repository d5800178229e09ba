-- Items of a cone: one by one, and by the tails of their keys.
use Rattle.std.proofs.Common.{ℕ, ◌≡◌, ◌≢◌, ◌+◌, ◌-◌, ◌*◌, ◌/◌, ◌%◌, ◌^◌, ◌<◌, ◌≤◌, cond, List, [], ◌∷◌, ◌++◌, drop, refl, ap, sym, ◌∙◌, arith, inl, inr, slice_range, sum_by}
use Rattle.std.proofs.{lemmas.List.Elements.{All-nil, All-cons, All-head, All-tail, All-append}, lemmas.Bool.{cases_eq, eq-eqb, ne_eqb}}
use Rattle.std.proofs.{lemmas.List.Sums.sum_by-cons, lemmas.Nat.{mul-add-lt, shr_high, mod_low, pow-add}}
use Rattle.std.specs.List.{All}
use Rattle.lert_spec.specs.Edges.{key_bits, key_limit, tail_bits}
use Rattle.lert_spec.specs.{declared.item.Item.Item, declared.numbers.Numbers.Numbers, Bins.tally}
use Rattle.lert_spec.specs.{Counts.{weighed, weight_for, weight_in}, Items.{keys_in, most_weight, AreOfVersion}, Mix.{mix, cone_of, tail_of}, Table.count_of}
use Rattle.lert_spec.proofs.{LookLaws.HaveKeys, MixLaws.{unmixed_below, mix-unmixed, one_key, tail_below}, TailLaws.{HaveKeys-take, HaveKeys-drop, IsPartOf, IsPartOf-take, IsPartOf-drop, key_with}}
use Rattle.lert_spec.proofs.TallyLaws.{tail_weight, tails_in, count_of-tally}
use Rattle.lert_levels.proofs.rows.WeightLaws.{WeighAll, weigh_slice}

pub HaveKeys-push : (s : Numbers) (events : List Item) (item : Item) → HaveKeys s weighed events → item.key < key_limit s → HaveKeys s weighed (events ++ item ∷ [])
HaveKeys-push s [] item fit below = (below, tt)
HaveKeys-push s (event ∷ events) item fit below = (fit.0, HaveKeys-push s events item fit.1 below)

pub IsPartOf-push : (s : Numbers) (cone : ℕ) (events : List Item) (item : Item) → IsPartOf weighed s cone events → cone_of s item.key ≡ cone → IsPartOf weighed s cone (events ++ item ∷ [])
IsPartOf-push s cone [] item own is = (is, tt)
IsPartOf-push s cone (event ∷ events) item own is = (own.0, IsPartOf-push s cone events item own.1 is)

pub AreOfVersion-push : (version : ℕ) (events : List Item) (item : Item) → AreOfVersion version events → 1 ≤ item.weight → item.weight ≤ most_weight version →
    AreOfVersion version (events ++ item ∷ [])
AreOfVersion-push version events item are some most =
    let P : Item → Type 0 = λ i. (1 ≤ i.weight) × (i.weight ≤ most_weight version) in
    All-append P events (item ∷ []) are (All-cons P item [] (some, most) (All-nil P))

-- among items of a cone a tail weighs as much as its key
tails-weigh : (s : Numbers) (cone key : ℕ) (items : List Item) → key < key_limit s → cone_of s key ≡ cone → HaveKeys s weighed items → IsPartOf weighed s cone items →
    tails_in weighed s (tail_of s key) items ≡ sum_by (weight_for weighed key) items
tails-weigh s cone key [] below is fit own = refl
tails-weigh s cone key (other ∷ others) below is fit own =
    let rest = tails-weigh s cone key others below is fit.1 own.1 in
    let tails = sum_by-cons (tail_weight weighed s (tail_of s key)) other others in
    let keys = sum_by-cons (weight_for weighed key) other others in
    elim (cases_eq other.key key) [
      | inl same ↦ omega (
        arith,
        tails,
        keys,
        rest,
        ap (λ t. cond {A = ℕ} t other.weight 0) (eq-eqb (tail_of s other.key) (tail_of s key) (ap (tail_of s) same)),
        ap (λ t. cond {A = ℕ} t other.weight 0) (eq-eqb other.key key same),
      )
      | inr differs ↦ omega (
        arith,
        tails,
        keys,
        rest,
        ap (λ t. cond {A = ℕ} t other.weight 0)
            (ne_eqb (tail_of s other.key) (tail_of s key) (λ tails_same. differs (one_key s other.key key fit.0 below (own.0 ∙ sym is) tails_same))),
        ap (λ t. cond {A = ℕ} t other.weight 0) (ne_eqb other.key key differs),
      )
    ]

-- what a key weighs in a window is the count of its tail
pub count-tail : (s : Numbers) (cone key from to : ℕ) (events : List Item) → key < key_limit s → cone_of s key ≡ cone → HaveKeys s weighed events →
    IsPartOf weighed s cone events → WeighAll events →
    count_of (tally weighed s (slice_range events from to)) (tail_of s key) ≡ weight_in weighed key events from to
count-tail s cone key from to events below is fit own some =
    count_of-tally weighed s (slice_range events from to) (tail_of s key) (weigh_slice events from to some)
    ∙ tails-weigh s cone key (slice_range events from to) below is (HaveKeys-take s weighed (to - from) (drop from events) (HaveKeys-drop s weighed from events fit))
    (IsPartOf-take weighed s cone (to - from) (drop from events) (IsPartOf-drop weighed s cone from events own))

-- what holds of the keys of items holds of each item's key
pub of_keys : (P : ℕ → Type 0) (items : List Item) → All P (keys_in items) → All (λ item. P item.key) items
of_keys P [] all = All-nil (λ (item : Item). P item.key)
of_keys P (item ∷ items) all =
    All-cons (λ (i : Item). P i.key) item items (All-head P item.key (keys_in items) all) (of_keys P items (All-tail P item.key (keys_in items) all))

-- the key that has a cone and a tail
module _ (s : Numbers) (cone : ℕ) (bits : s.cone_bits ≤ key_bits s) (named : cone < 2 ^ s.cone_bits) where
  module _ (tail : ℕ) (below : tail < 2 ^ tail_bits s) where
    joined_below : cone * 2 ^ tail_bits s + tail < key_limit s
    joined_below =
        let whole : tail_bits s + s.cone_bits ≡ key_bits s = omega arith in
        let power = sym (pow-add 2 (tail_bits s) s.cone_bits) ∙ ap (λ n. 2 ^ n) whole in
        omega (arith, mul-add-lt cone (2 ^ tail_bits s) tail (2 ^ s.cone_bits) named below, power)

    mix-key_with : mix (key_with s cone tail) ≡ cone * 2 ^ tail_bits s + tail
    mix-key_with = mix-unmixed (cone * 2 ^ tail_bits s + tail) joined_below

    pub key_with_below : key_with s cone tail < key_limit s
    key_with_below = unmixed_below (cone * 2 ^ tail_bits s + tail) joined_below

    pub cone-key_with : cone_of s (key_with s cone tail) ≡ cone
    cone-key_with = ap (λ m. m / 2 ^ tail_bits s) mix-key_with ∙ shr_high cone (tail_bits s) tail below

    tail-key_with : tail_of s (key_with s cone tail) ≡ tail
    tail-key_with = ap (λ m. m % 2 ^ tail_bits s) mix-key_with ∙ mod_low cone (tail_bits s) tail below

    -- is the only one
    pub key_with_is : (key : ℕ) → ((k : ℕ) → k < key_limit s → cone_of s k ≡ cone → tail_of s k ≡ tail → key ≡ k) → key ≡ key_with s cone tail
    key_with_is key only = only (key_with s cone tail) key_with_below cone-key_with tail-key_with

  -- another tail's key is another one
  pub other_tail : (tail other : ℕ) → tail < 2 ^ tail_bits s → other < 2 ^ tail_bits s → other ≢ tail → key_with s cone other ≢ key_with s cone tail
  other_tail tail other below under differs same = differs (sym (tail-key_with other under) ∙ ap (tail_of s) same ∙ tail-key_with tail below)

  -- a key of the cone is the one with its tail
  pub key_with-tail : (key : ℕ) → key < key_limit s → cone_of s key ≡ cone → key_with s cone (tail_of s key) ≡ key
  key_with-tail key below of_cone =
      let under = tail_below s key in
      one_key s (key_with s cone (tail_of s key)) key (key_with_below (tail_of s key) under) below
      (cone-key_with (tail_of s key) under ∙ sym of_cone) (tail-key_with (tail_of s key) under)
