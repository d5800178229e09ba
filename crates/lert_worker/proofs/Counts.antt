-- How many items and tries a ring counts, and how many takes a pass lost.
use Rattle.std.proofs.Common.{◌≡◌, ◌≢◌, ◌⊎◌, ℕ, zero, suc, ◌+◌, ◌-◌, ◌*◌, ◌/◌, ◌<◌, ◌≤◌, Bool, true, false, cond, eqb, ◌||◌}
use Rattle.std.proofs.Common.{refl, ap, sym, ◌∙◌, inl, inr, arith}
use Rattle.std.proofs.Common.{div-mul-le_self, mul-le-mul_left, mul-le-mul_right, suc-mul}
use Rattle.std.proofs.lemmas.Bool.{cases_eq, eq-eqb, ne_eqb}
use Rattle.lert_buffers.specs.Rings.{fill_of}
use Rattle.lert_conelock.specs.Moves.{misses, own_moves}
use Rattle.lert_conelock.specs.Sight.{Sight, Counts}
use Rattle.lert_conelock.proofs.Prefixes.{prefix_itself, prefix_trans}
use Rattle.lert_buffers.specs.declared.buffers.Fill.TheVariants.{Low, MustGo, Ready}

-- a number of packets is at most the number of their items
pub times_least : (k packet : ℕ) → 1 ≤ packet → k ≤ k * packet
times_least k packet some = let more = mul-le-mul_left k some in omega (arith, more)

-- one packet less
pub step_back : (m packet tried : ℕ) → 1 ≤ packet → suc m * packet ≤ tried + 1 → m * packet ≤ tried
step_back m packet tried some within = omega (arith, suc-mul m packet)

-- a packet was late for as many tries as whole packets of items stand before its last item
late_from : (packet n q : ℕ) → 1 ≤ n → q * packet ≤ n + packet - 1 → 1 ≤ packet → (q - 1) * packet < n
late_from packet n zero some within least = omega arith
late_from packet n (suc m) some within least =
    let e : suc m - 1 ≡ m = omega arith in
    let same = ap (λ x. x * packet) e in
    omega (arith, suc-mul m packet, same)

pub late_fits : (packet n : ℕ) → 1 ≤ packet → 1 ≤ n → ((n + packet - 1) / packet - 1) * packet < n
late_fits packet n least some = late_from packet n ((n + packet - 1) / packet) some (div-mul-le_self (n + packet - 1) packet) least

eqb_same : (a b : ℕ) → eqb a b ≡ true → a ≡ b
eqb_same a b equal =
    elim (cases_eq a b) [
      | inl same ↦ same
      | inr other ↦ absurd (let differs = ne_eqb a b other in cc)
    ]

eqb_other : (a b : ℕ) → eqb a b ≡ false → a ≢ b
eqb_other a b differs same = absurd (let equal = eq-eqb a b same in cc)

low_all : (a b d e : Bool) → cond a MustGo (cond (b || (d || e)) Ready Low) ≡ Low → (a ≡ false) × (b ≡ false) × (d ≡ false) × (e ≡ false)
low_all true b d e is = absurd (cc)
low_all false true d e is = absurd (cc)
low_all false false true e is = absurd (cc)
low_all false false false true is = absurd (cc)
low_all false false false false is = (refl, refl, refl, refl)

ready_some : (a b d e : Bool) → cond a MustGo (cond (b || (d || e)) Ready Low) ≡ Ready → (b ≡ true) ⊎ ((d ≡ true) ⊎ (e ≡ true))
ready_some true b d e is = absurd (cc)
ready_some false true d e is = inl refl
ready_some false false true e is = inr (inl refl)
ready_some false false false true is = inr (inr refl)
ready_some false false false false is = absurd (cc)

must_all : (a b : Bool) → cond a MustGo (cond b Ready Low) ≡ MustGo → a ≡ true
must_all true b is = refl
must_all false true is = absurd (cc)
must_all false false is = absurd (cc)

-- so many items are some whole packets, at most four
pub record AreWhole (packet n : ℕ) : Type 0 where
  pub times : ℕ
  pub least : 1 ≤ times
  pub most : times ≤ 4
  pub is : n ≡ times * packet

pub ready_whole : (packet n : ℕ) → fill_of packet n ≡ Ready → AreWhole packet n
ready_whole packet n is =
    elim (ready_some (eqb n (4 * packet)) (eqb n packet) (eqb n (2 * packet)) (eqb n (3 * packet)) is) [
      | inl one ↦ let same = eqb_same n packet one in record { times = 1; least = omega arith; most = omega arith; is = omega arith }
      | inr (inl two) ↦ record { times = 2; least = omega arith; most = omega arith; is = eqb_same n (2 * packet) two }
      | inr (inr three) ↦ record { times = 3; least = omega arith; most = omega arith; is = eqb_same n (3 * packet) three }
    ]

pub must_whole : (packet n : ℕ) → fill_of packet n ≡ MustGo → n ≡ 4 * packet
must_whole packet n is = eqb_same n (4 * packet) (must_all (eqb n (4 * packet)) (eqb n packet || (eqb n (2 * packet) || eqb n (3 * packet))) is)

-- a ring that asks for nothing has no whole packet more than before
low_apart : (packet n k : ℕ) → 1 ≤ packet → n < 4 * packet → fill_of packet (n + 1) ≡ Low → k * packet ≡ n + 1 → ⊥
low_apart packet n k some short is equal =
    let none = low_all (eqb (n + 1) (4 * packet)) (eqb (n + 1) packet) (eqb (n + 1) (2 * packet)) (eqb (n + 1) (3 * packet)) is in
    let four = eqb_other (n + 1) (4 * packet) none.0 in
    let one = eqb_other (n + 1) packet none.1 in
    let two = eqb_other (n + 1) (2 * packet) none.2 in
    let three = eqb_other (n + 1) (3 * packet) none.3 in
    elim (cases_eq k 0) [
      | inl zero_is ↦ let e = ap (λ x. x * packet) zero_is in omega (arith, e, equal)
      | inr not_zero ↦ elim (cases_eq k 1) [
        | inl one_is ↦ one (let e = ap (λ x. x * packet) one_is in omega (arith, e, equal))
        | inr not_one ↦ elim (cases_eq k 2) [
          | inl two_is ↦ two (sym equal ∙ ap (λ x. x * packet) two_is)
          | inr not_two ↦ elim (cases_eq k 3) [
            | inl three_is ↦ three (sym equal ∙ ap (λ x. x * packet) three_is)
            | inr not_three ↦ elim (cases_eq k 4) [
              | inl four_is ↦ four (sym equal ∙ ap (λ x. x * packet) four_is)
              | inr not_four ↦
                  let least : 5 ≤ k = omega (arith, not_zero, not_one, not_two, not_three, not_four) in
                  let more : 5 * packet ≤ k * packet = mul-le-mul_right packet least in
                  omega (arith, more, equal)
            ]
          ]
        ]
      ]
    ]

pub low_still : (packet n k : ℕ) → 1 ≤ packet → n < 4 * packet → fill_of packet (n + 1) ≡ Low → k * packet ≤ n + 1 → k * packet ≤ n
low_still packet n k some short is within =
    elim (cases_eq (k * packet) (n + 1)) [
      | inl equal ↦ absurd (low_apart packet n k some short is equal)
      | inr other ↦ omega (arith, other)
    ]

pub low_short : (packet n : ℕ) → 1 ≤ packet → n < 4 * packet → fill_of packet (n + 1) ≡ Low → n + 1 < 4 * packet
low_short packet n some short is =
    let none = low_all (eqb (n + 1) (4 * packet)) (eqb (n + 1) packet) (eqb (n + 1) (2 * packet)) (eqb (n + 1) (3 * packet)) is in
    let four = eqb_other (n + 1) (4 * packet) none.0 in
    omega (arith, four)

pub ready_short : (packet n : ℕ) → 1 ≤ packet → fill_of packet n ≡ Ready → n < 4 * packet
ready_short packet n some is =
    elim (ready_some (eqb n (4 * packet)) (eqb n packet) (eqb n (2 * packet)) (eqb n (3 * packet)) is) [
      | inl one ↦ let same = eqb_same n packet one in omega arith
      | inr (inl two) ↦ let same = eqb_same n (2 * packet) two in omega arith
      | inr (inr three) ↦ let same = eqb_same n (3 * packet) three in omega arith
    ]

-- what is counted, and was so
pub one_of : (b : Bool) → b ≡ true → 1 ≤ cond b 1 0
one_of true is = omega arith
one_of false is = absurd (cc)

-- a pass that made no call counts no take more
pub counts_none : {H F : Type 0} (own : Sight H F) → Counts own own
counts_none own = record { lo_is = refl; begins = prefix_itself own.moves; orderly = λ is. is; met = refl }

pub counts_on : {H F : Type 0} (old mid new : Sight H F) → Counts old mid → Counts mid new → Counts old new
counts_on old mid new before after = record {
  lo_is = after.lo_is ∙ before.lo_is;
  begins = prefix_trans before.begins after.begins;
  orderly = λ is. after.orderly (before.orderly is);
  met = (let known = ap (λ n. misses (own_moves mid.moves n)) before.lo_is in let now = ap (λ n. misses (own_moves new.moves n)) before.lo_is in
      omega (arith, before.met, after.met, known, now));
}
