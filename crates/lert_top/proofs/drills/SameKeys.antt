-- Lists in which each key stands as often have the same length and the same exclusive or.
use Rattle.std.proofs.{Common.{◌≡◌, ℕ, ◌≤◌, suc, List, [], ◌∷◌, length, refl, ap, sym, ◌∙◌, inl, inr, arith}, lemmas.Bool.cases_eq, lemmas.Nat.xor_comm}
use Rattle.std.specs.{List.fold, Int.Bits.{bit_xor, xor_assoc, xor_zero_l, xor_zero_r}}
use Rattle.lert_spec.proofs.ReportLaws.{times, times-cons_other, times-cons_same}
use Rattle.lert_text.specs.Drill.{exclusive_or}

fold_from : (a : ℕ) (xs : List ℕ) → fold bit_xor a xs ≡ bit_xor a (exclusive_or xs)
fold_from a [] = sym (xor_zero_r a)
fold_from a (x ∷ xs) =
    fold_from (bit_xor a x) xs
    ∙ (xor_assoc a x (exclusive_or xs) ∙ ap (bit_xor a) (sym (fold_from x xs) ∙ ap (λ b. fold bit_xor b xs) (sym (xor_zero_l x))))

pub exclusive_or-cons : (x : ℕ) (xs : List ℕ) → exclusive_or (x ∷ xs) ≡ bit_xor x (exclusive_or xs)
exclusive_or-cons x xs = ap (λ b. fold bit_xor b xs) (xor_zero_l x) ∙ fold_from x xs

-- a list has a key and the rest
record HasBeside (x : ℕ) (ys rest : List ℕ) : Type 0 where
  pub length_is : length ys ≡ suc (length rest)
  pub xor_is : exclusive_or ys ≡ bit_xor x (exclusive_or rest)
  pub times_is : (key : ℕ) → times key ys ≡ times key (x ∷ rest)

-- what is so of a list is so with a key more
times-cons_more : (key x : ℕ) (xs ys : List ℕ) → times key xs ≡ times key ys → times key (x ∷ xs) ≡ times key (x ∷ ys)
times-cons_more key x xs ys same =
    elim (cases_eq x key) [
      | inl is ↦ omega (arith, times-cons_same key x xs is, times-cons_same key x ys is, same)
      | inr not ↦ omega (arith, times-cons_other key x xs not, times-cons_other key x ys not, same)
    ]

times-cons_less : (key x : ℕ) (xs ys : List ℕ) → times key (x ∷ xs) ≡ times key (x ∷ ys) → times key xs ≡ times key ys
times-cons_less key x xs ys same =
    elim (cases_eq x key) [
      | inl is ↦ omega (arith, times-cons_same key x xs is, times-cons_same key x ys is, same)
      | inr not ↦ omega (arith, times-cons_other key x xs not, times-cons_other key x ys not, same)
    ]

times-swap : (key x y : ℕ) (xs : List ℕ) → times key (x ∷ y ∷ xs) ≡ times key (y ∷ x ∷ xs)
times-swap key x y xs =
    elim (cases_eq x key) [
      | inl a ↦ elim (cases_eq y key) [
        | inl b ↦ omega (arith, times-cons_same key x (y ∷ xs) a, times-cons_same key y xs b, times-cons_same key y (x ∷ xs) b, times-cons_same key x xs a)
        | inr b ↦ omega (arith, times-cons_same key x (y ∷ xs) a, times-cons_other key y xs b, times-cons_other key y (x ∷ xs) b, times-cons_same key x xs a)
      ]
      | inr a ↦ elim (cases_eq y key) [
        | inl b ↦ omega (arith, times-cons_other key x (y ∷ xs) a, times-cons_same key y xs b, times-cons_same key y (x ∷ xs) b, times-cons_other key x xs a)
        | inr b ↦ omega (arith, times-cons_other key x (y ∷ xs) a, times-cons_other key y xs b, times-cons_other key y (x ∷ xs) b, times-cons_other key x xs a)
      ]
    ]

xor_swap : (a b c : ℕ) → bit_xor a (bit_xor b c) ≡ bit_xor b (bit_xor a c)
xor_swap a b c = sym (xor_assoc a b c) ∙ (ap (λ n. bit_xor n c) (xor_comm a b) ∙ xor_assoc b a c)

taken_out : (x : ℕ) (ys : List ℕ) → 1 ≤ times x ys → (rest : List ℕ) × HasBeside x ys rest
taken_out x [] some = absurd (omega (arith, some))
taken_out x (y ∷ ys) some =
    elim (cases_eq y x) [
      | inl same ↦ (
        ys,
        record {
          length_is = refl;
          xor_is = exclusive_or-cons y ys ∙ ap (λ n. bit_xor n (exclusive_or ys)) same;
          times_is = λ key. ap (λ n. times key (n ∷ ys)) same;
        },
      )
      | inr differs ↦
          let deeper = taken_out x ys (omega (arith, some, times-cons_other x y ys differs)) in (
            y ∷ deeper.0,
            record {
              length_is = ap suc deeper.1.length_is;
              xor_is = exclusive_or-cons y ys ∙ (ap (bit_xor y) deeper.1.xor_is ∙ (xor_swap y x (exclusive_or deeper.0) ∙ ap (bit_xor x) (sym (exclusive_or-cons y deeper.0))));
              times_is = λ key. times-cons_more key y ys (x ∷ deeper.0) (deeper.1.times_is key) ∙ times-swap key y x deeper.0;
            },
          )
    ]

-- two lists in which each key stands as often
pub same_keys : (xs ys : List ℕ) → ((key : ℕ) → times key xs ≡ times key ys) → (length xs ≡ length ys) × (exclusive_or xs ≡ exclusive_or ys)
same_keys [] [] same = (refl, refl)
same_keys [] (y ∷ ys) same = absurd (omega (arith, same y, times-cons_same y y ys refl))
same_keys (x ∷ xs) ys same =
    let beside = taken_out x ys (omega (arith, same x, times-cons_same x x xs refl)) in
    let rest = same_keys xs beside.0 (λ key. times-cons_less key x xs beside.0 (same key ∙ beside.1.times_is key)) in (
      ap suc rest.0 ∙ sym beside.1.length_is,
      exclusive_or-cons x xs ∙ (ap (bit_xor x) rest.1 ∙ sym beside.1.xor_is),
    )
