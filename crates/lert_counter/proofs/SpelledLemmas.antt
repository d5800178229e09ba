-- Digits as they are read, with no test.
use Rattle.std.proofs.Common.{◌≡◌, ◌≢◌, ℕ, suc, ◌+◌, ◌-◌, ◌*◌, ◌^◌, ◌<◌, ◌≤◌, Option, Some, None, List, [], ◌∷◌, ◌++◌, length, map, take, drop, get_or, refl, sym, ap, ◌∙◌, subst, arith, length-append}
use Rattle.std.proofs.{lemmas.Bool.Decides.nat_tests, lemmas.List.{take_more, take_rest, take-append-drop, map-append}, lemmas.List.Sums.fold-append, Math.Seq.drop-cons}
use Rattle.std.specs.Prelude.{IfSome}
use Rattle.lert_counter.specs.{Group.{written, digit_base}, Reading.{number_of, Spells, SpellsCounter, IsSpelled, digits_at}, declared.group.Group.Group}

-- the digits that were read so far
pub record SpelledTo (base x at : ℕ) (slots : List ℕ) (number : ℕ) : Type 0 where
  pub ds : List ℕ
  pub long : length ds ≡ at
  pub text : take at slots ≡ map (written x) ds
  pub number_is : number ≡ number_of base ds

pub spelled_none : (base x : ℕ) (slots : List ℕ) → SpelledTo base x 0 slots 0
spelled_none base x slots = record { ds = []; long = refl; text = refl; number_is = refl }

pub spelled_more : (base x at : ℕ) (slots : List ℕ) (number digit more : ℕ) → SpelledTo base x at slots number → at < length slots → get_or slots at 0 ≡ written x digit →
    more ≡ number * base + digit
    → SpelledTo base x (at + 1) slots more
spelled_more base x at slots number digit more s within slot is = record {
  ds = s.ds ++ digit ∷ [];
  long = omega (arith, length-append s.ds (digit ∷ []), s.long);
  text = take_more slots at 0 within ∙ ap (λ (t : List ℕ). t ++ get_or slots at 0 ∷ []) s.text ∙ ap (λ v. map (written x) s.ds ++ v ∷ []) slot
      ∙ sym (map-append (written x) s.ds (digit ∷ []));
  number_is = is ∙ ap (λ n. n * base + digit) s.number_is ∙ sym (fold-append (λ n d. n * base + d) 0 s.ds (digit ∷ []));
}

-- x closes them
pub spelled_all : (base x at : ℕ) (slots : List ℕ) (number : ℕ) → SpelledTo base x at slots number → at ≤ 6 → number ≤ 2 ^ 47 → at < length slots → get_or slots at 0 ≡ x →
    Spells base x 0 slots number at
spelled_all base x at slots number s few small within slot = record {
  ds = s.ds;
  back = drop (suc at) slots;
  few = omega (arith, s.long);
  text = sym (take-append-drop at slots) ∙ ap (λ (t : List ℕ). t ++ drop at slots) s.text
      ∙ ap (λ (t : List ℕ). map (written x) s.ds ++ t) (drop-cons slots at 0 within ∙ ap (λ v. v ∷ drop (suc at) slots) slot);
  count_is = omega (arith, s.number_is);
  small = small;
  len_is = sym s.long;
}

-- the digits of a counter
pub counter_spelled : (width base start number len : ℕ) (text : List ℕ) → base ≡ digit_base width (get_or text 0 0) → start ≡ digits_at text → number + 3 ≤ 2 ^ 47
    → Spells base (get_or text 0 0) 0 (take (length text - start) (drop start text)) number len → SpellsCounter width text (number + 3) len
counter_spelled width base start number len text base_is start_is small s = record {
  ds = s.ds;
  back = s.back;
  few = s.few;
  text = ap (λ k. drop k text) (sym start_is) ∙ sym (take_rest text start) ∙ s.text;
  count_is = ap (λ n. n + 3) (s.count_is ∙ (let e : number_of base s.ds + 0 ≡ number_of base s.ds = omega arith in e) ∙ ap (λ b. number_of b s.ds) base_is);
  small = small;
  len_is = s.len_is;
}

-- a counter that stands there is found
pub record FoundDigits (base start count len : ℕ) (text : List ℕ) : Type 0 where
  pub ds : List ℕ
  pub back : List ℕ
  pub few : length ds ≤ 6
  pub text_is : take (length text - start) (drop start text) ≡ map (written (get_or text 0 0)) ds ++ get_or text 0 0 ∷ back
  pub count_is : count ≡ number_of base ds + 3
  pub small : count ≤ 2 ^ 47

pub spelled_counter : (width base start count len : ℕ) (text : List ℕ) → base ≡ digit_base width (get_or text 0 0) → start ≡ digits_at text → SpellsCounter width text count len →
    FoundDigits base start count len text
spelled_counter width base start count len text base_is start_is s = record {
  ds = s.ds;
  back = s.back;
  few = s.few;
  text_is = take_rest text start ∙ ap (λ k. drop k text) start_is ∙ s.text;
  count_is = s.count_is ∙ ap (λ b. number_of b s.ds + 3) (sym base_is);
  small = s.small;
}

-- where its digits begin
pub start_guarded : (text : List ℕ) → get_or text 1 0 ≡ 0 → 2 ≡ digits_at text
start_guarded text guard = grind (arith, nat_tests)

pub start_bare : (text : List ℕ) → get_or text 1 0 ≢ 0 → 1 ≡ digits_at text
start_bare text bare = grind (arith, nat_tests)

-- what a scan answers is spelled by them
pub counted_spelled : (width x n len used : ℕ) (text : List ℕ) (r : Option Group) → IfSome r (λ g. (g.x ≡ x) × (g.count ≡ n) × (n ≤ 2 ^ 47) × (g.used ≡ used))
    → x ≡ get_or text 0 0 → used ≡ digits_at text + len + 1 → (n ≤ 2 ^ 47 → SpellsCounter width text n len) → IfSome r (IsSpelled width text)
counted_spelled width x n len used text None h x_is used_is s = tt
counted_spelled width x n len used text (Some g) h x_is used_is s = record {
  len = len;
  spells = subst (λ k. SpellsCounter width text k len) (sym h.1) (s h.2);
  first = h.0 ∙ x_is;
  used_is = h.3 ∙ used_is;
}
