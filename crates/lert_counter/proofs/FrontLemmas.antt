-- What the first values of a text say of the group at its front.
use Rattle.std.proofs.Common.{◌≡◌, ℕ, suc, zero, ◌+◌, ◌-◌, ◌^◌, ◌<◌, ◌≤◌, ◌≢◌, List, [], ◌∷◌, ◌++◌, length, map, take, drop, get_or, refl, sym, ap}
use Rattle.std.proofs.Common.{◌∙◌, subst, inl, inr, ◌⊎◌, arith, length-append, append_assoc, Option, Some, None, IsNone}
use Rattle.std.proofs.lemmas.List.{get_or_append_left, length-map, take-append-drop, take_at, length-take, length-drop, get_or-take, get_or-drop}
use Rattle.std.proofs.lemmas.Bool.{cases_lt, cases_eq}
use Rattle.std.proofs.lemmas.Option.{IfSome_then}
use Rattle.std.specs.Prelude.{IfSome}
use Rattle.lert_counter.specs.Group.{digits, written, digit_base, group, IsCount, BeginsWith}
use Rattle.lert_counter.specs.Reading.{read_as, HasTwoZeros, IsReadFrom, Follows}
use Rattle.lert_counter.specs.declared.group.Group.{Group}
use Rattle.lert_counter.proofs.DigitLemmas.{length_digits-positive, digits-first}
use Rattle.lert_counter.proofs.CounterLemmas.{counter-zero, counter-guarded, counter-bare, group-counter, group-one, group-two, group-three}
use Rattle.lert_counter.proofs.ScanLemmas.{written-positive, written-apart}

-- a text that begins with another is that and the rest
pub begins_split : (text front : List ℕ) → BeginsWith text front → text ≡ front ++ drop (length front) text
begins_split text front h = sym (take-append-drop (length front) text) ∙ ap (λ (t : List ℕ). t ++ drop (length front) text) h

-- the five shapes of a group at the front of a text
pub data Front (width x c : ℕ) (back rest : List ℕ) : Type 0 where
  one : c ≡ 1 → rest ≡ x ∷ back → Front width x c back rest
  two : c ≡ 2 → rest ≡ x ∷ x ∷ back → Front width x c back rest
  three : x ≡ 0 → c ≡ 3 → rest ≡ 0 ∷ 0 ∷ 0 ∷ back → Front width x c back rest
  zero_counter : x ≡ 0 → 4 ≤ c → 1 < length rest → get_or rest 0 0 ≡ 0 → 0 < get_or rest 1 0 → Front width x c back rest
  counter_above : 0 < x → 3 ≤ c → 1 < length rest → get_or rest 0 0 ≡ x → get_or rest 1 0 < x → Front width x c back rest

-- the first digit behind x
digit_front : (width x : ℕ) (n : ℕ) (back tail rest : List ℕ) → rest ≡ x ∷ ((map (written x) (digits 5 (digit_base width x) n) ++ tail) ++ back)
    → (1 < length rest) × (get_or rest 0 0 ≡ x) × (get_or rest 1 0 ≡ written x (get_or (digits 5 (digit_base width x) n) 0 0))
digit_front width x n back tail rest is =
    let ds = digits 5 (digit_base width x) n in
    let some = length_digits-positive 5 (digit_base width x) n in
    let mapped : 0 < length (map (written x) ds) = simp length-map some in (
      omega (arith, ap (λ (t : List ℕ). length t) is, length-append (map (written x) ds ++ tail) back, length-append (map (written x) ds) tail),
      ap (λ (t : List ℕ). get_or t 0 0) is,
      ap (λ (t : List ℕ). get_or t 1 0) (is ∙ ap (λ (t : List ℕ). x ∷ t) (append_assoc (map (written x) ds) tail back))
          ∙ get_or_append_left (map (written x) ds) (tail ++ back) 0 0 mapped ∙ digits-first 5 (digit_base width x) n (written x),
    )

front_zero : (width c : ℕ) (back rest : List ℕ) → 4 ≤ c → rest ≡ group width 0 c ++ back → Front width 0 c back rest
front_zero width c back rest least text =
    let whole = group-counter width 0 c (omega arith) (λ z. least) ∙ counter-zero width c in
    let f = digit_front width 0 (c - 4) back (0 ∷ 0 ∷ []) rest (text ∙ ap (λ (t : List ℕ). t ++ back) whole) in
    let shown = written-positive 0 (get_or (digits 5 (digit_base width 0) (c - 4)) 0 0) in
    zero_counter refl least f.0 f.1 (omega (arith, f.2))

front_counter : (width x c : ℕ) (back rest : List ℕ) → 0 < x → 3 ≤ c → rest ≡ group width x c ++ back → Front width x c back rest
front_counter width x c back rest positive least text =
    let ds = digits 5 (digit_base width x) (c - 3) in
    let same = group-counter width x c least (λ z. absurd (omega arith)) in
    elim (cases_lt x (written x (get_or ds 0 0))) [
      | inl greater ↦
          (let is = text ∙ ap (λ (t : List ℕ). t ++ back) (same ∙ counter-guarded width x c positive greater) in
          counter_above positive least
          (omega (arith, ap (λ (t : List ℕ). length t) is))
          (ap (λ (t : List ℕ). get_or t 0 0) is) (let e : get_or rest 1 0 ≡ 0 = ap (λ (t : List ℕ). get_or t 1 0) is in omega arith))
      | inr less ↦
          (let f = digit_front width x (c - 3) back (x ∷ []) rest (text ∙ ap (λ (t : List ℕ). t ++ back) (same ∙ counter-bare width x c positive less)) in
          let apart = written-apart x (get_or ds 0 0) in
          counter_above positive least f.0 f.1 (omega (arith, f.2)))
    ]

pub front_of : (width x c : ℕ) (back rest : List ℕ) → IsCount c → rest ≡ group width x c ++ back → Front width x c back rest
front_of width x c back rest counts text =
    elim (cases_eq c 1) [
      | inl e ↦ one e (text ∙ ap (λ n. group width x n ++ back) e ∙ ap (λ (t : List ℕ). t ++ back) (group-one width x))
      | inr not_one ↦ elim (cases_eq c 2) [
        | inl e ↦ two e (text ∙ ap (λ n. group width x n ++ back) e ∙ ap (λ (t : List ℕ). t ++ back) (group-two width x))
        | inr not_two ↦ elim (cases_eq x 0) [
          | inl z ↦ elim (cases_eq c 3) [
            | inl e ↦ three z e (text ∙ ap (λ y. group width y c ++ back) z ∙ ap (λ n. group width 0 n ++ back) e ∙ ap (λ (t : List ℕ). t ++ back) (group-three width))
            | inr more ↦ (let at_zero = front_zero width c back rest (omega (arith, counts.0)) (text ∙ ap (λ y. group width y c ++ back) z) in
                let P : ℕ → Type 0 = λ y. Front width y c back rest in subst P (sym z) at_zero)
          ]
          | inr positive ↦ front_counter width x c back rest (omega arith) (omega (arith, counts.0)) text
        ]
      ]
    ]

-- what `short_group` says
abbrev pub ShortRead : List ℕ → Option Group → Type 0
ShortRead text result = record {
  alone : length text ≡ 1 → result ≡ Some (record { x = get_or text 0 0; count = 1; used = 1 });
  above : 1 < length text → 0 < get_or text 0 0 → get_or text 0 0 < get_or text 1 0 → result ≡ Some (record { x = get_or text 0 0; count = 1; used = 1 });
  twice : 1 < length text → 0 < get_or text 0 0 → get_or text 1 0 ≡ get_or text 0 0 → result ≡ Some (record { x = get_or text 0 0; count = 2; used = 2 });
  two_zeros : 1 < length text → get_or text 0 0 ≡ 0 → get_or text 1 0 ≡ 0 → (2 < length text → get_or text 2 0 ≢ 0) → result ≡ Some (record { x = 0; count = 2; used = 2 });
  three_zeros : 2 < length text → get_or text 0 0 ≡ 0 → get_or text 1 0 ≡ 0 → get_or text 2 0 ≡ 0 → result ≡ Some (record { x = 0; count = 3; used = 3 });
  below : 1 < length text → get_or text 1 0 < get_or text 0 0 → result ≡ None;
  zero : 1 < length text → get_or text 0 0 ≡ 0 → 0 < get_or text 1 0 → result ≡ None;
  none : IsNone result → (1 < length text) × (get_or text 1 0 ≢ get_or text 0 0);
  begins : (width : ℕ) → IfSome result (IsReadFrom width text);
}

-- a counter that was found and then checked
pub checked_read : (width least x : ℕ) (text : List ℕ) (found : Group) (result : Option Group) → 3 ≤ least → least ≤ found.count → found.count ≤ 2 ^ 47 →
    found.x ≡ get_or text 0 0
    → IfSome result (λ g. (g ≡ read_as width found.x found.count) × BeginsWith text (group width found.x found.count))
    → IfSome result (λ g. (least ≤ g.count) × IsReadFrom width text g)
checked_read width least x text found result counter_least least_is most first read = IfSome_then result read (λ g r.
    let gx : g.x ≡ found.x = ap (λ h. h.x) r.0 in
    let gc : g.count ≡ found.count = ap (λ h. h.count) r.0 in
    let gu : g.used ≡ length (group width found.x found.count) = ap (λ h. h.used) r.0 in (
      omega arith,
      record {
        first = gx ∙ first;
        counts = (omega arith, omega arith);
        begins = rw (gx, gc) r.1;
        len = rw (gx, gc) gu;
      },
    ))

-- what a count of a group at the front says of what `short_group` answers
pub data ShortOf (width x c : ℕ) (back rest : List ℕ) (result : Option Group) : Type 0 where
  known : result ≡ Some (read_as width x c) → ShortOf width x c back rest result
  alone_or_counter : x ≡ 0 → result ≡ None → 1 < length rest → get_or rest 0 0 ≡ 0 → (c ≡ 1) ⊎ (4 ≤ c) → ShortOf width x c back rest result
  behind_counter : 0 < x → result ≡ None → 1 < length rest → get_or rest 0 0 ≡ x → 3 ≤ c → ShortOf width x c back rest result

pub read_one : (width x c : ℕ) → c ≡ 1 → read_as width x c ≡ record { x = x; count = 1; used = 1 }
read_one width x c e = rw (e, group-one width x) refl

read_two : (width x c : ℕ) → c ≡ 2 → read_as width x c ≡ record { x = x; count = 2; used = 2 }
read_two width x c e = rw (e, group-two width x) refl

read_three : (width x c : ℕ) → x ≡ 0 → c ≡ 3 → read_as width x c ≡ record { x = 0; count = 3; used = 3 }
read_three width x c z e = rw (z, e, group-three width) refl

-- a count of 1
short_one : (width x c : ℕ) (back rest : List ℕ) (result : Option Group) → c ≡ 1 → rest ≡ x ∷ back → Follows x back → ShortRead rest result → ShortOf width x c back rest result
short_one width x c [] rest result e is follows short =
    known (short.alone (ap (λ (t : List ℕ). length t) is) ∙ ap (λ y. Some (record { x = y; count = 1; used = 1 })) (ap (λ (t : List ℕ). get_or t 0 0) is)
    ∙ ap Some (sym (read_one width x c e)))
short_one width x c (y ∷ back) rest result e is follows short =
    let first : get_or rest 0 0 ≡ x = ap (λ (t : List ℕ). get_or t 0 0) is in
    let second : get_or rest 1 0 ≡ y = ap (λ (t : List ℕ). get_or t 1 0) is in
    let long : 1 < length rest = omega (arith, ap (λ (t : List ℕ). length t) is) in
    let above = follows.above (omega arith) in
    elim (cases_eq x 0) [
      | inl z ↦ alone_or_counter z (short.zero long (first ∙ z) (omega arith)) long (first ∙ z) (inl e)
      | inr positive ↦ known (short.above long (omega arith) (omega arith) ∙ ap (λ y. Some (record { x = y; count = 1; used = 1 })) first ∙ ap Some (sym (read_one width x c e)))
    ]

-- a count of 2
short_two : (width x c : ℕ) (back rest : List ℕ) (result : Option Group) → c ≡ 2 → rest ≡ x ∷ x ∷ back → Follows x back → ShortRead rest result →
    ShortOf width x c back rest result
short_two width x c back rest result e is follows short =
    let first : get_or rest 0 0 ≡ x = ap (λ (t : List ℕ). get_or t 0 0) is in
    let second : get_or rest 1 0 ≡ x = ap (λ (t : List ℕ). get_or t 1 0) is in
    let third : get_or rest 2 0 ≡ get_or back 0 0 = ap (λ (t : List ℕ). get_or t 2 0) is in
    let long = ap (λ (t : List ℕ). length t) is in
    elim (cases_eq x 0) [
      | inl z ↦ known (short.two_zeros (omega arith) (omega arith) (omega arith) (λ more. let above = follows.above (omega arith) in omega arith)
          ∙ ap Some (sym (read_two width x c e ∙ ap (λ y. record { x = y; count = 2; used = 2 }) z)))
      | inr positive ↦ known (short.twice (omega arith) (omega arith) (omega arith) ∙ ap (λ y. Some (record { x = y; count = 2; used = 2 })) first ∙ ap Some (sym (read_two width x c e)))
    ]

pub short_of : (width x c : ℕ) (back rest : List ℕ) (result : Option Group) → IsCount c → rest ≡ group width x c ++ back → Follows x back → ShortRead rest result →
    ShortOf width x c back rest result
short_of width x c back rest result counts text follows short =
    elim (front_of width x c back rest counts text) [
      | one e is ↦ short_one width x c back rest result e is follows short
      | two e is ↦ short_two width x c back rest result e is follows short
      | three z e is ↦ known (
          let long = ap (λ (t : List ℕ). length t) is in
          short.three_zeros (omega arith) (ap (λ (t : List ℕ). get_or t 0 0) is) (ap (λ (t : List ℕ). get_or t 1 0) is) (ap (λ (t : List ℕ). get_or t 2 0) is)
          ∙ ap Some (sym (read_three width x c z e)))
      | zero_counter z least long first second ↦ alone_or_counter z (short.zero long first second) long first (inr least)
      | counter_above positive least long first second ↦ behind_counter positive (short.below long (omega arith)) long first least
    ]

-- a first value alone is a group
pub begins_alone : (width : ℕ) (rest : List ℕ) → 0 < length rest → get_or rest 0 0 ≡ 0 → IsReadFrom width rest (record { x = 0; count = 1; used = 1 })
begins_alone width [] some z = absurd (omega arith)
begins_alone width (y ∷ ys) some z = record {
  first = sym z;
  counts = (omega arith, omega arith);
  begins = rw (group-one width 0) (ap (λ n. n ∷ []) z);
  len = rw (group-one width 0) refl;
}

-- what the first values say where no digits stand
pub begins_one : (width : ℕ) (rest : List ℕ) → 0 < length rest → IsReadFrom width rest (record { x = get_or rest 0 0; count = 1; used = 1 })
begins_one width [] some = absurd (omega arith)
begins_one width (y ∷ ys) some = record {
  first = refl;
  counts = (omega arith, omega arith);
  begins = rw (group-one width y) refl;
  len = rw (group-one width y) refl;
}

pub begins_two : (width : ℕ) (rest : List ℕ) → 1 < length rest → get_or rest 1 0 ≡ get_or rest 0 0 → IsReadFrom width rest (record { x = get_or rest 0 0; count = 2; used = 2 })
begins_two width [] some same = absurd (omega arith)
begins_two width (y ∷ []) some same = absurd (omega arith)
begins_two width (y ∷ z ∷ ys) some same = record {
  first = refl;
  counts = (omega arith, omega arith);
  begins = rw (group-two width y) (ap (λ n. y ∷ n ∷ []) same);
  len = rw (group-two width y) refl;
}

pub begins_three : (width : ℕ) (rest : List ℕ) → 2 < length rest → get_or rest 0 0 ≡ 0 → get_or rest 1 0 ≡ 0 → get_or rest 2 0 ≡ 0 →
    IsReadFrom width rest (record { x = get_or rest 0 0; count = 3; used = 3 })
begins_three width [] some a b d = absurd (omega arith)
begins_three width (y ∷ []) some a b d = absurd (omega arith)
begins_three width (y ∷ z ∷ []) some a b d = absurd (omega arith)
begins_three width (y ∷ z ∷ v ∷ ys) some a b d = record {
  first = refl;
  counts = (omega arith, omega arith);
  begins = rw (a, b, d, group-three width) refl;
  len = rw (a, group-three width) refl;
}

pub begins_front : (text front back : List ℕ) → text ≡ front ++ back → BeginsWith text front
begins_front text front back e = ap (λ (t : List ℕ). take (length front) t) e ∙ take_at front back (length front) refl

-- zeros among the first nine values stand behind a first one that is 0 alone
pub zeros_later : (rest : List ℕ) (n : ℕ) → 0 < get_or rest 1 0 → HasTwoZeros (take n rest) → HasTwoZeros (drop 1 rest)
zeros_later rest n second (zero, within, first, next) =
    absurd (let long = length-take n rest in let e = get_or-take n rest 1 0 (omega arith) in omega arith)
zeros_later rest n second (suc k, within, first, next) =
    let long = length-take n rest in
    let a = get_or-take n rest (suc k) 0 (omega arith) in
    let b = get_or-take n rest (suc k + 1) 0 (omega arith) in
    let at : 1 + k ≡ suc k = omega arith in
    let at_next : 1 + (k + 1) ≡ suc k + 1 = omega arith in (
      k,
      simp length-drop (omega arith),
      get_or-drop 1 rest k 0 ∙ rw at (sym a ∙ first),
      get_or-drop 1 rest (k + 1) 0 ∙ rw at_next (sym b ∙ next),
    )
