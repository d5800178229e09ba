-- A kept table: its runs, and what a quotient's run is.
use Rattle.std.proofs.Common.{◌≡◌, ℕ, ◌+◌, ◌-◌, ◌*◌, ◌/◌, ◌%◌, ◌^◌, ◌<◌, ◌≤◌, Bool, true, false, List, [], ◌∷◌, ◌++◌, length, replicate, get_or}
use Rattle.std.proofs.Common.{set, refl, sym, ap, ◌∙◌, subst, inl, inr, arith, true≢false}
use Rattle.std.specs.Prelude.{fold}
use Rattle.std.proofs.lemmas.Bool.{cases_eq}
use Rattle.std.proofs.lemmas.Bool.Decides.{nat_tests}
use Rattle.std.proofs.lemmas.Nat.{div_below, pow_pos, pow-add, div-mul-add, mod-mul-add}
use Rattle.std.proofs.lemmas.List.{length-replicate, get_or-replicate}
use Rattle.lert_runs.specs.RunText.{run_text, count_in, pairs_plus}
use Rattle.lert_spec.specs.Table.{costs, count_of, total, plus, AscendsFrom}
use Rattle.lert_spec.specs.declared.piece.Piece.{Piece}
use Rattle.lert_spec.proofs.CostLaws.{cost_one, costs-plus, costs_from}
use Rattle.lert_spec.proofs.Tables.{AscendsFrom-plus, total-plus}
use Rattle.lert_cqf.specs.Cells.{cells}
use Rattle.lert_cqf.specs.Layout.{by_quotient, texts, homes_from, slot_count}
use Rattle.lert_cqf.specs.Around.{HomesAscend, IsAround, total_length}
use Rattle.lert_cqf.specs.Growing.{Stand, IsGrowing, IsBeginning}
use Rattle.lert_cqf.specs.Contents.{IsKept, IsPutting, HaveLimits, built}
use Rattle.lert_cqf.proofs.BegunLemmas.{StandsAt, stands_at}
use Rattle.lert_cqf.proofs.GrowingLemmas.{length_text-positive, RunBounds}
use Rattle.lert_cqf.proofs.QuotientLemmas.{Runs, RunsAscend, runs_plus, count_runs, by_quotient-ascends, by_quotient-plus, count_by_quotient}
use Rattle.lert_cqf.proofs.SlotsLemmas.{total_slots}
use Rattle.lert_cqf.proofs.SplitLemmas.{runs_homes, Holds, Lacks, find_quotient, texts-split, texts-append, around_texts, length_homes, home_holds, home_lacks, home_set, homes_alike}

pub count_le : (ps : List Piece) (tail : ℕ) → count_of ps tail ≤ total ps
count_le [] tail = omega arith
count_le (p ∷ ps) tail =
    elim (cases_eq p.tail tail) [
      | inl same ↦ (let e : count_of (p ∷ ps) tail ≡ p.count = grind (arith, nat_tests) in omega arith)
      | inr other ↦ (let e : count_of (p ∷ ps) tail ≡ count_of ps tail = grind (arith, nat_tests) in let h = count_le ps tail in omega arith)
    ]

zero_div : (width : ℕ) → 0 / 2 ^ width ≡ 0
zero_div width = let e : 0 * 2 ^ width + 0 ≡ 0 = omega arith in ap (λ k. k / 2 ^ width) (sym e) ∙ div-mul-add 0 (2 ^ width) 0 (pow_pos width)

zero_mod : (width : ℕ) → 0 % 2 ^ width ≡ 0
zero_mod width = let e : 0 * 2 ^ width + 0 ≡ 0 = omega arith in ap (λ k. k % 2 ^ width) (sym e) ∙ mod-mul-add 0 (2 ^ width) 0 (pow_pos width)

minus_zero : (n : ℕ) → n ≡ n - 0
minus_zero n = omega arith

pub no_cells : {C : Type 0} (z : C) (n : ℕ) → replicate n z ≡ cells z n []
no_cells z n = ap (λ k. replicate k z) (let e : n ≡ n - 0 = omega arith in e)

module _ (pieces : List Piece) (quotient_bits width adds room : ℕ) (slots : List ℕ) (occupied ends used : List Bool) (spill : List ℕ)
    (k : IsKept pieces quotient_bits width adds room slots occupied ends used spill) where
  abbrev pub homes : ℕ
  homes = 2 ^ quotient_bits

  abbrev pub places : ℕ
  places = slot_count quotient_bits room

  abbrev pub runs : Runs
  runs = by_quotient width pieces

  pub adds_few : adds ≤ 2 ^ 39
  adds_few = omega (arith, k.in_room, (k.limits).most_room)

  pub no_more : total pieces ≤ 255 * adds
  no_more = omega (arith, costs_from 2 pieces, k.cheap)

  pub few_more : total pieces ≤ 2 ^ 47
  few_more = omega (arith, no_more, adds_few)

  pub runs_ascend : RunsAscend homes 0 0 runs
  runs_ascend =
      subst (λ a. RunsAscend homes a 0 runs) (zero_div width)
      (subst (λ b. RunsAscend homes (0 / 2 ^ width) b runs) (zero_mod width) (by_quotient-ascends width homes 0 pieces k.ascend few_more))

  pub homes_ascend : HomesAscend 0 homes runs
  homes_ascend = runs_homes homes 0 0 runs runs_ascend

  pub occupied_long : length occupied ≡ homes
  occupied_long = ap (λ (t : List Bool). length t) k.occupied_is ∙ length_homes homes 0 runs homes_ascend ∙ (let e : homes - 0 ≡ homes = omega arith in e)

  pub home_below : (tail : ℕ) → tail < 2 ^ (quotient_bits + width) → tail / 2 ^ width < homes
  home_below tail below = div_below tail (2 ^ width) homes (pow_pos width) (let e = pow-add 2 quotient_bits width in omega arith)

  -- what the occupied row tells
  pub lacked : (q : ℕ) → q < homes → Lacks homes q runs → get_or occupied q false ≡ false
  lacked q within l =
      ap (λ (t : List Bool). get_or t q false) (k.occupied_is ∙ ap (homes_from homes 0) l.split)
      ∙ ap (λ i. get_or (homes_from homes 0 (l.before ++ l.after)) i false) (minus_zero q)
      ∙ home_lacks homes 0 q l.before l.after (omega arith) within (subst (λ (t : Runs). HomesAscend 0 homes t) l.split homes_ascend) l.below l.above

  pub was_held : (q : ℕ) → Holds homes q runs → get_or occupied q false ≡ true
  was_held q h =
      ap (λ (t : List Bool). get_or t q false) (k.occupied_is ∙ ap (homes_from homes 0) h.split)
      ∙ ap (λ i. get_or (homes_from homes 0 (h.before ++ (q, h.pairs) ∷ h.after)) i false) (minus_zero q)
      ∙ home_holds homes 0 q h.before h.pairs h.after (omega arith) (subst (λ (t : Runs). HomesAscend 0 homes t) h.split homes_ascend) h.below

  pub held : (q : ℕ) → q < homes → get_or occupied q false ≡ true → Holds homes q runs
  held q within is = elim (find_quotient homes 0 0 q runs runs_ascend) [
    | inl h ↦ h
    | inr l ↦ absurd (true≢false (sym is ∙ lacked q within l))
  ]

  pub not_held : (q : ℕ) → get_or occupied q false ≡ false → Lacks homes q runs
  not_held q is = elim (find_quotient homes 0 0 q runs runs_ascend) [
    | inl h ↦ absurd (true≢false (sym (was_held q h) ∙ is))
    | inr l ↦ l
  ]

  pub beyond : (q : ℕ) → homes ≤ q → Lacks homes q runs
  beyond q out = elim (find_quotient homes 0 0 q runs runs_ascend) [
    | inl h ↦ absurd (let w = h.within in omega arith)
    | inr l ↦ l
  ]

  pub count_is : (tail : ℕ) → count_of pieces tail ≡ count_runs runs (tail / 2 ^ width) (tail % 2 ^ width)
  count_is tail = count_by_quotient width homes 0 pieces tail k.ascend few_more

  pub homes_fit : homes ≤ places
  homes_fit = omega arith

  -- a run that is there
  module _ (q : ℕ) (h : Holds homes q runs) where
    pub hold_split : texts width runs ≡ texts width h.before ++ (q, run_text width h.pairs) ∷ texts width h.after
    hold_split = ap (texts width) h.split ∙ texts-split width q h.before h.pairs h.after

    pub hold_around : IsAround places homes q (texts width h.before) (texts width h.after)
    hold_around = around_texts width places homes q h.before h.after h.below h.above h.within homes_fit

    pub hold_stand : Stand places homes (texts width h.before ++ (q, run_text width h.pairs) ∷ texts width h.after) slots ends used spill
    hold_stand = subst (λ (t : List (ℕ × List ℕ)). Stand places homes t slots ends used spill) hold_split k.stand

    pub hold_some : 0 < length (run_text width h.pairs)
    hold_some = length_text-positive width 0 h.pairs h.some h.ascend

    pub hold_at : StandsAt q (q + get_or spill q 0) (q + 1 + get_or spill (q + 1) 0) (run_text width h.pairs) slots (texts width h.before)
    hold_at = stands_at places homes q (run_text width h.pairs) (texts width h.before) (texts width h.after) slots ends used spill hold_around hold_some hold_stand.spread

    pub hold_bounds : RunBounds q (run_text width h.pairs) slots spill
    hold_bounds =
        let at = hold_at in
        let start = at.start_is in
        let end = at.end_is in
        let within = at.within in
        let some = hold_some in
        let lengths = hold_stand.lengths in
        let slots_long = lengths.slots_long in
        let short = lengths.short in
        record {
          within = (let l = lengths.spill_long in let w = h.within in omega arith);
          order = omega arith;
          end = within;
          joined = omega arith;
          short = omega arith;
          slice = at.text;
        }

  -- how often a tail occurs
  pub count_absent : (tail q : ℕ) → q ≡ tail / 2 ^ width → Lacks homes q runs → 0 ≡ count_of pieces tail
  count_absent tail q is l = sym (count_is tail ∙ ap (λ i. count_runs runs i (tail % 2 ^ width)) (sym is) ∙ l.count (tail % 2 ^ width))

  pub count_present : (tail q x : ℕ) → q ≡ tail / 2 ^ width → x ≡ tail % 2 ^ width → (h : Holds homes q runs) → count_in h.pairs x ≡ count_of pieces tail
  count_present tail q x q_is x_is h =
      sym (count_is tail ∙ ap (λ i. count_runs runs i (tail % 2 ^ width)) (sym q_is) ∙ ap (λ y. count_runs runs q y) (sym x_is) ∙ h.count x)

  -- one more piece
  module _ (tail n home rest : ℕ) (p : IsPutting adds quotient_bits width room tail n home rest) where
    pub whole : tail < homes * 2 ^ width
    whole = let e = pow-add 2 quotient_bits width in let b = p.below in omega arith

    pub put_within : home < homes
    put_within = let b = home_below tail p.below in let h = p.home_is in omega arith

    pub next : by_quotient width (plus pieces tail n) ≡ runs_plus runs home rest n
    next =
        by_quotient-plus width homes 0 pieces tail n k.ascend few_more
        ∙ ap (λ q. runs_plus runs q (tail % 2 ^ width) n) (sym p.home_is) ∙ ap (λ y. runs_plus runs home y n) (sym p.rest_is)

    pub count_now : count_of pieces tail ≡ count_runs runs home rest
    count_now = count_is tail ∙ ap (λ q. count_runs runs q (tail % 2 ^ width)) (sym p.home_is) ∙ ap (λ y. count_runs runs home y) (sym p.rest_is)

    pub next_ascends : AscendsFrom 0 (2 ^ quotient_bits * 2 ^ width) (plus pieces tail n)
    next_ascends = AscendsFrom-plus 0 (2 ^ quotient_bits * 2 ^ width) pieces tail n (omega arith) whole p.positive k.ascend

    next_cheap : costs 2 (plus pieces tail n) ≤ adds + 1
    next_cheap = omega (arith, costs-plus 2 pieces tail n, cost_one 2 n p.positive p.few refl, k.cheap)

    pub next_fits : (ts : List (ℕ × List ℕ)) → texts width (by_quotient width (plus pieces tail n)) ≡ ts → homes + total_length ts ≤ places
    next_fits ts e =
        let few = total_slots width homes 0 (2 ^ quotient_bits * 2 ^ width) (plus pieces tail n) ((k.limits).least_width) next_ascends in
        subst (λ (t : List (ℕ × List ℕ)). homes + total_length t ≤ places) e (omega (arith, few, next_cheap, p.fits))

    -- the new table is kept by rows that stand for its runs
    pub next_kept : (slots' : List ℕ) (occupied' ends' used' : List Bool) (spill' : List ℕ) (rs : Runs) → runs_plus runs home rest n ≡ rs
        → Stand places homes (texts width rs) slots' ends' used' spill' → occupied' ≡ homes_from homes 0 rs
        → IsKept (plus pieces tail n) quotient_bits width (adds + 1) room slots' occupied' ends' used' spill'
    next_kept slots' occupied' ends' used' spill' rs is stand homes_is =
        record {
          limits = k.limits;
          ascend = next_ascends;
          narrow = AscendsFrom-plus 0 (2 ^ 64) pieces tail n (omega arith) p.word p.positive k.narrow;
          cheap = next_cheap;
          some = omega (arith, total-plus pieces tail n, k.some, p.positive);
          in_room = omega (arith, p.fits);
          stand = subst (λ (t : Runs). Stand places homes (texts width t) slots' ends' used' spill') (sym (next ∙ is)) stand;
          occupied_is = homes_is ∙ ap (homes_from homes 0) (sym (next ∙ is));
        }

    pub count_fits : count_of pieces tail + n ≤ 2 ^ 47
    count_fits = omega (arith, count_le pieces tail, no_more, p.few, p.fits, (k.limits).most_room)

    abbrev pub growing : Holds homes home runs → IsGrowing places homes width home rest n slots ends used spill
    growing h = record {
      before = texts width h.before;
      pairs = h.pairs;
      after = texts width h.after;
      around = hold_around home h;
      stand = hold_stand home h;
      ascend = h.ascend;
      some = h.some;
      fits = (let c = count_now in let i = h.count rest in let f = count_fits in omega arith);
      room = next_fits (texts width h.before ++ (home, run_text width (pairs_plus h.pairs rest n)) ∷ texts width h.after)
          (ap (texts width) (next ∙ h.plus rest n) ∙ texts-split width home h.before (pairs_plus h.pairs rest n) h.after);
    }

    abbrev pub beginning : Lacks homes home runs → IsBeginning places homes width home rest n slots ends used spill
    beginning l = record {
      before = texts width l.before;
      after = texts width l.after;
      around = around_texts width places homes home l.before l.after l.below l.above put_within homes_fit;
      stand = subst (λ (t : List (ℕ × List ℕ)). Stand places homes t slots ends used spill) (ap (texts width) l.split ∙ texts-append width l.before l.after) k.stand;
      fits = (p.positive, let f = count_fits in omega arith);
      room = next_fits (texts width l.before ++ (home, run_text width ((rest, n) ∷ [])) ∷ texts width l.after)
          (ap (texts width) (next ∙ l.plus rest n) ∙ texts-split width home l.before ((rest, n) ∷ []) l.after);
    }

    pub kept_grown : (h : Holds homes home runs) (slots' : List ℕ) (occupied' ends' used' : List Bool) (spill' : List ℕ)
        → Stand places homes (texts width h.before ++ (home, run_text width (pairs_plus h.pairs rest n)) ∷ texts width h.after) slots' ends' used' spill' → occupied' ≡ occupied
        → IsKept (plus pieces tail n) quotient_bits width (adds + 1) room slots' occupied' ends' used' spill'
    kept_grown h slots' occupied' ends' used' spill' stand same =
        next_kept slots' occupied' ends' used' spill' (h.before ++ (home, pairs_plus h.pairs rest n) ∷ h.after) (h.plus rest n)
        (subst (λ (t : List (ℕ × List ℕ)). Stand places homes t slots' ends' used' spill') (sym (texts-split width home h.before (pairs_plus h.pairs rest n) h.after)) stand)
        (same ∙ k.occupied_is ∙ ap (homes_from homes 0) h.split ∙ homes_alike homes 0 home h.before h.pairs (pairs_plus h.pairs rest n) h.after)

    pub kept_begun : (l : Lacks homes home runs) (slots' : List ℕ) (occupied' ends' used' : List Bool) (spill' : List ℕ)
        → Stand places homes (texts width l.before ++ (home, run_text width ((rest, n) ∷ [])) ∷ texts width l.after) slots' ends' used' spill' → occupied' ≡ set occupied home true
        → IsKept (plus pieces tail n) quotient_bits width (adds + 1) room slots' occupied' ends' used' spill'
    kept_begun l slots' occupied' ends' used' spill' stand now =
        next_kept slots' occupied' ends' used' spill' (l.before ++ (home, (rest, n) ∷ []) ∷ l.after) (l.plus rest n)
        (subst (λ (t : List (ℕ × List ℕ)). Stand places homes t slots' ends' used' spill') (sym (texts-split width home l.before ((rest, n) ∷ []) l.after)) stand)
        (now ∙ ap (λ (t : List Bool). set t home true) (k.occupied_is ∙ ap (homes_from homes 0) l.split)
        ∙ ap (λ i. set (homes_from homes 0 (l.before ++ l.after)) i true) (minus_zero home)
        ∙ home_set homes 0 home l.before ((rest, n) ∷ []) l.after (omega arith) put_within (subst (λ (t : Runs). HomesAscend 0 homes t) l.split homes_ascend) l.below l.above)

-- one more add
pub built_more : (adds : List Piece) (tail n : ℕ) → built (adds ++ record { tail = tail; count = n } ∷ []) ≡ plus (built adds) tail n
built_more adds tail n = go [] adds
  where
    go : (table : List Piece) (adds : List Piece) → fold (λ (t : List Piece) (p : Piece). plus t p.tail p.count) table (adds ++ record { tail = tail; count = n } ∷ [])
        ≡ plus (fold (λ (t : List Piece) (p : Piece). plus t p.tail p.count) table adds) tail n
    go table [] = refl
    go table (a ∷ adds) = go (plus table a.tail a.count) adds

-- the rows of no pieces
pub kept_empty : (pieces : List Piece) (quotient_bits width adds room : ℕ) (slots : List ℕ) (occupied ends used : List Bool) (spill : List ℕ) →
    IsKept pieces quotient_bits width adds room slots occupied ends used spill
    → (slots' : List ℕ) (occupied' ends' used' : List Bool) (spill' : List ℕ) → slots' ≡ replicate (length slots) 0 → occupied' ≡ replicate (length occupied) false
    → ends' ≡ replicate (length ends) false → used' ≡ replicate (length used) false → spill' ≡ replicate (length spill) 0
    → IsKept [] quotient_bits width 0 room slots' occupied' ends' used' spill'
kept_empty pieces quotient_bits width adds room slots occupied ends used spill k slots' occupied' ends' used' spill' s o e u p =
    let lengths = (k.stand).lengths in
    record {
      limits = k.limits;
      ascend = tt;
      narrow = tt;
      cheap = omega arith;
      some = omega arith;
      in_room = omega arith;
      stand = record {
        spread = record {
          slots_are = s ∙ ap (λ n. replicate n 0) lengths.slots_long ∙ no_cells 0 (slot_count quotient_bits room);
          ends_are = e ∙ ap (λ n. replicate n false) lengths.ends_long ∙ no_cells false (slot_count quotient_bits room);
          used_are = u ∙ ap (λ n. replicate n false) lengths.used_long ∙ no_cells false (slot_count quotient_bits room);
          spill_long = ap (λ (t : List ℕ). length t) p ∙ length-replicate (length spill) 0 ∙ lengths.spill_long;
          spill_is = λ g h. ap (λ (t : List ℕ). get_or t g 0) p ∙ get_or-replicate (length spill) g 0 0 (let l = lengths.spill_long in omega arith)
              ∙ (let z : 0 ≡ 0 - g = omega arith in z);
        };
        lengths = record {
          slots_long = ap (λ (t : List ℕ). length t) s ∙ length-replicate (length slots) 0 ∙ lengths.slots_long;
          ends_long = ap (λ (t : List Bool). length t) e ∙ length-replicate (length ends) false ∙ lengths.ends_long;
          used_long = ap (λ (t : List Bool). length t) u ∙ length-replicate (length used) false ∙ lengths.used_long;
          spill_long = ap (λ (t : List ℕ). length t) p ∙ length-replicate (length spill) 0 ∙ lengths.spill_long;
          short = lengths.short;
        };
      };
      occupied_is = o ∙ ap (λ n. replicate n false) (occupied_long pieces quotient_bits width adds room slots occupied ends used spill k
          ∙ (let z : 2 ^ quotient_bits ≡ 2 ^ quotient_bits - 0 = omega arith in z));
    }

pub kept_none : (quotient_bits width room homes n : ℕ) (slots : List ℕ) (occupied ends used : List Bool) (spill : List ℕ) → HaveLimits quotient_bits width room →
    homes ≡ 2 ^ quotient_bits → n ≡ slot_count quotient_bits room → n + 1 < 2 ^ 32 → slots ≡ replicate n 0 → occupied ≡ replicate homes false →
    ends ≡ replicate n false → used ≡ replicate n false → spill ≡ replicate (homes + 1) 0 → IsKept [] quotient_bits width 0 room slots occupied ends used spill
kept_none quotient_bits width room homes n slots occupied ends used spill limits homes_are slots_are short s o e u p =
    let spill_long : length spill ≡ 2 ^ quotient_bits + 1 = ap (λ (t : List ℕ). length t) p ∙ length-replicate (homes + 1) 0 ∙ ap (λ k. k + 1) homes_are in
    record {
      limits = limits;
      ascend = tt;
      narrow = tt;
      cheap = omega arith;
      some = omega arith;
      in_room = omega arith;
      stand = record {
        spread = record {
          slots_are = s ∙ ap (λ k. replicate k 0) slots_are ∙ no_cells 0 (slot_count quotient_bits room);
          ends_are = e ∙ ap (λ k. replicate k false) slots_are ∙ no_cells false (slot_count quotient_bits room);
          used_are = u ∙ ap (λ k. replicate k false) slots_are ∙ no_cells false (slot_count quotient_bits room);
          spill_long = spill_long;
          spill_is = λ g h. ap (λ (t : List ℕ). get_or t g 0) p ∙ get_or-replicate (homes + 1) g 0 0 (omega (arith, h, homes_are))
              ∙ (let z : 0 ≡ 0 - g = omega arith in z);
        };
        lengths = record {
          slots_long = ap (λ (t : List ℕ). length t) s ∙ length-replicate n 0 ∙ slots_are;
          ends_long = ap (λ (t : List Bool). length t) e ∙ length-replicate n false ∙ slots_are;
          used_long = ap (λ (t : List Bool). length t) u ∙ length-replicate n false ∙ slots_are;
          spill_long = spill_long;
          short = omega (arith, slots_are, short);
        };
      };
      occupied_is = o ∙ ap (λ k. replicate k false) (homes_are ∙ (let z : 2 ^ quotient_bits ≡ 2 ^ quotient_bits - 0 = omega arith in z));
    }
