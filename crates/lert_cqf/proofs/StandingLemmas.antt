-- Where a cursor stands, and what it gives next.
use Rattle.std.proofs.Common.{◌≡◌, ℕ, suc, zero, ◌+◌, ◌-◌, ◌*◌, ◌/◌, ◌%◌, ◌^◌, ◌<◌, ◌≤◌, Bool, true, false, List, [], ◌∷◌, ◌++◌, length, take}
use Rattle.std.proofs.Common.{drop, get_or, max, refl, sym, ap, ◌∙◌, subst, inl, inr, arith, length-append, append_assoc, true≢false}
use Rattle.std.proofs.lemmas.Bool.{cases_eq, cases_order}
use Rattle.std.proofs.lemmas.Nat.{div-add-mod', mod-mul-add}
use Rattle.std.proofs.lemmas.List.{take_at, drop_at, append-nil, drop-drop, length-drop}
use Rattle.lert_counter.specs.Group.{group, IsCount}
use Rattle.lert_counter.specs.Reading.{Follows}
use Rattle.lert_slotbits.specs.Bits.{IsFirst}
use Rattle.lert_runs.specs.RunText.{run_text, RemaindersAscend}
use Rattle.lert_runs.proofs.RunLemmas.{run_text-append, run_follows}
use Rattle.lert_runs.proofs.WalkLemmas.{ascend_behind}
use Rattle.lert_spec.specs.Table.{AscendsFrom}
use Rattle.lert_spec.proofs.Tables.{length_le-total}
use Rattle.lert_spec.specs.declared.piece.Piece.{Piece}
use Rattle.lert_cqf.specs.Cells.{cells_from, cells, stop}
use Rattle.lert_cqf.specs.Layout.{in_front, by_quotient, texts, homes_from, slot_count}
use Rattle.lert_cqf.specs.Around.{HomesAscend, HomesBelow, IsAround}
use Rattle.lert_cqf.specs.Rows.{IsSpread}
use Rattle.lert_cqf.specs.Contents.{Contents, IsKept}
use Rattle.lert_cqf.specs.Standing.{pieces_at, pieces_of, IsInRun, IsBetween, Stands}
use Rattle.lert_cqf.specs.declared.cursor.CqfCursor.{CqfCursor}
use Rattle.lert_cqf.proofs.GrownLemmas.{front_of, length_front, cells_at}
use Rattle.lert_cqf.proofs.BegunLemmas.{StandsAt, stands_at, text_within}
use Rattle.lert_cqf.proofs.GrowingLemmas.{length_text-positive}
use Rattle.lert_cqf.proofs.QuotientLemmas.{Runs, RunsAscend, front-same, front-none}
use Rattle.lert_cqf.proofs.SplitLemmas.{runs_homes, texts-split, around_texts, home_holds, home_lacks}
use Rattle.lert_cqf.proofs.TableLemmas.{few_more, runs_ascend, homes_ascend, occupied_long}

-- the pieces of the runs are those of the table
pieces_front : (width q : ℕ) (pair : ℕ × ℕ) (rs : Runs) → pieces_of width (in_front q pair rs) ≡ record { tail = q * 2 ^ width + pair.0; count = pair.1 } ∷ pieces_of width rs
pieces_front width q pair [] = refl
pieces_front width q pair (r ∷ rs) =
    elim (cases_eq r.0 q) [
      | inl same ↦ ap (pieces_of width) (front-same q pair r rs same)
          ∙ ap (λ k. record { tail = q * 2 ^ width + pair.0; count = pair.1 } ∷ (pieces_at width k r.1 ++ pieces_of width rs)) (sym same)
      | inr other ↦ ap (pieces_of width) (front-none q pair r rs other)
    ]

pub pieces_are : (width : ℕ) (ps : List Piece) → pieces_of width (by_quotient width ps) ≡ ps
pieces_are width [] = refl
pieces_are width (p ∷ ps) =
    pieces_front width (p.tail / 2 ^ width) (p.tail % 2 ^ width, p.count) (by_quotient width ps)
    ∙ ap (λ (t : List Piece). record { tail = p.tail / 2 ^ width * 2 ^ width + p.tail % 2 ^ width; count = p.count } ∷ t) (pieces_are width ps)
    ∙ ap (λ k. record { tail = k; count = p.count } ∷ ps) (div-add-mod' p.tail (2 ^ width))

-- a run among others that ascend
pub record RunAt (homes : ℕ) (r : ℕ × List (ℕ × ℕ)) (after : Runs) : Type 0 where
  pub ascend : RemaindersAscend 0 r.1
  pub some : 0 < length r.1
  pub above : HomesAscend (r.0 + 1) homes after
  pub within : r.0 < homes

from_zero : (x : ℕ) (ps : List (ℕ × ℕ)) → RemaindersAscend x ps → RemaindersAscend 0 ps
from_zero x [] h = tt
from_zero x (p ∷ ps) h = (omega arith, h.1, h.2)

run_at : (homes q x : ℕ) (before : Runs) (r : ℕ × List (ℕ × ℕ)) (after : Runs) → RunsAscend homes q x (before ++ r ∷ after) → RunAt homes r after
run_at homes q x [] r after h = record {
  ascend = elim (h.0) [ inl a ↦ a.1 | inr a ↦ from_zero x r.1 a.1 ];
  some = h.2;
  above = runs_homes homes (r.0 + 1) 0 after h.3;
  within = h.1;
}
run_at homes q x (b ∷ before) r after h = run_at homes (b.0 + 1) 0 before r after h.3

below_more : (g k : ℕ) (rs : Runs) → g ≤ k → HomesBelow g rs → HomesBelow k rs
below_more g k [] low h = tt
below_more g k (r ∷ rs) low h = (omega (arith, h.0), below_more g k rs low h.1)

below_and : (q : ℕ) (ps : List (ℕ × ℕ)) (rs : Runs) → HomesBelow q rs → HomesBelow (q + 1) (rs ++ (q, ps) ∷ [])
below_and q ps [] h = (omega arith, tt)
below_and q ps (r ∷ rs) h = (omega (arith, h.0), below_and q ps rs h.1)

-- the text of some pairs takes a slot
text_some : (width : ℕ) (done : List (ℕ × ℕ)) (p : ℕ × ℕ) (rest : List (ℕ × ℕ)) → RemaindersAscend 0 (done ++ p ∷ rest) →
    length (run_text width done) < length (run_text width (done ++ p ∷ rest))
text_some width done p rest h =
    let behind = ascend_behind 0 done (p ∷ rest) h in
    let one = length_text-positive width behind.0 (p ∷ rest) (omega arith) behind.1 in
    omega (arith, ap (λ (t : List ℕ). length t) (run_text-append width done (p ∷ rest)), length-append (run_text width done) (run_text width (p ∷ rest)))

-- a piece behind others
tail_below : (least limit g : ℕ) (ps : List Piece) (p : Piece) (qs : List Piece) → AscendsFrom least limit ps → drop g ps ≡ p ∷ qs → p.tail < limit
tail_below least limit zero [] p qs h is = absurd (let e = ap (λ (t : List Piece). length t) is in omega arith)
tail_below least limit zero (r ∷ ps) p qs h is = (let e : r.tail ≡ p.tail = ap (λ (t : List Piece). first_tail t) is in omega (arith, h.1))
  where
    first_tail : List Piece → ℕ
    first_tail [] = 0
    first_tail (p ∷ ps) = p.tail
tail_below least limit (suc g) [] p qs h is = absurd (let e = ap (λ (t : List Piece). length t) is in omega arith)
tail_below least limit (suc g) (r ∷ ps) p qs h is = tail_below (r.tail + 1) limit g ps p qs h.3 is

module _ (pieces : List Piece) (quotient_bits width adds room : ℕ) (slots : List ℕ) (occupied ends used : List Bool) (spill : List ℕ)
    (k : IsKept pieces quotient_bits width adds room slots occupied ends used spill) where
  abbrev pub seen : Contents
  seen = record { pieces = pieces; adds = adds; room = room; quotient_bits = quotient_bits; width = width }

  ascends : RunsAscend (2 ^ quotient_bits) 0 0 (by_quotient width pieces)
  ascends = runs_ascend pieces quotient_bits width adds room slots occupied ends used spill k

  homes_are : HomesAscend 0 (2 ^ quotient_bits) (by_quotient width pieces)
  homes_are = homes_ascend pieces quotient_bits width adds room slots occupied ends used spill k

  pub stands_first : Stands seen (record { next = 0; at = 0; end = 0; given = 0 })
  stands_first = inr (record {
    before = [];
    after = by_quotient width pieces;
    split = refl;
    below = tt;
    above = homes_are;
    next_within = omega arith;
    empty = refl;
    left_is = sym (pieces_are width pieces);
  })

  -- a cursor at the end of its run stands before the next
  pub between : (c : CqfCursor) → Stands seen c → c.end ≤ c.at → IsBetween seen c
  between c (inr b) out = b
  between c (inl i) out = go i.rest i.split i.ascend i.end_is i.left_is
    where
      go : (rest : List (ℕ × ℕ)) → by_quotient width pieces ≡ i.before ++ (i.quotient, i.done ++ rest) ∷ i.after → RemaindersAscend 0 (i.done ++ rest)
          → c.end ≡ max (stop 0 (texts width i.before)) i.quotient + length (run_text width (i.done ++ rest))
          → drop c.given pieces ≡ pieces_at width i.quotient rest ++ pieces_of width i.after → IsBetween seen c
      go [] split ascend end_is left_is = record {
        before = i.before ++ (i.quotient, i.done ++ []) ∷ [];
        after = i.after;
        split = split ∙ sym (append_assoc i.before ((i.quotient, i.done ++ []) ∷ []) i.after);
        below = subst (λ g. HomesBelow g (i.before ++ (i.quotient, i.done ++ []) ∷ [])) (sym i.next_is) (below_and i.quotient (i.done ++ []) i.before i.below);
        above = subst (λ g. HomesAscend g (2 ^ quotient_bits) i.after) (sym i.next_is) i.above;
        next_within = (let n = i.next_is in let w = i.within in omega arith);
        empty = i.at_is ∙ ap (λ (t : List (ℕ × ℕ)). max (stop 0 (texts width i.before)) i.quotient + length (run_text width t)) (sym (append-nil i.done)) ∙ sym end_is;
        left_is = left_is;
      }
      go (p ∷ rest) split ascend end_is left_is = absurd (let more = text_some width i.done p rest ascend in let at = i.at_is in omega arith)

  -- no more runs
  pub none_left : (c : CqfCursor) → IsBetween seen c → ((h : ℕ) → c.next ≤ h → h < length occupied → get_or occupied h false ≡ false) → drop c.given pieces ≡ []
  none_left c b none = go b.after b.split b.above b.left_is
    where
      go : (after : Runs) → by_quotient width pieces ≡ b.before ++ after → HomesAscend c.next (2 ^ quotient_bits) after → drop c.given pieces ≡ pieces_of width after →
          drop c.given pieces ≡ []
      go [] split above left_is = left_is
      go (r ∷ after) split above left_is =
          let long = occupied_long pieces quotient_bits width adds room slots occupied ends used spill k in
          absurd (true≢false (sym (there r after split above) ∙ none r.0 above.0 (omega (arith, above.1))))
        where
          there : (r : ℕ × List (ℕ × ℕ)) (after : Runs) → by_quotient width pieces ≡ b.before ++ r ∷ after → HomesAscend c.next (2 ^ quotient_bits) (r ∷ after) →
              get_or occupied r.0 false ≡ true
          there r after split above =
              ap (λ (t : List Bool). get_or t r.0 false) (k.occupied_is ∙ ap (homes_from (2 ^ quotient_bits) 0) split)
              ∙ ap (λ i. get_or (homes_from (2 ^ quotient_bits) 0 (b.before ++ r ∷ after)) i false) (let e : r.0 ≡ r.0 - 0 = omega arith in e)
              ∙ home_holds (2 ^ quotient_bits) 0 r.0 b.before r.1 after (omega arith) (subst (λ (t : Runs). HomesAscend 0 (2 ^ quotient_bits) t) split homes_are)
              (below_more c.next r.0 b.before above.0 b.below)

  -- the first occupied home is that of the next run
  pub record NextRun (c : CqfCursor) (home : ℕ) : Type 0 where
    pub before : Runs
    pub pairs : List (ℕ × ℕ)
    pub after : Runs
    pub split : by_quotient width pieces ≡ before ++ (home, pairs) ∷ after
    pub below : HomesBelow home before
    pub is : RunAt (2 ^ quotient_bits) (home, pairs) after
    pub left_is : drop c.given pieces ≡ pieces_at width home pairs ++ pieces_of width after

  pub next_run : (c : CqfCursor) (home : ℕ) → IsBetween seen c → IsFirst true occupied c.next home → NextRun c home
  next_run c home b f = go b.after b.split b.above b.left_is
    where
      long : length occupied ≡ 2 ^ quotient_bits
      long = occupied_long pieces quotient_bits width adds room slots occupied ends used spill k

      absent : (after : Runs) → by_quotient width pieces ≡ b.before ++ after → HomesAscend (home + 1) (2 ^ quotient_bits) after → get_or occupied home false ≡ false
      absent after split above =
          ap (λ (t : List Bool). get_or t home false) (k.occupied_is ∙ ap (homes_from (2 ^ quotient_bits) 0) split)
          ∙ ap (λ i. get_or (homes_from (2 ^ quotient_bits) 0 (b.before ++ after)) i false) (let e : home ≡ home - 0 = omega arith in e)
          ∙ home_lacks (2 ^ quotient_bits) 0 home b.before after (omega arith) (let w = f.within in omega (arith, long))
          (subst (λ (t : Runs). HomesAscend 0 (2 ^ quotient_bits) t) split homes_are)
          (below_more c.next home b.before f.behind b.below) above

      there : (r : ℕ × List (ℕ × ℕ)) (after : Runs) → by_quotient width pieces ≡ b.before ++ r ∷ after → c.next ≤ r.0 → get_or occupied r.0 false ≡ true
      there r after split low =
          ap (λ (t : List Bool). get_or t r.0 false) (k.occupied_is ∙ ap (homes_from (2 ^ quotient_bits) 0) split)
          ∙ ap (λ i. get_or (homes_from (2 ^ quotient_bits) 0 (b.before ++ r ∷ after)) i false) (let e : r.0 ≡ r.0 - 0 = omega arith in e)
          ∙ home_holds (2 ^ quotient_bits) 0 r.0 b.before r.1 after (omega arith) (subst (λ (t : Runs). HomesAscend 0 (2 ^ quotient_bits) t) split homes_are)
          (below_more c.next r.0 b.before low b.below)

      go : (after : Runs) → by_quotient width pieces ≡ b.before ++ after → HomesAscend c.next (2 ^ quotient_bits) after → drop c.given pieces ≡ pieces_of width after → NextRun c home
      go [] split above left_is = absurd (true≢false (sym f.found ∙ absent [] split tt))
      go (r ∷ after) split above left_is =
          elim (cases_order r.0 home) [
            | inl same ↦ (let split_here : by_quotient width pieces ≡ b.before ++ (home, r.1) ∷ after = split ∙ ap (λ q. b.before ++ (q, r.1) ∷ after) same in record {
              before = b.before;
              pairs = r.1;
              after = after;
              split = split_here;
              below = below_more c.next home b.before f.behind b.below;
              is = run_at (2 ^ quotient_bits) 0 0 b.before (home, r.1) after (subst (λ (t : Runs). RunsAscend (2 ^ quotient_bits) 0 0 t) split_here ascends);
              left_is = left_is ∙ ap (λ q. pieces_at width q r.1 ++ pieces_of width after) same;
            })
            | inr (inl less) ↦ absurd (f.others r.0 above.0 less (there r after split above.0))
            | inr (inr more) ↦ absurd (true≢false (sym f.found ∙ absent (r ∷ after) split (omega arith, above.1, above.2)))
          ]

  -- where it stands
  module _ (c : CqfCursor) (home : ℕ) (n : NextRun c home) where
    run_around : IsAround (slot_count quotient_bits room) (2 ^ quotient_bits) home (texts width n.before) (texts width n.after)
    run_around = around_texts width (slot_count quotient_bits room) (2 ^ quotient_bits) home n.before n.after n.below (n.is).above (n.is).within (omega arith)

    pub run_long : 0 < length (run_text width n.pairs)
    run_long = length_text-positive width 0 n.pairs (n.is).some (n.is).ascend

    pub run_stands : StandsAt home (home + get_or spill home 0) (home + 1 + get_or spill (home + 1) 0) (run_text width n.pairs) slots (texts width n.before)
    run_stands =
        stands_at (slot_count quotient_bits room) (2 ^ quotient_bits) home (run_text width n.pairs) (texts width n.before) (texts width n.after) slots ends used spill run_around run_long
        (subst (λ (t : List (ℕ × List ℕ)). IsSpread (slot_count quotient_bits room) (2 ^ quotient_bits) t slots ends used spill)
        (ap (texts width) n.split ∙ texts-split width home n.before n.pairs n.after) (k.stand).spread)

    pub entered : (at end : ℕ) → at ≡ home + get_or spill home 0 → end ≡ home + 1 + get_or spill (home + 1) 0
        → IsInRun seen (record { next = home + 1; at = at; end = end; given = c.given }) × (at < end)
    entered at end at_is end_is =
        let s = run_stands in
        let start = s.start_is in
        let stop_is = s.end_is in
        let some = run_long in (
          record {
            before = n.before;
            quotient = home;
            done = [];
            rest = n.pairs;
            after = n.after;
            split = n.split;
            below = n.below;
            above = (n.is).above;
            within = (n.is).within;
            ascend = (n.is).ascend;
            next_is = refl;
            at_is = omega arith;
            end_is = omega arith;
            left_is = n.left_is;
          },
          omega arith,
        )

  -- the next pair of the run that a cursor stands in
  pub record NextPair (c : CqfCursor) (i : IsInRun seen c) : Type 0 where
    pub pair : ℕ × ℕ
    pub back : List (ℕ × ℕ)
    pub rest_is : i.rest ≡ pair ∷ back
    pub counts : IsCount pair.1
    pub follows : Follows pair.0 (run_text width back)
    pub order : c.at ≤ c.end
    pub within : c.end ≤ length slots
    pub text : take (c.end - c.at) (drop c.at slots) ≡ group width pair.0 pair.1 ++ run_text width back
    pub stop_is : c.at + length (group width pair.0 pair.1) ≤ c.end

  pub next_pair : (c : CqfCursor) (i : IsInRun seen c) → c.at < c.end → NextPair c i
  next_pair c i more = go i.rest refl
    where
      start : ℕ
      start = max (stop 0 (texts width i.before)) i.quotient

      go : (rest : List (ℕ × ℕ)) → i.rest ≡ rest → NextPair c i
      go [] is = absurd (
          let at = i.at_is in
          let end = i.end_is ∙ ap (λ (t : List (ℕ × ℕ)). start + length (run_text width (i.done ++ t))) is
          ∙ ap (λ (t : List (ℕ × ℕ)). start + length (run_text width t)) (append-nil i.done) in
          omega arith)
      go (p ∷ back) is =
          let behind = ascend_behind 0 i.done (p ∷ back) (subst (λ (t : List (ℕ × ℕ)). RemaindersAscend 0 (i.done ++ t)) is i.ascend) in
          let rest = run_text width (p ∷ back) in
          let done = run_text width i.done in
          let front = front_of 0 i.quotient (texts width i.before) in
          let n = slot_count quotient_bits room in
          let all : run_text width (i.done ++ i.rest) ≡ done ++ rest = ap (λ (t : List (ℕ × ℕ)). run_text width (i.done ++ t)) is ∙ run_text-append width i.done (p ∷ back) in
          let cells_are : slots ≡ cells 0 n (texts width i.before ++ (i.quotient, done ++ rest) ∷ texts width i.after) =
          ((k.stand).spread).slots_are ∙ ap (λ (t : Runs). cells 0 n (texts width t)) i.split ∙ ap (cells 0 n) (texts-split width i.quotient i.before (i.done ++ i.rest) i.after)
          ∙ ap (λ (t : List ℕ). cells 0 n (texts width i.before ++ (i.quotient, t) ∷ texts width i.after)) all in
          let tail = cells_from 0 n (start + length (done ++ rest)) (texts width i.after) in
          let whole : slots ≡ (front ++ done) ++ (rest ++ tail) =
          cells_are ∙ cells_at 0 n i.quotient (done ++ rest) (texts width i.before) (texts width i.after)
          ∙ ap (λ (t : List ℕ). front ++ t) (append_assoc done rest tail) ∙ sym (append_assoc front done (rest ++ tail)) in
          let front_long = length_front 0 i.quotient (texts width i.before) in
          let both = length-append front done in
          let at = i.at_is in
          let end : c.end ≡ start + length (done ++ rest) = i.end_is ∙ ap (λ (t : List ℕ). start + length t) all in
          let joined = length-append done rest in
          let group_long = length-append (group width p.0 p.1) (run_text width back) in
          record {
            pair = p;
            back = back;
            rest_is = is;
            counts = (behind.1).1;
            follows = run_follows width p.0 back (behind.1).2;
            order = omega arith;
            within = (let w = text_within n i.quotient (done ++ rest) slots (texts width i.before) (texts width i.after) cells_are in omega arith);
            text = ap (λ j. take j (drop c.at slots)) (let e : c.end - c.at ≡ length rest = omega arith in e)
                ∙ ap (λ (t : List ℕ). take (length rest) (drop c.at t)) whole
                ∙ ap (take (length rest)) (drop_at (front ++ done) (rest ++ tail) c.at (omega arith))
                ∙ take_at rest tail (length rest) refl;
            stop_is = omega arith;
          }

  -- and where it stands behind that pair
  module _ (c : CqfCursor) (i : IsInRun seen c) (n : NextPair c i) where
    left_now : drop c.given pieces ≡ record { tail = i.quotient * 2 ^ width + (n.pair).0; count = (n.pair).1 } ∷ (pieces_at width i.quotient n.back ++ pieces_of width i.after)
    left_now = i.left_is ∙ ap (λ (t : List (ℕ × ℕ)). pieces_at width i.quotient t ++ pieces_of width i.after) n.rest_is

    -- its tail is a word, and so is how many were given
    pub tail_word : i.quotient * 2 ^ width + (n.pair).0 < 2 ^ 64
    tail_word = tail_below 0 (2 ^ 64) c.given pieces (record { tail = i.quotient * 2 ^ width + (n.pair).0; count = (n.pair).1 }) (pieces_at width i.quotient n.back ++ pieces_of width i.after)
        k.narrow left_now

    pub given_small : c.given + 1 < 2 ^ 64
    given_small =
        let few = few_more pieces quotient_bits width adds room slots occupied ends used spill k in
        let long = length_le-total 0 (2 ^ 64) pieces k.narrow in
        omega (arith, ap (λ (t : List Piece). length t) left_now, length-drop c.given pieces)

    pub tail_is : (x : ℕ) → x ≡ (n.pair).0 → (c.next - 1) * 2 ^ width % 2 ^ 64 + x ≡ i.quotient * 2 ^ width + (n.pair).0
    tail_is x is =
        let word = tail_word in
        let home : (c.next - 1) * 2 ^ width ≡ i.quotient * 2 ^ width = ap (λ q. q * 2 ^ width) (let e = i.next_is in omega arith) in
        let small : i.quotient * 2 ^ width % 2 ^ 64 ≡ i.quotient * 2 ^ width = (let e : 0 * 2 ^ 64 + i.quotient * 2 ^ width ≡ i.quotient * 2 ^ width = omega arith in
        ap (λ j. j % 2 ^ 64) (sym e) ∙ mod-mul-add 0 (2 ^ 64) (i.quotient * 2 ^ width) (omega arith)) in
        ap (λ j. j % 2 ^ 64 + x) home ∙ ap (λ j. j + x) small ∙ ap (λ j. i.quotient * 2 ^ width + j) is

    left_next : drop (c.given + 1) pieces ≡ pieces_at width i.quotient n.back ++ pieces_of width i.after
    left_next = sym (drop-drop 1 c.given pieces) ∙ ap (drop 1) left_now

    pub pair_given : (tail count : ℕ) → tail ≡ i.quotient * 2 ^ width + (n.pair).0 → count ≡ (n.pair).1 →
        drop c.given pieces ≡ record { tail = tail; count = count } ∷ drop (c.given + 1) pieces
    pair_given tail count tail_is count_is =
        left_now
        ∙ ap (λ (t : List Piece). record { tail = i.quotient * 2 ^ width + (n.pair).0; count = (n.pair).1 } ∷ t) (sym left_next)
        ∙ ap (λ j. record { tail = j; count = (n.pair).1 } ∷ drop (c.given + 1) pieces) (sym tail_is)
        ∙ ap (λ j. record { tail = tail; count = j } ∷ drop (c.given + 1) pieces) (sym count_is)

    pub stands_next : (used : ℕ) → used ≡ length (group width (n.pair).0 (n.pair).1) → Stands seen (record { next = c.next; at = c.at + used; end = c.end; given = c.given + 1 })
    stands_next used used_is =
        let both : i.done ++ i.rest ≡ (i.done ++ n.pair ∷ []) ++ n.back = ap (λ (t : List (ℕ × ℕ)). i.done ++ t) n.rest_is ∙ sym (append_assoc i.done (n.pair ∷ []) n.back) in
        inl (record {
          before = i.before;
          quotient = i.quotient;
          done = i.done ++ n.pair ∷ [];
          rest = n.back;
          after = i.after;
          split = i.split ∙ ap (λ (t : List (ℕ × ℕ)). i.before ++ (i.quotient, t) ∷ i.after) both;
          below = i.below;
          above = i.above;
          within = i.within;
          ascend = subst (RemaindersAscend 0) both i.ascend;
          next_is = i.next_is;
          at_is = (let at = i.at_is in omega (
            arith,
            ap (λ (t : List ℕ). length t) (run_text-append width i.done (n.pair ∷ [])),
            length-append (run_text width i.done) (run_text width (n.pair ∷ [])),
            length-append (group width (n.pair).0 (n.pair).1) [],
          ));
          end_is = i.end_is ∙ ap (λ (t : List (ℕ × ℕ)). max (stop 0 (texts width i.before)) i.quotient + length (run_text width t)) both;
          left_is = left_next;
        })
