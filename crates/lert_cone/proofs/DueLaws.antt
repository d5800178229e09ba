-- What totals bring: the reports of one total more.
use Rattle.std.proofs.Common.{ℕ, ◌≡◌, ◌+◌, ◌^◌, ◌<◌, ◌≤◌, suc, Bool, true, false, cond, eqb, leb, not, ◌&&◌, ◌||◌, List, [], ◌∷◌, ◌++◌, length, map, filter, All, Option, Some, None, refl, ap}
use Rattle.std.proofs.{Common.{sym, ◌∙◌, arith, inl, inr, subst, append_assoc, length-append}, lemmas.Bool.{cases_Bool, cases_eq, eq-eqb, ne_eqb, le-leb, lt-leb, false≢true}, lemmas.List.map-append}
use Rattle.std.proofs.lemmas.List.Elements.{filter-append}
use Rattle.lert_spec.specs.Edges.{key_bits, key_limit, tail_bits}
use Rattle.lert_spec.specs.{declared.numbers.Numbers.Numbers, declared.piece.Piece.Piece, declared.report.Report.Report, Look.is_listed, Mix.{cone_of, tail_of}, Table.{AscendsFrom, IsTable}}
use Rattle.lert_spec.proofs.TailLaws.{key_with, is_due_piece}
use Rattle.lert_cone.specs.Due.{Dues, PassesOver, TookFrom, TookTotals, due_reports, due_key, with_report, with_total}
use Rattle.lert_cone.proofs.KeyLemmas.{key_with_is, other_tail}

-- a table without its last piece is one, and that piece is below its limit
front : (least limit : ℕ) (pieces : List Piece) (p : Piece) → AscendsFrom least limit (pieces ++ p ∷ []) → AscendsFrom least limit pieces × (p.tail < limit)
front least limit [] p up = (tt, up.1)
front least limit (first ∷ pieces) p up =
    let rest = front (first.tail + 1) limit pieces p up.3 in ((up.0, up.1, up.2, rest.0), rest.1)

is_listed-append : (key : ℕ) (reports more : List Report) → is_listed key (reports ++ more) ≡ (is_listed key reports || is_listed key more)
is_listed-append key [] more = refl
is_listed-append key (report ∷ reports) more =
    ap (λ b. eqb report.key key || b) (is_listed-append key reports more) ∙ grouped (eqb report.key key) (is_listed key reports) (is_listed key more)
  where
    grouped : (a b c : Bool) → (a || (b || c)) ≡ ((a || b) || c)
    grouped true b c = refl
    grouped false b c = refl

-- the reports of one piece more
pub due_reports-append : (s : Numbers) (cone : ℕ) (listed : List Report) (at : ℕ) (pieces more : List Piece) → due_reports s cone listed at
    (pieces ++ more) ≡ due_reports s cone listed at pieces ++ due_reports s cone listed at more
due_reports-append s cone listed at pieces more =
    let test : Piece → Bool = is_due_piece s cone s.threshold listed in
    let f : Piece → ℕ = λ p. key_with s cone p.tail in
    let g : ℕ → Report = λ key. record { key = key; at = at } in
    ap (λ ps. map g (map f ps)) (filter-append test pieces more)
    ∙ ap (map g) (map-append f (filter test pieces) (filter test more))
    ∙ map-append g (map f (filter test pieces)) (map f (filter test more))

due-cons_true : (s : Numbers) (cone : ℕ) (listed : List Report) (at : ℕ) (p : Piece) (pieces : List Piece) → is_due_piece s cone s.threshold listed p ≡ true →
    due_reports s cone listed at (p ∷ pieces) ≡ record { key = key_with s cone p.tail; at = at } ∷ due_reports s cone listed at pieces
due-cons_true s cone listed at p pieces due =
    ap (λ t. map (λ k. record { key = k; at = at }) (map (λ (q : Piece). key_with s cone q.tail) (cond t (p ∷ filter (is_due_piece s cone s.threshold listed) pieces) (filter
    (is_due_piece s cone s.threshold listed) pieces)))) due

due-cons_false : (s : Numbers) (cone : ℕ) (listed : List Report) (at : ℕ) (p : Piece) (pieces : List Piece) → is_due_piece s cone s.threshold listed p ≡ false →
    due_reports s cone listed at (p ∷ pieces) ≡ due_reports s cone listed at pieces
due-cons_false s cone listed at p pieces due =
    ap (λ t. map (λ k. record { key = k; at = at }) (map (λ (q : Piece). key_with s cone q.tail) (cond t (p ∷ filter (is_due_piece s cone s.threshold listed) pieces) (filter
    (is_due_piece s cone s.threshold listed) pieces)))) due

module _ (s : Numbers) (cone : ℕ) (bits : s.cone_bits ≤ key_bits s) (named : cone < 2 ^ s.cone_bits) where
  -- a tail's key isn't among the reports of lesser tails
  unlisted : (listed : List Report) (at least tail : ℕ) (pieces : List Piece) → AscendsFrom least (2 ^ tail_bits s) pieces → tail < 2 ^ tail_bits s → All
      (λ piece. piece.tail < tail) pieces →
      is_listed (key_with s cone tail) (due_reports s cone listed at pieces) ≡ false
  unlisted listed at least tail [] up below less = refl
  unlisted listed at least tail (p ∷ pieces) up below less =
      let key = key_with s cone tail in
      let rest = unlisted listed at (p.tail + 1) tail pieces up.3 below (λ k d within. less (suc k) d (omega (arith, within))) in
      elim (cases_Bool (is_due_piece s cone s.threshold listed p)) [
        | inl due ↦ (
            let earlier : p.tail < tail = less 0 p (omega arith) in
            let differs = other_tail s cone bits named tail p.tail below up.1 (λ same. omega arith) in
            ap (is_listed key) (due-cons_true s cone listed at p pieces due)
            ∙ ap (λ t. t || is_listed key (due_reports s cone listed at pieces)) (ne_eqb (key_with s cone p.tail) key differs)
            ∙ rest)
        | inr not_due ↦ ap (is_listed key) (due-cons_false s cone listed at p pieces not_due) ∙ rest
      ]

  -- whether a piece is due doesn't change by the reports of lesser tails
  due_still : (before : List Report) (at : ℕ) (pieces : List Piece) (p : Piece) → IsTable (2 ^ tail_bits s) (pieces ++ p ∷ []) → All (λ piece. piece.tail < p.tail) pieces →
      is_due_piece s cone s.threshold (before ++ due_reports s cone before at pieces) p ≡ is_due_piece s cone s.threshold before p
  due_still before at pieces p table less =
      let parts = front 0 (2 ^ tail_bits s) pieces p table in
      let key = key_with s cone p.tail in
      ap (λ b. leb s.threshold p.count && not b)
      (is_listed-append key before (due_reports s cone before at pieces)
      ∙ ap (λ b. is_listed key before || b) (unlisted before at 0 p.tail pieces parts.0 parts.1 less)
      ∙ or_false (is_listed key before))
    where
      or_false : (b : Bool) → (b || false) ≡ b
      or_false true = refl
      or_false false = refl

-- one total more
module _ (d : Dues) (bits : d.settings.cone_bits ≤ key_bits d.settings) (named : d.cone < 2 ^ d.settings.cone_bits) (pieces : List Piece) (p : Piece) (took : TookTotals d pieces) (less : All
    (λ piece. piece.tail < p.tail) pieces) where
  abbrev all : List Piece
  all = pieces ++ p ∷ []

  abbrev due_of : List Piece → List Report
  due_of ps = due_reports d.settings d.cone d.before d.at ps

  abbrev limit : ℕ
  limit = 2 ^ tail_bits d.settings

  abbrev report : Report
  report = record { key = key_with d.settings d.cone p.tail; at = d.at }

  earlier : IsTable limit all → IsTable limit pieces
  earlier table = (front 0 limit pieces p table).0

  more : due_of all ≡ due_of pieces ++ due_of (p ∷ [])
  more = due_reports-append d.settings d.cone d.before d.at pieces (p ∷ [])

  same_test : d.is_full ≡ false → IsTable limit all → is_due_piece d.settings d.cone d.settings.threshold d.reports p ≡ is_due_piece d.settings d.cone d.settings.threshold d.before p
  same_test room table =
      ap (λ rs. is_due_piece d.settings d.cone d.settings.threshold rs p) (took.reported (earlier table) room)
      ∙ due_still d.settings d.cone bits named d.before d.at pieces p table less

  when_full : d.is_full ≡ true → TookTotals d all
  when_full full = record {
    reported = λ table room. absurd (false≢true (sym room ∙ full));
    too_many = λ table _. omega (
      arith,
      took.too_many (earlier table) full,
      ap (λ rs. length (d.before ++ rs)) more,
      length-append d.before (due_of pieces),
      length-append d.before (due_of pieces ++ due_of (p ∷ [])),
      length-append (due_of pieces) (due_of (p ∷ [])),
    );
  }

  when_not_due : d.is_full ≡ false → is_due_piece d.settings d.cone d.settings.threshold d.reports p ≡ false → TookTotals d all
  when_not_due room not_due = record {
    reported = λ table _.
        let none = due-cons_false d.settings d.cone d.before d.at p [] (sym (same_test room table) ∙ not_due) in
        took.reported (earlier table) room ∙ ap (λ rs. d.before ++ rs) (sym (more ∙ ap (λ rs. due_of pieces ++ rs) none ∙ append_nil (due_of pieces)));
    too_many = λ table full. absurd (false≢true (sym room ∙ full));
  }
    where
      append_nil : (rs : List Report) → rs ++ [] ≡ rs
      append_nil [] = refl
      append_nil (r ∷ rs) = ap (λ xs. r ∷ xs) (append_nil rs)

  module _ (room : d.is_full ≡ false) (due : is_due_piece d.settings d.cone d.settings.threshold d.reports p ≡ true) where
    longer : IsTable limit all → due_of all ≡ due_of pieces ++ report ∷ []
    longer table = more ∙ ap (λ rs. due_of pieces ++ rs) (due-cons_true d.settings d.cone d.before d.at p [] (sym (same_test room table) ∙ due))

    when_no_room : length d.reports ≡ d.settings.room → TookTotals (record d { is_full = true }) all
    when_no_room filled = record {
      reported = λ table still. absurd (false≢true (sym still));
      too_many = λ table _. omega (
        arith,
        filled,
        ap length (took.reported (earlier table) room),
        ap (λ rs. length (d.before ++ rs)) (longer table),
        length-append d.before (due_of pieces),
        length-append d.before (due_of pieces ++ report ∷ []),
        length-append (due_of pieces) (report ∷ []),
      );
    }

    when_reported : TookTotals (record d { reports = d.reports ++ report ∷ [] }) all
    when_reported = record {
      reported = λ table _.
          ap (λ rs. rs ++ report ∷ []) (took.reported (earlier table) room)
          ∙ append_assoc d.before (due_of pieces) (report ∷ [])
          ∙ ap (λ rs. d.before ++ rs) (sym (longer table));
      too_many = λ table full. absurd (false≢true (sym room ∙ full));
    }

  pub took_more : TookTotals (with_total d p) all
  took_more =
      let after : Option ℕ → Dues = λ key. with_report d key in
      let due = due_key d.settings d.cone d.reports p in
      let test = is_due_piece d.settings d.cone d.settings.threshold d.reports p in
      let key = key_with d.settings d.cone p.tail in
      elim (cases_Bool d.is_full) [
        | inl full ↦ subst (λ (v : Dues). TookTotals v all) (sym (ap (λ t. cond t d (with_report d due)) full)) (when_full full)
        | inr room ↦ (
            let behind : with_total d p ≡ with_report d (cond test (Some key) None) = ap (λ t. cond t d (with_report d due)) room in
            elim (cases_Bool test) [
              | inl is_due ↦ (
                  let reported : with_total d p ≡ cond (eqb (length d.reports) d.settings.room) (record d { is_full = true }) (record d { reports = d.reports ++ report ∷ [] }) =
                  behind ∙ ap (λ t. with_report d (cond t (Some key) None)) is_due in
                  elim (cases_eq (length d.reports) d.settings.room) [
                    | inl filled ↦ subst (λ (v : Dues). TookTotals v all)
                        (sym (reported ∙ ap (λ t. cond t (record d { is_full = true }) (record d { reports = d.reports ++ report ∷ [] })) (eq-eqb (length d.reports) d.settings.room filled)))
                        (when_no_room room is_due filled)
                    | inr space ↦ subst (λ (v : Dues). TookTotals v all)
                        (sym (reported ∙ ap (λ t. cond t (record d { is_full = true }) (record d { reports = d.reports ++ report ∷ [] })) (ne_eqb (length d.reports) d.settings.room space)))
                        (when_reported room is_due)
                  ])
              | inr not_due ↦ subst (λ (v : Dues). TookTotals v all) (sym (behind ∙ ap (λ t. with_report d (cond t (Some key) None)) not_due)) (when_not_due room not_due)
            ])
      ]

-- a total changes the reports alone
module _ (d : Dues) (p : Piece) where
  after_report : (start : Dues) (key : Option ℕ) (pieces : List Piece) → (d.settings ≡ start.settings) × (d.cone ≡ start.cone) × (d.before ≡ start.before) × (d.at ≡ start.at) ×
      (length d.before ≤ length d.reports) →
      TookTotals (with_report d key) pieces → TookFrom start (with_report d key) pieces
  after_report start None pieces same took = record { settings_are = same.0; cone_is = same.1; before_is = same.2; at_is = same.3; grows = same.4; took = took }
  after_report start (Some key) pieces same took =
      elim (eqb (length d.reports) d.settings.room) as (λ t. TookTotals (cond t (record d { is_full = true }) (record d { reports = d.reports ++ record { key = key; at = d.at } ∷ [] })) pieces
      →
      TookFrom start (cond t (record d { is_full = true }) (record d { reports = d.reports ++ record { key = key; at = d.at } ∷ [] })) pieces) [
        | true ↦ λ is. record { settings_are = same.0; cone_is = same.1; before_is = same.2; at_is = same.3; grows = same.4; took = is }
        | false ↦ λ is. record {
          settings_are = same.0;
          cone_is = same.1;
          before_is = same.2;
          at_is = same.3;
          grows = omega (arith, same.4, length-append d.reports (record { key = key; at = d.at } ∷ []));
          took = is;
        }
      ] took

  pub from_total : (start : Dues) (pieces : List Piece) → d.settings.cone_bits ≤ key_bits d.settings → d.cone < 2 ^ d.settings.cone_bits → TookFrom start d pieces →
      All (λ piece. piece.tail < p.tail) pieces →
      TookFrom start (with_total d p) (pieces ++ p ∷ [])
  from_total start pieces bits named from less =
      let same : (d.settings ≡ start.settings) × (d.cone ≡ start.cone) × (d.before ≡ start.before) × (d.at ≡ start.at) × (length d.before ≤ length d.reports) =
      (from.settings_are, from.cone_is, from.before_is, from.at_is, from.grows) in
      elim d.is_full as (λ t. TookTotals (cond t d (with_report d (due_key d.settings d.cone d.reports p))) (pieces ++ p ∷ []) →
      TookFrom start (cond t d (with_report d (due_key d.settings d.cone d.reports p))) (pieces ++ p ∷ [])) [
        | true ↦ λ is. record { settings_are = from.settings_are; cone_is = from.cone_is; before_is = from.before_is; at_is = from.at_is; grows = from.grows; took = is }
        | false ↦ λ is. after_report start (due_key d.settings d.cone d.reports p) (pieces ++ p ∷ []) same is
      ] (took_more d bits named pieces p from.took less)

-- a number that is no tail makes no table
pub took_none : (d : Dues) (pieces : List Piece) (p : Piece) → (p.tail < 2 ^ tail_bits d.settings → ⊥) → TookTotals d (pieces ++ p ∷ [])
took_none d pieces p above = record {
  reported = λ table _. absurd (above (front 0 (2 ^ tail_bits d.settings) pieces p table).1);
  too_many = λ table _. absurd (above (front 0 (2 ^ tail_bits d.settings) pieces p table).1);
}

-- the key of a piece that reaches the threshold
module _ (s : Numbers) (cone : ℕ) (listed : List Report) (piece : Piece) where
  abbrev tested : Bool → Option ℕ
  tested t = cond t (Some (key_with s cone piece.tail)) None

  pub due_key-few : piece.count < s.threshold → None ≡ due_key s cone listed piece
  due_key-few few = sym (ap (λ t. tested (t && not (is_listed (key_with s cone piece.tail) listed))) (lt-leb s.threshold piece.count few))

  module _ (bits : s.cone_bits ≤ key_bits s) (named : cone < 2 ^ s.cone_bits) (below : piece.tail < 2 ^ tail_bits s) (key : ℕ)
      (only : (k : ℕ) → k < key_limit s → cone_of s k ≡ cone → tail_of s k ≡ piece.tail → key ≡ k) (enough : s.threshold ≤ piece.count) where
    is_key : key ≡ key_with s cone piece.tail
    is_key = key_with_is s cone bits named piece.tail below key only

    test_is : (there : Bool) → is_listed key listed ≡ there → is_due_piece s cone s.threshold listed piece ≡ not there
    test_is there answer =
        ap (λ t. t && not (is_listed (key_with s cone piece.tail) listed)) (le-leb s.threshold piece.count enough)
        ∙ ap (λ k. not (is_listed k listed)) (sym is_key) ∙ ap not answer

    pub due_key-listed : is_listed key listed ≡ true → None ≡ due_key s cone listed piece
    due_key-listed there = sym (ap tested (test_is true there))

    pub due_key-fresh : is_listed key listed ≡ false → Some key ≡ due_key s cone listed piece
    due_key-fresh fresh = ap Some is_key ∙ sym (ap tested (test_is false fresh))

-- a total that is not due changes nothing
module _ (d : Dues) (piece : Piece) (bits : d.settings.cone_bits ≤ key_bits d.settings) (named : d.cone < 2 ^ d.settings.cone_bits) where
  passes : None ≡ due_key d.settings d.cone d.reports piece → PassesOver d piece
  passes none = λ start pieces from less.
      let same : with_total d piece ≡ d = ap (λ key. cond d.is_full d (with_report d key)) (sym none) ∙ either d.is_full in
      subst (λ (v : Dues). TookFrom start v (pieces ++ piece ∷ [])) same (from_total d piece start pieces bits named from less)
    where
      either : (t : Bool) → cond t d d ≡ d
      either true = refl
      either false = refl

  pub passes_few : piece.count < d.settings.threshold → PassesOver d piece
  passes_few few = passes (due_key-few d.settings d.cone d.reports piece few)

  pub passes_listed : is_listed (key_with d.settings d.cone piece.tail) d.reports ≡ true → PassesOver d piece
  passes_listed there = passes (sym (ap (tested d.settings d.cone d.reports piece) (ap (λ b. leb d.settings.threshold piece.count && not b) there ∙ neither (leb d.settings.threshold piece.count))))
    where
      neither : (t : Bool) → (t && false) ≡ false
      neither true = refl
      neither false = refl

-- one total more: behind one too many, one that isn't due, one too many, and one report more
pub total_full : (d : Dues) (piece : Piece) → d.is_full ≡ true → d ≡ with_total d piece
total_full d piece full = sym (ap (λ t. cond t d (with_report d (due_key d.settings d.cone d.reports piece))) full)

module _ (d : Dues) (piece : Piece) (room : d.is_full ≡ false) where
  reports_it : (found : Option ℕ) → due_key d.settings d.cone d.reports piece ≡ found → with_total d piece ≡ with_report d found
  reports_it found is = ap (λ t. cond t d (with_report d (due_key d.settings d.cone d.reports piece))) room ∙ ap (with_report d) is

  pub total_none : due_key d.settings d.cone d.reports piece ≡ None → d ≡ with_total d piece
  total_none none = sym (reports_it None none)

  module _ (key : ℕ) (is : due_key d.settings d.cone d.reports piece ≡ Some key) where
    abbrev chosen : Bool → Dues
    chosen t = cond t (record d { is_full = true }) (record d { reports = d.reports ++ record { key = key; at = d.at } ∷ [] })

    pub total_over : length d.reports ≡ d.settings.room → record d { is_full = true } ≡ with_total d piece
    total_over over = sym (reports_it (Some key) is ∙ ap chosen (eq-eqb (length d.reports) d.settings.room over))

    pub total_one : (length d.reports ≡ d.settings.room → ⊥) → record d { reports = d.reports ++ record { key = key; at = d.at } ∷ [] } ≡ with_total d piece
    total_one fits = sym (reports_it (Some key) is ∙ ap chosen (ne_eqb (length d.reports) d.settings.room fits))
