-- What the records of a log that keep the rules say together.
use Rattle.std.proofs.{Common.{ℕ, suc, ◌≡◌, ◌+◌, ◌≤◌, false, cond, List, [], ◌∷◌, ◌++◌, refl, ap, sym, ◌∙◌, subst, arith, append_assoc}, Math.Nat.le-mul_of_pos_right, lemmas.Bool.true≢false}
use Rattle.std.proofs.{lemmas.List.append-nil, lemmas.List.Elements.{All-append, All-cons, All-head, All-tail}, lemmas.List.Kept.AllPairs-cons}
use Rattle.std.specs.{Prelude.All, List.AllPairs}
use Rattle.lert_spec.specs.{declared.numbers.Numbers.Numbers, declared.report.Report.Report, Edges.capacity, Limits.IsValid, Mix.cone_of}
use Rattle.lert_reports.specs.{declared.log.LogBefore.LogBefore, declared.log.LogKind.LogKind, Log.{is_closed, is_closing, is_flush, flushes_in, last_at, last_n0, listed_in, before_of, AreRecords}}
use Rattle.lert_reports.specs.{LogRules.{KeepsRules, IsInTurn}, LogText.{LogRecord, next_flush}}
use Rattle.lert_reports.proofs.LogLaws.{listed_in-push, last_n0-push, is_closed-push, flushes_in-push, last_at_from, last_at-append}
use Rattle.lert_files.specs.Read.{AreReportsUpTo}

-- ---- record by record

module _ (s : Numbers) (cone : ℕ) (P : List LogRecord → Type 0) (more : (front : List LogRecord) (one : LogRecord) → KeepsRules s cone (before_of front) one →
    is_closed front ≡ false → P front → P (front ++ one ∷ [])) where
  from_here : (front rest : List LogRecord) → P front → AreRecords s cone (front ++ rest) → P (front ++ rest)
  from_here front [] here are = subst P (sym (append-nil front)) here
  from_here front (one ∷ rest) here are =
      let grouped = append_assoc front (one ∷ []) rest in
      subst P grouped
      (from_here (front ++ one ∷ []) rest (more front one (are.each front rest one refl) (are.open_before front rest one refl) here)
      (subst (AreRecords s cone) (sym grouped) are))

  -- what holds of no record, and of one more where it held before, holds of all
  pub walk : P [] → (records : List LogRecord) → AreRecords s cone records → P records
  walk none records are = from_here [] records none are

-- ---- positions that don't fall

pairs_append : {A : Type 0} (R : A → A → Type 0) (xs ys : List A) → AllPairs R xs → AllPairs R ys → All (λ x. All (R x) ys) xs → AllPairs R (xs ++ ys)
pairs_append R [] ys first second across = second
pairs_append R (x ∷ xs) ys first second across =
    AllPairs-cons R x (xs ++ ys)
    (All-append (R x) xs ys (λ j d below. first 0 (suc j) d (omega arith) (omega (arith, below))) (All-head (λ z. All (R z) ys) x xs across))
    (pairs_append R xs ys (λ i j d less below. first (suc i) (suc j) d (omega (arith, less)) (omega (arith, below))) second (All-tail (λ z. All (R z) ys) x xs across))

-- of positions that don't fall the last one is the greatest
record AreUpTo (least : ℕ) (reports : List Report) : Type 0 where
  no_less : least ≤ last_at_from least reports
  most : All (λ report. report.at ≤ last_at_from least reports) reports

rising : (least : ℕ) (reports : List Report) → AllPairs (λ one other. one.at ≤ other.at) reports → All (λ report. least ≤ report.at) reports → AreUpTo least reports
rising least [] ascending behind = record { no_less = omega arith; most = λ k d below. absurd (omega (arith, below)) }
rising least (report ∷ reports) ascending behind =
    let first : least ≤ report.at = All-head (λ (r : Report). least ≤ r.at) report reports behind in
    let rest = rising report.at reports (λ i j d less below. ascending (suc i) (suc j) d (omega (arith, less)) (omega (arith, below)))
    (λ j d below. ascending 0 (suc j) d (omega arith) (omega (arith, below))) in
    record {
      no_less = omega (arith, first, rest.no_less);
      most = All-cons (λ (r : Report). r.at ≤ last_at_from report.at reports) report reports rest.no_less rest.most;
    }

-- ---- what records say together

module _ (s : Numbers) (cone : ℕ) (valid : IsValid s) where
  pub record Together (records : List LogRecord) : Type 0 where
    pub of_cone : All (λ report. cone_of s report.key ≡ cone) (listed_in records)
    pub placed : All (λ report. (1 ≤ report.at) × (report.at ≤ last_n0 records)) (listed_in records)
    pub ascending : AllPairs (λ one other. one.at ≤ other.at) (listed_in records)
    pub most : All (λ report. report.at ≤ last_at (listed_in records)) (listed_in records)
    pub before_next : is_closed records ≡ false → last_n0 records ≤ next_flush s (flushes_in records)
    pub few : flushes_in records ≤ capacity s

  grows : (before : LogBefore) (kind : LogKind) (n0 : ℕ) → IsInTurn s before kind n0 → before.n0 ≤ next_flush s before.flushes → before.n0 ≤ n0
  grows before LogKind.Flush n0 turn early = omega (arith, turn, early)
  grows before LogKind.Closing n0 turn early = turn.0

  next_later : (flushes : ℕ) → next_flush s flushes ≤ next_flush s (flushes + 1)
  next_later flushes = omega arith

  before_next_more : (before : LogBefore) (kind : LogKind) (n0 : ℕ) → IsInTurn s before kind n0 → is_closing kind ≡ false →
      n0 ≤ next_flush s (before.flushes + cond (is_flush kind) 1 0)
  before_next_more before LogKind.Flush n0 turn flush = omega (arith, turn, next_later before.flushes)
  before_next_more before LogKind.Closing n0 turn flush = absurd (true≢false flush)

  few_more : (before : LogBefore) (kind : LogKind) (n0 : ℕ) → IsInTurn s before kind n0 → n0 ≤ capacity s → before.flushes ≤ capacity s →
      before.flushes + cond (is_flush kind) 1 0 ≤ capacity s
  few_more before LogKind.Flush n0 turn within few =
      let product = le-mul_of_pos_right {m = s.base} (s.bins + before.flushes) (omega (arith, valid.limits.base_from)) in
      omega (arith, turn, within, product, valid.limits.bins_from)
  few_more before LogKind.Closing n0 turn within few = omega (arith, few)

  together_more : (front : List LogRecord) (one : LogRecord) → KeepsRules s cone (before_of front) one → is_closed front ≡ false → Together front → Together (front ++ one ∷ [])
  together_more front one keeps still_open are =
      let before = before_of front in
      let listed_is = listed_in-push front one in
      let n0_is = last_n0-push front one in
      let kind_is = is_closed-push front one in
      let flushes_are = flushes_in-push front one in
      let later = grows before one.kind one.n0 keeps.in_turn (are.before_next still_open) in
      let behind : All (λ report. before.at ≤ report.at) one.reports = λ k d below. (keeps.reports.placed k d below).1 in
      let up = rising before.at one.reports keeps.reports.ascending behind in
      let last_is = ap last_at listed_is ∙ last_at-append (listed_in front) one.reports in
      record {
        of_cone = subst (All (λ (report : Report). cone_of s report.key ≡ cone)) (sym listed_is)
            (All-append (λ (report : Report). cone_of s report.key ≡ cone) (listed_in front) one.reports are.of_cone keeps.reports.of_cone);
        placed = subst (All (λ (report : Report). (1 ≤ report.at) × (report.at ≤ last_n0 (front ++ one ∷ [])))) (sym listed_is)
            (All-append (λ (report : Report). (1 ≤ report.at) × (report.at ≤ last_n0 (front ++ one ∷ []))) (listed_in front) one.reports
            (λ k d below. let at = are.placed k d below in (at.0, omega (arith, at.1, later, n0_is)))
            (λ k d below. let at = keeps.reports.placed k d below in (at.0, omega (arith, at.2, n0_is))));
        ascending = subst (AllPairs (λ (r t : Report). r.at ≤ t.at)) (sym listed_is)
            (pairs_append (λ (r t : Report). r.at ≤ t.at) (listed_in front) one.reports are.ascending keeps.reports.ascending
            (λ k d below j e within. omega (arith, are.most k d below, behind j e within)));
        most = subst (All (λ (report : Report). report.at ≤ last_at (listed_in (front ++ one ∷ [])))) (sym listed_is)
            (All-append (λ (report : Report). report.at ≤ last_at (listed_in (front ++ one ∷ []))) (listed_in front) one.reports
            (λ k d below. omega (arith, are.most k d below, up.no_less, last_is))
            (λ k d below. omega (arith, up.most k d below, last_is)));
        before_next = λ flush.
            let n = before_next_more before one.kind one.n0 keeps.in_turn (sym kind_is ∙ flush) in
            omega (arith, n0_is, subst (λ m. one.n0 ≤ next_flush s m) (sym flushes_are) n);
        few = omega (arith, flushes_are, few_more before one.kind one.n0 keeps.in_turn keeps.within are.few);
      }

  pub together : (records : List LogRecord) → AreRecords s cone records → Together records
  together records are = walk s cone Together together_more none records are
    where
      none : Together []
      none = record {
        of_cone = λ k d below. absurd (omega (arith, below));
        placed = λ k d below. absurd (omega (arith, below));
        ascending = λ i j d less below. absurd (omega (arith, less, below));
        most = λ k d below. absurd (omega (arith, below));
        before_next = λ flush. omega arith;
        few = omega arith;
      }

  -- the reports of all records
  pub reports_up_to : (records : List LogRecord) → AreRecords s cone records → AreReportsUpTo s cone (last_n0 records) (listed_in records)
  reports_up_to records are =
      let all = together records are in
      record { of_cone = all.of_cone; placed = all.placed; ascending = all.ascending; once = are.once }
