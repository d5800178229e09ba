-- Bytes are one log at most, or leave the format at one place, and never both.
use Rattle.std.proofs.Common.{ℕ, suc, ◌≡◌, ◌≢◌, ◌+◌, ◌*◌, ◌<◌, ◌≤◌, true, false, cond, eqb, List, [], ◌∷◌, ◌++◌, length, take, get_or, map, refl, ap, sym}
use Rattle.std.proofs.Common.{◌∙◌, arith, inl, inr, ◌⊎◌, subst, length-append, append_assoc, zero-add}
use Rattle.std.specs.List.{AllPairs, range_with_len}
use Rattle.std.proofs.Math.Seq.{take-append-add}
use Rattle.std.proofs.lemmas.Bool.{eq-eqb, eqb-true, false≢true}
use Rattle.std.proofs.lemmas.List.{append-nil, get_or_append_left, get_or-append-add, get_or-take, length-take-le, same_lists}
use Rattle.std.proofs.lemmas.List.Concat.{flat_map-cons}
use Rattle.std.proofs.lemmas.List.Folds.{Any-from_list_any}
use Rattle.std.proofs.lemmas.List.FromFn.{get_or-map-range_with_len, length-map-range_with_len}
use Rattle.std.proofs.lemmas.Grind.{flat_map-append}
use Rattle.std.proofs.lemmas.Option.{none-some}
use Rattle.lert_bay.specs.Settled.{part}
use Rattle.lert_gatelog.specs.Gated.{IsOpen, IsClosed, Records, next_gate}
use Rattle.lert_gatelog.proofs.Deciding.{one_payload, open_or_closed, closed_or_broken, whole_or_broken, one_place}
use Rattle.lert_spec.specs.declared.numbers.Numbers.{Numbers}
use Rattle.lert_spec.specs.declared.report.Report.{Report}
use Rattle.lert_spec.specs.Limits.{IsValid}
use Rattle.lert_spec.specs.Look.{is_listed}
use Rattle.lert_spec.specs.Agreed.{agreed}
use Rattle.lert_reports.specs.declared.log.LogBefore.{LogBefore}
use Rattle.lert_reports.specs.LogRules.{KeepsRules}
use Rattle.lert_reports.specs.LogText.{LogRecord, log_payload_of, number_in, report_in, report_place}
use Rattle.lert_reports.specs.Log.{log_header, most_record, listed_in, is_closed, before_of, AreRecords, HasLog, IsRepeatedAt, PayloadLeavesAt, HasLogUpTo, BreaksBehind, IsSpoiledBehind}
use Rattle.lert_reports.specs.Log.{FollowsClosing, LogLeavesAt, In_header, At_gate, In_payload, Behind_closing}
use Rattle.lert_reports.proofs.RecordLaws.{parts_of, parts_stand, parts_tell, report_read, record_back, never_left}

-- ---- headers

agreed_whole : (xs ys : List ℕ) → take (length xs) ys ≡ xs → agreed xs ys ≡ length xs
agreed_whole [] ys same = refl
agreed_whole (x ∷ xs) [] same = absurd (omega (arith, ap (length {A = ℕ}) same))
agreed_whole (x ∷ xs) (y ∷ ys) same =
    let first : x ≡ y = cc in
    let rest : take (length xs) ys ≡ xs = cc in
    ap (λ t. cond t (suc (agreed xs ys)) 0) (eq-eqb x y first) ∙ ap suc (agreed_whole xs ys rest)

header_or_left : (bytes : List ℕ) (at : ℕ) → part bytes 0 8 ≡ log_header → at ≡ agreed log_header bytes → at < 8 → ⊥
header_or_left bytes at headed at_is below = omega (arith, at_is, below, agreed_whole log_header bytes headed)

-- ---- pairs of the first elements

pairs_front : {A : Type 0} (R : A → A → Type 0) (xs ys : List A) → AllPairs R (xs ++ ys) → AllPairs R xs
pairs_front R xs ys all i j d less within =
    subst (λ x. R x (get_or xs j d)) (get_or_append_left xs ys d i (omega (arith, less, within)))
    (subst (R (get_or (xs ++ ys) i d)) (get_or_append_left xs ys d j within) (all i j d less (omega (arith, within, length-append xs ys))))

module _ (s : Numbers) (cone : ℕ) (valid : IsValid s) where
  -- one payload has one record
  one_record : (before : LogBefore) (one other : LogRecord) → KeepsRules s cone before one → KeepsRules s cone before other → log_payload_of one ≡ log_payload_of other → one ≡ other
  one_record before one other keeps keeps_too same =
      let payload = log_payload_of one in
      let are = parts_stand s cone before one payload valid keeps refl in
      sym (record_back s cone before one payload (parts_of one) valid keeps refl are) ∙ record_back s cone before other payload (parts_of one) valid keeps_too same are

  -- ---- a record lists no key again

  module _ (before : LogBefore) (one : LogRecord) (payload : List ℕ) (keeps : KeepsRules s cone before one) (is : payload ≡ log_payload_of one) where
    report_there : (j : ℕ) (d : Report) → j < length one.reports → report_in payload (report_place s payload j) ≡ get_or one.reports j d
    report_there j d below =
        let parts = parts_of one in
        let are = parts_stand s cone before one payload valid keeps is in
        let tell = parts_tell s cone before one payload parts valid keeps is are in
        ap (λ place. report_in payload (place + 16 * j)) (sym are.place_is)
        ∙ report_read s cone before one payload parts j d valid keeps is tell below

    reports_first : (k : ℕ) → k ≤ length one.reports → map (λ earlier. report_in payload (report_place s payload earlier)) (range_with_len 0 k) ≡ take k one.reports
    reports_first k within =
        let there : ℕ → Report = λ earlier. report_in payload (report_place s payload earlier) in
        let long = length-map-range_with_len there 0 k in
        same_lists (map there (range_with_len 0 k)) (take k one.reports) (long ∙ sym (length-take-le k one.reports within))
        (λ j d below.
        let among : j < k = omega (arith, below, long) in
        get_or-map-range_with_len there 0 k j j d among (zero-add j)
        ∙ report_there j d (omega (arith, among, within))
        ∙ sym (get_or-take k one.reports j d among))

    never_repeated : (listed : List Report) (place : ℕ) → AllPairs (λ earlier later. earlier.key ≢ later.key) (listed ++ one.reports) → IsRepeatedAt s listed payload place → ⊥
    never_repeated listed place distinct again =
        let k = again.k in
        let below : k < length one.reports = omega (arith, again.some, (parts_stand s cone before one payload valid keeps is).reports_are) in
        let front = listed ++ take k one.reports in
        let key = number_in 8 payload place in
        let listed_there : is_listed key front ≡ true =
        subst (λ reports. is_listed key (listed ++ reports) ≡ true) (reports_first k (omega (arith, below))) again.listed_before in
        let found = Any-from_list_any (λ (report : Report). eqb report.key key) front listed_there in
        let i = found.0 in
        let d = found.1 in
        let long : length front ≡ length listed + k = length-append listed (take k one.reports) ∙ ap (λ n. length listed + n) (length-take-le k one.reports (omega (arith, below))) in
        let early : i < length listed + k = omega (arith, found.2, long) in
        let first : get_or (listed ++ one.reports) i d ≡ d =
        sym (get_or-take (length listed + k) (listed ++ one.reports) i d early)
        ∙ ap (λ reports. get_or reports i d) (take-append-add listed one.reports k)
        ∙ found.3 in
        let second : get_or (listed ++ one.reports) (length listed + k) d ≡ get_or one.reports k d = get_or-append-add listed one.reports k d in
        let key_is : (get_or one.reports k d).key ≡ key =
        ap (λ (report : Report). report.key) (sym (report_there k d below)) ∙ ap (number_in 8 payload) (sym again.place_is) in
        distinct i (length listed + k) d early (omega (arith, below, length-append listed one.reports))
        (ap (λ (report : Report). report.key) first ∙ eqb-true d.key key found.4 ∙ sym key_is ∙ ap (λ (report : Report). report.key) (sym second))

  -- ---- what stands at a gate

  module _ (bytes : List ℕ) where
    -- a record that keeps the rules
    record Continues (front : List LogRecord) (gate : ℕ) : Type 0 where
      one : LogRecord
      stands : IsOpen (most_record s) bytes gate (log_payload_of one)
      keeps : KeepsRules s cone (before_of front) one
      still_open : is_closed front ≡ false
      distinct : AllPairs (λ earlier later. earlier.key ≢ later.key) (listed_in front ++ one.reports)

    continues : (front behind : List LogRecord) (one : LogRecord) (gate : ℕ) → AreRecords s cone (front ++ one ∷ behind) → IsOpen (most_record s) bytes gate (log_payload_of one) →
        Continues front gate
    continues front behind one gate are stands =
        let reports : LogRecord → List Report = λ record_. record_.reports in
        let all : listed_in (front ++ one ∷ behind) ≡ (listed_in front ++ one.reports) ++ listed_in behind =
        flat_map-append reports front (one ∷ behind)
        ∙ ap (λ more. listed_in front ++ more) (flat_map-cons reports one behind)
        ∙ sym (append_assoc (listed_in front) one.reports (listed_in behind)) in
        record {
          one = one;
          stands = stands;
          keeps = are.each front behind one refl;
          still_open = are.open_before front behind one refl;
          distinct = pairs_front (λ (earlier later : Report). earlier.key ≢ later.key) (listed_in front ++ one.reports) (listed_in behind)
              (subst (AllPairs (λ (earlier later : Report). earlier.key ≢ later.key)) all are.once);
        }

    closed_end : (front : List LogRecord) (gate : ℕ) → IsClosed bytes gate → Continues front gate → ⊥
    closed_end front gate closed more = open_or_closed (most_record s) bytes gate (log_payload_of more.one) more.stands closed

    -- the first place at which what stands there leaves the format
    abbrev Ends : List LogRecord → ℕ → ℕ → Type 0
    Ends records gate at = BreaksBehind s bytes records gate at ⊎ (IsSpoiledBehind s cone bytes records gate at ⊎ FollowsClosing bytes records gate at)

    spoiled_end : (front : List LogRecord) (gate at : ℕ) → IsSpoiledBehind s cone bytes front gate at → Continues front gate → ⊥
    spoiled_end front gate at spoiled more =
        let same = one_payload (most_record s) bytes gate spoiled.payload (log_payload_of more.one) spoiled.stands more.stands in
        elim spoiled.leaves.leaves [
          | inl left ↦ none-some spoiled.place (sym (never_left s cone (before_of front) more.one spoiled.payload valid more.keeps same) ∙ left)
          | inr again ↦ never_repeated (before_of front) more.one spoiled.payload more.keeps same (listed_in front) spoiled.place more.distinct again
        ]

    left_end : (front : List LogRecord) (gate at : ℕ) → Ends front gate at → Continues front gate → ⊥
    left_end front gate at (inl breaks) more = whole_or_broken (most_record s) bytes gate at (log_payload_of more.one) more.stands breaks.breaks
    left_end front gate at (inr (inl spoiled)) more = spoiled_end front gate at spoiled more
    left_end front gate at (inr (inr follows)) more = absurd (false≢true (sym more.still_open ∙ follows.closing))

    -- one place is the first
    spoiled_once : (front : List LogRecord) (gate at other : ℕ) → IsSpoiledBehind s cone bytes front gate at → IsSpoiledBehind s cone bytes front gate other → at ≤ other
    spoiled_once front gate at other spoiled too =
        let same = one_payload (most_record s) bytes gate too.payload spoiled.payload too.stands spoiled.stands in
        let leaves = subst (λ payload. PayloadLeavesAt s cone front payload too.place) same too.leaves in
        elim leaves.leaves [
          | inl left ↦ omega (arith, spoiled.at_is, too.at_is, spoiled.leaves.first_broken too.place left)
          | inr again ↦ omega (arith, spoiled.at_is, too.at_is, spoiled.leaves.first_repeated too.place again)
        ]

    end_once : (front : List LogRecord) (gate at other : ℕ) → Ends front gate at → Ends front gate other → at ≡ other
    end_once front gate at other (inl breaks) (inl too) = one_place (most_record s) bytes gate at other breaks.breaks too.breaks
    end_once front gate at other (inl breaks) (inr (inl spoiled)) = absurd (whole_or_broken (most_record s) bytes gate at spoiled.payload spoiled.stands breaks.breaks)
    end_once front gate at other (inl breaks) (inr (inr follows)) = absurd (breaks.not_behind_closing follows.closing follows.opened)
    end_once front gate at other (inr (inl spoiled)) (inl breaks) = absurd (whole_or_broken (most_record s) bytes gate other spoiled.payload spoiled.stands breaks.breaks)
    end_once front gate at other (inr (inl spoiled)) (inr (inl too)) = omega (arith, spoiled_once front gate at other spoiled too, spoiled_once front gate other at too spoiled)
    end_once front gate at other (inr (inl spoiled)) (inr (inr follows)) = absurd (false≢true (sym spoiled.still_open ∙ follows.closing))
    end_once front gate at other (inr (inr follows)) (inl breaks) = absurd (breaks.not_behind_closing follows.closing follows.opened)
    end_once front gate at other (inr (inr follows)) (inr (inl spoiled)) = absurd (false≢true (sym spoiled.still_open ∙ follows.closing))
    end_once front gate at other (inr (inr follows)) (inr (inr too)) = follows.at_is ∙ sym too.at_is

    -- ---- two readings of the same bytes

    -- they are the same, or one of them goes on where the other ends
    abbrev Meet : List LogRecord → List LogRecord → ℕ → ℕ → Type 0
    Meet a b end too = ((a ≡ b) × (end ≡ too)) ⊎ (Continues a end ⊎ Continues b too)

    abbrev Stand : ℕ → List LogRecord → ℕ → Type 0
    Stand gate records end = Records (most_record s) bytes gate (map log_payload_of records) end

    meet : (front a b : List LogRecord) (gate end too : ℕ) → AreRecords s cone (front ++ a) → AreRecords s cone (front ++ b) → Stand gate a end → Stand gate b too →
        Meet (front ++ a) (front ++ b) end too
    meet front [] [] gate end too are are_too stand stand_too = inl (refl, stand ∙ sym stand_too)
    meet front [] (y ∷ ys) gate end too are are_too stand stand_too =
        let here = continues front ys y gate are_too stand_too.0 in
        inr (inl (subst (λ g. Continues (front ++ []) g) (sym stand) (subst (λ f. Continues f gate) (sym (append-nil front)) here)))
    meet front (x ∷ xs) [] gate end too are are_too stand stand_too =
        let here = continues front xs x gate are stand.0 in
        inr (inr (subst (λ g. Continues (front ++ []) g) (sym stand_too) (subst (λ f. Continues f gate) (sym (append-nil front)) here)))
    meet front (x ∷ xs) (y ∷ ys) gate end too are are_too stand stand_too =
        let payloads = one_payload (most_record s) bytes gate (log_payload_of x) (log_payload_of y) stand.0 stand_too.0 in
        let same = one_record (before_of front) x y (are.each front xs x refl) (are_too.each front ys y refl) payloads in
        let longer = front ++ x ∷ [] in
        let grouped : (rest : List LogRecord) → longer ++ rest ≡ front ++ x ∷ rest = λ rest. append_assoc front (x ∷ []) rest in
        let other : front ++ y ∷ ys ≡ longer ++ ys = ap (λ z. front ++ z ∷ ys) (sym same) ∙ sym (grouped ys) in
        let rest : Stand (next_gate gate (log_payload_of x)) ys too = subst (λ z. Stand (next_gate gate (log_payload_of z)) ys too) (sym same) stand_too.1 in
        let met = meet longer xs ys (next_gate gate (log_payload_of x)) end too (subst (AreRecords s cone) (sym (grouped xs)) are) (subst (AreRecords s cone) other are_too) stand.1 rest in
        subst (λ b. Meet (front ++ x ∷ xs) b end too) (sym other) (subst (λ a. Meet a (longer ++ ys) end too) (grouped xs) met)

    -- ---- the laws

    -- bytes are one log
    pub one_log : (a b : List LogRecord) (end too : ℕ) → HasLog s cone bytes a end → HasLog s cone bytes b too → (a ≡ b) × (end ≡ too)
    one_log a b end too log log_too = elim (meet [] a b 8 end too log.rules log_too.rules log.records_stand.records log_too.records_stand.records) [
      | inl same ↦ same
      | inr (inl more) ↦ absurd (closed_end a end log.records_stand.closed more)
      | inr (inr more) ↦ absurd (closed_end b too log_too.records_stand.closed more)
    ]

    -- a log doesn't leave its format where its records end
    whole_or_ended : (a b : List LogRecord) (end gate at : ℕ) → HasLog s cone bytes a end → HasLogUpTo s cone bytes b gate → Ends b gate at → ⊥
    whole_or_ended a b end gate at log up ends = elim (meet [] a b 8 end gate log.rules up.rules log.records_stand.records up.records_stand) [
      | inl same ↦ closed_or_left b gate at (subst (IsClosed bytes) same.1 log.records_stand.closed) ends
      | inr (inl more) ↦ closed_end a end log.records_stand.closed more
      | inr (inr more) ↦ left_end b gate at ends more
    ]
      where
        closed_or_left : (front : List LogRecord) (gate at : ℕ) → IsClosed bytes gate → Ends front gate at → ⊥
        closed_or_left front gate at closed (inl breaks) = closed_or_broken (most_record s) bytes gate at closed breaks.breaks
        closed_or_left front gate at closed (inr (inl spoiled)) = open_or_closed (most_record s) bytes gate spoiled.payload spoiled.stands closed
        closed_or_left front gate at closed (inr (inr follows)) = closed.shut follows.opened

    pub log_or_left : (records : List LogRecord) (end at : ℕ) → HasLog s cone bytes records end → LogLeavesAt s cone bytes at → ⊥
    log_or_left records end at log (In_header at_is below) = header_or_left bytes at log.headed at_is below
    log_or_left records end at log (At_gate others gate up breaks) = whole_or_ended records others end gate at log up (inl breaks)
    log_or_left records end at log (In_payload others gate up spoiled) = whole_or_ended records others end gate at log up (inr (inl spoiled))
    log_or_left records end at log (Behind_closing others gate up follows) = whole_or_ended records others end gate at log up (inr (inr follows))

    -- bytes leave the format in their header, or where some records end
    record EndsAt (at : ℕ) : Type 0 where
      records : List LogRecord
      gate : ℕ
      up : HasLogUpTo s cone bytes records gate
      ends : Ends records gate at

    header_or_ended : (at : ℕ) → LogLeavesAt s cone bytes at → ((at ≡ agreed log_header bytes) × (at < 8)) ⊎ EndsAt at
    header_or_ended at (In_header at_is below) = inl (at_is, below)
    header_or_ended at (At_gate records gate up breaks) = inr (record { records = records; gate = gate; up = up; ends = inl breaks })
    header_or_ended at (In_payload records gate up spoiled) = inr (record { records = records; gate = gate; up = up; ends = inr (inl spoiled) })
    header_or_ended at (Behind_closing records gate up follows) = inr (record { records = records; gate = gate; up = up; ends = inr (inr follows) })

    ended_once : (at other : ℕ) → EndsAt at → EndsAt other → at ≡ other
    ended_once at other one too = elim (meet [] one.records too.records 8 one.gate too.gate one.up.rules too.up.rules one.up.records_stand too.up.records_stand) [
      | inl same ↦ end_once too.records too.gate at other
          (subst (λ gate. Ends too.records gate at) same.1 (subst (λ records. Ends records one.gate at) same.0 one.ends)) too.ends
      | inr (inl more) ↦ absurd (left_end one.records one.gate at one.ends more)
      | inr (inr more) ↦ absurd (left_end too.records too.gate other too.ends more)
    ]

    -- they leave it at one place
    pub one_left : (at other : ℕ) → LogLeavesAt s cone bytes at → LogLeavesAt s cone bytes other → at ≡ other
    one_left at other leaves leaves_too = elim (header_or_ended at leaves) [
      | inl header ↦ elim (header_or_ended other leaves_too) [
        | inl too ↦ header.0 ∙ sym too.0
        | inr ended ↦ absurd (header_or_left bytes at ended.up.headed header.0 header.1)
      ]
      | inr ended ↦ elim (header_or_ended other leaves_too) [
        | inl too ↦ absurd (header_or_left bytes other ended.up.headed too.0 too.1)
        | inr too ↦ ended_once at other ended too
      ]
    ]
