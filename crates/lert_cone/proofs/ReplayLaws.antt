-- What a cone keeps on its way through its journal: up to n0 events the files go together with memory as after n0 events, and
-- from then on as after the items so far.
use Rattle.lert_spec.specs.declared.item.Item.{Item}
use Rattle.std.proofs.Common.{◌≡◌, ℕ, zero, suc, ◌+◌, ◌-◌, ◌≤◌, true, cond, List, [], ◌++◌, length, take, drop, max, refl, sym, ap, ◌∙◌, subst, inl, inr, arith, length-append, length-take, append-nil}
use Rattle.std.proofs.{lemmas.Bool.{cases_eq, cases_lt, eq-eqb, ne_eqb}, lemmas.List.{take_at, take_all, take-append-drop, length-take-le}}
use Rattle.lert_base.specs.Packet.{Packet, events_of}
use Rattle.lert_bay.specs.Files.{Files}
use Rattle.lert_levels.specs.{declared.rows.bin_at.BinAt.BinAt, rows.Rows.IsAt}
use Rattle.lert_spec.specs.{declared.numbers.Numbers.Numbers, declared.report.Report.Report, Edges.edge, Limits.IsValid}
use Rattle.lert_cone.specs.{Framed.last_flush, InStep.{IsInStep, IsPartway}, Listing.Listing, JournalPlaces.{ArePlacesIn, Places}, Record.LogPlace, Replay.{IsOnWay, IsPast, ReplayLeavesAt}}
use Rattle.lert_cone.specs.{Sound.{IsJournal, IsSound, but_last}, Stands.IsWhole, Tally.{Tallied, IsCounted, IsRecounted}}
use Rattle.lert_cone.proofs.{GateLaws.never_leaves, FlushLaws.last_flush_grows, AppendLaws.whole_of, StepLaws.sound_of}
use Rattle.lert_spec.specs.{Counts.{weighed, weight_of}, Edges.edge}
use Rattle.lert_spec.specs.Items.{IsVersion}

-- a flush position is its own last one
last_flush_again : (s : Numbers) (n : ℕ) → last_flush s (last_flush s n) ≡ last_flush s n
last_flush_again s zero = refl
last_flush_again s (suc n) =
    elim (cases_eq (edge s 0 (suc n)) (edge s 0 n)) [
      | inl stays ↦ (
          let is : last_flush s (suc n) ≡ last_flush s n = ap (λ t. cond t (last_flush s n) (suc n)) (eq-eqb (edge s 0 (suc n)) (edge s 0 n) stays) in
          ap (last_flush s) is ∙ (last_flush_again s n ∙ sym is))
      | inr moves ↦ ap (last_flush s) (ap (λ t. cond t (last_flush s n) (suc n)) (ne_eqb (edge s 0 (suc n)) (edge s 0 n) moves))
    ]

-- a flush position that isn't behind n0 is among those up to any later place
late_at : (s : Numbers) (n0 before n : ℕ) → last_flush s before ≤ n0 → n0 ≤ n → last_flush s before ≤ last_flush s n
late_at s n0 before n least enough = omega (arith, last_flush_again s before, last_flush_grows s (last_flush s before) n (omega (arith, least, enough)))

module _ (leaves : Files → Type 0) (seen : Files) (history : List Packet) (listing : Listing) (rows : List (List BinAt)) (reports : List Report) (log : LogPlace) (n0 : ℕ)
    (on_way : IsOnWay leaves seen history listing rows reports log n0) where
  -- up to n0 events go by without a change
  pub on_way_counted : (later : Listing) (keys : List Item) (count : ℕ) → later ≡ record listing { events = listing.events ++ take count keys } → count ≤ n0 - length listing.events →
      IsOnWay leaves seen history later rows reports log n0
  on_way_counted later keys count is early =
      let long : length (listing.events ++ take count keys) ≡ length listing.events + length (take count keys) = length-append listing.events (take count keys) in
      let same : max n0 (length listing.events) ≡ max n0 (length (listing.events ++ take count keys)) = omega (arith, early, long, length-take count keys) in
      let there : IsOnWay leaves seen history (record listing { events = listing.events ++ take count keys }) rows reports log n0 =
      record {
        n0_most = on_way.n0_most;
        n0_least = on_way.n0_least;
        closed_behind = on_way.closed_behind;
        in_step = subst (λ n. IsInStep leaves seen history (record listing { events = take n (events_of history) }) rows reports log) same on_way.in_step;
      } in
      subst (λ (l : Listing). IsOnWay leaves seen history l rows reports log n0) (sym is) there

  -- calls that read alone change nothing
  pub on_way_read : (leaves_after : Files → Type 0) → ((image : Files) → leaves_after image → leaves image) → IsOnWay leaves_after seen history listing rows reports log n0
  on_way_read leaves_after fewer =
      let step = on_way.in_step in
      record {
        n0_most = on_way.n0_most;
        n0_least = on_way.n0_least;
        closed_behind = on_way.closed_behind;
        in_step = record {
          logged = step.logged;
          log_of = step.log_of;
          named_is = step.named_is;
          journal = λ image may. step.journal image (fewer image may);
          log_there = λ image may. step.log_there image (fewer image may);
          frames = λ image may. step.frames image (fewer image may);
          journal_settled = record { within = step.journal_settled.within; same = λ image may. step.journal_settled.same image (fewer image may) };
          log_settled = record { within = step.log_settled.within; same = λ image may. step.log_settled.same image (fewer image may) };
          reports_are = step.reports_are;
          begins = step.begins;
          placed = step.placed;
          reach = step.reach;
        };
      }

  -- and so with other places of the history's records
  pub on_way_places : (places : Places) → ArePlacesIn listing.version history places → places.from ≡ log.places.from → IsOnWay leaves seen history listing rows reports (record log {
    places = places;
  }) n0
  on_way_places places placed from_is =
      let step = on_way.in_step in
      record {
        n0_most = on_way.n0_most;
        n0_least = on_way.n0_least;
        closed_behind = on_way.closed_behind;
        in_step = record {
          logged = step.logged;
          log_of = step.log_of;
          named_is = step.named_is;
          journal = step.journal;
          log_there = step.log_there;
          frames = step.frames;
          journal_settled = step.journal_settled;
          log_settled = step.log_settled;
          reports_are = step.reports_are;
          begins = step.begins;
          placed = placed;
          reach = omega (arith, from_is, step.reach);
        };
      }

  -- from n0 on files and memory go together as after the items so far
  pub in_step_behind : (rest : List Item) → events_of history ≡ listing.events ++ rest → n0 ≤ length listing.events → IsInStep leaves seen history listing rows reports log
  in_step_behind rest is enough =
      let n_is : max n0 (length listing.events) ≡ length listing.events = omega (arith, enough) in
      let same : take (max n0 (length listing.events)) (events_of history) ≡ listing.events =
      ap (λ n. take n (events_of history)) n_is ∙ (ap (take (length listing.events)) is ∙ take_at listing.events rest (length listing.events) refl) in
      subst (λ (events : List Item). IsInStep leaves seen history (record listing { events = events }) rows reports log) same on_way.in_step

  -- the next items are still to come
  pub partway_behind : (keys rest : List Item) → events_of history ≡ listing.events ++ (keys ++ rest) → n0 ≤ length listing.events → IsPartway listing.settings history listing.events keys
  partway_behind keys rest is enough = record { rest = rest; is = is; late = late_at listing.settings n0 (length (events_of (but_last history))) (length listing.events) on_way.n0_least enough }

  -- in every image the files are sound for the history, before n0 events are there as behind them
  pub sound_on_way : IsVersion listing.version → IsValid listing.settings → IsAt listing.settings (max n0 (length listing.events)) rows → length listing.events ≤ length (events_of history) →
      (image : Files) →
      leaves image →
      IsSound listing.settings listing.cone history image
  sound_on_way is_known valid at within image may =
      let s = listing.settings in
      let long : length (take (max n0 (length listing.events)) (events_of history)) ≡ max n0 (length listing.events) =
      length-take-le (max n0 (length listing.events)) (events_of history) (omega (arith, within, on_way.n0_most)) in
      let partway : IsPartway s history (take (max n0 (length listing.events)) (events_of history)) [] =
      record {
        rest = drop (max n0 (length listing.events)) (events_of history);
        is = sym (take-append-drop (max n0 (length listing.events)) (events_of history));
        late = late_at s n0 (length (events_of (but_last history))) (length (take (max n0 (length listing.events)) (events_of history))) on_way.n0_least (omega (arith, long));
      } in
      let whole : listing.closed ≡ true → take (max n0 (length listing.events)) (events_of history) ≡ events_of history =
      λ ended. take_all (max n0 (length listing.events)) (events_of history) (omega (arith, on_way.closed_behind ended)) in
      sound_of s listing.cone history (take (max n0 (length listing.events)) (events_of history)) rows listing.closed on_way.in_step.logged log.gate is_known valid (subst (λ n. IsAt s n rows)
      (sym long) at) partway whole on_way.in_step.log_of on_way.in_step.begins image
      (on_way.in_step.journal image may) (on_way.in_step.log_there image may) (on_way.in_step.frames image may)

  -- where files and memory go together after more items, by calls that may have written, the cone is on its way
  pub on_way_behind : (leaves_after : Files → Type 0) (seen_after : Files) (later : Listing) (rows_after : List (List BinAt)) (reports_after : List Report) (log_after : LogPlace)
      (events rest : List Item) →
      later ≡ record listing { events = events } → events_of history ≡ events ++ rest → n0 ≤ length events →
      IsInStep leaves_after seen_after history later rows_after reports_after log_after →
      IsOnWay leaves_after seen_after history later rows_after reports_after log_after n0
  on_way_behind leaves_after seen_after later rows_after reports_after log_after events rest is begins enough step =
      let n_is : max n0 (length events) ≡ length events = omega (arith, enough) in
      let same : events ≡ take (max n0 (length events)) (events_of history) =
      sym (ap (λ n. take n (events_of history)) n_is ∙ (ap (take (length events)) begins ∙ take_at events rest (length events) refl)) in
      let here : IsInStep leaves_after seen_after history (record listing { events = events }) rows_after reports_after log_after =
      subst (λ (l : Listing). IsInStep leaves_after seen_after history l rows_after reports_after log_after) is step in
      subst (λ (l : Listing). IsOnWay leaves_after seen_after history l rows_after reports_after log_after n0) (sym is)
      (record {
        n0_most = on_way.n0_most;
        n0_least = on_way.n0_least;
        closed_behind = on_way.closed_behind;
        in_step = subst (λ (keys : List Item). IsInStep leaves_after seen_after history (record listing { events = keys }) rows_after reports_after log_after) same here;
      })

  -- the journal is that of the history
  pub journal_on_way : leaves seen → IsJournal listing.version listing.settings listing.cone history (seen 0)
  journal_on_way read = on_way.in_step.journal seen read

  -- nothing at the gate leaves the format
  pub never_on_way : leaves seen → (done : List Packet) (w gate at : ℕ) → IsPast listing.version history done listing.events gate →
      w ≡ weight_of weighed (take (edge listing.settings 0 n0) (events_of history)) + weight_of weighed (drop (edge listing.settings 0 n0) listing.events) →
      ReplayLeavesAt listing.version listing.settings listing.cone n0 listing.closed
      (length listing.events) w (seen 0) gate at → ⊥
  never_on_way read done w gate at past weighs =
      never_leaves listing.settings listing.cone (seen 0) history done listing.events gate (journal_on_way read) past n0 w listing.closed at on_way.n0_most on_way.closed_behind weighs

-- the rows stand where n0 events are there, or those so far
rows_there : (t : Tallied) (n0 : ℕ) → IsRecounted t n0 → IsAt t.listing.settings (max n0 (length t.listing.events)) t.rows
rows_there t n0 recounted =
    elim (cases_lt (length t.listing.events) n0) [
      | inl early ↦ subst (λ n. IsAt t.listing.settings n t.rows) (omega (arith, early)) (recounted.rows (omega (arith, early)))
      | inr there ↦ subst (λ n. IsAt t.listing.settings n t.rows) (omega (arith, there)) (recounted.behind there).rows
    ]

-- in every image the files of a cone that counts its items again are sound for the history
pub sound_recounted : (leaves : Files → Type 0) (seen : Files) (history : List Packet) (t : Tallied) (log : LogPlace) (n0 : ℕ) → IsRecounted t n0 →
    IsOnWay leaves seen history t.listing t.rows t.due.reports log n0 → (rest : List Item) → events_of history ≡ t.listing.events ++ rest → (image : Files) → leaves image →
    IsSound t.listing.settings t.listing.cone history image
sound_recounted leaves seen history t log n0 recounted on_way rest is =
    sound_on_way leaves seen history t.listing t.rows t.due.reports log n0 on_way recounted.known recounted.valid (rows_there t n0 recounted)
    (omega (arith, ap (length {A = Item}) is, length-append t.listing.events rest))

-- ---- the end of the way

-- behind all packets a cone with its counts is whole
pub whole_on_way : (leaves : Files → Type 0) (seen : Files) (history : List Packet) (t : Tallied) (gate : ℕ) (log : LogPlace) (n0 : ℕ) → IsCounted t →
    IsOnWay leaves seen history t.listing t.rows t.due.reports log n0 →
    IsPast t.listing.version history history t.listing.events gate → n0 ≤ length t.listing.events → leaves seen → IsWhole leaves seen t.listing t.rows t.due.reports gate log history
whole_on_way leaves seen history t gate log n0 counted on_way past enough read =
    whole_of leaves seen history t gate log counted
    (in_step_behind leaves seen history t.listing t.rows t.due.reports log n0 on_way [] (sym past.keys ∙ sym (append-nil t.listing.events)) enough)
    read past.keys past.gate_is
