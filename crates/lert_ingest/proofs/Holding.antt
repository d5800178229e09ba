-- What the files of a cone hold that came back from its lock, by what all workers left in it.
use Rattle.std.proofs.Common.{◌≡◌, ◌≢◌, ◌⊎◌, ℕ, ◌+◌, ◌%◌, ◌<◌, ◌≤◌, Bool, true, false, List, [], ◌∷◌, ◌++◌, length, Option, Some, slice_get, refl, ap, sym, ◌∙◌, subst, inl, inr, arith, append_assoc}
use Rattle.std.proofs.lemmas.List.Concat.{flat_map-append}
use Rattle.std.specs.Prelude.{All, Contains}
use Rattle.lert_base.specs.{Beginning.BeginsWith, Packet.{Packet, events_of, of_trace}, Weave.{IsPartWoven, IsWhole}, declared.cone_fault.ConeFault.ConeFault}
use Rattle.lert_bay.specs.Files.{Files, IfTold}
use Rattle.lert_cone.specs.{Sound.{IsSound, IsSoundAs, IsSoundOver}, Stands.{Standing, is_broken}, declared.state.ConeState.TheVariants.Running}
use Rattle.lert_cone.proofs.SoundLaws.{events_more}
use Rattle.lert_conelock.proofs.Contained.{item_here}
use Rattle.lert_spec.specs.{declared.item.Item.Item, declared.numbers.Numbers.Numbers, Counts.{weighed, weight_of}, Edges.{capacity, weight_room}}
use Rattle.lert_worker.specs.{Brings.HasNoRest, declared.end.WorkerEnd.WorkerEnd, declared.end.WorkerEnd.TheVariants.{Ran, Cone}}
use Rattle.lert_worker.proofs.crew.{Gathering.of_trace-own, Weaving.{crew_part, crew_turned, crew_woven, was_turned}}
use Rattle.lert_worker.specs.crew.Shares.{IsShare, LeftIn}
use Rattle.lert_ingest.specs.{Back.{IsBack, IsFullAt}, Bays.{HoldsFirst, HoldsOpenBehind, HoldsPartBehind}, Stops.IsWeavingBehind, Traces.{part_length, part_weight}}
use Rattle.lert_ingest.proofs.{Counting.{AddsUp, length_adds, part_count, part_sum, weight_adds, woven_count}}
use Rattle.lert_ingest.proofs.RuleLaws.{by_rule}

module _ {B : Type 0} (files : B → Option Files) (leaves : B → Files → Type 0) (faults mark : B → ℕ) (s : Numbers) (workers : ℕ) (some : 1 ≤ workers) (number : ℕ) (before : ℕ → List Packet)
    (traces : List (List Item)) (shares : ℕ → List ℕ) (reads : ℕ → List (List Item)) (stopped : ℕ → ℕ) (ends : ℕ → WorkerEnd)
    (shared : (by : ℕ) → by < workers → IsShare workers (length traces) by (shares by)) (added : ℕ → List Packet) (turned : ℕ → List (Packet × ConeFault))
    (left : (by : ℕ) → by < workers → LeftIn s by number (shares by) (reads by) (stopped by) (ends by) (added by) (turned by))
    (first closed : Standing B) (back : IsBack files leaves faults mark s workers number (before number) added turned first closed) where
  not_closed : closed.state ≡ Running → closed.listing.closed ≡ false
  not_closed running = back.closed_is (ap is_broken running) ∙ back.unfinished

  module _ (begun : (by place trace : ℕ) (whole : List Item) → by < workers → slice_get (shares by) place ≡ Some trace → slice_get traces trace ≡ Some whole →
      (read : List Item) × (slice_get (reads by) place ≡ Some read) × BeginsWith whole read) where
    pub woven_part : IsPartWoven s number workers traces back.history
    woven_part = crew_part s number workers some traces shares reads stopped ends added turned shared left back.history back.numbered back.own_are begun

    woven_over : (by : ℕ) → by < workers → (e : Packet) (f : ConeFault) → Contains (turned by) (e, f) → IsPartWoven s number workers traces (back.history ++ e ∷ [])
    woven_over = crew_turned s number workers some traces shares reads stopped ends added turned shared left back.history back.numbered back.own_are begun

    of_cone : (h : List Packet) (seen : Files) → IsSound closed.listing.settings closed.listing.cone h seen → IsSound s number h seen
    of_cone h seen sound = subst (λ n. IsSound s n h seen) back.number_is (subst (λ (t : Numbers). IsSound t closed.listing.cone h seen) back.settings_is sound)

    -- whatever the state
    pub holds_part : IfTold (files closed.bay) (HoldsPartBehind before s workers traces number)
    holds_part = λ seen told. by_state seen told (is_broken closed.state) refl
      where
        by_sound : (seen : Files) → IsSoundOver closed.listing.settings closed.listing.cone (before number ++ back.history) closed.over seen → HoldsPartBehind before s workers traces number seen
        by_sound seen (inl sound) = record { history = back.history; woven = woven_part; sound = of_cone (before number ++ back.history) seen sound }
        by_sound seen (inr more) =
            let over = back.over_is more.0 more.1 in
            record {
              history = back.history ++ more.0 ∷ [];
              woven = woven_over more.0.by over.1 more.0 over.0 over.2;
              sound = subst (λ h. IsSound s number h seen) (append_assoc (before number) back.history (more.0 ∷ []))
                  (of_cone ((before number ++ back.history) ++ more.0 ∷ []) seen more.2);
            }

        by_state : (seen : Files) → files closed.bay ≡ Some seen → (b : Bool) → is_broken closed.state ≡ b → HoldsPartBehind before s workers traces number seen
        by_state seen told false is = record {
          history = back.history;
          woven = woven_part;
          sound =
              of_cone (before number ++ back.history) seen (back.stands.whole is back.sound seen told).files.kept.as_read.sound;
        }
        by_state seen told true is = by_sound seen (back.stands.broken is back.sound seen told).as_read

    -- while it may take packets
    pub holds_open : closed.state ≡ Running → (open_trace : ℕ → ℕ → Type 0) →
        ((trace : ℕ) → open_trace number trace → All (IsWhole s.packet) (of_trace back.history trace)) → IfTold (files closed.bay) (HoldsOpenBehind before s workers traces open_trace number)
    holds_open running open_trace no_rest = λ seen told.
        let whole = back.stands.whole (ap is_broken running) back.sound seen told in
        record {
          history = back.history;
          woven = woven_part;
          sound = subst (λ n. IsSoundAs s n false (before number ++ back.history) seen) back.number_is
              (subst (λ (t : Numbers). IsSoundAs t closed.listing.cone false (before number ++ back.history) seen) back.settings_is
              (subst (λ b. IsSoundAs closed.listing.settings closed.listing.cone b (before number ++ back.history) seen) (not_closed running) whole.files.kept.as_read));
          no_rest = no_rest;
        }

    -- the packets of a trace are those of its worker
    pub no_rest_of : (trace : ℕ) → HasNoRest s trace (added (trace % workers)) → All (IsWhole s.packet) (of_trace back.history trace)
    no_rest_of trace none =
        subst (All (IsWhole s.packet)) (sym (of_trace-own back.history trace (trace % workers) (λ k d below same. (woven_part.each k d below).by_is ∙ ap (λ t. t % workers) same)
        ∙ ap (λ (xs : List Packet). of_trace xs trace) (back.own_are (trace % workers) (omega (arith, some))))) none

    -- the items of a history, as those of its first packets and the others'
    parts_of : (e : Packet) (f : ConeFault) (full : IsFullAt s (before number) back.history e f) → events_of back.history ≡ events_of full.past ++ events_of full.begins.rest
    parts_of e f full = ap events_of full.begins.splits ∙ flat_map-append (λ (p : Packet). p.items) full.past full.begins.rest

    -- a packet that was refused and those before it have no more items, and weigh no more, than the cone's items of all traces
    pub enough : (g : List Item → ℕ) → AddsUp g → (by : ℕ) → by < workers → (e : Packet) (f : ConeFault) → Contains (turned by) (e, f) → (full : IsFullAt s (before number) back.history e f) →
        g (events_of (before number ++ full.past)) + g e.items ≤ g (events_of (before number)) + part_sum g s number traces
    enough g adds by below e f has full =
        let count = part_count g adds s number workers traces (back.history ++ e ∷ []) (woven_over by below e f has) in
        let whole = ap g (events_more back.history e) ∙ adds.joins (events_of back.history) e.items in
        let parts = ap g (parts_of e f full) ∙ adds.joins (events_of full.past) (events_of full.begins.rest) in
        let first = ap g (flat_map-append (λ (p : Packet). p.items) (before number) full.past) ∙ adds.joins (events_of (before number)) (events_of full.past) in
        omega (arith, count, whole, parts, first)

    pub holds_first : (P : List Item → Type 0) (e : Packet) (f : ConeFault) (full : IsFullAt s (before number) back.history e f) → closed.state ≡ Running → P (events_of (before number ++ full.past)) →
        IfTold (files closed.bay) (HoldsFirst s P number)
    holds_first P e f full running so = λ seen told. record {
      history = before number ++ back.history;
      before = before number ++ full.past;
      behind = full.begins.rest;
      history_is = ap (λ (h : List Packet). before number ++ h) full.begins.splits ∙ sym (append_assoc (before number) full.past full.begins.rest);
      first = so;
      sound = of_cone (before number ++ back.history) seen (back.stands.whole (ap is_broken running) back.sound seen told).files.kept.as_read.sound;
    }

    -- where the items of all traces are few enough and light enough, nothing is refused by a rule
    pub none_full : (length (events_of (before number)) + part_length s number traces ≤ capacity s)
        × (weight_of weighed (events_of (before number)) + part_weight s number traces ≤ weight_room s) → closed.state ≡ Running → (by : ℕ) → by < workers →
        (f : ConeFault) → ends by ≡ Cone number f → ⊥
    none_full fits running by below f is = by_case (back.refusals by below e.0 f has)
      where
        e : (e : Packet) × (turned by ≡ (e, f) ∷ [])
        e = was_turned s by number (shares by) (reads by) (stopped by) (ends by) (added by) (turned by) (left by below) number f is refl

        has : Contains (turned by) (e.0, f)
        has = subst (λ (xs : List (Packet × ConeFault)). Contains xs (e.0, f)) (sym e.1) (item_here (e.0, f) [])

        by_case : (closed.state ≢ Running) ⊎ IsFullAt s (before number) back.history e.0 f → ⊥
        by_case (inl stopped) = stopped running
        by_case (inr full) = elim (by_rule s (events_of (before number ++ full.past)) e.0.items f full.refused) [
          | inl rule ↦
              let many : length (events_of (before number ++ full.past)) + length e.0.items ≤ length (events_of (before number)) + part_length s number traces =
              enough (λ items. length items) length_adds by below e.0 f has full in
              let most = fits.0 in
              let over = rule.over in
              omega (arith, most, many, over)
          | inr rule ↦
              let heavy : weight_of weighed (events_of (before number ++ full.past)) + weight_of weighed e.0.items
              ≤ weight_of weighed (events_of (before number)) + part_weight s number traces =
              enough (weight_of weighed) weight_adds by below e.0 f has full in
              let most = fits.1 in
              let over = rule.over in
              omega (arith, most, heavy, over)
        ]

  -- all ran to their ends
  pub is_weaving : ((by place trace : ℕ) (whole : List Item) → by < workers → slice_get (shares by) place ≡ Some trace → slice_get traces trace ≡ Some whole →
      slice_get (reads by) place ≡ Some whole) → ((by : ℕ) → by < workers → ends by ≡ Ran) → closed.state ≡ Running → IsWeavingBehind before files leaves faults s workers traces
      number closed
  is_weaving whole_read all_ran running = record {
    history = back.history;
    woven = crew_woven s number workers some traces shares reads stopped ends added turned shared left back.history back.numbered back.own_are whole_read all_ran;
    stands = back.stands;
    sound = back.sound;
    settings_are = back.settings_is;
    number_is = back.number_is;
    state_is = running;
    closed_is = not_closed running;
  }

-- a cone that weaves all items takes them
module _ {B : Type 0} (before : ℕ → List Packet) (files : B → Option Files) (leaves : B → Files → Type 0) (faults : B → ℕ) (s : Numbers) (workers number : ℕ) (traces : List (List Item))
    (cone : Standing B) (weaving : IsWeavingBehind before files leaves faults s workers traces number cone) where
  both : (g : List Item → ℕ) → AddsUp g → g (events_of (before number ++ weaving.history)) ≡ g (events_of (before number)) + g (events_of weaving.history)
  both g adds = ap g (flat_map-append (λ (p : Packet). p.items) (before number) weaving.history) ∙ adds.joins (events_of (before number)) (events_of weaving.history)

  pub weaving_fits : length (events_of (before number)) + part_length s number traces ≤ capacity s
  weaving_fits =
      let count : part_length s number traces ≤ length (events_of weaving.history) =
      woven_count (λ items. length items) length_adds s number workers traces weaving.history weaving.woven in
      let all = both (λ items. length items) length_adds in
      let counted = weaving.stands.counted in
      let within = subst (λ (t : Numbers). cone.events ≤ capacity t) weaving.settings_are weaving.stands.within in
      omega (arith, count, all, counted, within)

  -- and their weight, as its journal says
  pub weaving_light : IfTold (files cone.bay) (λ _. weight_of weighed (events_of (before number)) + part_weight s number traces ≤ weight_room s)
  weaving_light seen told =
      let weight : part_weight s number traces ≤ weight_of weighed (events_of weaving.history) =
      woven_count (weight_of weighed) weight_adds s number workers traces weaving.history weaving.woven in
      let all = both (weight_of weighed) weight_adds in
      let sound = (weaving.stands.whole (ap is_broken weaving.state_is) weaving.sound seen told).files.kept.as_read.sound in
      let light = subst (λ (t : Numbers). weight_of weighed (events_of (before number ++ weaving.history)) ≤ weight_room t) weaving.settings_are sound.journal.light in
      omega (arith, weight, all, light)
