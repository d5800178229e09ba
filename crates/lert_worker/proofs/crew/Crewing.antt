-- What a crew did, by the runs of its workers.
use Rattle.std.proofs.Common.{◌≡◌, ℕ, ◌+◌, ◌<◌, zero, suc, Bool, cond, eqb, List, [], ◌∷◌, length, map, filter, Option, Some, None, slice_get, refl, ap, sym, ◌∙◌, subst, arith}
use Rattle.std.proofs.{lemmas.Bool.eq-eqb, lemmas.List.length-map, lemmas.List.Elements.{All-head, All-tail, All-nil, All-cons, All-weaker}}
use Rattle.std.proofs.lemmas.Option.{same_Some, slice_get_within}
use Rattle.std.specs.Prelude.{All}
use Rattle.lert_base.specs.{declared.held.Held.{Ghosts as HeldOf}, Packet.{Packet, own}, declared.cone_fault.ConeFault.ConeFault}
use Rattle.lert_conelock.specs.Sight.{LockSight, Sight, own_refused}
use Rattle.lert_fleet.proofs.Places.{image_at, some_at}
use Rattle.lert_fleet.specs.{Cones.{ClosesEach, FleetPassSight, FleetSight}, Each.{EachThree, EachTwo}}
use Rattle.lert_spec.specs.{declared.item.Item.Item, declared.numbers.Numbers.Numbers}
use Rattle.lert_trace.specs.Reader.{Reading}
use Rattle.lert_worker.specs.{Brings.IsOwn, Ends.{Stopped, WasRead}, Ran.{HasRun, RanIn, Working}, declared.end.WorkerEnd.WorkerEnd, declared.end.WorkerEnd.TheVariants.{Cone, Ran}}
use Rattle.lert_worker.specs.crew.{Crewed.{AreLeftBy, AreReadBy, HasCrewed, IsBack, IsReadOf, end_at}, Passes.{Brought, EachShows, Shows, Turned}}
use Rattle.lert_worker.specs.crew.{Ready.{AreReady, HasCrewRun, IsReady, ends_of, firsts_of}, Shares.{IsShare, LeftIn}, Sharing.WereTaken}
use Rattle.lert_worker.proofs.crew.{Lists.{All-behind, IsListOf, list_of}, Returning.{is_back, shows_all}, Weaving.{left_in, part_first}}

-- a filter that all pass
filter_all : {A : Type 0} (number : A → ℕ) (xs : List A) (n : ℕ) → All (λ x. number x ≡ n) xs → filter (λ x. eqb (number x) n) xs ≡ xs
filter_all number [] n all = refl
filter_all number (x ∷ xs) n all =
    ap (λ (b : Bool). cond b (x ∷ filter (λ y. eqb (number y) n) xs) (filter (λ y. eqb (number y) n) xs)) (eq-eqb (number x) n (All-head (λ y. number y ≡ n) x xs all))
    ∙ ap (λ ys. x ∷ ys) (filter_all number xs n (All-tail (λ y. number y ≡ n) x xs all))

map_back : {A C : Type 0} (P : C → Type 0) (f : A → C) (xs : List A) → All P (map f xs) → All (λ x. P (f x)) xs
map_back P f [] all = All-nil (λ x. P (f x))
map_back P f (x ∷ xs) all = All-cons (λ y. P (f y)) x xs (All-head P (f x) (map f xs) all) (map_back P f xs (All-tail P (f x) (map f xs) all))

-- what a run of a worker may be told by
pub record Choice : Type 0 where
  pub reads : List (List Item)
  pub place : ℕ
  pub stopped : ℕ

abbrev pub reads_of : Option Choice → List (List Item)
reads_of None = []
reads_of (Some choice) = choice.reads

abbrev pub place_of : Option Choice → ℕ
place_of None = 0
place_of (Some choice) = choice.place

abbrev pub stopped_of : Option Choice → ℕ
stopped_of None = 0
stopped_of (Some choice) = choice.stopped

module _ {S H : Type 0} where
  abbrev pub share_of : Option (Working S H) → List ℕ
  share_of None = []
  share_of (Some worker) = worker.traces

  abbrev pub readers_of : Option (Working S H) → List (Reading S)
  readers_of None = []
  readers_of (Some worker) = worker.readers

  abbrev pub ended : Option (Working S H) → WorkerEnd
  ended None = Ran
  ended (Some worker) = worker.end

  abbrev pub sight_of : Option (Working S H) → ℕ → Option (Sight H ConeFault)
  sight_of None cone = None
  sight_of (Some worker) cone = slice_get worker.pass.cones cone

abbrev pub calls_of : {H : Type 0} → Option (Sight H ConeFault) → List Packet
calls_of None = []
calls_of (Some sight) = sight.calls

abbrev pub refused_of : {H : Type 0} → Option (Sight H ConeFault) → List (Packet × ConeFault)
refused_of None = []
refused_of (Some sight) = sight.refused

module _ {S H : Type 0} (remaining : S → Option (List ℕ)) (faults mark : S → ℕ) (fleet : FleetSight H) (s : Numbers) (workers count : ℕ) (all back : List (Reading S))
    (olds mids news : List (Working S H)) (size : length olds ≡ workers) (count_is : count ≡ length all) (are : AreReady fleet s count all olds)
    (ran : EachTwo (HasRun remaining faults mark fleet) olds mids) (taken : WereTaken count mids news back) where
  record Chosen (old mid : Working S H) (choice : Choice) : Type 0 where
    read : EachThree (WasRead remaining faults mark) old.readers mid.readers choice.reads
    stopped_is : Stopped remaining old.traces old.readers mid.readers choice.place choice.stopped mid.end
    cones : (cone : ℕ) (before after : Sight H ConeFault) → slice_get old.pass.cones cone ≡ Some before → slice_get mid.pass.cones cone ≡ Some after
        → RanIn old.settings old.number cone old.traces choice.reads choice.stopped mid.end before after

  IsChosen : ℕ → Choice → Type 0
  IsChosen by choice = (old mid : Working S H) → slice_get olds by ≡ Some old → slice_get mids by ≡ Some mid → Chosen old mid choice

  choose : (by : ℕ) → by < workers → (choice : Choice) × IsChosen by choice
  unfolding IsChosen
  choose by below =
      let old = some_at olds by (omega (arith, below, size)) in
      let mid = some_at mids by (let n = ran.as_many in omega (arith, below, size, n)) in
      let run = ran.each by old.0 mid.0 old.1 mid.1 in (
        record { reads = run.reads; place = run.place; stopped = run.stopped },
        λ o m o_is m_is.
            subst (λ (w : Working S H). Chosen w m (record { reads = run.reads; place = run.place; stopped = run.stopped })) (same_Some old.0 o (sym old.1 ∙ o_is))
            (subst (λ (w : Working S H). Chosen old.0 w (record { reads = run.reads; place = run.place; stopped = run.stopped })) (same_Some mid.0 m (sym mid.1 ∙ m_is))
            (record { read = run.read; stopped_is = run.stopped_is; cones = run.cones })),
      )

  choices : IsListOf workers IsChosen
  choices = list_of IsChosen workers choose

  pub choice_at : ℕ → Option Choice
  choice_at by = slice_get choices.items by

  record AtWorker (by : ℕ) : Type 0 where
    old : Working S H
    mid : Working S H
    choice : Choice
    old_is : slice_get olds by ≡ Some old
    mid_is : slice_get mids by ≡ Some mid
    choice_is : choice_at by ≡ Some choice
    run : HasRun remaining faults mark fleet old mid
    chosen : Chosen old mid choice
    ready : IsReady fleet s workers count all by old

  at_by : (by : ℕ) → by < workers → AtWorker by
  unfolding choice_at IsChosen
  at_by by below =
      let old = some_at olds by (omega (arith, below, size)) in
      let mid = some_at mids by (let n = ran.as_many in omega (arith, below, size, n)) in
      let choice = some_at choices.items by (let n = choices.number in omega (arith, n, below)) in
      record {
        old = old.0;
        mid = mid.0;
        choice = choice.0;
        old_is = old.1;
        mid_is = mid.1;
        choice_is = choice.1;
        run = ran.each by old.0 mid.0 old.1 mid.1;
        chosen = choices.each by choice.0 choice.1 old.0 mid.0 old.1 mid.1;
        ready = subst (λ n. IsReady fleet s n count all by old.0) size (are by old.0 old.1);
      }

  pub read_by : AreReadBy remaining faults mark workers all back (λ by. share_of (slice_get olds by)) (λ by. reads_of (choice_at by)) (λ by. readers_of (slice_get olds by))
      (λ by. readers_of (slice_get mids by)) (λ by. place_of (choice_at by)) (λ by. stopped_of (choice_at by)) (λ by. ended (slice_get mids by))
  read_by = record {
    number = taken.taken ∙ count_is;
    shared = λ by below. let at = at_by by below in
        subst (λ (o : Option (Working S H)). IsShare workers (length all) by (share_of o)) (sym at.old_is) (subst (λ n. IsShare workers n by at.old.traces) count_is at.ready.share);
    began = λ by place trace below there.
        let at = at_by by below in
        let first = at.ready.readers place trace (sym (ap (λ (o : Option (Working S H)). slice_get (share_of o) place) at.old_is) ∙ there) in
        ap (λ (o : Option (Working S H)). slice_get (readers_of o) place) at.old_is ∙ (first.2 ∙ sym first.1);
    each = λ by place trace below there. let at = at_by by below in
        each by place trace at (sym (ap (λ (o : Option (Working S H)). slice_get (share_of o) place) at.old_is) ∙ there);
    stop = λ by below. let at = at_by by below in
        subst (λ (o : Option (Working S H)). Stopped remaining (share_of o) (readers_of o) (readers_of (slice_get mids by)) (place_of (choice_at by)) (stopped_of (choice_at by))
        (ended (slice_get mids by))) (sym at.old_is)
        (subst (λ (m : Option (Working S H)). Stopped remaining at.old.traces at.old.readers (readers_of m) (place_of (choice_at by)) (stopped_of (choice_at by)) (ended m)) (sym at.mid_is)
        (subst (λ (c : Option Choice). Stopped remaining at.old.traces at.old.readers at.mid.readers (place_of c) (stopped_of c) at.mid.end) (sym at.choice_is) at.chosen.stopped_is));
  }
    where
      each : (by place trace : ℕ) (at : AtWorker by) → slice_get at.old.traces place ≡ Some trace → (now : Reading S) × (read : List Item)
          × (slice_get (readers_of (slice_get mids by)) place ≡ Some now) × (slice_get (reads_of (choice_at by)) place ≡ Some read) × IsReadOf remaining faults mark all back
          trace now read
      each by place trace at there =
          let first = at.ready.readers place trace there in
          let within = slice_get_within at.old.readers place first.0 first.2 in
          let now = some_at at.mid.readers place (let n = at.chosen.read.as_many.0 in omega (arith, n, within)) in
          let read = some_at at.choice.reads place (let n = at.chosen.read.as_many.1 in omega (arith, n, within)) in
          let mid_there : slice_get at.mid.traces place ≡ Some trace = ap (λ (xs : List ℕ). slice_get xs place) at.run.traces_are ∙ there in (
            now.0,
            read.0,
            ap (λ (m : Option (Working S H)). slice_get (readers_of m) place) at.mid_is ∙ now.1,
            ap (λ (c : Option Choice). slice_get (reads_of c) place) at.choice_is ∙ read.1,
            record {
              before = first.0;
              was = first.1;
              is = taken.readers_are by place trace at.mid now.0 at.mid_is mid_there now.1;
              read_is = at.chosen.read.each place first.0 now.0 read.0 first.2 now.1 read.1;
            },
          )

  -- what a worker left in a cone
  record AtCone (by cone : ℕ) : Type 0 where
    after : Sight H ConeFault
    after_is : sight_of (slice_get mids by) cone ≡ Some after
    left : LeftIn s by cone (share_of (slice_get olds by)) (reads_of (choice_at by)) (stopped_of (choice_at by)) (ended (slice_get mids by)) after.calls after.refused

  at_cone : (by cone : ℕ) → by < workers → cone < length fleet → AtCone by cone
  at_cone by cone below cone_below =
      let at = at_by by below in
      let before = some_at at.old.pass.cones cone (let n = at.ready.pass_is.belongs.as_many in omega (arith, n, cone_below)) in
      let after = some_at at.mid.pass.cones cone (let n = at.run.belongs.as_many in omega (arith, n, cone_below)) in
      let run = at.chosen.cones cone before.0 after.0 before.1 after.1 in
      let here = subst (λ (t : Numbers). RanIn t by cone at.old.traces at.choice.reads at.choice.stopped at.mid.end before.0 after.0) at.ready.settings_is
      (subst (λ n. RanIn at.old.settings n cone at.old.traces at.choice.reads at.choice.stopped at.mid.end before.0 after.0) at.ready.number_is run) in
      let left = left_in s by cone at.old.traces at.choice.reads at.choice.stopped at.mid.end before.0 after.0 (at.ready.quiet.calls cone before.0 before.1)
      (at.ready.quiet.refused cone before.0 before.1) here in
      record {
        after = after.0;
        after_is = ap (λ (m : Option (Working S H)). sight_of m cone) at.mid_is ∙ after.1;
        left =
            subst (λ (o : Option (Working S H)). LeftIn s by cone (share_of o) (reads_of (choice_at by)) (stopped_of (choice_at by)) (ended (slice_get mids by)) after.0.calls
            after.0.refused) (sym at.old_is)
            (subst (λ (m : Option (Working S H)). LeftIn s by cone at.old.traces (reads_of (choice_at by)) (stopped_of (choice_at by)) (ended m) after.0.calls after.0.refused)
            (sym at.mid_is) (subst (λ (c : Option Choice). LeftIn s by cone at.old.traces (reads_of c) (stopped_of c) at.mid.end after.0.calls after.0.refused) (sym at.choice_is) left));
      }

  pub left_at : (cone by : ℕ) → cone < length fleet → by < workers →
      LeftIn s by cone (share_of (slice_get olds by)) (reads_of (choice_at by)) (stopped_of (choice_at by)) (ended (slice_get mids by))
      (calls_of (sight_of (slice_get mids by) cone)) (refused_of (sight_of (slice_get mids by) cone))
  left_at cone by cone_below below =
      let at = at_cone by cone below cone_below in
      subst (λ (a : Option (Sight H ConeFault)). LeftIn s by cone (share_of (slice_get olds by)) (reads_of (choice_at by)) (stopped_of (choice_at by)) (ended (slice_get mids by))
      (calls_of a) (refused_of a)) (sym at.after_is) at.left

  pub named_at : (by cone : ℕ) (fault : ConeFault) → by < workers → ended (slice_get mids by) ≡ Cone cone fault → cone < length fleet
  named_at by cone fault below is = let at = at_by by below in at.run.named cone fault (sym (ap ended at.mid_is) ∙ is)

  -- the passes show it
  pub each_shows : EachShows (λ cone by. calls_of (sight_of (slice_get mids by) cone)) (λ cone by. refused_of (sight_of (slice_get mids by) cone)) news
  each_shows = λ by new is.
      let mid = some_at mids by (let n = taken.number in let w = slice_get_within news by new is in omega (arith, n, w)) in
      let below : by < workers = (let n = taken.number in let m = ran.as_many in let w = slice_get_within news by new is in omega (arith, n, m, w, size)) in
      subst (λ (w : Working S H). Shows (λ cone by. calls_of (sight_of (slice_get mids by) cone)) (λ cone by. refused_of (sight_of (slice_get mids by) cone)) by (by + 1) w.pass)
      (sym (taken.kept by mid.0 new mid.1 is)) (record {
        calls = λ cone sight there other low high. (shown by mid.0 mid.1 below cone sight there other (omega (arith, low, high))).0;
        refused = λ cone sight there other low high. (shown by mid.0 mid.1 below cone sight there other (omega (arith, low, high))).1;
      })
    where
      shown : (by : ℕ) (mid : Working S H) → slice_get mids by ≡ Some mid → by < workers → (cone : ℕ) (sight : Sight H ConeFault) → slice_get mid.pass.cones cone ≡ Some
          sight → (other : ℕ) → by ≡ other →
          (own sight.calls other ≡ calls_of (sight_of (slice_get mids other) cone)) × (own_refused sight.refused other ≡ refused_of (sight_of (slice_get mids other) cone))
      shown by mid mid_is below cone sight there other same =
          subst (λ n. (own sight.calls n ≡ calls_of (sight_of (slice_get mids n) cone)) × (own_refused sight.refused n ≡ refused_of (sight_of (slice_get mids n) cone))) same
          (let cone_below : cone < length fleet = (let at = at_by by below in let n = at.run.belongs.as_many in let e = same_Some mid at.mid (sym mid_is ∙ at.mid_is) in
          let w = subst (λ (m : Working S H). cone < length m.pass.cones) e (slice_get_within mid.pass.cones cone sight there) in omega (arith, n, w)) in
          let at = at_cone by cone below cone_below in
          let sight_is : sight_of (slice_get mids by) cone ≡ Some sight = ap (λ (m : Option (Working S H)). sight_of m cone) mid_is ∙ there in
          let after_is : at.after ≡ sight = same_Some at.after sight (sym at.after_is ∙ sight_is) in
          let share = share_of (slice_get olds by) in
          let all = at.left.part.each in
          let firsts = (part_first s by cone share (reads_of (choice_at by)) at.after.calls (map (λ pair. pair.0) at.after.refused) at.left.part).each in
          let calls_by = All-weaker (IsOwn s by share) (λ p. p.by ≡ by) (λ p o. o.by_is) at.after.calls firsts in
          let refused_by = map_back (λ p. p.by ≡ by) (λ (pair : Packet × ConeFault). pair.0) at.after.refused
          (All-weaker (IsOwn s by share) (λ p. p.by ≡ by) (λ p o. o.by_is) (map (λ pair. pair.0) at.after.refused)
          (All-behind (IsOwn s by share) at.after.calls (map (λ pair. pair.0) at.after.refused) all)) in (
            subst (λ (x : Sight H ConeFault). own x.calls by ≡ calls_of (sight_of (slice_get mids by) cone)) after_is
                (filter_all (λ (p : Packet). p.by) at.after.calls by calls_by ∙ ap calls_of (sym at.after_is)),
            subst (λ (x : Sight H ConeFault). own_refused x.refused by ≡ refused_of (sight_of (slice_get mids by) cone)) after_is
                (filter_all (λ (r : Packet × ConeFault). r.0.by) at.after.refused by refused_by ∙ ap refused_of (sym at.after_is)),
          ))

module _ {S H T R : Type 0} (remaining : S → Option (List ℕ)) (faults mark : S → ℕ) (held : HeldOf H T R ConeFault) (fleet : FleetSight H) (s : Numbers) (workers count : ℕ)
    (all back : List (Reading S)) (olds mids news : List (Working S H)) (size : length olds ≡ workers) (count_is : count ≡ length all) (are : AreReady fleet s count all olds)
    (ran : EachTwo (HasRun remaining faults mark fleet) olds mids) (taken : WereTaken count mids news back)
    (numbers : (cone : ℕ) (lock : LockSight H) → slice_get fleet cone ≡ Some lock → lock.numbers ≡ workers)
    (pass : FleetPassSight H ConeFault) (states : List H) (closes : ClosesEach held fleet pass states)
    (shows : Shows (λ cone by. calls_of (sight_of (slice_get mids by) cone)) (λ cone by. refused_of (sight_of (slice_get mids by) cone)) 0 workers pass) where
  abbrev chosen : ℕ → Option Choice
  chosen = choice_at remaining faults mark fleet s workers count all back olds mids news size count_is are ran taken

  left_by : AreLeftBy held s workers (firsts_of fleet) states (λ by. share_of (slice_get olds by)) (λ by. reads_of (chosen by)) (λ by. stopped_of (chosen by))
      (λ by. ended (slice_get mids by)) (λ cone by. calls_of (sight_of (slice_get mids by) cone)) (λ cone by. refused_of (sight_of (slice_get mids by) cone))
  left_by = record {
    number = closes.as_many.1 ∙ sym (length-map fleet (λ lock. lock.first));
    each = λ cone first closed first_is closed_is.
        let lock = image_at (λ (l : LockSight H). l.first) fleet cone first first_is in
        let sight = some_at pass.cones cone (let n = closes.as_many.0 in let w = slice_get_within fleet cone lock.0 lock.1 in omega (arith, n, w)) in
        subst (λ (f : H). IsBack held workers (λ by. calls_of (sight_of (slice_get mids by) cone)) (λ by. refused_of (sight_of (slice_get mids by) cone)) f closed) lock.2
        (is_back held workers (λ by. calls_of (sight_of (slice_get mids by) cone)) (λ by. refused_of (sight_of (slice_get mids by) cone)) closed
        lock.0 (numbers cone lock.0 lock.1) sight.0
        (λ by below. shows.calls cone sight.0 sight.1 by (omega arith) below) (λ by below. shows.refused cone sight.0 sight.1 by (omega arith) below)
        (closes.each cone lock.0 sight.0 closed lock.1 sight.1 closed_is));
    left = λ cone by cone_below below. left_at remaining faults mark fleet s workers count all back olds mids news size count_is are ran taken cone by
        (let n = length-map fleet (λ (l : LockSight H). l.first) in omega (arith, n, cone_below)) below;
    named = λ by cone fault below is.
        let n = length-map fleet (λ (l : LockSight H). l.first) in
        let inside = named_at remaining faults mark fleet s workers count all back olds mids news size count_is are ran taken by cone fault below is in omega (arith, n, inside);
  }

  -- the ends of all workers say how each one ended
  ends_say : (ends : List WorkerEnd) → ends ≡ ends_of mids → (λ by. ended (slice_get mids by)) ≡ end_at ends
  ends_say ends are_ends = λ i by. (ended_in mids by ∙ ap (λ (es : List WorkerEnd). end_at es by) (sym are_ends)) i
    where
      ended_in : (workers : List (Working S H)) (by : ℕ) → ended (slice_get workers by) ≡ end_at (ends_of workers) by
      ended_in [] by = refl
      ended_in (worker ∷ workers) zero = refl
      ended_in (worker ∷ workers) (suc by) = ended_in workers by

  pub crewed : (ends : List WorkerEnd) → ends ≡ ends_of mids → HasCrewed remaining faults mark held s all back (firsts_of fleet) states ends
  crewed ends are_ends = record {
    shares = λ by. share_of (slice_get olds by);
    reads = λ by. reads_of (chosen by);
    was = λ by. readers_of (slice_get olds by);
    readings = λ by. readers_of (slice_get mids by);
    places = λ by. place_of (chosen by);
    stopped = λ by. stopped_of (chosen by);
    added = λ cone by. calls_of (sight_of (slice_get mids by) cone);
    turned = λ cone by. refused_of (sight_of (slice_get mids by) cone);
    read_by = subst (λ n. AreReadBy remaining faults mark n all back (λ by. share_of (slice_get olds by)) (λ by. reads_of (chosen by)) (λ by. readers_of (slice_get olds by))
        (λ by. readers_of (slice_get mids by)) (λ by. place_of (chosen by)) (λ by. stopped_of (chosen by)) (end_at ends)) (sym long)
        (subst (AreReadBy remaining faults mark workers all back (λ by. share_of (slice_get olds by)) (λ by. reads_of (chosen by)) (λ by. readers_of (slice_get olds by))
        (λ by. readers_of (slice_get mids by)) (λ by. place_of (chosen by)) (λ by. stopped_of (chosen by))) (ends_say ends are_ends)
        (read_by remaining faults mark fleet s workers count all back olds mids news size count_is are ran taken));
    left_by = subst (λ n. AreLeftBy held s n (firsts_of fleet) states (λ by. share_of (slice_get olds by)) (λ by. reads_of (chosen by)) (λ by. stopped_of (chosen by)) (end_at ends)
        (λ cone by. calls_of (sight_of (slice_get mids by) cone)) (λ cone by. refused_of (sight_of (slice_get mids by) cone))) (sym long)
        (subst (λ (f : ℕ → WorkerEnd). AreLeftBy held s workers (firsts_of fleet) states (λ by. share_of (slice_get olds by)) (λ by. reads_of (chosen by)) (λ by. stopped_of (chosen by)) f
        (λ cone by. calls_of (sight_of (slice_get mids by) cone)) (λ cone by. refused_of (sight_of (slice_get mids by) cone))) (ends_say ends are_ends) left_by);
  }
    where
      long : length ends ≡ workers
      long = ap (λ (es : List WorkerEnd). length es) are_ends ∙ (length-map mids (λ (w : Working S H). w.end) ∙ (ran.as_many ∙ size))

-- all that a crew did that ran
module _ {S H T R : Type 0} (remaining : S → Option (List ℕ)) (faults mark : S → ℕ) (held : HeldOf H T R ConeFault) (fleet : FleetSight H) (s : Numbers) (workers count : ℕ)
    (all : List (Reading S)) (olds : List (Working S H)) (size : length olds ≡ workers) (count_is : count ≡ length all) (are : AreReady fleet s count all olds)
    (numbers : (cone : ℕ) (lock : LockSight H) → slice_get fleet cone ≡ Some lock → lock.numbers ≡ workers) where
  pub has_crewed : (news items : List (Working S H)) (back : List (Reading S)) (ends : List WorkerEnd) (crew_ran : HasCrewRun remaining faults mark fleet count olds news back ends)
      (same : items ≡ news) (pass : FleetPassSight H ConeFault) (states : List H) → ClosesEach held fleet pass states →
      ((brought : Brought) (turned : Turned) → EachShows brought turned items → Shows brought turned 0 (length items) pass) →
      HasCrewed remaining faults mark held s all back (firsts_of fleet) states ends
  has_crewed news items back ends crew_ran same pass states closes joins =
      crewed remaining faults mark held fleet s workers count all back olds crew_ran.mids news size count_is are crew_ran.ran crew_ran.taken numbers pass states closes
      (shows_all fleet workers items news same (crew_ran.taken.number ∙ (crew_ran.ran.as_many ∙ size)) pass brought turned (joins brought turned)
      (each_shows remaining faults mark fleet s workers count all back olds crew_ran.mids news size count_is are crew_ran.ran crew_ran.taken)) ends crew_ran.ends_are
    where
      brought : Brought
      brought = λ cone by. calls_of (sight_of (slice_get crew_ran.mids by) cone)

      turned : Turned
      turned = λ cone by. refused_of (sight_of (slice_get crew_ran.mids by) cone)

  pub as_many_ends : (news : List (Working S H)) (back : List (Reading S)) (ends : List WorkerEnd) → HasCrewRun remaining faults mark fleet count olds news back ends →
      length ends ≡ workers
  as_many_ends news back ends crew_ran = ap (λ (es : List WorkerEnd). length es) crew_ran.ends_are ∙ (length-map crew_ran.mids (λ (w : Working S H). w.end) ∙ (crew_ran.ran.as_many ∙ size))
