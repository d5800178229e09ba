-- The items of all traces, by what was read of each.
use Rattle.std.proofs.Common.{◌≡◌, ℕ, ◌%◌, ◌<◌, List, [], ◌++◌, length, take, drop, Option, Some, None, slice_get, refl, ap, sym, ◌∙◌, subst, arith, append-nil}
use Rattle.std.proofs.{lemmas.List.{take-append-drop, take_all}, Common.length-drop, lemmas.Option.{get_or_from_slice_get, none-some, same_Some, slice_get_within}}
use Rattle.lert_base.specs.Beginning.{BeginsWith}
use Rattle.lert_io.specs.Reading.{IfTold}
use Rattle.lert_spec.specs.declared.item.Item.{Item}
use Rattle.lert_trace.specs.Trace.{whole}
use Rattle.lert_trace.specs.Reader.{Reading}
use Rattle.lert_worker.specs.Ends.{IsAtEnd, WasRead}
use Rattle.lert_worker.proofs.crew.Lists.{IsListOf, list_of}
use Rattle.lert_ingest.proofs.Crewed.{IsTraceRead, ReadCrew, read_at, shared_all}
use Rattle.lert_ingest.specs.Traces.{AreRestsOf}

-- the first items begin all of them
begins_taken : (items all : List Item) (n : ℕ) → items ≡ take n all → BeginsWith all items
begins_taken items all n is = (drop n all, ap (λ xs. xs ++ drop n all) is ∙ take-append-drop n all)

module _ {S : Type 0} (remaining : S → Option (List ℕ)) (faults mark : S → ℕ) where
  -- what was read of a trace begins the items that it had still to give, and is them all at its end
  pub read_begins : (first now : Reading S) (read : List Item) (bytes : List ℕ) → WasRead remaining faults mark first now read → remaining first.made ≡ Some bytes →
      BeginsWith (drop first.given (whole bytes)) read
  read_begins first now read bytes was told = begins_taken read (drop first.given (whole bytes)) (length read) (was.told bytes told)

  pub read_whole : (first now : Reading S) (read : List Item) (bytes : List ℕ) → WasRead remaining faults mark first now read → remaining first.made ≡ Some bytes →
      IsAtEnd remaining now → read ≡ drop first.given (whole bytes)
  read_whole first now read bytes was told at_end =
      let trace = at_end.told bytes (ap remaining was.made_is ∙ told) in
      let given = was.given_is in
      let all = trace.all_given in
      was.told bytes told ∙ take_all (length read) (drop first.given (whole bytes)) (omega (arith, given, all, length-drop first.given (whole bytes)))

module _ {S : Type 0} (crew : ReadCrew S) where
  open crew use {remaining, s_faults, s_mark, workers, some, opened, given, laters, shares, reads, was, readings, places, stopped, ends, run}

  -- the items of a trace, read to their end or not
  pub record AreAt (trace : ℕ) (items : List Item) : Type 0 where
    pub told : (before : S) → slice_get opened trace ≡ Some before → IfTold (remaining before) (λ bytes. items ≡ drop (given trace) (whole bytes))
    pub begun : (by place : ℕ) → by < workers → slice_get (shares by) place ≡ Some trace → (read : List Item) × (slice_get (reads by) place ≡ Some read) × BeginsWith items read
    pub untold : (before : S) → slice_get opened trace ≡ Some before → remaining before ≡ None →
        (by place : ℕ) → by < workers → slice_get (shares by) place ≡ Some trace → slice_get (reads by) place ≡ Some items

  -- the worker and the place of a trace
  by_trace : (by place trace : ℕ) → by < workers → slice_get (shares by) place ≡ Some trace → (trace < length opened) × (trace % workers ≡ by)
  by_trace by place trace below there =
      subst (λ t. (t < length opened) × (t % workers ≡ by)) (get_or_from_slice_get (shares by) place trace trace there)
      ((shared_all crew by below).own place trace (slice_get_within (shares by) place trace there))

  pub named : (trace : ℕ) → trace % workers < workers
  named trace = omega (arith, some)

  pub there_is : (trace : ℕ) → trace < length opened → (place : ℕ) × (slice_get (shares (trace % workers)) place ≡ Some trace)
  there_is trace below = (shared_all crew (trace % workers) (named trace)).all trace below refl

  -- what is so at the place of a trace is so wherever the trace is
  only_there : (trace : ℕ) (below : trace < length opened) (P : ℕ → ℕ → Type 0) → P (trace % workers) (there_is trace below).0 →
      (by place : ℕ) → by < workers → slice_get (shares by) place ≡ Some trace → P by place
  only_there trace below P here by place by_below there =
      let same = (by_trace by place trace by_below there).1 in
      let there_same : slice_get (shares (trace % workers)) place ≡ Some trace = subst (λ n. slice_get (shares n) place ≡ Some trace) (sym same) there in
      let place_same = (shared_all crew (trace % workers) (named trace)).once (there_is trace below).0 place trace (there_is trace below).1 there_same in
      subst (λ n. P n place) same (subst (P (trace % workers)) place_same here)

  items_at : (trace : ℕ) → trace < length opened → (items : List Item) × AreAt trace items
  items_at trace below = by_case (remaining of.first.made) refl
    where
      at : (now : Reading S) × (read : List Item) × (slice_get (readings (trace % workers)) (there_is trace below).0 ≡ Some now)
          × (slice_get (reads (trace % workers)) (there_is trace below).0 ≡ Some read) × IsTraceRead crew trace now read
      at = read_at crew (trace % workers) (there_is trace below).0 trace (named trace) (there_is trace below).1

      of : IsTraceRead crew trace at.0 at.1
      of = at.4

      by_case : (told : Option (List ℕ)) → remaining of.first.made ≡ told → (items : List Item) × AreAt trace items
      by_case None none = (
        at.1,
        record {
          told = λ before there bytes told. absurd (none-some bytes (sym none ∙ (ap remaining (same_Some of.first.made before (sym of.begun.made_is ∙ there)) ∙ told)));
          begun = only_there trace below (λ by place. (read : List Item) × (slice_get (reads by) place ≡ Some read) × BeginsWith at.1 read) (at.1, at.3, ([], append-nil at.1));
          untold = λ before there untold. only_there trace below (λ by place. slice_get (reads by) place ≡ Some at.1) at.3;
        },
      )
      by_case (Some bytes) told = (
        drop (given trace) (whole bytes),
        record {
          told = λ before there others told'.
              ap (λ bs. drop (given trace) (whole bs)) (same_Some bytes others (sym told ∙ (ap remaining (same_Some of.first.made before (sym of.begun.made_is ∙ there)) ∙ told')));
          begun = only_there trace below (λ by place. (read : List Item) × (slice_get (reads by) place ≡ Some read) × BeginsWith (drop (given trace) (whole bytes)) read)
              (at.1, at.3, subst (λ n. BeginsWith (drop n (whole bytes)) at.1) of.begun.given_is (read_begins remaining s_faults s_mark of.first at.0 at.1 bytes of.read_is told));
          untold = λ before there untold. absurd (none-some bytes (sym untold ∙ (ap remaining (same_Some before of.first.made (sym there ∙ of.begun.made_is)) ∙ told)));
        },
      )

  pub all_read : IsListOf (length opened) AreAt
  all_read = list_of AreAt (length opened) items_at

  pub are_items : AreRestsOf remaining given opened all_read.items
  are_items = record { number = all_read.number; each = λ trace before items there is. (all_read.each trace items is).told before there }

  -- what was read begins them
  pub all_begun : (by place trace : ℕ) (items : List Item) → by < workers → slice_get (shares by) place ≡ Some trace → slice_get all_read.items trace ≡ Some items →
      (read : List Item) × (slice_get (reads by) place ≡ Some read) × BeginsWith items read
  all_begun by place trace items below there is = (all_read.each trace items is).begun by place below there

  -- and is them all, where each reader stands at its end
  pub all_whole : ((by place : ℕ) (now : Reading S) → by < workers → slice_get (readings by) place ≡ Some now → IsAtEnd remaining now) →
      (by place trace : ℕ) (items : List Item) → by < workers → slice_get (shares by) place ≡ Some trace → slice_get all_read.items trace ≡ Some items →
      slice_get (reads by) place ≡ Some items
  all_whole at_ends by place trace items below there is = by_case (remaining of.first.made) refl
    where
      at : (now : Reading S) × (read : List Item) × (slice_get (readings by) place ≡ Some now) × (slice_get (reads by) place ≡ Some read) × IsTraceRead crew trace now read
      at = read_at crew by place trace below there

      of : IsTraceRead crew trace at.0 at.1
      of = at.4

      by_case : (told : Option (List ℕ)) → remaining of.first.made ≡ told → slice_get (reads by) place ≡ Some items
      by_case None none = (all_read.each trace items is).untold of.first.made of.begun.made_is none by place below there
      by_case (Some bytes) told =
          at.3 ∙ ap Some (read_whole remaining s_faults s_mark of.first at.0 at.1 bytes of.read_is told (at_ends by place at.0 below at.2)
          ∙ (ap (λ n. drop n (whole bytes)) of.begun.given_is ∙ sym ((all_read.each trace items is).told of.first.made of.begun.made_is bytes told)))
