-- A run on its way: it begins, goes on with the next trace, stops at one, and ends.
use Rattle.std.proofs.Common.{◌≡◌, ◌≢◌, ℕ, ◌+◌, ◌^◌, ◌<◌, ◌≤◌, List, [], length, set, replicate, Option, Some, slice_get, refl, ap, sym, ◌∙◌, subst, inl, inr, arith, length-set}
use Rattle.std.proofs.{lemmas.Bool.cases_eq, lemmas.List.{get_or-replicate, length-replicate}, lemmas.Option.{get_or_from_slice_get, slice_get_within, same_Some}}
use Rattle.std.specs.List.Sorted.{IsStrictlyIncreasing}
use Rattle.lert_conelock.specs.Sight.{Sight}
use Rattle.lert_fleet.specs.{Cones.{FleetPassSight, FleetSight, IsPassOf}, Each.EachThree}
use Rattle.lert_fleet.proofs.Places.{slice_get-set_other, slice_get-set_same, some_at}
use Rattle.lert_spec.specs.{declared.item.Item.Item, declared.numbers.Numbers.Numbers}
use Rattle.lert_trace.specs.Reader.{Reading}
use Rattle.lert_base.specs.declared.cone_fault.ConeFault.{ConeFault}
use Rattle.lert_worker.specs.{Ends.{IsAtEnd, Stopped, StoppedAt, WasRead}, Ran.{HasRun, Working}, Runs.{BroughtIn, HasEnded, RunsSoFar}, Sending.AreSent, Trace.{EndsBy, IsNamed}}
use Rattle.lert_worker.specs.{declared.end.WorkerEnd.WorkerEnd, declared.end.WorkerEnd.TheVariants.{Ran, Trace, Cone}}
use Rattle.lert_worker.proofs.{ReadLaws.was_new, RunLaws.{brought_more, brought_none, ran_in, stopped_in}}

-- of no trace any item was read
none_read : (n place : ℕ) (items : List Item) → slice_get (replicate n []) place ≡ Some items → items ≡ []
none_read n place items is =
    let within = slice_get_within (replicate n []) place items is in
    sym (get_or_from_slice_get (replicate n []) place items [] is) ∙ get_or-replicate n place [] [] (omega (arith, within, length-replicate {A = List Item} n []))

module _ {S H : Type 0} (remaining : S → Option (List ℕ)) (faults mark : S → ℕ) (s : Numbers) (number : ℕ) (traces : List ℕ) where
  pub runs_none : (readers : List (Reading S)) (pass : FleetPassSight H ConeFault) → RunsSoFar remaining faults mark s number traces 0 readers pass readers pass
  runs_none readers pass = record {
    reads = replicate (length readers) [];
    read = record {
      as_many = (refl, length-replicate (length readers) []);
      each = λ place x y z x_is y_is z_is.
          subst (λ (items : List Item). WasRead remaining faults mark x y items) (sym (none_read (length readers) place z z_is))
          (subst (λ (r : Reading S). WasRead remaining faults mark x r []) (same_Some x y (sym x_is ∙ y_is)) (was_new remaining faults mark x));
    };
    unread = λ other items from is. none_read (length readers) other items is;
    below = λ other now under is. absurd (omega (arith, under));
    above = λ other from. refl;
    as_many = refl;
    cones = λ cone before after was is.
        subst (λ (x : Sight H ConeFault). BroughtIn s number cone traces (replicate (length readers) []) 0 before x) (same_Some before after (sym was ∙ is))
        (brought_none s number cone traces (replicate (length readers) []) (λ place items found. none_read (length readers) place items found) before);
  }

  module _ (up : IsStrictlyIncreasing traces) (place trace : ℕ) (old mid : List (Reading S)) (start pass : FleetPassSight H ConeFault)
      (runs : RunsSoFar remaining faults mark s number traces place old start mid pass) (many : length old ≡ length traces)
      (at : slice_get traces place ≡ Some trace) (from to : Reading S) (found : slice_get mid place ≡ Some from)
      (items : List Item) (read : WasRead remaining faults mark from to items) (below : ℕ) (number_is : length pass.cones ≡ below) (next : FleetPassSight H ConeFault) where
    within_mid : place < length mid
    within_mid = slice_get_within mid place from found

    within_reads : place < length runs.reads
    within_reads = let one = runs.read.as_many.0 in let two = runs.read.as_many.1 in omega (arith, within_mid, one, two)

    -- the items that were read of each trace
    reads_more : EachThree (WasRead remaining faults mark) old (set mid place to) (set runs.reads place items)
    reads_more = record {
      as_many = (length-set mid place to ∙ runs.read.as_many.0, length-set runs.reads place items ∙ runs.read.as_many.1);
      each = λ other x y z x_is y_is z_is. elim (cases_eq other place) [
        | inl same ↦
            let from_is : from ≡ x = same_Some from x (sym found ∙ (runs.above place (omega arith) ∙ (ap (slice_get old) (sym same) ∙ x_is))) in
            let to_is : to ≡ y = same_Some to y (sym (slice_get-set_same mid place to within_mid) ∙ (ap (slice_get (set mid place to)) (sym same) ∙ y_is)) in
            let items_are : items ≡ z = same_Some items z (sym (slice_get-set_same runs.reads place items within_reads) ∙ (ap (slice_get (set runs.reads place items)) (sym same) ∙ z_is)) in
            subst (λ (r : Reading S). WasRead remaining faults mark r y z) from_is
            (subst (λ (r : Reading S). WasRead remaining faults mark from r z) to_is (subst (λ (xs : List Item). WasRead remaining faults mark from to xs) items_are read))
        | inr apart ↦
            runs.read.each other x y z x_is (sym (slice_get-set_other mid place other to apart) ∙ y_is)
            (sym (slice_get-set_other runs.reads place other items apart) ∙ z_is)
      ];
    }

    above_more : (other : ℕ) → place < other → slice_get (set mid place to) other ≡ slice_get old other
    above_more other later = slice_get-set_other mid place other to (λ same. absurd (omega (arith, later, same))) ∙ runs.above other (omega (arith, later))

    to_here : (now : Reading S) → slice_get (set mid place to) place ≡ Some now → to ≡ now
    to_here now is = same_Some to now (sym (slice_get-set_same mid place to within_mid) ∙ is)

    few : place + 1 ≤ length traces
    few = let inside = slice_get_within traces place trace at in omega (arith, inside)

    -- what a cone had before this trace
    there : (cone : ℕ) (before : Sight H ConeFault) → slice_get start.cones cone ≡ Some before
        → (now : Sight H ConeFault) × (slice_get pass.cones cone ≡ Some now)
    there cone before was = some_at pass.cones cone (let inside = slice_get_within start.cones cone before was in omega (arith, inside, runs.as_many))

    pub runs_more : IsAtEnd remaining to → AreSent s number trace below items Ran pass next → RunsSoFar remaining faults mark s number traces (place + 1) old start (set mid place to) next
    runs_more ended sent = record {
      reads = set runs.reads place items;
      read = reads_more;
      unread = λ other xs later is.
          runs.unread other xs (omega (arith, later)) (sym (slice_get-set_other runs.reads place other items (λ same. absurd (omega (arith, later, same)))) ∙ is);
      below = λ other now under is. elim (cases_eq other place) [
        | inl same ↦ subst (IsAtEnd remaining) (to_here now (ap (slice_get (set mid place to)) (sym same) ∙ is)) ended
        | inr apart ↦ runs.below other now (omega (arith, under, apart)) (sym (slice_get-set_other mid place other to apart) ∙ is)
      ];
      above = λ other later. above_more other (omega (arith, later));
      as_many = sent.as_many ∙ runs.as_many;
      cones = λ cone before after was is.
          let now = there cone before was in
          brought_more s number cone traces runs.reads up place trace at within_reads items before now.0 after (runs.cones cone before now.0 was now.1)
          (sent.each cone now.0 after (let inside = slice_get_within pass.cones cone now.0 now.1 in omega (arith, inside, number_is)) now.1 is);
    }

    stopped_at : StoppedAt remaining place old (set mid place to)
    stopped_at = record {
      below = λ other now under is.
          runs.below other now under (sym (slice_get-set_other mid place other to (λ same. absurd (omega (arith, under, same)))) ∙ is);
      above = above_more;
    }

    stops : (end : WorkerEnd) → EndsBy remaining end trace to → end ≢ Ran → Stopped remaining traces old (set mid place to) place trace end
    stops Ran ends other = absurd (other refl)
    stops (Trace t fault) ends other = (ends.0, at, stopped_at, λ now is. ap (λ (r : Reading S). r.fault) (sym (to_here now is)) ∙ ends.1)
    stops (Cone cone fault) ends other = (at, stopped_at, λ now is. ap (λ (r : Reading S). r.fault) (sym (to_here now is)) ∙ ends)

    pub runs_stopped : (end : WorkerEnd) → EndsBy remaining end trace to → end ≢ Ran → IsNamed end (2 ^ s.cone_bits) → AreSent s number trace below items end pass next
        → HasEnded remaining faults mark s number traces old start (set mid place to) next end
    runs_stopped end ends other named sent = record {
      reads = set runs.reads place items;
      read = reads_more;
      place = place;
      stopped = trace;
      stopped_is = stops end ends other;
      named = named;
      cones = λ cone before after was is.
          let now = there cone before was in
          stopped_in s number cone traces runs.reads up place trace at within_reads items before now.0 after (runs.cones cone before now.0 was now.1) end
          (sent.each cone now.0 after (let inside = slice_get_within pass.cones cone now.0 now.1 in omega (arith, inside, number_is)) now.1 is) other few;
    }

  pub runs_all : (done : ℕ) (old new : List (Reading S)) (start pass : FleetPassSight H ConeFault) → done ≡ length traces → length old ≡ length traces
      → RunsSoFar remaining faults mark s number traces done old start new pass → HasEnded remaining faults mark s number traces old start new pass Ran
  runs_all done old new start pass all many runs = record {
    reads = runs.reads;
    read = runs.read;
    place = 0;
    stopped = 0;
    stopped_is = λ other now is.
        runs.below other now (let inside = slice_get_within new other now is in let one = runs.read.as_many.0 in omega (arith, inside, one, many, all)) is;
    named = λ cone fault is. absurd (cc);
    cones = λ cone before after was is. ran_in s number cone traces runs.reads done 0 before after (omega (arith, all)) (runs.cones cone before after was is);
  }

-- a worker whose traces were run so has run
pub has_run : {S H : Type 0} (remaining : S → Option (List ℕ)) (faults mark : S → ℕ) (fleet : FleetSight H) (old new : Working S H) → new.number ≡ old.number
    → new.settings ≡ old.settings → new.traces ≡ old.traces → IsPassOf new.pass fleet → new.pass.lo ≡ old.pass.lo → new.pass.hi ≡ old.pass.hi
    → length fleet ≡ 2 ^ old.settings.cone_bits → HasEnded remaining faults mark old.settings old.number old.traces old.readers old.pass new.readers new.pass new.end
    → HasRun remaining faults mark fleet old new
has_run remaining faults mark fleet old new number settings traces belongs lo hi cones ended = record {
  number_is = number;
  settings_is = settings;
  traces_are = traces;
  belongs = belongs;
  lo_is = lo;
  hi_is = hi;
  reads = ended.reads;
  read = ended.read;
  place = ended.place;
  stopped = ended.stopped;
  stopped_is = ended.stopped_is;
  named = subst (IsNamed new.end) (sym cones) ended.named;
  cones = ended.cones;
}
