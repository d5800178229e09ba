use Rattle.std.proofs.{Common.{◌≡◌, ◌<◌, ◌≤◌, ℕ, List, length, slice_get, Some, refl, arith, rules}, lemmas.Option.slice_get_read}
use Rattle.lert_bay.specs.{Files.Files, Kept.{Bays, OnlyReads, seen_by}}
use Rattle.lert_ingest.specs.Bays.{AreLater}
use Rattle.lert_ingest.proofs.{BayLaws.are_same, EachLaws.kept_same}
use Rattle.lert_top.proofs.cones.FreshLaws.{IsLooked, failed_unmade, looked_all, looked_fresh, looked_fresh_now, looked_kept, looked_later, looked_rest, stale_unmade}
use Rattle.lert_top.proofs.cones.bays.find_stale.Given as given
use Rattle.lert_top.proofs.cones.bays.find_stale.Goals as goal

abbrev bays_in : (g : given.Over) → Bays g.row.B.Denot
bays_in g = seen_by g.B.Faulty g.B.Bay

-- one more look, behind those at the bays below
looked : (g : given.Over) (first bays : List g.row.B.Denot) (cone : ℕ) (old new : g.row.B.Denot) {Failed : Type 0} → AreLater g.B.Bay.files g.B.Faulty.faults g.B.Faulty.mark first bays →
    ((other : ℕ) → cone ≤ other → slice_get bays other ≡ slice_get first other) → slice_get bays cone ≡ Some old → OnlyReads (bays_in g) old new Failed →
    IsLooked g.B.Bay.files g.B.Faulty.faults g.B.Faulty.mark first bays cone old new
looked g first bays cone old new later rest found reads = record {
  later = later;
  rest = rest;
  found = found;
  same = reads.seen;
  falls = reads.kept.never_falls;
  marked = reads.kept.mark;
}

pub returns-in-Ok-false : goal.returns-in-Ok-false
returns-in-Ok-false g c =
    let here = c.loop-cone.invariant in
    let first = c.args.bays.now.items in
    let bays = c.loop-cone.bays.items in
    let cone = c.loop-cone.cone in
    let old = c.index_mut.result.now in
    let new = c.is_fresh.new.bay in
    let inside : cone < length bays = omega (arith, c.loop-cone-test.true, c.loop-cone.auto.cone-end, c.len-cone-end.ensures, here.later.number) in
    let found = slice_get_read bays (length bays) cone old refl inside c.index_mut.ensures.value in
    let at = looked g first bays cone old new here.later here.rest found c.is_fresh.ensures.only_reads in
    record {
      room = here.room;
      later = looked_later g.B.Bay.files g.B.Faulty.faults g.B.Faulty.mark first bays cone old new at;
      kept = looked_kept g.B.Bay.files g.B.Faulty.faults g.B.Faulty.mark first bays cone old new at here.kept;
      unmade = stale_unmade g.B.Bay.files g.B.Faulty.faults g.B.Faulty.mark first bays cone old new at here.kept here.fresh
          (λ files told empty. let is = (c.in-Ok-false.ensures.fresh files told).1 empty in let not = c.in-Ok-false.field-0-test in cc);
      fresh = tt;
      fresh_now = tt;
    }

pub returns-in-Err : goal.returns-in-Err
returns-in-Err g c =
    let here = c.loop-cone.invariant in
    let first = c.args.bays.now.items in
    let bays = c.loop-cone.bays.items in
    let cone = c.loop-cone.cone in
    let old = c.index_mut.result.now in
    let new = c.is_fresh.new.bay in
    let inside : cone < length bays = omega (arith, c.loop-cone-test.true, c.loop-cone.auto.cone-end, c.len-cone-end.ensures, here.later.number) in
    let found = slice_get_read bays (length bays) cone old refl inside c.index_mut.ensures.value in
    let at = looked g first bays cone old new here.later here.rest found c.is_fresh.ensures.only_reads in
    record {
      room = here.room;
      later = looked_later g.B.Bay.files g.B.Faulty.faults g.B.Faulty.mark first bays cone old new at;
      kept = looked_kept g.B.Bay.files g.B.Faulty.faults g.B.Faulty.mark first bays cone old new at here.kept;
      unmade = failed_unmade g.B.Bay.files g.B.Faulty.faults g.B.Faulty.mark first bays cone old new at here.kept here.fresh (c.is_fresh.ensures.only_reads.kept.failed (search rules));
      fresh = tt;
      fresh_now = tt;
    }

pub loop-cone-preserved : goal.loop-cone-preserved
loop-cone-preserved g c =
    let here = c.loop-cone.invariant in
    let first = c.args.bays.now.items in
    let bays = c.loop-cone.bays.items in
    let cone = c.loop-cone.cone in
    let old = c.index_mut.result.now in
    let new = c.is_fresh.new.bay in
    let inside : cone < length bays = omega (arith, c.loop-cone-test.true, c.loop-cone.auto.cone-end, c.len-cone-end.ensures, here.later.number) in
    let found = slice_get_read bays (length bays) cone old refl inside c.index_mut.ensures.value in
    let at = looked g first bays cone old new here.later here.rest found c.is_fresh.ensures.only_reads in
    let empty = λ (files : Files) (told : g.B.Bay.files old ≡ Some files). (c.in-Ok-true.ensures.fresh files told).0 c.in-Ok-true.field-0-test in
    record {
      room = here.room;
      later = looked_later g.B.Bay.files g.B.Faulty.faults g.B.Faulty.mark first bays cone old new at;
      kept = looked_kept g.B.Bay.files g.B.Faulty.faults g.B.Faulty.mark first bays cone old new at here.kept;
      rest = looked_rest g.B.Bay.files g.B.Faulty.faults g.B.Faulty.mark first bays cone old new at;
      fresh = looked_fresh g.B.Bay.files g.B.Faulty.faults g.B.Faulty.mark first bays cone old new at here.fresh empty;
      fresh_now = looked_fresh_now g.B.Bay.files g.B.Faulty.faults g.B.Faulty.mark first bays cone old new at here.fresh_now empty;
    }

pub loop-cone-init : goal.loop-cone-init
loop-cone-init g c = record {
  room = refl;
  later = are_same g.B.Bay.files g.B.Faulty.faults g.B.Faulty.mark c.args.bays.now.items;
  kept = kept_same g.B.Bay.files c.args.bays.now.items;
  rest = λ other above. refl;
  fresh = λ other below. absurd (omega (arith, below));
  fresh_now = λ other below. absurd (omega (arith, below));
}

pub returns : goal.returns
returns g c = record {
  room = c.loop-cone.invariant.room;
  later = c.loop-cone.invariant.later;
  fresh = looked_all g.B.Bay.files c.args.bays.now.items c.loop-cone.cone (omega (arith, c.loop-cone-test.false, c.loop-cone.auto.cone-end, c.len-cone-end.ensures)) c.loop-cone.invariant.fresh;
  fresh_now =
      looked_all g.B.Bay.files c.loop-cone.bays.items c.loop-cone.cone
      (omega (arith, c.loop-cone-test.false, c.loop-cone.auto.cone-end, c.len-cone-end.ensures, c.loop-cone.invariant.later.number)) c.loop-cone.invariant.fresh_now;
  kept = c.loop-cone.invariant.kept;
  unmade = tt;
}
