use Rattle.std.proofs.{Common.{ℕ, ◌≡◌, ◌+◌, ◌*◌, ◌-◌, ◌≤◌, ◌∙◌, ◌++◌, List, take, drop, length, ap, sym, subst, arith}, lemmas.List.{length-take, length-take-le}}
use Rattle.std.specs.{Prelude.{OnOk, vec_capacity}, List.All}
use Rattle.lert_bay.specs.{declared.bay.TheConstants.FRAMES, Kept.{Bays, seen_by}}
use Rattle.lert_levels.specs.{landing.Landings.AreOfLevels, declared.landing.landing.Landing.Landing, declared.rows.bin_at.BinAt.BinAt, rows.Landing.{AreApart, KeepsRest}, rows.Loading.OneBreaks}
use Rattle.lert_levels.specs.{rows.Rows.AreRows, rows.Young.AreLight, OnDisk.OnDisk, Ready.{AreReached, HasMade}}
use Rattle.lert_levels.proofs.{rows.MoveLaws.written_back, ReachLaws.{held, turned, reached_are, young_some}}
use Rattle.lert_spec.specs.{Edges.{capacity, depth, span}, Bins.Bin, Limits.IsValid, declared.numbers.Numbers.Numbers}
use Rattle.lert_levels.proofs.levels.Levels.merge.Given as given
use Rattle.lert_levels.proofs.levels.Levels.merge.Goals as goal
use Rattle.lert_levels.proofs.levels.Levels.merge.Goals.{After-depth-depth}

abbrev bays : (g : given.Over) → Bays g.row.B.Denot
bays g = seen_by g.B.Faulty g.B.Bay

pub depth-depth-requires : goal.depth-depth-requires
depth-depth-requires g c = record {
  first = c.requires.first;
  last = subst (λ (v : OnDisk). c.args.m ≤ capacity v.settings) (sym c.self.view_is) c.requires.last;
}

pub overflow_cast-depth : goal.overflow_cast-depth
overflow_cast-depth g c = record { fits = omega (arith, c.depth-depth.type_inv) }

pub slice_bounds-rows-end : goal.slice_bounds-rows-end
slice_bounds-rows-end g c =
    sym (length-take-le _ c.deref.result.now (omega (arith, ap (length {A = List BinAt}) c.deref.ensures.value, c.depth-depth.ensures.within, c.self.invariant.0.are.levels)))

-- ---- what the merge is given

-- the settings of level 0, as the levels have them
settings_are : (g : given.Over) (c : After-depth-depth g) → c.self.inside.settings ≡ c.args.zero.now.settings
settings_are g c = ap (λ (v : OnDisk). v.settings) c.self.view_is ∙ sym c.requires.same

-- what was lent are the rows that the flush reaches
lent_is : (g : given.Over) (c : After-depth-depth g) (lent : List (List BinAt)) → lent ≡ c.self.inside.rows.items →
    take c.depth-depth.result lent ≡ take (depth c.args.self.now.settings c.args.m) c.args.self.now.rows
lent_is g c lent is =
    ap (take c.depth-depth.result) is
    ∙ ap (λ d. take d c.self.inside.rows.items) c.depth-depth.ensures.value
    ∙ ap (λ (v : OnDisk). take (depth v.settings c.args.m) v.rows) c.self.view_is

pub merge_rows-reading-requires : goal.merge_rows-reading-requires
merge_rows-reading-requires g c =
    let at = (goal.at.merge_rows-reading-requires g c).After-depth-depth in
    let s = c.args.self.now.settings in
    let version = c.args.self.now.version in
    let of = ap (λ (v : OnDisk). v.version) c.self.view_is in
    let t = c.args.zero.now.settings in
    let m = c.args.m in
    let rows = c.args.self.now.rows in
    let young = c.args.zero.now.bins in
    let same = settings_are g at in
    let reading = held _ c.self.inside.reading c.take.result c.in-Some.reading c.self.invariant.1 c.take.ensures.value c.in-Some.is in
    let valid : IsValid s = subst IsValid (c.numbers-valid.ensures.value ∙ ap (λ (v : OnDisk). v.settings) c.self.view_is) c.numbers-valid.ensures.valid in
    let are : AreRows s rows = subst (λ (v : OnDisk). AreRows v.settings v.rows) c.self.view_is c.self.invariant.0.are in
    let some = c.tables-tables.ensures.some (young_some s m c.args.zero.now.from c.args.zero.now.to c.requires.first c.requires.from c.requires.to) in
    let narrow = subst (λ (n : Numbers). All (λ (bin : Bin). bin.to - bin.from ≤ span n 0) young) c.requires.same c.tables-tables.ensures.narrow in
    record {
      same = reading.0 ∙ same;
      version = c.self.invariant.0.of_version;
      light = subst (λ (v : ℕ). AreLight v young) (sym of) c.requires.light;
      ahead = subst (λ (n : Numbers). (n.levels + 1) * n.bins ≤ c.in-Some.reading.ahead.room) same reading.1;
      landings = subst (AreOfLevels t) (sym c.deref_mut.ensures.value)
          (subst (λ (n : Numbers). AreOfLevels n c.self.inside.writing.landings.items) same c.self.invariant.2.of_levels);
      enough = omega (
        arith,
        length-take c.depth-depth.result c.deref.result.now,
        ap (length {A = Landing}) c.deref_mut.ensures.value,
        c.depth-depth.ensures.within,
        c.self.invariant.2.count,
      );
      parts = subst (λ (n : Numbers). (n.levels + 1) * n.bins ≤ vec_capacity c.self.inside.writing.parts) same c.self.invariant.2.room;
      first = c.requires.first;
      last = subst (λ (n : Numbers). m ≤ capacity n) (sym c.requires.same) c.requires.last;
      reached = subst (AreReached t c.self.inside.version m young) (sym (lent_is g at c.deref.result.now c.deref.ensures.value))
          (subst (λ (v : ℕ). AreReached t v m young (take (depth s m) rows)) (sym of)
          (subst (λ (n : Numbers). AreReached n version m young (take (depth s m) rows)) (sym c.requires.same)
          (reached_are s version valid m c.requires.first c.requires.last rows c.requires.at are young some narrow)));
      none_taken = c.requires.none_taken;
    }

pub invariant_of-self : goal.invariant_of-self
invariant_of-self g c =
    let inside = c.self.inside.settings in
    let settings_is : c.args.zero.now.settings ≡ inside = c.requires.same ∙ sym (ap (λ (v : OnDisk). v.settings) c.self.view_is) in
    let e = c.merge_rows-reading.ensures in
    let new = c.merge_rows-reading.new.landings in
    let all = c.self.inside.writing.landings.items in
    let count : length new ≡ length all = e.count ∙ ap (length {A = Landing}) c.deref_mut.ensures.value in
    let len : c.self.inside.writing.landings.len ≡ length new = omega (arith, count, c.deref_mut.ensures.len, ap (length {A = Landing}) c.deref_mut.ensures.value) in
    let back : take c.self.inside.writing.landings.len (new ++ drop (length new) all) ≡ new = written_back c.self.inside.writing.landings.len new all (omega (arith, len, count)) in
    let before = held _ c.self.inside.reading c.take.result c.in-Some.reading c.self.invariant.1 c.take.ensures.value c.in-Some.is in (
      c.self.invariant.0,
      (e.room ∙ settings_is, omega (arith, e.ahead, before.1)),
      record {
        of_levels = subst (AreOfLevels inside) (sym back) (subst (λ (t : Numbers). AreOfLevels t new) settings_is e.landings);
        count = ap (length {A = Landing}) back ∙ count ∙ c.self.invariant.2.count;
        room = omega (arith, c.self.invariant.2.room, e.parts);
      },
    )

-- ---- behind the merge

pub returns : goal.returns
returns g c =
    let at = (goal.at.returns g c).After-depth-depth in
    let m = c.args.m in
    let young = c.args.zero.now.bins in
    let took = g.O.Totals.took c.merge_rows-reading.new.totals in
    let before = g.B.Bay.files c.args.bay.now in
    let after = g.B.Bay.files c.merge_rows-reading.new.bay in
    let said : (P : Numbers → ℕ → List (List BinAt) → Type 0) → P c.args.zero.now.settings c.self.inside.version (take c.depth-depth.result c.deref.result.now) →
    P c.args.self.now.settings c.args.self.now.version (take (depth c.args.self.now.settings m) c.args.self.now.rows) =
    λ P is. turned (λ n rs. P n c.args.self.now.version rs) c.args.self.now.settings c.args.zero.now.settings _ _ c.requires.same (lent_is g at c.deref.result.now c.deref.ensures.value)
    (subst (λ (v : ℕ). P c.args.zero.now.settings v (take c.depth-depth.result c.deref.result.now)) (ap (λ (v : OnDisk). v.version) c.self.view_is) is) in
    let e = c.merge_rows-reading.ensures in
    record {
      same = c.self.view_is;
      valid = subst IsValid (c.numbers-valid.ensures.value ∙ ap (λ (v : OnDisk). v.settings) c.self.view_is) c.numbers-valid.ensures.valid;
      rows = subst (λ (v : OnDisk). AreRows v.settings v.rows) c.self.view_is c.self.invariant.0.are;
      made = said (λ n v rs. OnOk c.merge_rows-reading.result.1 (HasMade n v m young rs took before after)) e.made;
      malformed = λ seen told at is. said (λ n v rs. OneBreaks n v rs (seen FRAMES) at) (e.malformed seen told at is);
      malformed_after = λ seen told at is. said (λ n v rs. OneBreaks n v rs (seen FRAMES) at) (e.malformed_after seen told at is);
      rest = said (λ n v rs. KeepsRest (bays g) (AreApart n v m rs) c.args.bay.now c.merge_rows-reading.new.bay) e.rest;
      kept = e.kept;
    }
