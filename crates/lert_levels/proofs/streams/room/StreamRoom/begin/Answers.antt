use Rattle.std.{proofs.Common.{ℕ, ◌≡◌, ◌+◌, ◌-◌, ◌*◌, ◌^◌, arith, length, Some, List, [], map, refl, sym, ap, ◌∙◌, subst, append-nil}, specs.Prelude.slice_index_or}
use Rattle.lert_merge.specs.order.Members.{given_at, limit_at}
use Rattle.lert_spec.{specs.declared.numbers.Numbers.Numbers, specs.Table.costs}
use Rattle.lert_levels.{specs.streams.Bin.{Bin, of_table, given_of, limit_of, wide_of}, specs.streams.BinSet.{AreSure, Reads}, specs.streams.SetLaws.to_come_at, specs.streams.Tables.AreOrdered}
use Rattle.lert_levels.proofs.streams.FreshLaws.{fresh_count, fresh_coming, fresh_given, fresh_limit, fresh_width, fresh_sure, fresh_reads}
use Rattle.lert_levels.proofs.streams.room.StreamRoom.begin.Goals as goal

pub start_all-requires : goal.start_all-requires
start_all-requires g c = record {
  none = c.self.invariant.none;
  room = omega (arith, c.requires.few, c.self.invariant.room, ap (λ (s : Numbers). s.bins) c.self.view_is);
  rooms = c.requires.rooms;
}

pub invariant_of-result : goal.invariant_of-result
invariant_of-result g c =
    let started = c.start_all.ensures.started in
    record {
      known = c.requires.version;
      standing = started.standing;
      ordered = subst AreOrdered (sym started.bins) started.ordered;
      few = omega (arith, c.requires.few, c.self.invariant.few, ap (λ (s : Numbers). s.bins) c.self.view_is);
      room = omega (arith, c.start_all.ensures.room, c.self.invariant.room);
      readers_are = c.self.invariant.readers_are;
      within = omega arith;
    }

minus_zero : (n : ℕ) → n - 0 ≡ n
minus_zero n = omega arith

pub returns : goal.returns
returns g c =
    let T = g.T.CountTable in
    let tables = c.args.tables.now in
    let started = c.start_all.ensures.started in
    let are = append-nil _ ∙ ap (map of_table) started.bins in
    let fresh = sym are in
    record {
      settings = c.self.view_is;
      version = refl;
      bins = are;
      spare = minus_zero _ ∙ c.self.invariant.readers_are.count ∙ ap (λ (s : Numbers). s.bins * s.levels) c.self.view_is;
      count = ap (length {A = Bin}) are ∙ fresh_count (λ table. T.quotient_bits table + T.width table) T.pieces tables;
      coming = λ told k d within. subst (λ (bins : List Bin). to_come_at told bins k ≡ Some (T.pieces (slice_index_or tables k d))) fresh
          (fresh_coming (λ table. T.quotient_bits table + T.width table) T.pieces told tables k d started.ordered within);
      given = λ k. subst (λ (bins : List Bin). given_at given_of bins k ≡ []) fresh (fresh_given (λ table. T.quotient_bits table + T.width table) T.pieces tables k);
      limit = λ k d within. subst (λ (bins : List Bin). limit_at limit_of bins k ≡ 2 ^ (T.quotient_bits (slice_index_or tables k d) + T.width (slice_index_or tables k d))) fresh
          (fresh_limit (λ table. T.quotient_bits table + T.width table) T.pieces tables k d within);
      width = λ k d within. subst (λ (bins : List Bin). limit_at (wide_of c.args.version) bins k ≡ costs c.args.version (T.pieces (slice_index_or tables k d))) fresh
          (fresh_width (λ table. T.quotient_bits table + T.width table) T.pieces c.args.version tables k d within);
      sure = λ file. subst (λ (bins : List Bin). AreSure bins file) fresh (fresh_sure (λ table. T.quotient_bits table + T.width table) T.pieces tables file);
      reads = λ from to reads. fresh_reads (λ table. T.quotient_bits table + T.width table) T.pieces tables from to
          (subst (λ (bins : List Bin). Reads bins from to) are reads);
    }
