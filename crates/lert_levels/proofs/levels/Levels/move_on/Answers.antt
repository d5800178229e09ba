use Rattle.std.proofs.Common.{◌≤◌, ◌++◌, ◌∙◌, ap, length, take, drop, sym, subst}
use Rattle.lert_spec.specs.{Edges.capacity, Limits.IsValid}
use Rattle.lert_levels.specs.{OnDisk.OnDisk, rows.Rows.{AreRows, moved}}
use Rattle.lert_levels.proofs.{LevelLaws.{moved_back, moved_rows, room_for, kept_on}, levels.Levels.move_on.Goals.After-deref}
use Rattle.lert_levels.proofs.levels.Levels.move_on.Goals as goal

pub move_rows-requires : goal.move_rows-requires
move_rows-requires g c = record {
  first = c.requires.first;
  last = subst (λ (v : OnDisk). c.args.m ≤ capacity v.settings) (sym c.self.view_is) c.requires.last;
  rows = subst (AreRows c.self.inside.settings) (sym c.deref_mut.ensures.value) c.self.invariant.0.are;
}

are_rows : (g : _) (c : After-deref g) → AreRows c.self.inside.settings
    (take c.self.inside.rows.len (c.move_rows.new.rows ++ drop (length c.move_rows.new.rows) c.self.inside.rows.items))
are_rows g c =
    moved_rows c.self.inside.settings c.args.m c.self.inside.rows.items c.deref_mut.result.now c.move_rows.new.rows c.self.inside.rows.len c.deref_mut.ensures.value c.deref_mut.ensures.len
    c.move_rows.ensures c.self.inside.version (subst IsValid c.numbers-valid.ensures.value c.numbers-valid.ensures.valid)
    c.args.self.now c.self.view_is c.self.invariant.0.are c.requires.first c.requires.last c.requires.at

pub lay_directory-requires : goal.lay_directory-requires
lay_directory-requires g c =
    room_for c.self.inside.settings c.self.inside.version c.self.inside.rows.items c.self.inside.directory.items _ c.self.inside.reader c.self.invariant.0 _ c.deref.result.now c.deref.ensures.value
    (are_rows g (goal.at.lay_directory-requires g c).After-deref)

pub invariant_of-self : goal.invariant_of-self
invariant_of-self g c = (
  kept_on c.self.inside.settings c.self.inside.version c.self.inside.rows.items c.self.inside.directory.items _ c.self.inside.reader c.self.invariant.0 _ c.deref.result.now c.deref.ensures.value
      (are_rows g (goal.at.invariant_of-self g c).After-deref)
      c.lay_directory.new.directory.items _ c.lay_directory.ensures.text c.lay_directory.ensures.capacity,
  c.self.invariant.1,
  c.self.invariant.2,
)

pub returns : goal.returns
returns g c =
    let back = moved_back c.self.inside.settings c.args.m c.self.inside.rows.items c.deref_mut.result.now c.move_rows.new.rows c.self.inside.rows.len c.deref_mut.ensures.value
    c.deref_mut.ensures.len c.move_rows.ensures in
    (λ i. record { settings = c.self.inside.settings; version = c.self.inside.version; rows = back i })
    ∙ ap (λ (v : OnDisk). record { settings = v.settings; version = v.version; rows = moved v.settings c.args.m v.rows }) c.self.view_is
