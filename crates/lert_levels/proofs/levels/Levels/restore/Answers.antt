use Rattle.std.proofs.Common.{refl, ◌≡◌, ◌≤◌, ◌++◌, ◌∙◌, ap, length, take, drop, subst, sym, arith}
use Rattle.lert_spec.specs.Edges.{capacity}
use Rattle.lert_levels.specs.{rows.Named.{IsDirectory, AreNamed}, OnDisk.OnDisk}
use Rattle.lert_levels.proofs.{LevelLaws.{room_for, kept_of, kept_on}, rows.MoveLaws.written_back, levels.Levels.restore.Goals.After-deref}
use Rattle.lert_levels.proofs.levels.Levels.restore.Goals as goal

pub restore_rows-requires : goal.restore_rows-requires
restore_rows-requires g c = record {
  within = subst (λ (v : OnDisk). c.args.n0 ≤ capacity v.settings) (sym c.self.view_is) c.requires.within;
  directory = subst (λ (v : OnDisk). IsDirectory v.settings c.args.n0 c.args.directory.now) (sym c.self.view_is) c.requires.directory;
  levels = ap length c.deref_mut.ensures.value ∙ c.self.invariant.0.are.levels;
}

named_after : (g : _) (c : After-deref g) → AreNamed c.self.inside.settings c.args.n0 c.args.directory.now
    (take c.self.inside.rows.len (c.restore_rows.new.rows ++ drop (length c.restore_rows.new.rows) c.self.inside.rows.items))
named_after g c =
    let named = c.restore_rows.ensures in
    let count : length c.restore_rows.new.rows ≡ c.self.inside.rows.len = omega (arith, named.at.levels, c.self.invariant.0.are.levels, ap length c.deref_mut.ensures.value, c.deref_mut.ensures.len) in
    subst (AreNamed c.self.inside.settings c.args.n0 c.args.directory.now) (sym (written_back c.self.inside.rows.len c.restore_rows.new.rows c.self.inside.rows.items count)) named

pub lay_directory-requires : goal.lay_directory-requires
lay_directory-requires g c =
    room_for c.self.inside.settings c.self.inside.version c.self.inside.rows.items c.self.inside.directory.items _ c.self.inside.reader c.self.invariant.0 _ c.deref.result.now c.deref.ensures.value
    (named_after g (goal.at.lay_directory-requires g c).After-deref).are

pub invariant_of-self : goal.invariant_of-self
invariant_of-self g c = (
  kept_of c.requires.version
      (kept_on c.self.inside.settings c.self.inside.version c.self.inside.rows.items c.self.inside.directory.items _ c.self.inside.reader c.self.invariant.0 _ c.deref.result.now c.deref.ensures.value
      (named_after g (goal.at.invariant_of-self g c).After-deref).are c.lay_directory.new.directory.items _ c.lay_directory.ensures.text c.lay_directory.ensures.capacity),
  c.self.invariant.1,
  c.self.invariant.2,
)

pub returns : goal.returns
returns g c =
    let named = named_after g (goal.at.returns g c).After-deref in
    record { settings = ap (λ (v : OnDisk). v.settings) c.self.view_is; version = refl; at = named.at; rows = named.are; directory = named.text_is }
