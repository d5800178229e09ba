use Rattle.std.proofs.Common.{◌∙◌, ap, sym, subst}
use Rattle.lert_levels.specs.{OnDisk.OnDisk, rows.Rows.{AreRows, directory_text}}
use Rattle.lert_levels.proofs.levels.Levels.directory.Goals as goal

pub returns-clause-restores : goal.returns-clause-restores
returns-clause-restores g c n at = record {
  rows = c.args.self.now.rows;
  named = record {
    at = at;
    are = subst (λ (v : OnDisk). AreRows v.settings v.rows) c.self.view_is c.self.invariant.0.are;
    text_is = sym (ap (λ (v : OnDisk). directory_text v.rows) c.self.view_is) ∙ sym c.self.invariant.0.directory_is ∙ sym c.deref.ensures.value;
  };
}
