use Rattle.std.proofs.Common.{◌≡◌, ◌*◌, ◌≤◌, ap, arith, subst, sym}
use Rattle.lert_spec.specs.Edges.{capacity, span}
use Rattle.lert_cone.specs.JournalPlaces.{Places, bins_begun}
use Rattle.lert_cone.proofs.BinLaws.{begun_from, begun_is}
use Rattle.lert_cone.proofs.journal_places.JournalPlaces.stand_at.Goals as goal

pub invariant_of-self : goal.invariant_of-self
invariant_of-self c =
    let s = c.self.inside.settings in
    let forward = subst (λ (v : Places). v.passed ≤ c.args.last) (sym c.self.view_is) c.requires.forward in
    let reach = subst (λ (v : Places). c.args.last ≤ bins_begun v.settings v.passed * span v.settings 0) (sym c.self.view_is) c.requires.reach in
    let same : bins_begun s c.args.last ≡ bins_begun s c.self.inside.passed =
    begun_is s c.self.invariant.valid c.args.last (bins_begun s c.self.inside.passed) reach
    (omega (arith, forward, begun_from s c.self.invariant.valid c.self.inside.passed)) in
    record {
      valid = c.self.invariant.valid;
      within = subst (λ (v : Places). c.args.last ≤ capacity v.settings) (sym c.self.view_is) c.requires.within;
      next_is = omega (arith, c.self.invariant.next_is, ap (λ n. n * span s 0) same);
      counted = c.self.invariant.counted;
    }
