use Rattle.std.proofs.{Common.{◌≡◌, ℕ, ◌+◌, ◌≤◌, ◌*◌, List, get_or, ap, arith, subst, sym, ◌∙◌}, Math.ListN.{length-set, set}}
use Rattle.lert_spec.specs.Edges.{capacity, span}
use Rattle.lert_spec.proofs.LimitLaws.{capacity_to}
use Rattle.lert_cone.specs.{declared.journal_places.JournalPlace.JournalPlace, JournalPlaces.{Places, bins_begun, first_place}}
use Rattle.lert_cone.proofs.{BinLaws.{begun_more, bin_more, span_few}, JournalPlaceLaws.{newest_turned, others_turned}}
use Rattle.lert_cone.proofs.journal_places.JournalPlaces.begin.Goals as goal

pub overflow_add-self : goal.overflow_add-self
overflow_add-self c =
    let here = subst (λ (v : Places). bins_begun v.settings v.passed * span v.settings 0 + 1 ≤ capacity v.settings) (sym c.self.view_is) c.requires in
    omega (
      arith,
      here,
      c.self.invariant.next_is,
      capacity_to c.self.inside.settings c.self.invariant.valid,
      span_few c.self.inside.settings c.self.invariant.valid,
      c.span.ensures.value,
    )

pub invariant_of-self : goal.invariant_of-self
invariant_of-self c =
    let s = c.self.inside.settings in
    let n = bins_begun s c.self.inside.passed in
    let here = subst (λ (v : Places). bins_begun v.settings v.passed * span v.settings 0 + 1 ≤ capacity v.settings) (sym c.self.view_is) c.requires in
    let more : bins_begun s c.self.inside.next ≡ n + 1 = ap (bins_begun s) c.self.invariant.next_is ∙ begun_more s c.self.invariant.valid n in
    record {
      valid = c.self.invariant.valid;
      within = omega (arith, here, c.self.invariant.next_is);
      next_is = omega (arith, c.self.invariant.next_is, c.span.ensures.value, ap (λ (x : ℕ). x * span s 0) more, bin_more n (span s 0));
      counted = length-set c.rotate_right.new.self 0 c.args.place ∙ (c.rotate_right.ensures.len ∙ c.self.invariant.counted);
    }

pub returns-clause-settings : goal.returns-clause-settings
returns-clause-settings c = ap (λ (v : Places). v.settings) c.self.view_is

pub returns-clause-passed : goal.returns-clause-passed
returns-clause-passed c =
    subst (λ (v : Places). c.self.inside.next ≡ bins_begun v.settings v.passed * span v.settings 0 + 1) c.self.view_is c.self.invariant.next_is

pub returns-clause-from : goal.returns-clause-from
returns-clause-from c = ap (λ (v : Places). v.from) c.self.view_is

pub returns-clause-newest : goal.returns-clause-newest
returns-clause-newest c =
    subst (λ (xs : List JournalPlace). get_or (set xs 0 c.args.place) 0 first_place ≡ c.args.place) (sym c.rotate_right.ensures.after)
    (newest_turned c.self.inside.places c.args.place c.self.invariant.counted)

pub returns-clause-others : goal.returns-clause-others
returns-clause-others c = λ j few.
    subst (λ (xs : List JournalPlace). get_or (set xs 0 c.args.place) (j + 1) first_place ≡ get_or c.args.self.now.places j first_place) (sym c.rotate_right.ensures.after)
    (others_turned c.self.inside.places c.args.place c.self.invariant.counted j few ∙ ap (λ (v : Places). get_or v.places j first_place) c.self.view_is)
