use Rattle.lert_spec.specs.declared.item.Item.{Item}
use Rattle.std.proofs.Common.{◌≡◌, ◌∙◌, ◌+◌, ◌^◌, ◌<◌, List, suc, length, ap, sym, subst, arith, cond, ltb, refl, [], ◌∷◌, ◌++◌, append_assoc, length-append}
use Rattle.lert_spec.specs.{declared.numbers.Numbers.Numbers, Edges.{edge, tail_bits}, Mix.cone_of}
use Rattle.lert_levels.specs.rows.Young.{IsNextPosition, with_event}
use Rattle.lert_cone.specs.Tally.{Tallied, IsRecounted, due_in}
use Rattle.lert_cone.proofs.{RecountLaws.{again_settings, recount_position, recounted_more}, NextFlush.flush_next}
use Rattle.lert_cone.proofs.tally.Tally.recount_item.Goals as goal
use Rattle.std.proofs.Common.{◌≤◌}
use Rattle.lert_spec.specs.Items.{most_weight}

pub overflow_add-m : goal.overflow_add-m
overflow_add-m g c =
    let recounted = subst (λ (v : Tallied). IsRecounted v c.args.n0) (sym c.self.view_is) c.requires.recounted in
    omega (arith, c.self.invariant.len_is, recounted.fits, c.self.invariant.valid.positions_fit)

pub flush_behind-flush-requires-clause-fits : goal.flush_behind-flush-requires-clause-fits
flush_behind-flush-requires-clause-fits g c =
    let recounted = subst (λ (v : Tallied). IsRecounted v c.args.n0) (sym c.self.view_is) c.requires.recounted in
    let before : length (c.self.inside.unread ++ c.self.inside.taken) < c.args.n0 = subst (λ (v : Tallied). length v.listing.events < c.args.n0) (sym c.self.view_is) c.requires.within in
    omega (arith, c.self.invariant.len_is, before, recounted.n0_fits)

pub flush_behind-flush-requires-clause-flush : goal.flush_behind-flush-requires-clause-flush
flush_behind-flush-requires-clause-flush g c = c.self.invariant.flush_is

pub count_again-requires-clause-below : goal.count_again-requires-clause-below
count_again-requires-clause-below g c = subst (λ (s : Numbers). c.tail_of-tail.result < 2 ^ tail_bits s) (sym c.self.invariant.young_settings) c.tail_of-tail.ensures.below

pub returns-clause-listing : goal.returns-clause-listing
returns-clause-listing g c =
    ap (λ (keys : List Item). record { settings = c.self.inside.settings; version = c.self.inside.version; cone = c.self.inside.cone; events = keys; closed = c.self.inside.closed })
    (ap (λ keys. c.self.inside.unread ++ keys) c.push.ensures ∙ sym (append_assoc c.self.inside.unread c.self.inside.taken (c.args.item ∷ [])))
    ∙ ap (λ (v : Tallied). record v.listing { events = v.listing.events ++ c.args.item ∷ [] }) c.self.view_is

pub returns-clause-rows : goal.returns-clause-rows
returns-clause-rows g c = ap (λ (v : Tallied). v.rows) c.self.view_is

pub returns-clause-due : goal.returns-clause-due
returns-clause-due g c = ap (λ (v : Tallied). v.due) c.self.view_is

pub count_again-requires-clause-position : goal.count_again-requires-clause-position
count_again-requires-clause-position g c =
    let recounted = subst (λ (v : Tallied). IsRecounted v c.args.n0) (sym c.self.view_is) c.requires.recounted in
    let before : length (c.self.inside.unread ++ c.self.inside.taken) < c.args.n0 = subst (λ (v : Tallied). length v.listing.events < c.args.n0) (sym c.self.view_is) c.requires.within in
    let m_is : c.self.inside.len + 1 ≡ suc (length (c.self.inside.unread ++ c.self.inside.taken)) = omega (arith, c.self.invariant.len_is) in
    let from_is : c.args.from ≡ edge c.self.inside.settings 0 c.args.n0 =
    subst (λ (v : Tallied). c.args.from ≡ edge v.listing.settings 0 c.args.n0) (sym c.self.view_is) c.requires.from in
    let from_young : c.args.from ≡ edge c.self.inside.zero.settings 0 c.args.n0 = from_is ∙ ap (λ (v : Numbers). edge v 0 c.args.n0) (sym c.self.invariant.young_settings) in
    subst (λ e. e < c.self.inside.len + 1 → IsNextPosition c.self.inside.zero (c.self.inside.len + 1)) (sym from_young)
    (recount_position _ c.args.n0 recounted c.self.invariant.young_settings before c.args.item c.tail_of-tail.result (c.self.inside.len + 1) c.tail_of-tail.ensures.value m_is)

pub invariant_of-self : goal.invariant_of-self
invariant_of-self g c = record {
  valid = c.self.invariant.valid;
  named = c.self.invariant.named;
  young_settings = again_settings (ltb c.args.from (c.self.inside.len + 1)) c.self.inside.zero c.count_again.new.zero c.tail_of-tail.result c.args.item.weight (c.self.inside.len + 1)
      c.count_again.ensures
      ∙ c.self.invariant.young_settings;
  levels_settings = c.self.invariant.levels_settings;
  version = c.self.invariant.version;
  known = c.self.invariant.known;
  there = c.self.invariant.there;
  len_is = omega (
    arith,
    c.self.invariant.len_is,
    length-append c.self.inside.unread c.self.inside.taken,
    ap length c.push.ensures,
    length-append c.self.inside.taken (c.args.item ∷ []),
    length-append c.self.inside.unread c.push.new.self,
  );
  flush_is = flush_next c.self.inside.settings c.self.inside.settings refl c.self.invariant.valid c.self.inside.len c.flush_behind-flush.result c.flush_behind-flush.ensures;
}

pub returns-clause-recounted : goal.returns-clause-recounted
returns-clause-recounted g c =
    let recounted = subst (λ (v : Tallied). IsRecounted v c.args.n0) (sym c.self.view_is) c.requires.recounted in
    let before : length (c.self.inside.unread ++ c.self.inside.taken) < c.args.n0 = subst (λ (v : Tallied). length v.listing.events < c.args.n0) (sym c.self.view_is) c.requires.within in
    let m_is : c.self.inside.len + 1 ≡ suc (length (c.self.inside.unread ++ c.self.inside.taken)) = omega (arith, c.self.invariant.len_is) in
    let own : cone_of c.self.inside.settings c.args.item.key ≡ c.self.inside.cone =
    subst (λ (v : Tallied). cone_of v.listing.settings c.args.item.key ≡ v.listing.cone) (sym c.self.view_is) c.requires.own in
    let from_is : c.args.from ≡ edge c.self.inside.settings 0 c.args.n0 =
    subst (λ (v : Tallied). c.args.from ≡ edge v.listing.settings 0 c.args.n0) (sym c.self.view_is) c.requires.from in
    let from_young : c.args.from ≡ edge c.self.inside.zero.settings 0 c.args.n0 = from_is ∙ ap (λ (v : Numbers). edge v 0 c.args.n0) (sym c.self.invariant.young_settings) in
    recounted_more _ c.args.n0 recounted c.self.invariant.young_settings before c.args.item c.tail_of-tail.result (c.self.inside.len + 1) c.tail_of-tail.ensures.value m_is c.requires.below own
    c.requires.some (subst (λ (v : Tallied). c.args.item.weight ≤ most_weight v.listing.version) (sym c.self.view_is) c.requires.light)
    c.count_again.new.zero
    (c.count_again.ensures ∙ ap (λ e. cond (ltb e (c.self.inside.len + 1)) (with_event c.self.inside.zero c.tail_of-tail.result c.args.item.weight (c.self.inside.len + 1)) c.self.inside.zero)
    from_young) _
    (ap (λ (keys : List Item). record {
      listing = record { settings = c.self.inside.settings; version = c.self.inside.version; cone = c.self.inside.cone; events = keys; closed = c.self.inside.closed };
      young = c.count_again.new.zero;
      rows = c.self.inside.levels.rows;
      due = due_in c.self.inside.due;
    }) (ap (λ keys. c.self.inside.unread ++ keys) c.push.ensures ∙ sym (append_assoc c.self.inside.unread c.self.inside.taken (c.args.item ∷ []))))
