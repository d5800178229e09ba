use Rattle.lert_spec.specs.Counts.{weighed}
use Rattle.lert_spec.specs.declared.item.Item.{Item}
use Rattle.std.proofs.Common.{◌≡◌, ◌≤◌, ◌++◌, ◌∙◌, List, append-nil, ap, length, subst, sym}
use Rattle.lert_spec.specs.{Items.AreOfVersion, Limits.IsValid, Edges.edge}
use Rattle.lert_spec.proofs.{LookLaws.HaveKeys, TailLaws.IsPartOf}
use Rattle.lert_cone.specs.Due.{Dues}
use Rattle.lert_cone.proofs.RecountLaws.{recounted_none}
use Rattle.lert_cone.proofs.tally.Tally.adopted.Goals as goal

pub returns-clause-listing : goal.returns-clause-listing
returns-clause-listing g c =
    ap (λ (keys : List Item). record { settings = c.args.settings.now; version = c.args.version; cone = c.args.cone; events = keys; closed = c.args.closed })
    (ap (λ (keys : List Item). c.args.unread ++ keys) c.new-2.ensures ∙ append-nil c.args.unread)

pub returns-clause-recounted : goal.returns-clause-recounted
returns-clause-recounted g c = λ n0 fits at few.
    let valid = subst IsValid c.numbers-valid.ensures.value c.numbers-valid.ensures.valid in
    let is : c.args.unread ≡ c.args.unread ++ c.new-2.result = sym (ap (λ (keys : List Item). c.args.unread ++ keys) c.new-2.ensures ∙ append-nil c.args.unread) in
    recounted_none _ n0 c.requires.known valid (subst (λ (keys : List Item). length keys ≤ edge c.args.settings.now 0 n0) is few) fits c.requires.zero at c.requires.are
    (subst (HaveKeys c.args.settings.now weighed) is c.requires.keys)
    (subst (IsPartOf weighed c.args.settings.now c.args.cone) is c.requires.keys_own) (subst (AreOfVersion c.args.version) is c.requires.light) (ap (λ (d : Dues). d.settings) c.new.ensures)
    (ap (λ (d : Dues). d.cone) c.new.ensures)
