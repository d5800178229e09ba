use Rattle.std.proofs.{Common.{◌+◌, ◌*◌, ◌≤◌, cond, get_or, length, subst, sym, ap, ◌∙◌, eq-eqb}, lemmas.Bool.ne_eqb}
use Rattle.lert_trace.specs.Trace.{item_size}
use Rattle.lert_reference.proofs.TraceLaws.{item_read}
use Rattle.lert_reference.proofs.traces.item_at.Goals as goal

pub returns-then-version-eq1 : goal.returns-then-version-eq1
returns-then-version-eq1 c =
    let named = c.version_in-version.ensures in
    let sized = c.item_size.ensures.value in
    item_read c.version_in-version.result c.item_size.result c.args.n c.read_u64.result 1 c.args.bytes.now named sized
    (subst (λ s. 8 + s * c.args.n + s ≤ length c.args.bytes.now) (sym (sized ∙ ap item_size named)) c.requires) c.read_u64.ensures
    (sym (ap (λ b. cond b 1 (get_or c.args.bytes.now (8 + c.item_size.result * c.args.n + 8) 0)) (eq-eqb c.version_in-version.result 1 c.if-version-eq1.true)))

pub returns-else-version-eq1 : goal.returns-else-version-eq1
returns-else-version-eq1 c =
    let named = c.version_in-version.ensures in
    let sized = c.item_size.ensures.value in
    let weight = get_or c.args.bytes.now (8 + c.item_size.result * c.args.n + 8) 0 in
    item_read c.version_in-version.result c.item_size.result c.args.n c.read_u64.result weight c.args.bytes.now named sized
    (subst (λ s. 8 + s * c.args.n + s ≤ length c.args.bytes.now) (sym (sized ∙ ap item_size named)) c.requires) c.read_u64.ensures
    (sym (ap (λ b. cond b 1 weight) (ne_eqb c.version_in-version.result 1 c.if-version-eq1.false)))
