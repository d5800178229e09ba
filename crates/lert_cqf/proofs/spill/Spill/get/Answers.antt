use Rattle.std.proofs.{Common.{◌/◌, ◌<◌, ap, ◌∙◌, length, get_or, List, ℕ, arith}, lemmas.List.get_or_default}
use Rattle.lert_cqf.proofs.SumLemmas.{sums_long, sums_at}
use Rattle.lert_cqf.proofs.spill.Spill.get.Goals as goal

pub index-requires : goal.index-requires
index-requires c =
    let own = c.self.inside.own in
    omega (arith, c.requires, own.ok.0, sums_long 0 own.items c.self.inside.common.items, ap length c.self.view_is)

pub index-requires-2 : goal.index-requires-2
index-requires-2 c =
    let own = c.self.inside.own in
    omega (arith, c.requires, c.self.inside.common.ok.0, c.self.invariant.0, sums_long 0 own.items c.self.inside.common.items, ap length c.self.view_is)

pub returns-then-not-self : goal.returns-then-not-self
returns-then-not-self c =
    let own = c.self.inside.own.items in
    let common = c.self.inside.common.items in
    let within : c.args.place < length own = omega (arith, c.requires, sums_long 0 own common, ap length c.self.view_is) in
    let none = c.self.invariant.1 c.if-not-self.true (c.args.place / 64) in
    let here = c.index.ensures ∙ get_or_default own c.args.place c.index.result.now 0 within in
    omega (arith, c.from-own.ensures, here, none, sums_at own common c.args.place within, ap (λ (t : List ℕ). get_or t c.args.place 0) c.self.view_is)

pub returns : goal.returns
returns c =
    let own = c.self.inside.own.items in
    let common = c.self.inside.common.items in
    let within : c.args.place < length own = omega (arith, c.requires, sums_long 0 own common, ap length c.self.view_is) in
    let block : c.args.place / 64 < length common = omega (arith, within, c.self.invariant.0) in
    let here = c.index.ensures ∙ get_or_default own c.args.place c.index.result.now 0 within in
    let there = c.index-2.ensures ∙ get_or_default common (c.args.place / 64) c.index-2.result.now 0 block in
    omega (arith, c.from-own.ensures, here, c.from.ensures, there, sums_at own common c.args.place within, ap (λ (t : List ℕ). get_or t c.args.place 0) c.self.view_is)
