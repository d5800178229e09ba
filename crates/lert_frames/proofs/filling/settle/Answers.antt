use Rattle.std.{proofs.Common.{◌≡◌, ◌≤◌, ◌+◌, ◌-◌, ◌∙◌, ◌^◌, ℕ, List, length, take, drop, sym, ap, arith, length-drop, length-take}, proofs.lemmas.List.{take_all, take-append-drop}}
use Rattle.std.proofs.lemmas.List.Elements.{All-same}
use Rattle.lert_spec.specs.declared.piece.Piece.{Piece}
use Rattle.lert_frames.specs.Reading.{pieces_kept, sum_less}
use Rattle.lert_frames.proofs.filling.settle.Goals as goal

-- the pieces from a place on, as a slice has them
behind : (now pieces : List Piece) (from : ℕ) → now ≡ pieces → take (length now - from) (drop from now) ≡ drop from pieces
behind now pieces from same = take_all (length now - from) (drop from now) (omega (arith, length-drop from now)) ∙ ap (drop from) same

few_behind : (now pieces : List Piece) (from : ℕ) → now ≡ pieces → length pieces ≤ from + 64 → length (take (length now - from) (drop from now)) ≤ 64
few_behind now pieces from same few =
    omega (arith, length-take (length now - from) (drop from now), ap length same, few)

pub less-left-requires-clause-few : goal.less-left-requires-clause-few
less-left-requires-clause-few c = few_behind c.deref.result.now c.args.pieces.now.items c.args.from c.deref.ensures.value c.requires.few

pub less-left-requires-clause-counts : goal.less-left-requires-clause-counts
less-left-requires-clause-counts c =
    let pieces = c.args.pieces.now.items in
    let now = c.deref.result.now in
    All-same (λ piece. piece.count ≤ 2 ^ 47) (take (length now - c.args.from) (drop c.args.from now)) (drop c.args.from pieces)
    (behind now pieces c.args.from c.deref.ensures.value) c.requires.counts

pub returns-in-Over-clause-sum : goal.returns-in-Over-clause-sum
returns-in-Over-clause-sum c =
    c.less-left.ensures ∙ ap (sum_less c.args.version c.args.sum) (behind c.deref.result.now c.args.pieces.now.items c.args.from c.deref.ensures.value)

pub returns-in_default-clause-sum : goal.returns-in_default-clause-sum
returns-in_default-clause-sum c =
    c.less-left.ensures ∙ ap (sum_less c.args.version c.args.sum) (behind c.deref.result.now c.args.pieces.now.items c.args.from c.deref.ensures.value)

pub returns-in-Over-clause-kept : goal.returns-in-Over-clause-kept
returns-in-Over-clause-kept c =
    let pieces = c.args.pieces.now.items in
    c.truncate.ensures.items ∙ ap (λ left. pieces_kept left (take c.args.from pieces) (drop c.args.from pieces)) (sym c.in-Over.is)

pub returns-in_default-clause-kept : goal.returns-in_default-clause-kept
returns-in_default-clause-kept c =
    let pieces = c.args.pieces.now.items in
    sym (take-append-drop c.args.from pieces)
    ∙ ap (λ left. pieces_kept left (take c.args.from pieces) (drop c.args.from pieces)) (sym c.in_default.is)
