use Rattle.std.proofs.{Common.{◌≡◌, ◌+◌, ◌-◌, ◌++◌, take, drop, ap, sym, ◌∙◌, arith, refl, append-nil}, lemmas.List.length-set}
use Rattle.lert_text.specs.Drill.{hexadecimal}
use Rattle.lert_text.proofs.Digits.{one_more}
use Rattle.lert_text.proofs.hexadecimal.push_hexadecimal.Goals as goal

pub loop-place-init : goal.loop-place-init
loop-place-init c = record { sized = refl; written = append-nil (hexadecimal 16 c.args.number) }

pub loop-place-preserved : goal.loop-place-preserved
loop-place-preserved c =
    let l = c.loop-place in
    let place : l.place - 1 + 1 ≡ l.place = omega (arith, c.loop-place-test.true) in
    record {
      sized = length-set l.digits (l.place - 1) c.digit.result ∙ l.invariant.sized;
      written = one_more (l.place - 1) l.rest l.digits (hexadecimal 16 c.args.number) c.digit.result (omega (arith, l.invariant.sized, l.auto.place, c.loop-place-test.true)) c.digit.ensures
          (ap (λ n. hexadecimal n l.rest ++ drop n l.digits) place ∙ l.invariant.written);
    }

pub returns-clause-text : goal.returns-clause-text
returns-clause-text c =
    let l = c.loop-place in
    let none : l.place ≡ 0 = omega (arith, c.loop-place-test.false) in
    c.push_text.ensures.text ∙ ap (λ xs. take c.args.at c.args.into.now ++ xs) ((λ i. hexadecimal (sym none i) l.rest ++ drop (sym none i) l.digits) ∙ l.invariant.written)
