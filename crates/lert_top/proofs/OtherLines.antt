-- What a line of one command says of those of another, and a place that handed nothing out.
use Rattle.std.proofs.{Common.{◌≡◌, ◌<◌, ℕ, List, [], length, Option, Some, None, false, sym, ap, ◌∙◌, subst, arith}, Math.Dec.eqb, lemmas.Bool.eqb-false}
use Rattle.lert_args.specs.declared.line.Line.{Line}
use Rattle.lert_args.proofs.SoundLines.{command_number, no_other}
use Rattle.lert_place.specs.Openings.{AreReturned, AreReturnedSame}

-- what is said of another command than that of the line
pub of_another : {P : Type 0} (spells : Option Line) (line own other : Line) → spells ≡ Some line → line ≡ own → spells ≡ Some other →
    eqb (command_number own) (command_number other) ≡ false → P
of_another spells line own other spelled is said apart =
    absurd (eqb-false (command_number own) (command_number other) apart (ap command_number (sym is) ∙ no_other spells line other spelled said))

-- what is said of a broken rule where none is
pub of_no_rule : {P : Type 0} (broken : Option ℕ) (rule : ℕ) → broken ≡ None → broken ≡ Some rule → P
of_no_rule broken rule none some = absurd (differ (sym none ∙ some))
  where
    differ : None ≡ Some rule → ⊥
    differ e = cc

-- all that a place handed out is back, where that is nothing
module _ {T : Type 0} (handed : List T) (none : handed ≡ []) (returned : ℕ → Option T) where
  below_none : {P : Type 0} (number : ℕ) → number < length handed → P
  below_none number within = let no : number < 0 = subst (λ (xs : List T). number < length xs) none within in absurd (omega (arith, no))

  pub none_back : (mark : T → ℕ) → AreReturned mark handed returned
  none_back mark = λ number within. below_none number within

  pub none_back_same : AreReturnedSame handed returned
  none_back_same = λ number within. below_none number within
