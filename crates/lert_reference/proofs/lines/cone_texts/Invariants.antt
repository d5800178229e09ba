use Rattle.std.proofs.Common.{◌≡◌, ◌++◌, drop}
use Rattle.std.specs.String.{string_bytes}
use Rattle.lert_spec.specs.Lines.{cone_texts}
use Rattle.lert_reference.proofs.lines.cone_texts.Given as goal

abbrev pub invariant-loop-number : goal.invariant-loop-number
invariant-loop-number l = string_bytes l.text ++ cone_texts l.number (drop l.number l.cones) ≡ cone_texts 0 l.cones
