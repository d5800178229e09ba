use Rattle.std.proofs.Common.{[], ◌∷◌, sym, subst}
use Rattle.lert_spec.specs.declared.numbers.Numbers.{Numbers}
use Rattle.lert_levels.specs.rows.Named.{IsDirectory}
use Rattle.lert_levels_tests.proofs.SampleLaws.{directory_32}
use Rattle.lert_levels_tests.proofs.levels.restore.Goals as goal

pub restore-requires-clause-directory : goal.restore-requires-clause-directory
restore-requires-clause-directory c =
    subst (λ (s : Numbers). IsDirectory s 32 (2 ∷ 2 ∷ 3 ∷ 1 ∷ 0 ∷ [])) (sym c.requires) directory_32
