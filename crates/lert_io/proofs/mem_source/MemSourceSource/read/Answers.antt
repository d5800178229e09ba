use Rattle.std.proofs.Common.{drop, refl, arith}
use Rattle.lert_io.proofs.Rising.{risen_once}
use Rattle.lert_io.proofs.mem_source.MemSourceSource.read.Goals as goal

-- a call that is listed
pub returns-then-contains : goal.returns-then-contains
returns-then-contains c =
    let faults_is = c.saturating_add-self-inside-then-contains.ensures in
    rw (← c.self.view_is) (record {
      within = tt;
      told = λ bytes is. tt;
      refused = refl;
      number = c.saturating_add-self-inside.ensures;
      fails = c.if-contains.ensures;
      fed = tt;
      copied = tt;
      rest = tt;
      failed = λ i. record {
        left = drop c.self.inside.at c.self.inside.bytes.items;
        fails = c.self.inside.fails;
        calls = c.saturating_add-self-inside.result;
        faults = faults_is i;
        mark = c.self.inside.mark;
      };
      cause = record { never_falls = omega (arith, faults_is, c.self.ranges); failed = λ _. risen_once c.self.inside.faults c.saturating_add-self-inside-then-contains.result faults_is };
      mark = refl;
    })

pub returns-clause-fails : goal.returns-clause-fails
returns-clause-fails c = rw (← c.self.view_is) c.if-contains.ensures

pub returns-clause-number : goal.returns-clause-number
returns-clause-number c = rw (← c.self.view_is) c.saturating_add-self-inside.ensures
