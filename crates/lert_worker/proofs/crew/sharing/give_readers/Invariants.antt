use Rattle.std.proofs.Common.{◌≡◌, drop}
use Rattle.lert_worker.specs.crew.Sharing.{AreManned}
use Rattle.lert_worker.proofs.crew.sharing.give_readers.Given as goal

abbrev pub invariant-loop-trace : goal.invariant-loop-trace
invariant-loop-trace g l = record {
  manned : AreManned l.trace l.initial.readers.items l.initial.crew l.crew;
  rest : l.readers.items ≡ drop l.trace l.initial.readers.items;
}
