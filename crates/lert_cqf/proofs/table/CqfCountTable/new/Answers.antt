use Rattle.std.proofs.{Common.{◌≡◌, ◌+◌, ◌*◌, List, ap, arith, refl, sym, subst}, lemmas.Nat.one_shl}
use Rattle.lert_spec.specs.{Table.total, declared.piece.Piece.Piece}
use Rattle.lert_cqf.specs.Contents.{IsKept, built}
use Rattle.lert_cqf.proofs.TableLemmas.{kept_none}
use Rattle.lert_cqf.proofs.table.CqfCountTable.new.Goals as goal

pub invariant_of-result : goal.invariant_of-result
invariant_of-result c =
    let e = c.in_ok-rows.ensures in
    let rows = c.in_ok-rows.rows in
    let homes_are = one_shl c.args.quotient 64 (omega (arith, c.requires.most_quotient)) in
    subst (λ (t : List Piece). IsKept (built t) c.args.quotient c.args.remainder 0 c.args.events rows.slots.items rows.occupied rows.run_ends rows.used rows.spill × (0 ≡ total (built t)))
    (sym c.new-2.ensures) (
      kept_none c.args.quotient c.args.remainder c.args.events _ _ _ _ _ _ _
          (record {
            least_quotient = c.requires.least_quotient;
            most_quotient = c.requires.most_quotient;
            least_width = c.requires.least_width;
            most_width = c.requires.most_width;
            most_room = c.requires.events;
          })
          homes_are (ap (λ k. k + 4 * c.args.events) homes_are) (omega arith) e.slots e.occupied e.run_ends e.used e.spill,
      refl,
    )
