use Rattle.std.proofs.Common.{List, ◌∷◌, ◌∙◌, ap, ap₂, sym, refl, subst, drop, arith}
use Rattle.std.proofs.lemmas.Bool.{false≢true}
use Rattle.lert_cqf.specs.{Standing.Stands}
use Rattle.lert_spec.specs.{declared.report.Report.Report, Edges.tail_bits}
use Rattle.lert_census.specs.Census.{Census, Walk, lines_of}
use Rattle.lert_census.proofs.{KeyLaws.key_with_is, LineLaws.{next_line, no_line, ends_tally, tail_below}}
use Rattle.lert_census.proofs.region.Region.step.Goals as goal

pub step-requires : goal.step-requires
step-requires c =
    let same = ap (λ (w : Walk). w.region) c.cursor.view_is ∙ c.requires ∙ sym c.self.view_is in
    subst (λ (v : Census). Stands v.table c.cursor.inside.at) same c.cursor.invariant.stands

pub returns-in_err-piece : goal.returns-in_err-piece
returns-in_err-piece c =
    let census : Census = record { settings = c.self.inside.settings; region = c.self.inside.region; table = c.self.inside.table } in
    let seen = ap (λ (w : Walk). w.region) c.cursor.view_is ∙ c.requires in
    let same = seen ∙ sym c.self.view_is in
    rw c.from_residual.ensures (record {
      region = ap (λ (w : Walk). w.region) c.cursor.view_is;
      next = sym (ap (λ (w : Walk). w.left) c.cursor.view_is)
          ∙ ap (λ v. drop c.cursor.inside.at.given (lines_of v)) same
          ∙ no_line census c.cursor.inside.at.given c.in_err-piece.ensures.next;
      end = λ _. ap (λ v. drop c.step.new.cursor.given (lines_of v)) same ∙ no_line census c.step.new.cursor.given (c.in_err-piece.ensures.end refl);
      tally = λ h stands. ends_tally c.cursor.inside.made.value c.args.self.now h c.step.new.cursor.given seen stands;
    })

pub key_of-requires : goal.key_of-requires
key_of-requires c = record {
  cone = c.self.invariant.named;
  tail = tail_below c.cursor.inside.made.value (record { settings = c.self.inside.settings; region = c.self.inside.region; table = c.self.inside.table })
      c.cursor.inside.at.given c.step.new.cursor.given (tail_bits c.self.inside.settings) c.in_ok-piece.piece
      (ap (λ (w : Walk). w.region) c.cursor.view_is ∙ c.requires ∙ sym c.self.view_is) c.cursor.invariant.ascends c.self.invariant.tails c.in_ok-piece.ensures.next;
}

pub returns : goal.returns
returns c =
    let s = c.self.inside.settings in
    let census : Census = record { settings = s; region = c.self.inside.region; table = c.self.inside.table } in
    let seen = ap (λ (w : Walk). w.region) c.cursor.view_is ∙ c.requires in
    let same = seen ∙ sym c.self.view_is in
    let piece = c.in_ok-piece.piece in
    let key = key_with_is s c.self.inside.region (omega (arith, c.self.invariant.valid.limits.cone_bits_to)) c.self.invariant.named piece.tail
    (tail_below c.cursor.inside.made.value census c.cursor.inside.at.given c.step.new.cursor.given (tail_bits s) piece same
    c.cursor.invariant.ascends c.self.invariant.tails c.in_ok-piece.ensures.next)
    c.key_of.result c.key_of.ensures.only in
    record {
      region = ap (λ (w : Walk). w.region) c.cursor.view_is;
      next = sym (ap (λ (w : Walk). w.left) c.cursor.view_is)
          ∙ ap (λ v. drop c.cursor.inside.at.given (lines_of v)) same
          ∙ next_line census c.cursor.inside.at.given c.step.new.cursor.given piece c.in_ok-piece.ensures.next
          ∙ ap₂ (λ k (rest : List Report). record { key = k; at = piece.count } ∷ rest) (sym key) (ap (λ v. drop c.step.new.cursor.given (lines_of v)) (sym same));
      end = λ none. absurd (false≢true (sym none));
      tally = λ h stands. ends_tally c.cursor.inside.made.value c.args.self.now h c.step.new.cursor.given seen stands;
    }
