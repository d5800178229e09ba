use Rattle.std.proofs.{Common.{◌≡◌, ◌∙◌, ◌++◌, ◌∷◌, [], List, true, ap, length, subst, sym}, lemmas.Bool.false≢true, lemmas.List.Elements.{All-append, All-cons, All-nil}}
use Rattle.std.specs.Prelude.{All}
use Rattle.lert_reports.specs.Stored.{Stored}
use Rattle.lert_spec.specs.{declared.numbers.Numbers.Numbers, declared.report.Report.Report, Mix.cone_of}
use Rattle.lert_cone.specs.Due.{Dues}
use Rattle.lert_cone.proofs.DueLaws.{total_full, total_none, total_one, total_over}
use Rattle.lert_cone.proofs.due.Due.take_total.Goals as goal

pub returns-then-self : goal.returns-then-self
returns-then-self g c = total_full c.args.self.now c.args.piece.now (sym (ap (λ (d : Dues). d.is_full) c.self.view_is) ∙ c.if-self.true)

pub returns-in_default : goal.returns-in_default
returns-in_default g c =
    let room = sym (ap (λ (d : Dues). d.is_full) c.self.view_is) ∙ c.if-self.false in
    total_none c.args.self.now c.args.piece.now room (sym c.due_key.ensures.value ∙ c.in_default.is)

pub returns-then-len-numbers : goal.returns-then-len-numbers
returns-then-len-numbers g c =
    let room = sym (ap (λ (d : Dues). d.is_full) c.self.view_is) ∙ c.if-self.false in
    let over = sym c.len.ensures.count ∙ c.if-len-numbers.true ∙ ap (λ (s : Numbers). s.room) c.numbers.ensures.value in
    ap (λ (d : Dues). record d { is_full = true }) c.self.view_is
    ∙ total_over c.args.self.now c.args.piece.now room c.in-Some.key (sym c.due_key.ensures.value ∙ c.in-Some.is)
    (subst (λ (d : Dues). length d.reports ≡ d.settings.room) c.self.view_is over)

pub returns : goal.returns
returns g c =
    let room = sym (ap (λ (d : Dues). d.is_full) c.self.view_is) ∙ c.if-self.false in
    let fits = λ (full : length c.self.inside.store.reports ≡ c.self.inside.settings.room).
    c.if-len-numbers.false (c.len.ensures.count ∙ full ∙ sym (ap (λ (s : Numbers). s.room) c.numbers.ensures.value)) in
    ap (λ (st : Stored). record {
      settings = c.self.inside.settings;
      cone = c.self.inside.cone;
      reports = st.reports;
      before = c.self.inside.before.value.reports;
      at = c.self.inside.at;
      is_full = c.self.inside.is_full;
    }) c.put.ensures
    ∙ ap (λ (d : Dues). record d { reports = d.reports ++ record { key = c.in-Some.key; at = d.at } ∷ [] }) c.self.view_is
    ∙ total_one c.args.self.now c.args.piece.now room c.in-Some.key (sym c.due_key.ensures.value ∙ c.in-Some.is)
    (subst (λ (d : Dues). length d.reports ≡ d.settings.room → ⊥) c.self.view_is fits)

-- ---- what stays so of the taker

pub invariant_of-self : goal.invariant_of-self
invariant_of-self g c = record {
  valid = c.self.invariant.valid;
  named = c.self.invariant.named;
  same = c.self.invariant.same;
  own = c.self.invariant.own;
  full = λ _. sym c.len.ensures.count ∙ c.if-len-numbers.true ∙ ap (λ (s : Numbers). s.room) c.numbers.ensures.value;
}

pub invariant_of-self-2 : goal.invariant_of-self-2
invariant_of-self-2 g c =
    let s = c.self.inside.settings in
    let cone = c.self.inside.cone in
    let report : Report = record { key = c.in-Some.key; at = c.self.inside.at } in
    let is_own : Report → Type 0 = λ (r : Report). cone_of s r.key ≡ cone in
    let all = All-append is_own c.self.inside.store.reports (report ∷ []) c.self.invariant.own
    (All-cons is_own report [] (subst (λ (d : Dues). cone_of d.settings c.in-Some.key ≡ d.cone) (sym c.self.view_is) c.in-Some.ensures.own) (All-nil is_own)) in
    record {
      valid = c.self.invariant.valid;
      named = c.self.invariant.named;
      same = ap (λ (st : Stored). st.settings) c.put.ensures ∙ c.self.invariant.same;
      own = subst (λ (rs : List Report). All (λ r. cone_of s r.key ≡ cone) rs) (sym (ap (λ (st : Stored). st.reports) c.put.ensures)) all;
      full = λ full. absurd (false≢true (sym c.if-self.false ∙ full));
    }
