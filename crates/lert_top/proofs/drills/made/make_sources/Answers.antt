use Rattle.std.proofs.{Common.{◌≡◌, ◌≤◌, ℕ, List, length, map, take, ap, sym, ◌∙◌, subst}, lemmas.List.{length-map, take_all}}
use Rattle.lert_top.proofs.drills.made.make_sources.Goals as goal

-- what was made of the first items, at their end
of_all : {A B : Type 0} (f : A → B) (items : List A) (number : ℕ) (texts : List B) → map f items ≡ texts → length texts ≤ number →
    map f (take number items) ≡ texts
of_all f items number texts told enough =
    ap (λ xs. map f xs) (take_all number items (subst (λ n. n ≤ number) (sym (ap length told) ∙ length-map items f) enough)) ∙ told

pub returns : goal.returns
returns c =
    c.loop-trace.invariant.bytes
    ∙ of_all (λ bytes. bytes.items) c.in_ok-traces.traces c.loop-trace.trace-index _ c.in_ok-traces.ensures c.loop-trace-test.false
