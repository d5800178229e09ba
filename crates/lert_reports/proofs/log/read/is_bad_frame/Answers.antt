use Rattle.std.proofs.Common.{◌≡◌, ℕ, ◌+◌, ◌-◌, ◌<◌, ◌≤◌, ◌&&◌, ◌||◌, not, nat_le, Bool, true, false, List, length, get_or, take, drop, refl, le_of_eq, ap, ap₂, subst, sym, ◌∙◌, arith, le-ltb}
use Rattle.std.proofs.{lemmas.Bool.le-leb, lemmas.List.{take_all, length-drop, get_or-drop}}
use Rattle.std.specs.{Prelude.◌==◌, List.list_any}
use Rattle.lert_spec.specs.declared.numbers.Numbers.{Numbers}
use Rattle.lert_reports.specs.LogText.{is_broken, frame_field}
use Rattle.lert_reports.proofs.log.read.is_bad_frame.Goals as goal

-- a frame that is there and is one of a level's is broken where it stands before
twice : (b : Bool) → b ≡ not (not b)
twice true = refl
twice false = refl

within : (start k len : ℕ) → k < len - start → start + k + 1 ≤ len
within start k len below = omega arith

broken_there : (s : Numbers) (start k frame : ℕ) (payload : List ℕ) (there : Bool) → k < length (take (length payload - start) (drop start payload)) →
    frame ≡ get_or (take (length payload - start) (drop start payload)) k 0 → frame ≤ s.bins →
    there ≡ list_any (λ other. other == frame) (take k (take (length payload - start) (drop start payload))) → there ≡ is_broken payload (frame_field s payload start k)
broken_there s start k frame payload there below frame_is few there_is =
    let behind = drop start payload in
    let long : length behind ≡ length payload - start = length-drop start payload in
    let all : take (length payload - start) behind ≡ behind = take_all (length payload - start) behind (le_of_eq long) in
    let stands : frame ≡ get_or payload (start + k) 0 = frame_is ∙ ap (λ (xs : List ℕ). get_or xs k 0) all ∙ get_or-drop start payload k 0 in
    let less : k < length payload - start = subst (λ n. k < n) (ap (length {A = ℕ}) all ∙ long) below in
    let listed : there ≡ list_any (λ other. other == get_or payload (start + k) 0) (take k behind) =
    there_is ∙ ap₂ (λ (xs : List ℕ) (f : ℕ). list_any (λ other. other == f) (take k xs)) all stands in
    let known : nat_le (get_or payload (start + k) 0) s.bins ≡ true = le-leb (get_or payload (start + k) 0) s.bins (subst (λ f. f ≤ s.bins) stands few) in
    listed
    ∙ twice (list_any (λ other. other == get_or payload (start + k) 0) (take k behind))
    ∙ ap₂ (λ (past inside : Bool). past || not (inside && not (list_any (λ other. other == get_or payload (start + k) 0) (take k behind))))
    (sym (le-ltb (length payload) (start + k + 1) (within start k (length payload) less))) (sym known)

pub returns-else-from-numbers : goal.returns-else-from-numbers
returns-else-from-numbers c =
    let there = c.in-Some.ensures.lookup in
    broken_there c.args.settings.now c.args.start c.args.k c.in-Some.frame.now c.args.payload.now c.contains.result there.3.0 (there.3.1 0)
    (subst (λ (t : Numbers). c.in-Some.frame.now ≤ t.bins) c.numbers.ensures.value (subst (λ f. f ≤ c.numbers.result.bins) c.from.ensures c.if-from-numbers.false))
    c.contains.ensures.value
