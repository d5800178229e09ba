-- Reading a run group by group.
use Rattle.std.proofs.Common.{◌≡◌, ℕ, ◌+◌, ◌-◌, ◌^◌, ◌<◌, ◌≤◌, List, [], ◌∷◌, ◌++◌, length, take, drop, refl, sym, ap, ◌∙◌, subst, inl, inr, ◌⊎◌, arith}
use Rattle.std.proofs.{lemmas.List.{append-nil, take_rest, take_all, length-drop, length-take}, Math.Seq.take-add}
use Rattle.lert_counter.specs.{Group.{group, IsCount}, Reading.IsReadFrom, declared.group.Group.Group}
use Rattle.lert_counter.proofs.GroupLemmas.{length_group-positive}
use Rattle.lert_runs.specs.RunText.{run_text, RemaindersAscend, RemaindersBelow, IsRunText}
use Rattle.lert_runs.proofs.RunLemmas.{run_text-append}

below-weaker : (y z : ℕ) (ps : List (ℕ × ℕ)) → y ≤ z → RemaindersBelow y ps → RemaindersBelow z ps
below-weaker y z [] h e = tt
below-weaker y z (p ∷ ps) h e = (omega (arith, e.0), below-weaker y z ps h e.1)

below-push : (y : ℕ) (ps : List (ℕ × ℕ)) (q : ℕ × ℕ) → q.0 < y → RemaindersBelow y ps → RemaindersBelow y (ps ++ q ∷ [])
below-push y [] q h e = (h, tt)
below-push y (p ∷ ps) q h e = (e.0, below-push y ps q h e.1)

ascend-push : (least : ℕ) (ps : List (ℕ × ℕ)) (q : ℕ × ℕ) → least ≤ q.0 → IsCount q.1 → RemaindersBelow q.0 ps → RemaindersAscend least ps →
    RemaindersAscend least (ps ++ q ∷ [])
ascend-push least [] q h counts e a = (h, counts, tt)
ascend-push least (p ∷ ps) q h counts e a = (a.0, a.1, ascend-push (p.0 + 1) ps q (omega (arith, e.0)) counts e.1 a.2)

-- the slots before `at` are a run text of remainders up to `last`
pub record ReadUpTo (width at last : ℕ) (run : List ℕ) : Type 0 where
  pub done : List (ℕ × ℕ)
  pub ascend : RemaindersAscend 0 done
  pub text : take at run ≡ run_text width done
  pub ends : RemaindersBelow (last + 1) done
  pub first : at ≡ 0 → done ≡ []
  pub within : at ≤ length run

pub read_first : (width : ℕ) (run : List ℕ) → ReadUpTo width 0 0 run
read_first width run = record { done = []; ascend = tt; text = refl; ends = tt; first = λ _. refl; within = omega arith }

pub read_more : (width at last : ℕ) (run : List ℕ) (g : Group) → ReadUpTo width at last run → (at ≡ 0) ⊎ (last < g.x) → at < length run
    → IsReadFrom width (take (length run - at) (drop at run)) g → ReadUpTo width (at + g.used) g.x run
read_more width at last run g r apart more read =
    let slots : take (length run - at) (drop at run) ≡ drop at run = take_rest run at in
    let begins : take (length (group width g.x g.count)) (drop at run) ≡ group width g.x g.count = rw slots at read.begins in
    let used : take g.used (drop at run) ≡ group width g.x g.count = rw read.len begins in
    let long : g.used ≤ length run - at = omega (arith, length-drop at run, used_within (length (group width g.x g.count)) (drop at run) (group width g.x g.count) begins refl, read.len) in
    let some = length_group-positive width g.x g.count (read.counts).0 in
    let below : RemaindersBelow g.x r.done = elim apart [
      | inl z ↦ (let none = r.first z in subst (λ (ps : List (ℕ × ℕ)). RemaindersBelow g.x ps) (sym none) tt)
      | inr less ↦ below-weaker (last + 1) g.x r.done (omega arith) r.ends
    ] in
    record {
      done = r.done ++ (g.x, g.count) ∷ [];
      ascend = ascend-push 0 r.done (g.x, g.count) (omega arith) read.counts below r.ascend;
      text = take-add at g.used run ∙ ap (λ (t : List ℕ). t ++ take g.used (drop at run)) r.text
          ∙ ap (λ (t : List ℕ). run_text width r.done ++ t) (used ∙ sym (append-nil (group width g.x g.count)))
          ∙ sym (run_text-append width r.done ((g.x, g.count) ∷ []));
      ends = below-push (g.x + 1) r.done (g.x, g.count) (omega arith) (below-weaker g.x (g.x + 1) r.done (omega arith) below);
      first = λ z. absurd (omega (arith, read.len));
      within = omega arith;
    }
  where
    used_within : (n : ℕ) (xs t : List ℕ) → take n xs ≡ t → n ≡ length t → n ≤ length xs
    used_within n xs t e long = let h = length-take n xs in omega (arith, ap (λ (t : List ℕ). length t) e)

pub read_end : (width at last : ℕ) (run : List ℕ) → ReadUpTo width at last run → last < 2 ^ width → length run ≤ at → IsRunText width run
read_end width at last run r small h =
    (r.done, record { ascend = r.ascend; text = sym (take_all at run h) ∙ r.text }, below-weaker (last + 1) (2 ^ width) r.done (omega arith) r.ends)

-- a group that was read has a slot
pub read_some : (width : ℕ) (text : List ℕ) (g : Group) → IsReadFrom width text g → 0 < g.used
read_some width text g read = let some = length_group-positive width g.x g.count (read.counts).0 in omega (arith, read.len)

-- so is the first of the remainders that are left
pub below-next : (m : ℕ) (ps done back : List (ℕ × ℕ)) (rest : List (ℕ × ℕ)) (p : ℕ × ℕ) → ps ≡ done ++ rest → rest ≡ p ∷ back → RemaindersBelow m ps → p.0 < m
below-next m ps done back rest p split is below =
    behind done (subst (λ (r : List (ℕ × ℕ)). RemaindersBelow m (done ++ r)) is (subst (RemaindersBelow m) split below))
  where
    behind : (done : List (ℕ × ℕ)) → RemaindersBelow m (done ++ p ∷ back) → p.0 < m
    behind [] b = b.0
    behind (d ∷ done) b = behind done b.1
