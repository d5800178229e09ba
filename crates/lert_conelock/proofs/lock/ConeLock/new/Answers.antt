use Rattle.std.proofs.Common.{◌≡◌, List, [], ◌∷◌, ◌++◌, Option, Some, ap, ap₂, length, sym, subst, ◌∙◌}
use Rattle.lert_conelock.specs.Sight.{first_pass, is_idle, sight}
use Rattle.lert_conelock.proofs.Ending.{opens}
use Rattle.lert_conelock.proofs.lock.ConeLock.new.Goals as goal

-- the one slot has the state
the_slot : {S : Type 0} (before after : List (Option S)) (kept state : S) → before ≡ [] → after ≡ before ++ Some state ∷ [] → kept ≡ state → after ≡ Some kept ∷ []
the_slot before after kept state none one same = one ∙ ap₂ (λ xs s. xs ++ Some s ∷ []) none (sym same)

pub new-requires : goal.new-requires
new-requires g c = let opened = c.requires.opened in
    opens _ _ _ (opened.0, subst (λ s. g.S.Held.stands_for s opened.0) (sym c.of.ensures) opened.1) c.requires.numbers.0 _
    (the_slot _ _ _ _ c.in-Ok.ensures.items c.push_reserved.ensures.items c.of.ensures)

pub invariant_of-result : goal.invariant_of-result
invariant_of-result g c =
    let ok = c.in-Ok-new.ensures.ok in
    (ok.0, ok.1 ∙ ap length (the_slot _ _ _ _ c.in-Ok.ensures.items c.push_reserved.ensures.items c.of.ensures))

pub invariant_of-result-in-Ok-new : goal.invariant_of-result-in-Ok-new
invariant_of-result-in-Ok-new g c =
    let ok = c.in-Ok-new.ensures.ok in
    ((λ i. is_idle (ok.4 i).0), (λ i. (ok.4 i).1), (λ i. (sight c.in-Ok-new.seat.table_id (ok.4 i).0).lo))

pub returns-in-Ok-new : goal.returns-in-Ok-new
returns-in-Ok-new g c =
    let ok = c.in-Ok-new.ensures.ok in
    record {
      lock = ((λ i. (ok.5 i).first.value) ∙ c.of.ensures, (λ i. (ok.5 i).numbers));
      pass = (λ i. sight (ok.2 i) (ok.4 i).0) ∙ sym (λ i. first_pass (record { id = c.in-Ok-new.table.shared.table_id; first = (ok.5 i).first.value; numbers = (ok.5 i).numbers }));
      back = tt;
    }

-- and what is popped of it is the state
one_last : {S : Type 0} (all rest : List (Option S)) (first kept state : S) → all ≡ Some first ∷ [] → first ≡ kept → all ≡ rest ++ Some state ∷ [] → state ≡ kept
one_last {S} all [] first kept state one same popped = let is : state ≡ first = cc (one, popped) in is ∙ same
one_last {S} all (x ∷ rest) first kept state one same popped = absurd (no_more rest (sym one ∙ popped))
  where
    no_more : (rest : List (Option S)) → Some first ∷ [] ≡ x ∷ (rest ++ Some state ∷ []) → ⊥
    no_more [] is = cc (is)
    no_more (y ∷ ys) is = cc (is)

pub returns-in-Some-Some : goal.returns-in-Some-Some
returns-in-Some-Some g c =
    let slot = the_slot _ _ _ _ c.in-Ok.ensures.items c.push_reserved.ensures.items c.of.ensures in
    record {
      lock = tt;
      pass = tt;
      back = one_last _ c.pop.new.self.items _ _ c.in-Some-Some.state (c.in-Err.ensures.err ∙ slot) c.of.ensures
          (c.in-Some-Some.ensures.items ∙ ap (λ last. c.pop.new.self.items ++ last ∷ []) c.in-Some-Some.field-0-is);
    }
