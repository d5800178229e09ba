use Rattle.std.proofs.Common.{◌≡◌, ℕ, ◌<◌, zero, suc, Bool, false, List, [], ◌∷◌, Option, Some, None, slice_index_or, slice_set, refl, ap, sym, ◌∙◌, subst, arith}
use Rattle.std.proofs.lemmas.Option.{same_Some, none-some}
use Rattle.atomic_table.specs.Seated.{TableId}
use Rattle.lert_conelock.specs.{Shown.Shown, Sight.{Closed, LockSight, Sight, sight}}
use Rattle.lert_conelock.proofs.Seeing.{idles, ends}
use Rattle.lert_conelock.proofs.lock.ConeLock.close.Goals as goal

-- the table that a pass belongs to
table_of : {H F : Type 0} (id : TableId) (shown : Option (Shown H F)) → (sight id shown).lock ≡ id
table_of id None = refl
table_of id (Some p) = refl

-- of a single slot that was taken, none is left
none_left : (before after : List Bool) (count k : ℕ) → after ≡ slice_set before 0 false → count ≡ 1 → k < count → slice_index_or after k false ≡ false
none_left before after count (suc k) gone one within = absurd (omega (arith, one, within))
none_left [] after count zero gone one within = ap (λ (xs : List Bool). slice_index_or xs 0 false) gone
none_left (full ∷ others) after count zero gone one within = ap (λ (xs : List Bool). slice_index_or xs 0 false) gone

pub close_with-closed-requires : goal.close_with-closed-requires
close_with-closed-requires g c =
    sym (table_of c.pass.inside.seat.table_id c.pass.inside.seat.me.0)
    ∙ ap (λ (v : Sight g.row.S.Denot g.row.S-Refusal.Denot). v.lock) c.pass.view_is
    ∙ c.requires.belongs.lock_is
    ∙ sym (ap (λ (l : LockSight g.row.S.Denot). l.id) c.self.view_is)

pub take-requires : goal.take-requires
take-requires g c =
    let count = c.close_with-closed.ensures.counts.1 ∙ c.self.invariant.1 in
    let some : 0 < 1 = omega arith in
    let within = subst (λ (n : ℕ). 0 < n) (sym count) some in
    (within, c.close_with-closed.ensures.values.1 0 (omega arith) within)

pub free-requires : goal.free-requires
free-requires g c = λ k within.
    none_left _ _ _ k c.take.ensures.others.1 (c.take.ensures.others.2 ∙ c.close_with-closed.ensures.counts.1 ∙ c.self.invariant.1) within

pub unreachable-requires : goal.unreachable-requires
unreachable-requires g c = let end = ends _ _ _ c.self.view_is _ c.pass.inside.seat.me _ c.pass.view_is
    (idles _ c.pass.invariant.0 c.pass.invariant.1) c.requires.whole.0 c.requires.whole.1 _ _ _
    c.close_with-closed.ensures.values.2 _ c.take.ensures.value in
    none-some end.0 (sym c.in-None.is ∙ end.1)

pub returns : goal.returns
returns g c = let end = ends _ _ _ c.self.view_is _ c.pass.inside.seat.me _ c.pass.view_is
    (idles _ c.pass.invariant.0 c.pass.invariant.1) c.requires.whole.0 c.requires.whole.1 _ _ _
    c.close_with-closed.ensures.values.2 _ c.take.ensures.value in
    subst (Closed g.S.Held c.args.self c.args.pass) (same_Some _ _ (sym end.1 ∙ c.in-Some.is)) end.2
