-- A merge of bins of which some land.
use Rattle.std.proofs.Common.{ℕ, ◌≡◌, ◌<◌, ◌≤◌, true, Option, Some, None, MatchOption, List, [], length, get_or, refl, ap, sym, ◌∙◌, subst, arith}
use Rattle.std.{specs.Prelude.{IfSome, IsErrOf, Ok, Err}, proofs.lemmas.Bool.eq-eqb, proofs.lemmas.Option.none-some}
use Rattle.lert_bay.{specs.declared.bay.TheConstants.FRAMES, specs.Files.IfTold, specs.Kept.Bays, proofs.KeptLaws.{IsLawful, reads_none}}
use Rattle.lert_levels.{specs.landing.Landed.taken, specs.landing.Landings.IsOutside, specs.landing.Summed.sums_of, specs.landing.Whole.{AreUpTo, Takes}}
use Rattle.lert_levels.{specs.declared.landing.landing.Landing.Landing, specs.declared.landing.sum.Sum.Sum, proofs.landing.SummedLaws.IsTable-sums_of, specs.rows.Landing.LeavesRest}
use Rattle.lert_levels.{proofs.rows.LandLaws.turns_fewer, specs.flush.Merged.{is_of, picked, with_piece, IsUnread}, specs.flush.Writing.LandingsWrite}
use Rattle.lert_levels.{proofs.flush.GatheringLaws.{IsGathering, HasGiven, nothing, gathering_none, gathering_more, gathering_on, more, part_are, tables_by}, proofs.flush.PartLaws.none_landed}
use Rattle.lert_levels.{proofs.flush.WholeLaws.told_before, proofs.flush.SteadyLaws.{AreSteady, sure_stepped, comes_same, sure_written, apart_same, writes_read, writes_on, writes_as}}
use Rattle.lert_merge.{specs.order.Ordering.{Ordering}, proofs.StepLemmas.StepSays}
use Rattle.lert_merge.specs.declared.order.streams.Streams.{Ghosts as StreamsOf}
use Rattle.lert_spec.{specs.declared.piece.Piece.Piece, specs.Table.{plus, IsTable}}
use Rattle.lert_base.specs.declared.pieces.PieceFault.TheVariants as fault

-- what was taken so far, by the totals and by the landings
pub record IsMerging {S B T : Type 0} (members : StreamsOf S B) (took : T → List Piece → Type 0) (bays : Bays B) (sure : S → List ℕ → Type 0) (parts : List (Option ℕ))
    (first : Ordering S) (start : B) (landings : List Landing) (now : Ordering S) (bay : B) (landings_now : List Landing) (totals : T) (sums : Sum) : Type 0 where
  pub lists : List (List Piece)
  pub gathering : IsGathering members took first start lists now bay totals sums
  pub landed : (part : ℕ) (d : Landing) → part < length landings_now → taken (get_or landings_now part d) ≡ sums_of (picked parts part lists)
  pub writes : LandingsWrite bays landings start landings_now bay ⊥
  pub surely : IfTold (bays.files bay) (λ seen. sure now.streams (seen FRAMES))

module _ {S B T : Type 0} {members : StreamsOf S B} {took : T → List Piece → Type 0} {bays : Bays B} (lawful : IsLawful bays) {version width : S → ℕ → ℕ} {reads : S → ℕ → ℕ → Type 0}
    {sure : S → List ℕ → Type 0} (steady : AreSteady members bays version width reads sure) {parts : List (Option ℕ)} {first : Ordering S} {start : B} {landings : List Landing} where
  pub merging_none : {totals : T} {sums : Sum} → IsUnread members first → took totals [] → sums.last ≡ None →
      ((part : ℕ) (d : Landing) → part < length landings → taken (get_or landings part d) ≡ []) → IfTold (bays.files start) (λ seen. sure first.streams (seen FRAMES)) →
      IsMerging members took bays sure parts first start landings first start landings totals sums
  merging_none unread empty none none_taken surely = record {
    lists = nothing (members.count first.streams);
    gathering = gathering_none members took first start _ _ steady.same_self unread empty none;
    landed = λ part d below. none_taken part d below ∙ sym (none_landed parts part (members.count first.streams));
    writes = writes_read landings (reads_none bays lawful start ⊥ (λ none. none));
    surely = surely;
  }

  pub merging_more : {now : Ordering S} {bay : B} {landings_now : List Landing} {totals : T} {sums : Sum} (was : IsMerging members took bays sure parts first start landings
      now bay landings_now totals sums) {new : Ordering S} {middle : B} {next : ℕ × Piece} (step : HasGiven members now bay new middle next) → members.keeps bay middle →
      {totals_then : T} {sums_then : Sum} →
      ((list : List Piece) → Takes took totals sums list → AreUpTo next.1.tail list → Takes took totals_then sums_then (plus list next.1.tail next.1.count)) →
      length parts ≡ members.count first.streams → ((from to : ℕ) → reads first.streams from to → IsOutside landings from to) →
      {landings_then : List Landing} {after : B} {Failed : Type 0} → length landings_then ≡ length landings_now →
      ((own : ℕ) (d : Landing) → own < length landings_now →
      taken (get_or landings_then own d) ≡ with_piece (is_of (get_or parts next.0 None) own) next.1 (taken (get_or landings_now own d))) →
      LandingsWrite bays landings_now middle landings_then after Failed →
      IsMerging members took bays sure parts first start landings new after landings_then totals_then sums_then
  merging_more {now} {bay} {landings_now} was {new} {middle} {next} step kept {totals_then} {sums_then} takes len apart {landings_then} {after} {Failed} same_len lands writes =
      let read = steady.reading bay middle kept in
      let gathered = gathering_more was.gathering step steady.same_on totals_then sums_then takes in
      let surely = sure_stepped members bays version width reads sure steady now new bay middle read.seen step.kept step.same was.surely in
      let turned = turns_fewer (IsOutside landings_now) (reads new.streams) (bays.files middle) (bays.files after)
      (λ from to reading. apart_same landings landings_now was.writes.homes from to (apart from to (steady.reads_same first.streams new.streams gathered.kept from to reading))) writes.rest.seen in
      record {
        lists = more was.gathering step;
        gathering = gathering_on gathered after
            (λ tells. (steady.telling middle).1 (told_before (LeavesRest (reads new.streams)) (bays.files middle) (bays.files after) turned ((steady.telling after).0 tells)))
            (comes_same members bays version width reads sure steady new.streams middle after surely turned);
        landed = λ part d below. (
            let under : part < length landings_now = omega (arith, below, same_len) in
            lands part d under
            ∙ (ap (with_piece (is_of (get_or parts next.0 None) part) next.1) (was.landed part d under)
            ∙ part_are was.gathering step parts len part));
        writes = writes_on lawful (writes_on lawful was.writes (writes_read landings_now read)) (writes_as (λ none. absurd none) writes);
        surely = sure_written members bays version width reads sure steady new.streams middle after surely turned;
      }

-- ---- what a step of the order says

pub given_at : {S C : Type 0} (members : StreamsOf S C) (faults mark : C → ℕ) (ctx : C) (now : Ordering S) (after : C) (new : Ordering S) (given : Option (ℕ × Piece)) (next : ℕ × Piece) →
    given ≡ Some next → StepSays members faults mark ctx now after new (Ok given) → HasGiven members now ctx new after next
given_at members faults mark ctx now after new None next is says = absurd (none-some next is)
given_at members faults mark ctx now after new (Some g) next is says =
    subst (HasGiven members now ctx new after) (let one : g ≡ next = cc in one) (record {
      taken = says.taken;
      ascending = says.ascending;
      below = says.below;
      above = says.above;
      last = says.last;
      told = says.told;
      known = says.known;
      whole = says.whole;
      untold = says.untold;
      same = says.same;
      kept = says.kept;
    })

-- and where nothing comes
pub none_at : {X : Type 0} (given : Option X) (N : Type 0) (P : X → Type 0) → given ≡ None → MatchOption given N P → N
none_at None N P is none = none
none_at (Some x) N P is some = absurd (none-some x (sym is))

pub never_failed : {T E : Type 0} (x : T) (fault : E) → IsErrOf {T = T} {E = E} (Ok x) fault → ⊥
never_failed x fault is = absurd (cc)

pub not_malformed : {T : Type 0} (at : ℕ) → IsErrOf {T = T} (Err fault.Failed) (fault.Malformed at) → ⊥
not_malformed at is = absurd (cc)

pub if_some : {X : Type 0} (own : Option X) (P : X → Type 0) → ((x : X) → own ≡ Some x → P x) → IfSome own P
if_some None P each = tt
if_some (Some x) P each = each x refl

-- a part is that of the stream that is of it
pub is_own : (own : Option ℕ) (part : ℕ) → own ≡ Some part → is_of own part ≡ true
is_own own part is = ap (λ o. is_of o part) is ∙ eq-eqb part part refl

-- ---- the end

pub table_of : {S C T : Type 0} {members : StreamsOf S C} {took : T → List Piece → Type 0} {first : Ordering S} {start : C} {lists : List (List Piece)} {now : Ordering S}
    {ctx : C} {totals : T} {sums : Sum}
    (was : IsGathering members took first start lists now ctx totals sums) (high : ℕ) → ((k : ℕ) → k < members.count first.streams → members.limit first.streams k ≤ high) →
    IsTable high (sums_of lists)
table_of {lists = lists} was high less = IsTable-sums_of high lists (tables_by was high less)
