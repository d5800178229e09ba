-- What an answer of one stream says of the set.
use Rattle.std.proofs.Common.{ℕ, zero, suc, ◌≡◌, ◌≢◌, ◌<◌, ◌↔◌, ◌++◌, Option, Some, None, MatchOption, Result, Ok, Err, IfOk, OnErr, List, [], ◌∷◌, length, map, set, get_or, refl, sym, ap}
use Rattle.std.{proofs.Common.{◌∙◌, subst, arith, length-set}, specs.Prelude.option_to_list}
use Rattle.lert_base.{specs.declared.pieces.PieceFault.PieceFault, specs.declared.pieces.PieceFault.TheVariants.Malformed}
use Rattle.lert_bay.specs.Files.{Files}
use Rattle.lert_merge.{specs.order.Members.{told_at, given_at, limit_at, BreaksAt}, specs.order.Untouched.IsUntouched}
use Rattle.lert_merge.proofs.order.EachLemmas.{at_old, at_new, same_breaks, breaks_here, others_stay, told_turned}
use Rattle.lert_spec.{specs.declared.piece.Piece.Piece, specs.Table.AreGiven}
use Rattle.lert_levels.{specs.streams.Asked.Asked, specs.streams.Bin.{Bin, to_come_of, given_of, limit_of, LeavesAt, IsSameBin}, specs.streams.BinLaws.{same_bin, same_bins}}
use Rattle.lert_levels.{specs.streams.BinSet.{BinSet, AreSameBins, IsSameSet}, specs.streams.SetLaws.{to_come_at, LeavesIn}}

same_with : (bins : List Bin) (i : ℕ) (was becomes : Bin) → i < length bins → was ≡ get_or bins i was → IsSameBin was becomes → AreSameBins bins (set bins i becomes)
same_with [] i was becomes within here same = absurd (omega arith)
same_with (bin ∷ bins) zero was becomes within here same = (subst (λ (b : Bin). IsSameBin b becomes) here same, same_bins bins)
same_with (bin ∷ bins) (suc i) was becomes within here same = (same_bin bin, same_with bins i was becomes (omega arith) here same)

module _ {before after : Option Files} {old new : BinSet} {i : ℕ} {result : Result (Option Piece) PieceFault} (asked : Asked before after old new i result)
    (within : i < length old.bins) where
  was_is : {X : Type 0} (f : Bin → X) (e : X) → get_or (map f old.bins) i e ≡ f asked.was
  was_is f e = at_old f e old.bins old.bins i asked.was refl within asked.here

  becomes_is : {X : Type 0} (f : Bin → X) (e : X) → get_or (map f new.bins) i e ≡ f asked.becomes
  becomes_is f e = ap (λ (bins : List Bin). get_or (map f bins) i e) asked.put ∙ at_new f e old.bins old.bins i asked.becomes refl within

  pub next_told : (ps : List Piece) → to_come_at before old.bins i ≡ Some ps → IfOk result (λ piece. MatchOption piece
      ((ps ≡ []) × (to_come_at after new.bins i ≡ Some []))
      (λ p. (rest : List Piece) × (ps ≡ p ∷ rest) × (to_come_at after new.bins i ≡ Some rest)))
  next_told ps told = told_turned result ps (to_come_at after new.bins i) (to_come_of after asked.becomes) (becomes_is (to_come_of after) None)
      (asked.answers.told ps (sym (was_is (to_come_of before) None) ∙ told))

  pub next_untold : to_come_at before old.bins i ≡ None → to_come_at after new.bins i ≡ None
  next_untold none = becomes_is (to_come_of after) None ∙ asked.answers.untold (sym (was_is (to_come_of before) None) ∙ none)

  pub next_ended : before ≢ None → result ≡ Ok None → to_come_at before old.bins i ≡ Some []
  next_ended files is = was_is (to_come_of before) None ∙ asked.answers.ended files is

  pub next_given : IfOk result (λ piece. given_at given_of new.bins i ≡ given_at given_of old.bins i ++ option_to_list piece)
  next_given = rw (was_is given_of [], becomes_is given_of []) asked.answers.given

  pub next_refused : OnErr result (given_at given_of new.bins i ≡ given_at given_of old.bins i)
  next_refused = rw (was_is given_of [], becomes_is given_of []) asked.answers.refused

  pub next_ascending : AreGiven (limit_at limit_of new.bins i) (given_at given_of new.bins i)
  next_ascending = rw (becomes_is limit_of 0, becomes_is given_of []) asked.answers.ascending

  pub next_limit : limit_at limit_of new.bins i ≡ limit_at limit_of old.bins i
  next_limit = becomes_is limit_of 0 ∙ asked.answers.limit ∙ sym (was_is limit_of 0)

  pub next_malformed : (at : ℕ) → result ≡ Err (Malformed at) → (to_come_at before old.bins i ≡ None) × LeavesIn before old.bins i at
  next_malformed at is = let both = asked.answers.malformed at is in (
    was_is (to_come_of before) None ∙ both.0,
    breaks_here (λ (bin : Bin) (files : Option Files) (at : ℕ). LeavesAt files bin at) old.bins old.bins i asked.was before at refl within asked.here both.1,
  )

  pub next_leaves : (at : ℕ) → LeavesIn after new.bins i at ↔ LeavesIn before old.bins i at
  next_leaves at = subst (λ (bins : List Bin). LeavesIn after bins i at ↔ LeavesIn before old.bins i at) (sym asked.put)
      (same_breaks (λ (bin : Bin) (files : Option Files) (at : ℕ). LeavesAt files bin at) old.bins old.bins i asked.was asked.becomes before after at refl within asked.here
      (asked.answers.leaves at))

  pub next_others : {B : Type 0} (files : B → Option Files) (k : ℕ) → k ≢ i →
      IsUntouched (λ (s : BinSet) (k : ℕ) (bay : B). to_come_at (files bay) s.bins k) (λ (s : BinSet) (k : ℕ). given_at given_of s.bins k) (λ (s : BinSet) (k : ℕ). limit_at limit_of s.bins k)
      (λ (s : BinSet) (k : ℕ) (bay : B) (at : ℕ). LeavesIn (files bay) s.bins k at) old new k
  next_others files k ne =
      let all = subst (λ (bins : List Bin). IsUntouched (told_at (λ (bin : Bin) (told : Option Files). to_come_of told bin)) (given_at given_of) (limit_at limit_of)
      (BreaksAt (λ (bin : Bin) (told : Option Files) (at : ℕ). LeavesAt told bin at)) old.bins bins k) (sym asked.put)
      (others_stay (λ (bin : Bin) (told : Option Files). to_come_of told bin) given_of limit_of (λ (bin : Bin) (told : Option Files) (at : ℕ). LeavesAt told bin at)
      old.bins old.bins i k asked.becomes refl ne) in
      record {
        coming = λ bay. all.coming (files bay);
        pieces = all.pieces;
        limits = all.limits;
        breaking = λ bay at. all.breaking (files bay) at;
      }

  pub next_count : length new.bins ≡ length old.bins
  next_count = ap length asked.put ∙ length-set old.bins i asked.becomes

  pub next_same : IsSameSet old new
  next_same = record {
    settings = asked.settings;
    version = asked.version;
    bins = subst (λ (bins : List Bin). AreSameBins old.bins bins) (sym asked.put) (same_with old.bins i asked.was asked.becomes within asked.here asked.answers.same);
    spare = asked.spare;
  }
