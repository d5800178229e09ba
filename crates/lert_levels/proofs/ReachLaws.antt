-- The rows that a flush reaches, and what an answer says of their frames.
use Rattle.std.proofs.{Common.{ℕ, ◌≡◌, ◌+◌, ◌-◌, ◌<◌, ◌≤◌, List, length, take, Option, Some, refl, sym, ◌∙◌, arith, subst, Result, length-take}, lemmas.Option.none-some}
use Rattle.std.specs.{Prelude.{Ok, Err, IfErr, IsErrAnd, OnOk, MatchResult, IsSomeAnd}, List.All}
use Rattle.lert_bay.specs.{declared.bay.TheConstants.FRAMES, Files.{Files, IfTold, Turns}}
use Rattle.lert_frames.proofs.FrameLaws.{left_is}
use Rattle.lert_levels.specs.{declared.rows.bin_at.BinAt.BinAt, declared.rows.fault.FlushFault.FlushFault, declared.rows.fault.FlushFault.TheVariants.{Failed, Malformed}}
use Rattle.lert_levels.specs.{rows.Landing.{LeavesRest, AreApart}, rows.Loading.{width_of, Stands, AllStand, OneBreaks}, rows.Rows.{IsAt, AreFirst, AreRows, HoldsBins, moved}}
use Rattle.lert_levels.specs.{Flushed.{AreEvents, InNamed}, Merged.IsFrames, Ready.{AreReached, HasMade}}
use Rattle.lert_levels.proofs.{rows.RangeLaws.edge_within, rows.RowLaws.first_rows, rows.LandLaws.turns_fewer, ArrivalLaws.{deep, enough, part_widths, parts_have}, FlushLaws.{made_count, made_new}}
use Rattle.lert_levels.proofs.{HoldLaws.{named_apart, written_holds}, PlacedLaws.named_more}
use Rattle.lert_spec.specs.{declared.item.Item.Item, Bins.Bin, Edges.{span, edge, depth, capacity}, Limits.IsValid, declared.numbers.Numbers.Numbers, declared.piece.Piece.Piece}

-- what is so of a thing that is held
pub held : {R : Type 0} (P : R → Type 0) (a b : Option R) (x : R) → IsSomeAnd a P → b ≡ a → b ≡ Some x → P x
held {R} P a b x is same some = subst (λ (o : Option R). IsSomeAnd o P) (sym same ∙ some) is

-- a fact by other words for the settings and the rows
pub turned : (P : Numbers → List (List BinAt) → Type 0) (s t : Numbers) (rows others : List (List BinAt)) → t ≡ s → others ≡ rows → P t others → P s rows
turned P s t rows others settings same is = subst (P s) same (subst (λ (n : Numbers). P n others) settings is)

-- ---- a flush

module _ (s : Numbers) (version : ℕ) (valid : IsValid s) (m : ℕ) (first : 1 ≤ m) (fits : m ≤ capacity s) (rows : List (List BinAt)) (at : IsAt s (m - 1) rows) (are : AreRows s rows) where
  pub reached_first : AreFirst s (take (depth s m) rows)
  reached_first = first_rows s rows are (depth s m) (deep s valid m first fits rows at)

  -- a range in a frame that is named lies apart from those that it writes
  pub apart : (from to : ℕ) → InNamed s version rows from to → AreApart s version m (take (depth s m) rows) from to
  apart = named_apart s version m rows are (depth s m) (deep s valid m first fits rows at)

  -- the rows that it reaches make up the new bins
  pub reached_are : (young : List Bin) → 1 ≤ length young → All (λ (bin : Bin). bin.to - bin.from ≤ span s 0) young → AreReached s version m young (take (depth s m) rows)
  reached_are young some narrow = record {
    some = some;
    narrow = narrow;
    are = reached_first;
    parts = parts_have s valid m first fits rows at;
    fits = λ k below. part_widths s valid m first fits rows at young some narrow k (omega (arith, below, length-take (depth s m) rows));
    apart = λ from to inside. apart from to (named_more s version rows (depth s m) from to are.levels inside);
  }

module _ (s : Numbers) (version : ℕ) (valid : IsValid s) (m : ℕ) (first : 1 ≤ m) (fits : m ≤ capacity s) (rows : List (List BinAt)) (at : IsAt s (m - 1) rows) (are : AreRows s rows) where
  -- where the new bins stand, the frames hold the bins of the rows as they are then
  pub has_moved : (young : List Bin) (took : List Piece → Type 0) (before after : Option Files) → HasMade s version m young (take (depth s m) rows) took before after →
      Turns (LeavesRest (AreApart s version m (take (depth s m) rows))) before after → (seen : Files) → before ≡ Some seen → (events : List Item) →
      AreEvents (record { settings = s; version = version; rows = rows }) m young events (seen FRAMES) →
      IfTold after (λ then. HoldsBins s version events (moved s m rows) (then FRAMES))
  has_moved young took before after has turns seen told events of = λ then then_told. (
      let news = made_new s version valid m first fits rows at young took (IsFrames before) has.made has.is (seen FRAMES) events (record { seen = seen; told = told; is = refl }) are of in
      let count = made_count s version valid m first fits rows at young took (IsFrames before) has.made has.is in
      written_holds s version m rows has.made before after valid are.levels are count
      (turns_fewer (AreApart s version m (take (depth s m) rows)) (InNamed s version rows) before after (apart s version valid m first fits rows at are) turns)
      (λ last last_told k below. has.landed last last_told k (omega (arith, below, enough s valid m first fits rows at)))
      seen told events of.weighed of.held news then then_told)

-- level 0 has a bin before a flush
pub young_some : (s : Numbers) (m from to : ℕ) → 1 ≤ m → from ≡ edge s 0 (m - 1) → to ≡ m → from < to
young_some s m from to first from_is to_is = omega (arith, edge_within s 0 (m - 1), from_is, to_is, first)

-- ---- frames that stand don't break

pub no_break : (s : Numbers) (version : ℕ) (valid : IsValid s) (rows : List (List BinAt)) (file : List ℕ) (hold : BinAt → List Piece) (at : ℕ) → AreFirst s rows →
    AllStand s version file hold rows → OneBreaks s version rows file at → ⊥
no_break s version valid rows file hold at are stand breaks =
    let bin = breaks.breaks.bin in
    let named = breaks.breaks.named in
    let k = breaks.number in
    let below = breaks.within in
    let stands : Stands s version (k + 1) file hold bin = subst (Stands s version (k + 1) file hold) named.2 (stand k below named.0 bin named.1) in
    let narrow : width_of bin ≤ span s (k + 1) = subst (λ (b : BinAt). width_of b ≤ span s (k + 1)) named.2 ((are.each k below).widths named.0 bin named.1) in
    none-some at (sym (left_is s version (k + 1) bin.frame (width_of bin) file (hold bin) valid (omega (arith, below, are.few)) narrow stands.are stands.text) ∙ breaks.breaks.breaks.left)

-- where no frame is malformed, only a call failed
pub sound_by : {T : Type 0} (result : Result T FlushFault) → ((at : ℕ) → result ≡ Err (Malformed at) → ⊥) → IfErr result (λ fault. fault ≡ Failed)
sound_by (Ok value) never = tt
sound_by (Err Failed) never = refl
sound_by (Err (Malformed at)) never = absurd (never at refl)

pub matched_by : {T : Type 0} (P : T → Type 0) (result : Result T FlushFault) → ((value : T) → result ≡ Ok value → P value) → ((at : ℕ) → result ≡ Err (Malformed at) → ⊥) →
    MatchResult result P (λ fault. fault ≡ Failed)
matched_by P (Ok value) ok never = ok value refl
matched_by P (Err Failed) ok never = refl
matched_by P (Err (Malformed at)) ok never = absurd (never at refl)

pub at_ok : {T : Type 0} (P : Type 0) (result : Result T FlushFault) (value : T) → result ≡ Ok value → OnOk result P → P
at_ok P (Ok other) value is on = on
at_ok P (Err fault) value is on = absurd (cc)

pub failed_by : (fault : FlushFault) → ((at : ℕ) → fault ≡ Malformed at → ⊥) → fault ≡ Failed
failed_by Failed never = refl
failed_by (Malformed at) never = absurd (never at refl)

-- an answer that a call failed names no place
pub no_place : {T : Type 0} (result : Result T FlushFault) → IsErrAnd result (λ fault. fault ≡ Failed) → (at : ℕ) → result ≡ Err (Malformed at) → ⊥
no_place (Ok x) gave at is = gave
no_place (Err fault) gave at is = cc
