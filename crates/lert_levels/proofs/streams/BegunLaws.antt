-- What a frame that was begun has to come, and what it reads.
use Rattle.std.proofs.Common.{ℕ, zero, suc, ◌≡◌, ◌+◌, ◌<◌, ◌≤◌, ◌⊎◌, ◌↔◌, ◌++◌, Option, Some, None, List, [], ◌∷◌, length, map, get_or, refl, sym, ap, ap₂, ◌∙◌, subst, arith, inl, inr, ⊎_elim}
use Rattle.std.proofs.Common.{length-append}
use Rattle.lert_bay.{specs.declared.bay.TheConstants.FRAMES, specs.Files.Files}
use Rattle.lert_frames.{specs.Frame.frame_left, specs.Place.{frame_place, frame_len, tail_limit}, specs.ToCome.{if_whole, told_of}}
use Rattle.lert_merge.{specs.order.Members.{given_at, limit_at}, specs.order.Untouched.IsUntouched}
use Rattle.lert_levels.{specs.streams.Asked.{Begins, frame_to_come, FrameLeavesAt}}
use Rattle.lert_levels.{specs.streams.Bin.{Bin, of_frame, to_come_of, given_of, limit_of, version_of, wide_of, LeavesAt, ReadsIn, IsSureBin}}
use Rattle.lert_levels.{specs.streams.BinSet.{BinSet, AreSure, Reads}, specs.streams.SetLaws.{to_come_at, LeavesIn}}

-- ---- one bin more

at_last : {X : Type 0} (f : Bin → X) (e : X) (bins : List Bin) (bin : Bin) → get_or (map f (bins ++ bin ∷ [])) (length bins) e ≡ f bin
at_last f e [] bin = refl
at_last f e (b ∷ bins) bin = at_last f e bins bin

at_before : {X : Type 0} (f : Bin → X) (e : X) (bins : List Bin) (bin : Bin) (k : ℕ) → k < length bins → get_or (map f (bins ++ bin ∷ [])) k e ≡ get_or (map f bins) k e
at_before f e [] bin k within = absurd (omega arith)
at_before f e (b ∷ bins) bin zero within = refl
at_before f e (b ∷ bins) bin (suc k) within = at_before f e bins bin k (omega arith)

leaves_last : (told : Option Files) (bins : List Bin) (bin : Bin) (at : ℕ) → LeavesIn told (bins ++ bin ∷ []) (length bins) at ↔ LeavesAt told bin at
leaves_last told [] bin at = ((λ it. it), (λ it. it))
leaves_last told (b ∷ bins) bin at = leaves_last told bins bin at

leaves_before : (told : Option Files) (bins : List Bin) (bin : Bin) (k at : ℕ) → k < length bins → LeavesIn told (bins ++ bin ∷ []) k at ↔ LeavesIn told bins k at
leaves_before told [] bin k at within = absurd (omega arith)
leaves_before told (b ∷ bins) bin zero at within = ((λ it. it), (λ it. it))
leaves_before told (b ∷ bins) bin (suc k) at within = leaves_before told bins bin k at (omega arith)

sure_more : (bins : List Bin) (bin : Bin) (file : List ℕ) → AreSure bins file → IsSureBin bin file → AreSure (bins ++ bin ∷ []) file
sure_more [] bin file before sure = (sure, tt)
sure_more (b ∷ bins) bin file before sure = (before.0, sure_more bins bin file before.1 sure)

reads_more : (bins : List Bin) (bin : Bin) (from to : ℕ) → Reads (bins ++ bin ∷ []) from to → Reads bins from to ⊎ ReadsIn bin from to
reads_more [] bin from to reads = elim reads [ inl here ↦ inr here | inr later ↦ absurd later ]
reads_more (b ∷ bins) bin from to reads = elim reads [
  | inl here ↦ inl (inl here)
  | inr later ↦ ⊎_elim (λ before. inl (inr before)) (λ last. inr last) (reads_more bins bin from to later)
]

-- ---- a frame that was begun

module _ {old new : BinSet} {level frame width : ℕ} (begins : Begins old new level frame width) where
  pub begun_count : length new.bins ≡ length old.bins + 1
  begun_count = ap length begins.bins ∙ length-append old.bins (of_frame begins.reader ∷ [])

  last_is : {X : Type 0} (f : Bin → X) (e : X) → get_or (map f new.bins) (length old.bins) e ≡ f (of_frame begins.reader)
  last_is f e = ap (λ (bins : List Bin). get_or (map f bins) (length old.bins) e) begins.bins ∙ at_last f e old.bins (of_frame begins.reader)

  before_is : {X : Type 0} (f : Bin → X) (e : X) (k : ℕ) → k < length old.bins → get_or (map f new.bins) k e ≡ get_or (map f old.bins) k e
  before_is f e k within = ap (λ (bins : List Bin). get_or (map f bins) k e) begins.bins ∙ at_before f e old.bins (of_frame begins.reader) k within

  told_is : (told : Option Files) → told_of told begins.reader ≡ frame_to_come told old.settings old.version level frame width
  told_is None = refl
  told_is (Some seen) = ap₂ if_whole (begins.left (seen FRAMES)) (begins.pieces (seen FRAMES))

  pub begun_coming : (told : Option Files) → to_come_at told new.bins (length old.bins) ≡ frame_to_come told old.settings old.version level frame width
  begun_coming told = last_is (to_come_of told) None ∙ told_is told

  pub begun_breaking : (told : Option Files) (at : ℕ) → LeavesIn told new.bins (length old.bins) at ↔ FrameLeavesAt told old.settings old.version level frame width at
  begun_breaking told at =
      let both = leaves_last told old.bins (of_frame begins.reader) at in
      subst (λ (bins : List Bin). LeavesIn told bins (length old.bins) at ↔ FrameLeavesAt told old.settings old.version level frame width at) (sym begins.bins) (
        (λ leaves seen is. sym (begins.left (seen FRAMES)) ∙ both.0 leaves seen is),
        (λ leaves. both.1 (λ seen is. begins.left (seen FRAMES) ∙ leaves seen is)),
      )

  pub begun_given : given_at given_of new.bins (length old.bins) ≡ []
  begun_given = last_is given_of [] ∙ begins.gave

  pub begun_limit : limit_at limit_of new.bins (length old.bins) ≡ tail_limit old.settings
  begun_limit = last_is limit_of 0 ∙ ap tail_limit begins.of_settings

  pub begun_width : limit_at (wide_of new.version) new.bins (length old.bins) ≡ width
  begun_width = last_is (wide_of new.version) 0 ∙ begins.wide

  pub begun_version : limit_at (version_of new.version) new.bins (length old.bins) ≡ old.version
  begun_version = last_is (version_of new.version) 0 ∙ begins.of_version

  pub begun_others : (k : ℕ) → k < length old.bins → IsUntouched (λ (set : BinSet) (stream : ℕ) (told : Option Files). to_come_at told set.bins stream)
      (λ (set : BinSet). given_at given_of set.bins) (λ (set : BinSet). limit_at limit_of set.bins)
      (λ (set : BinSet) (stream : ℕ) (told : Option Files). LeavesIn told set.bins stream) old new k
  begun_others k within = record {
    coming = λ told. before_is (to_come_of told) None k within;
    pieces = before_is given_of [] k within;
    limits = before_is limit_of 0 k within;
    breaking = λ told at. subst (λ (bins : List Bin). LeavesIn told bins k at ↔ LeavesIn told old.bins k at) (sym begins.bins) (leaves_before told old.bins (of_frame begins.reader) k at within);
  }

  pub begun_widths : (k : ℕ) → k < length old.bins → limit_at (wide_of new.version) new.bins k ≡ limit_at (wide_of old.version) old.bins k
  begun_widths k within = ap (λ (v : ℕ). limit_at (wide_of v) new.bins k) begins.version ∙ before_is (wide_of old.version) 0 k within

  -- the end of its place
  end_is : begins.reader.place + frame_len begins.reader.settings begins.reader.version begins.reader.level ≡ frame_place old.settings old.version
      level frame + frame_len old.settings old.version level
  end_is = λ i. begins.place i + frame_len (begins.of_settings i) (begins.of_version i) (begins.of_level i)

  pub begun_sure : (file : List ℕ) → AreSure old.bins file → (frame_place old.settings old.version level frame + frame_len old.settings old.version level ≤ length file)
      ⊎ (frame_left old.settings old.version level frame width file ≡ None) → AreSure new.bins file
  begun_sure file before there = subst (λ (bins : List Bin). AreSure bins file) (sym begins.bins) (sure_more old.bins (of_frame begins.reader) file before
      (⊎_elim (λ long. inl (omega (arith, end_is, long))) (λ whole. inr (begins.left file ∙ whole)) there))

  pub begun_reads : (from to : ℕ) → Reads new.bins from to → Reads old.bins from to
      ⊎ ((frame_place old.settings old.version level frame ≤ from) × (to ≤ frame_place old.settings old.version level frame + frame_len old.settings old.version level))
  begun_reads from to reads = ⊎_elim (λ before. inl before) (λ last. inr (omega (arith, begins.place, last.0), omega (arith, end_is, last.1)))
      (reads_more old.bins (of_frame begins.reader) from to (subst (λ (bins : List Bin). Reads bins from to) begins.bins reads))
