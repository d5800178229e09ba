-- What the parts of a decoder's step leave.
use Rattle.std.specs.Prelude.{◌≡◌, ℕ, ◌+◌, ◌-◌, ◌*◌, ◌^◌, ◌<◌, ◌≤◌, List, length, take, drop, min, slice_index, nat_lt, if◌then◌else◌, Option, Some, None}
use Rattle.std.specs.Prelude.{Result, IfOk, IfErr, OnOk, OnErr, IsErrOf, All}
use Rattle.lert_base.specs.declared.pieces.PieceFault.{PieceFault}
use Rattle.lert_base.specs.declared.pieces.PieceFault.TheVariants.{Failed, Malformed}
use Rattle.lert_bay.specs.declared.bay.TheConstants.{FRAMES}
use Rattle.lert_bay.specs.Files.{IfTold}
use Rattle.lert_bay.specs.Kept.{Bays, OnlyReads}
use Rattle.lert_blocks.specs.Frame.{numbers_in, occupied_in, count_in, words_in, head_len, ends_agree}
use Rattle.lert_blocks.specs.Text.{word_count}
use Rattle.lert_slotbits.specs.Bits.{row_of, trues}
use Rattle.lert_blocks.specs.declared.decoder.Walk.{Walk}
use Rattle.lert_frames.specs.declared.decoder.Decoder.{Decoder}
use Rattle.lert_frames.specs.declared.decoder.Present.{Present}
use Rattle.lert_frames.specs.declared.step.Word.{Word}
use Rattle.lert_frames.specs.declared.fields.Head.{Head}
use Rattle.lert_frames.specs.declared.run_ends.RunEnds.{RunEnds}
use Rattle.lert_frames.specs.declared.slots.WordEnds.{WordEnds}
use Rattle.lert_frames.specs.declared.window.Window.{Window}
use Rattle.lert_frames.specs.Decoded.{decoder_found, decoder_floor, decoder_limit, decoder_end, work_of, words_there, Gives, IsBetween}
use Rattle.lert_frames.specs.Window.{count_of, place_of, room_of, to_come, IsRead}
use Rattle.lert_spec.specs.declared.piece.Piece.{Piece}
use Rattle.lert_spec.specs.Table.{AscendsFrom}

-- ---- a window

-- calls read ahead: nothing was passed, and what is to come of a told file is the same
pub record ReadsAhead {B : Type 0} (bays : Bays B) (before : B) (old new : Window) : Type 0 where
  pub place : place_of new ≡ place_of old
  pub room : room_of new ≡ room_of old
  pub grows : count_of old ≤ count_of new
  pub later : old.at ≤ new.at
  pub come : IfTold (bays.files before) (λ seen. to_come new (seen FRAMES) ≡ to_come old (seen FRAMES))
  pub read : IfTold (bays.files before) (λ seen. (from : ℕ) → from ≤ old.at → IsRead old from (seen FRAMES) → IsRead new from (seen FRAMES))

-- so many bytes of a window were passed, and what is behind them is to come
pub record Passes {B : Type 0} (bays : Bays B) (before : B) (count : ℕ) (old new : Window) : Type 0 where
  pub place : place_of new ≡ place_of old + count
  pub room : room_of new ≡ room_of old
  pub come : IfTold (bays.files before) (λ seen. to_come new (seen FRAMES) ≡ drop count (to_come old (seen FRAMES)))
  pub read : IfTold (bays.files before) (λ seen. (from : ℕ) → from ≤ place_of old → IsRead old from (seen FRAMES) → IsRead new from (seen FRAMES))

-- so many bits of words are set, and this is the last one of them
pub record AreCounted (words : List ℕ) (found : RunEnds) : Type 0 where
  pub set : found.set ≡ trues (row_of words)
  pub last : found.last ≡ slice_index words (length words - 1)
  pub fits : found.last < 2 ^ 64

-- so many words of run ends were passed, from where a window began, and these are counted
pub record PassesWords {B : Type 0} (bays : Bays B) (before : B) (count : ℕ) (old new : Window) (found : RunEnds) : Type 0 where
  pub place : place_of new ≡ place_of old + 8 * count
  pub room : room_of new ≡ room_of old
  pub later : old.at ≤ new.at
  pub few : found.set ≤ 64 * count
  pub long : IfTold (bays.files before) (λ seen. 8 * count ≤ length (to_come old (seen FRAMES)))
  pub counted : IfTold (bays.files before) (λ seen. AreCounted (numbers_in count (to_come old (seen FRAMES))) found)
  pub come : IfTold (bays.files before) (λ seen. to_come new (seen FRAMES) ≡ drop (8 * count) (to_come old (seen FRAMES)))
  pub read : IfTold (bays.files before) (λ seen. (from : ℕ) → from ≤ old.at → IsRead old from (seen FRAMES) → IsRead new from (seen FRAMES))

-- ---- the fields before a block's slots

-- these are the first fields of bytes
pub record AreFields (head : Head) (bytes : List ℕ) : Type 0 where
  pub long : 12 ≤ length bytes
  pub occupied : head.occupied ≡ occupied_in bytes
  pub count : head.count ≡ count_in bytes

-- the number of slots is one that a block may have
pub record IsFitting (most : ℕ) (head : Head) : Type 0 where
  pub within : head.count ≤ most
  pub some : head.count ≡ 0 → head.occupied ≡ 0

-- how many bytes stand before its slots
abbrev pub fields_len : Head → ℕ
fields_len head = 12 + 8 * word_count head.count

-- where the run ends leave the text, of a block whose first fields don't
abbrev pub run_ends_left : ℕ → ℕ → List ℕ → Option ℕ
run_ends_left at end bytes =
    if nat_lt (length bytes) (head_len bytes) then Some end
    else (if ends_agree (occupied_in bytes) (count_in bytes) (words_in bytes) then None else Some (at + head_len bytes - 8))

-- these words of run ends are to come
pub record AreWords (words : List ℕ) (count : ℕ) (ends : List ℕ) : Type 0 where
  pub are : numbers_in count ends ≡ words
  pub long : 8 * count ≤ length ends

-- the fields of a block, of which these are the first, were passed, and its run ends agree with them and are to come of
-- another window; or the block is to come as before
pub record PassesFields {B : Type 0} (bays : Bays B) (before after : B) (head : Head) (old old_ends new new_ends : Window) (result : Result (Unit {0}) PieceFault) : Type 0 where
  pub passes : OnOk result (Passes bays before (fields_len head) old new)
  pub words : IfTold (bays.files before) (λ seen. OnOk result (AreWords (words_in (to_come old (seen FRAMES))) (word_count head.count) (to_come new_ends (seen FRAMES))))
  pub agree : IfTold (bays.files before) (λ seen. OnOk result (run_ends_left (place_of old) (length (seen FRAMES)) (to_come old (seen FRAMES)) ≡ None))
  pub ends_place : OnOk result (place_of new_ends ≡ place_of old + 12)
  pub malformed : IfTold (bays.files before) (λ seen. (at : ℕ) → IsErrOf result (Malformed at) →
      run_ends_left (place_of old) (length (seen FRAMES)) (to_come old (seen FRAMES)) ≡ Some at)
  pub ahead : OnErr result (ReadsAhead bays before old new)
  pub ends_within : place_of old_ends < 2 ^ 43 → place_of new_ends < 2 ^ 43
  pub ends_room : room_of new_ends ≡ room_of old_ends
  pub only_reads : OnlyReads bays before after (IsErrOf result Failed)

-- ---- the slots of a word

-- the words of run ends at the front of bytes: one or two, as far as they are there
pub record AreEnds (some : ℕ) (ends : List ℕ) (word : WordEnds) : Type 0 where
  pub words : word.words ≡ min 2 (words_there some ends)
  pub first : word.first ≡ slice_index (numbers_in (words_there some ends) ends) 0
  pub next : word.next ≡ slice_index (numbers_in (words_there some ends) ends) 1

-- so many slots at hand are those to which the groups of a word reach: fewer only where these, or the words of their run
-- ends, aren't there
pub record AreAtHand (some : ℕ) (ends slots : List ℕ) (word : WordEnds) (count : ℕ) (hand : List ℕ) : Type 0 where
  pub words : AreEnds some ends word
  pub are : hand ≡ numbers_in count slots
  pub few : count ≤ min (min some 72) (64 * word.words)
  pub there : 8 * count ≤ length slots
  pub all : count < min (min some 72) (64 * word.words) → length slots < 8 * (count + 1)

-- so many slots are at hand, with the words of their run ends
pub record IsAtHand (block : Present) (window ends : Window) (word : Word) : Type 0 where
  pub few : word.count ≤ min block.some 72
  pub known : word.count ≤ 64 * word.ends.words
  pub hand : 8 * word.count ≤ count_of window
  pub hand_ends : 8 * word.ends.words ≤ count_of ends
  pub from : block.from ≤ word.count

-- a word's slots were read, and nothing was passed
pub record ReadsWord {B : Type 0} (bays : Bays B) (before after : B) (old new : Decoder) (result : Result Word PieceFault) : Type 0 where
  pub width : new.width ≡ old.width
  pub block : new.block ≡ old.block
  pub ahead : new.ahead ≡ old.ahead
  pub window : ReadsAhead bays before old.window new.window
  pub ends : ReadsAhead bays before old.ends new.ends
  pub hand : IfOk result (IsAtHand new.block new.window new.ends)
  pub slots : IfTold (bays.files before) (λ seen. IfOk result (λ word.
      AreAtHand new.block.some (to_come new.ends (seen FRAMES)) (to_come new.window (seen FRAMES)) word.ends word.count (take word.count new.slots.items)))
  pub failed : IfErr result (λ fault. fault ≡ Failed)
  pub only_reads : OnlyReads bays before after (IsErrOf result Failed)

-- a word was passed, whose groups end at a slot, and the walk goes on from there
pub record PassesWord (walk : Walk) (upto : ℕ) (old new : Decoder) : Type 0 where
  pub width : new.width ≡ old.width
  pub ahead : new.ahead ≡ old.ahead
  pub block : new.block ≡ record { first = old.block.first; some = old.block.some - min old.block.some 64; from = upto - min old.block.some 64; walk = walk }
  pub place : place_of new.window ≡ place_of old.window + 8 * min old.block.some 64
  pub ends_place : place_of new.ends ≡ place_of old.ends + 8
  pub come : (file : List ℕ) → to_come new.window file ≡ drop (8 * min old.block.some 64) (to_come old.window file)
  pub come_ends : (file : List ℕ) → to_come new.ends file ≡ drop 8 (to_come old.ends file)
  pub read : (from : ℕ) (file : List ℕ) → IsRead old.window from file → IsRead new.window from file

-- ---- a step

-- What was found are these pieces and what is found then, and a place that breaks a rule is the one that was found. Told or not,
-- the pieces ascend from the least tail that might come, below the least one that may come then. All that was read are bytes, and
-- the frame's end is where it was.
pub record Steps {B : Type 0} (bays : Bays B) (before after : B) (old new : Decoder) (put : List Piece) (result : Result (Unit {0}) PieceFault) : Type 0 where
  pub gives : IfTold (bays.files before) (λ seen. OnOk result (Gives old new put (seen FRAMES)))
  pub malformed : IfTold (bays.files before) (λ seen. (at : ℕ) → IsErrOf result (Malformed at) → (decoder_found old (seen FRAMES)).left ≡ Some at)
  pub refused : IfTold (bays.files before) (λ seen. OnErr result (decoder_found new (seen FRAMES) ≡ decoder_found old (seen FRAMES)))
  pub ascend : OnOk result (AscendsFrom (decoder_floor old) (decoder_floor new) put)
  pub counts : OnOk result (All (λ piece. piece.count ≤ 2 ^ 47) put)
  pub floor : decoder_floor old ≤ decoder_floor new
  pub limit : decoder_limit new ≡ decoder_limit old
  pub bounded : decoder_floor new ≤ decoder_limit new
  pub work : OnOk result (work_of new < work_of old)
  pub stays : OnErr result (work_of new ≡ work_of old)
  pub read : IfTold (bays.files before) (λ seen. (from : ℕ) → from ≤ place_of old.window → IsRead old.window from (seen FRAMES) → IsRead new.window from (seen FRAMES))
  pub moves : place_of old.window ≤ place_of new.window
  pub between : (place end : ℕ) → IsBetween place end old → IsBetween place end new
  pub end : IfTold (bays.files before) (λ seen. OnOk result (decoder_end new (seen FRAMES) ≡ decoder_end old (seen FRAMES)))
  pub only_reads : OnlyReads bays before after (IsErrOf result Failed)

-- and its pieces were put behind some, for which there was room
pub record PutsBehind {B : Type 0} (bays : Bays B) (before after : B) (old new : Decoder) (pieces put : List Piece) (room left : ℕ) (result : Result (Unit {0}) PieceFault) : Type 0 where
  pub steps : Steps bays before after old new (drop (length pieces) put) result
  pub kept : take (length pieces) put ≡ pieces
  pub none : OnErr result (put ≡ pieces)
  pub few : length put ≤ length pieces + 64
  pub capacity : left ≡ room
