-- What a decoder of a frame keeps, whatever it reads.
use Rattle.std.specs.Prelude.{◌≡◌, ℕ, ◌+◌, ◌*◌, ◌^◌, ◌<◌, ◌≤◌}
use Rattle.lert_blocks.specs.Text.{word_count}
use Rattle.lert_frames.specs.declared.decoder.Present.{Present}
use Rattle.lert_frames.specs.declared.decoder.Ahead.{Ahead}
use Rattle.lert_frames.specs.declared.window.Window.{Window}
use Rattle.lert_frames.specs.Window.{count_of, place_of, room_of}

-- the tails fit a word, the slots that are decoded are some of the block's and at hand, with the word of their run ends,
-- and the frame reaches no further than places do
pub record IsStanding (width : ℕ) (block : Present) (ahead : Ahead) (window ends : Window) (slots : ℕ) : Type 0 where
  pub narrow : 8 ≤ width
  pub wide : width ≤ 58
  pub first : (block.first + 64) * 2 ^ width ≤ 2 ^ 64
  pub tails : 64 * (ahead.next + ahead.blocks) * 2 ^ width ≤ 2 ^ 64
  pub order : 0 < block.some → block.first + 64 ≤ 64 * ahead.next
  pub least : block.walk.least ≤ 2 ^ width
  pub from : block.from ≤ block.some
  pub near : block.from ≤ 8
  pub hand : 8 * block.from ≤ count_of window
  pub word : 0 < block.from → 8 ≤ count_of ends
  pub most : ahead.most < 2 ^ 33
  pub some : block.some < 2 ^ 32
  pub count : ahead.blocks < 2 ^ 32
  pub reach : place_of window + 8 * block.some + 20 * ahead.blocks + 9 * ahead.most < 2 ^ 43
  pub ends_reach : place_of ends + 8 * word_count block.some < 2 ^ 43
  pub window_room : room_of window ≡ 8192
  pub ends_room : room_of ends ≡ 8192
  pub slots_room : slots ≡ 72
