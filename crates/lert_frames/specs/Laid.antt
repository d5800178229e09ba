-- How long the text of a block is.
use Rattle.std.specs.Prelude.{ℕ, ◌+◌, ◌*◌}
use Rattle.lert_blocks.specs.Text.{word_count}
use Rattle.lert_blocks.specs.declared.block.Block.{Block}

-- that of the pieces in it
abbrev pub laid_len : Block → ℕ
laid_len block = 12 + 8 * word_count block.len + 8 * block.len
