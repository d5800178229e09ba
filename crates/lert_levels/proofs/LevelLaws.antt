-- The levels on disk, once their rows are others.
use Rattle.std.proofs.Common.{ℕ, ◌≡◌, ◌-◌, ◌<◌, ◌≤◌, List, ◌++◌, length, take, drop, ap, sym, ◌∙◌, arith, subst}
use Rattle.lert_frames.specs.declared.reader.FrameReader.{FrameReader}
use Rattle.lert_spec.specs.{declared.numbers.Numbers.Numbers, Edges.capacity, Items.IsVersion, Limits.IsValid}
use Rattle.lert_levels.specs.{declared.rows.bin_at.BinAt.BinAt, rows.Rows.{IsAt, AreRows, directory_text, moved}, OnDisk.{OnDisk, AreKept}}
use Rattle.lert_levels.proofs.{rows.MoveLaws.{directory_short, written_back}, rows.RowLaws.{AreRows-moved, length-moved}}

-- each level has a row
pub level_row : (s : Numbers) (version : ℕ) (rows : List (List BinAt)) (seen : OnDisk) → record { settings = s; version = version; rows = rows } ≡ seen → AreRows s rows → (level : ℕ) → 1 ≤ level →
    level ≤ seen.settings.levels → level - 1 < length rows
level_row s version rows seen is are level first last =
    let within = subst (λ (v : OnDisk). level ≤ v.settings.levels) (sym is) last in
    omega (arith, first, within, are.levels)

-- rows that moved on in a vector, through a slice of all of them
module _ (s : Numbers) (m : ℕ) (rows lent new : List (List BinAt)) (n : ℕ) (lent_is : lent ≡ rows) (len : length lent ≡ n) (new_is : new ≡ moved s m lent) where
  pub moved_back : take n (new ++ drop (length new) rows) ≡ moved s m rows
  moved_back = written_back n new rows (omega (arith, ap (length {A = List BinAt}) new_is, length-moved s m lent, len)) ∙ new_is ∙ ap (moved s m) lent_is

  pub moved_rows : (version : ℕ) (valid : IsValid s) (seen : OnDisk) → record { settings = s; version = version; rows = rows } ≡ seen → AreRows s rows → 1 ≤ m → m ≤ capacity seen.settings →
      IsAt seen.settings (m - 1) seen.rows → AreRows s (take n (new ++ drop (length new) rows))
  moved_rows version valid seen is are first last at =
      subst (AreRows s) (sym moved_back)
      (AreRows-moved s valid m first (subst (λ (v : OnDisk). m ≤ capacity v.settings) (sym is) last) rows (subst (λ (v : OnDisk). IsAt v.settings (m - 1) v.rows) (sym is) at) are)

-- other rows, of which the directory is laid
module _ (s : Numbers) (version : ℕ) (rows : List (List BinAt)) (directory : List ℕ) (room : ℕ) (reader : FrameReader) (kept : AreKept s version rows directory room reader)
    (after lent : List (List BinAt)) (lent_is : lent ≡ after) (are : AreRows s after) where
  pub room_for : length (directory_text lent) ≤ room
  room_for = omega (arith, ap (λ rs. length (directory_text rs)) lent_is, directory_short s after are, kept.directory_room)

  pub kept_on : (text : List ℕ) (more : ℕ) → text ≡ directory_text lent → room ≤ more → AreKept s version after text more reader
  kept_on text more text_is grown = record {
    are = are;
    of_version = kept.of_version;
    directory_is = text_is ∙ ap directory_text lent_is;
    directory_room = omega (arith, kept.directory_room, grown);
    read_by = kept.read_by;
  }

-- another reader of the same settings
pub read_on : {s : Numbers} {version : ℕ} {rows : List (List BinAt)} {directory : List ℕ} {room : ℕ} {reader other : FrameReader} → AreKept s version rows directory room reader →
    other.settings ≡ s → AreKept s version rows directory room other
read_on kept is = record { are = kept.are; of_version = kept.of_version; directory_is = kept.directory_is; directory_room = kept.directory_room; read_by = is }

-- another version
pub kept_of : {s : Numbers} {version other : ℕ} {rows : List (List BinAt)} {directory : List ℕ} {room : ℕ} {reader : FrameReader} → IsVersion other →
    AreKept s version rows directory room reader → AreKept s other rows directory room reader
kept_of is kept = record { are = kept.are; of_version = is; directory_is = kept.directory_is; directory_room = kept.directory_room; read_by = kept.read_by }
