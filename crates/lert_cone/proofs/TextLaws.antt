-- The text of a record fits where it is written, and before the end of a file.
use Rattle.std.proofs.{Common.{◌≡◌, ℕ, ◌+◌, ◌-◌, ◌*◌, ◌≤◌, ◌<◌, List, length, take, drop, ap, arith, length-drop}, lemmas.List.take_all}
use Rattle.lert_spec.specs.declared.report.Report.{Report}
use Rattle.lert_cone.specs.Record.{LogPlace, payload_len}

module _ (log : LogPlace) (directory : List ℕ) (reports : List Report) (fits : payload_len log directory reports ≤ log.most) where
  abbrev new : List Report
  new = take (length reports - log.named) (drop log.named reports)

  new_long : length new ≡ length (drop log.named reports)
  new_long = ap length (take_all (length reports - log.named) (drop log.named reports) (omega (arith, length-drop log.named reports)))

  pub few_new : log.most < 4294967296 → 29 + length directory + 16 * length new < 4294967296
  few_new few = omega (arith, new_long, fits, few)

  pub room_new : (room : ℕ) → log.most + 5 ≤ room → 34 + length directory + 16 * length new ≤ room
  room_new room roomy = omega (arith, new_long, fits, roomy)

  pub reach_new : (text : List ℕ) (long : ℕ) → length text ≡ 5 + long → long ≡ payload_len log directory reports → log.gate + log.most + 6 < 9223372036854775808 →
      log.gate + 1 + length text < 9223372036854775808
  reach_new text long text_is long_is reach = omega (arith, text_is, long_is, fits, reach)
