use Rattle.std.proofs.{Common.{◌≡◌, ℕ, ◌+◌, ◌*◌, ◌<◌, ◌≤◌, ◌^◌, ◌∙◌, ◌++◌, ◌∷◌, [], List, length, take, ap, subst, sym, arith}, lemmas.List.append_assoc}
use Rattle.std.specs.Prelude.{flat_map}
use Rattle.byteorder.specs.Endian.{little_bytes}
use Rattle.lert_gatelog.specs.Gated.{appendix}
use Rattle.lert_reports.proofs.LogLaws.{log_payload_length}
use Rattle.lert_reports.specs.{declared.log.LogKind.LogKind, LogText.{kind_number, log_payload, report_bytes}}
use Rattle.lert_spec.specs.declared.report.Report.{Report}
use Rattle.lert_reports.proofs.log.write_log.Goals as goal

-- ---- the numbers fit, and each place has room: over plain numbers, since the search would go through all that is known

in_range : (directory reports : ℕ) → 29 + directory + 16 * reports < 2 ^ 32 → (29 + directory < 2 ^ 64) × (16 * reports < 2 ^ 64) × (29 + directory + 16 * reports < 2 ^ 64)
    × (29 + directory + 16 * reports < 2 ^ 32) × (29 + directory + 4 < 2 ^ 64) × (reports < 2 ^ 32) × (29 + directory + 16 * reports + 4 < 2 ^ 64)
    × (29 + directory + 16 * reports + 5 < 2 ^ 64)
in_range directory reports few = (omega arith, omega arith, omega arith, omega arith, omega arith, omega arith, omega arith, omega arith)

roomy : (directory reports room : ℕ) → 34 + directory + 16 * reports ≤ room → (4 ≤ room) × (5 ≤ room) × (13 ≤ room) × (21 ≤ room) × (29 ≤ room) × (29 + directory ≤ room)
    × (29 + directory + 4 ≤ room) × (29 + directory + 4 + 16 * reports ≤ room) × (29 + directory + 16 * reports + 4 + 1 ≤ room)
roomy directory reports room enough = (omega arith, omega arith, omega arith, omega arith, omega arith, omega arith, omega arith, omega arith, omega arith)

-- the bytes are as many as at first
roomy_now : (directory reports before room : ℕ) → 34 + directory + 16 * reports ≤ before → room ≡ before → 34 + directory + 16 * reports ≤ room
roomy_now directory reports before room enough same = subst (λ n. 34 + directory + 16 * reports ≤ n) (sym same) enough

counted : (directory reports : ℕ) → 29 + directory + 16 * reports + 5 ≡ 34 + directory + 16 * reports
counted directory reports = omega arith

pub overflow_add-reports_at : goal.overflow_add-reports_at
overflow_add-reports_at c = record { fits = (in_range (length c.args.directory.now) (length c.args.reports.now) c.requires.few).0 }

pub overflow_mul-payload_len : goal.overflow_mul-payload_len
overflow_mul-payload_len c = record { fits = (in_range (length c.args.directory.now) (length c.args.reports.now) c.requires.few).1 }

pub overflow_add-payload_len : goal.overflow_add-payload_len
overflow_add-payload_len c = record { fits = (in_range (length c.args.directory.now) (length c.args.reports.now) c.requires.few).2 }

pub overflow_cast-payload_len : goal.overflow_cast-payload_len
overflow_cast-payload_len c = record { fits = (in_range (length c.args.directory.now) (length c.args.reports.now) c.requires.few).3 }

pub overflow_add-reports_at-2 : goal.overflow_add-reports_at-2
overflow_add-reports_at-2 c = record { fits = (in_range (length c.args.directory.now) (length c.args.reports.now) c.requires.few).4 }

pub overflow_cast-reports : goal.overflow_cast-reports
overflow_cast-reports c = record { fits = (in_range (length c.args.directory.now) (length c.args.reports.now) c.requires.few).5 }

pub overflow_add-payload_len-2 : goal.overflow_add-payload_len-2
overflow_add-payload_len-2 c = record { fits = (in_range (length c.args.directory.now) (length c.args.reports.now) c.requires.few).6 }

pub overflow_add-result : goal.overflow_add-result
overflow_add-result c = record { fits = (in_range (length c.args.directory.now) (length c.args.reports.now) c.requires.few).7 }

pub put_u32-requires : goal.put_u32-requires
put_u32-requires c = (roomy (length c.args.directory.now) (length c.args.reports.now) (length c.args.into.now) c.requires.room).0

pub put-requires : goal.put-requires
put-requires c =
    (roomy (length c.args.directory.now) (length c.args.reports.now) (length c.put_u32.new.into)
    (roomy_now (length c.args.directory.now) (length c.args.reports.now) (length c.args.into.now) (length c.put_u32.new.into) c.requires.room
    (c.put_u32.auto.into))).1

pub put_u64-requires : goal.put_u64-requires
put_u64-requires c =
    (roomy (length c.args.directory.now) (length c.args.reports.now) (length c.put.new.into)
    (roomy_now (length c.args.directory.now) (length c.args.reports.now) (length c.args.into.now) (length c.put.new.into) c.requires.room
    (c.put.auto.into ∙ c.put_u32.auto.into))).2

pub put_u64-requires-2 : goal.put_u64-requires-2
put_u64-requires-2 c =
    (roomy (length c.args.directory.now) (length c.args.reports.now) (length c.put_u64.new.into)
    (roomy_now (length c.args.directory.now) (length c.args.reports.now) (length c.args.into.now) (length c.put_u64.new.into) c.requires.room
    (c.put_u64.auto.into ∙ c.put.auto.into ∙ c.put_u32.auto.into))).3

pub put_u64-requires-3 : goal.put_u64-requires-3
put_u64-requires-3 c =
    (roomy (length c.args.directory.now) (length c.args.reports.now) (length c.put_u64-2.new.into)
    (roomy_now (length c.args.directory.now) (length c.args.reports.now) (length c.args.into.now) (length c.put_u64-2.new.into) c.requires.room
    (c.put_u64-2.auto.into ∙ c.put_u64.auto.into ∙ c.put.auto.into ∙ c.put_u32.auto.into))).4

pub put-requires-2 : goal.put-requires-2
put-requires-2 c =
    (roomy (length c.args.directory.now) (length c.args.reports.now) (length c.put_u64-3.new.into)
    (roomy_now (length c.args.directory.now) (length c.args.reports.now) (length c.args.into.now) (length c.put_u64-3.new.into) c.requires.room
    (c.put_u64-3.auto.into ∙ c.put_u64-2.auto.into ∙ c.put_u64.auto.into ∙ c.put.auto.into ∙ c.put_u32.auto.into))).5

pub put_u32-requires-2 : goal.put_u32-requires-2
put_u32-requires-2 c =
    (roomy (length c.args.directory.now) (length c.args.reports.now) (length c.put-2.new.into)
    (roomy_now (length c.args.directory.now) (length c.args.reports.now) (length c.args.into.now) (length c.put-2.new.into) c.requires.room
    (c.put-2.auto.into ∙ c.put_u64-3.auto.into ∙ c.put_u64-2.auto.into ∙ c.put_u64.auto.into ∙ c.put.auto.into ∙ c.put_u32.auto.into))).6

pub put_reports-requires : goal.put_reports-requires
put_reports-requires c =
    (roomy (length c.args.directory.now) (length c.args.reports.now) (length c.put_u32-2.new.into)
    (roomy_now (length c.args.directory.now) (length c.args.reports.now) (length c.args.into.now) (length c.put_u32-2.new.into) c.requires.room
    (c.put_u32-2.auto.into ∙ c.put-2.auto.into ∙ c.put_u64-3.auto.into ∙ c.put_u64-2.auto.into ∙ c.put_u64.auto.into ∙ c.put.auto.into ∙ c.put_u32.auto.into))).7

pub put-requires-3 : goal.put-requires-3
put-requires-3 c =
    (roomy (length c.args.directory.now) (length c.args.reports.now) (length c.put_reports.new.into)
    (roomy_now (length c.args.directory.now) (length c.args.reports.now) (length c.args.into.now) (length c.put_reports.new.into) c.requires.room
    (c.put_reports.auto.into ∙ c.put_u32-2.auto.into ∙ c.put-2.auto.into ∙ c.put_u64-3.auto.into ∙ c.put_u64-2.auto.into ∙ c.put_u64.auto.into ∙ c.put.auto.into ∙ c.put_u32.auto.into))).8

pub returns-clause-counted : goal.returns-clause-counted
returns-clause-counted c = counted (length c.args.directory.now) (length c.args.reports.now)

-- ---- the text, field by field

-- a field more, behind those that stand behind the length
grown : (front done more text next : List ℕ) → text ≡ front ++ done → next ≡ text ++ more → next ≡ front ++ (done ++ more)
grown front done more text next is laid = laid ∙ ap (λ text. text ++ more) is ∙ append_assoc front done more

module _ (kind : LogKind) (n0 offset first : ℕ) (directory : List ℕ) (reports : List Report) where
  abbrev len : ℕ
  len = 29 + length directory + 16 * length reports

  abbrev front : List ℕ
  front = little_bytes 4 len

  laid : (number : ℕ) (b1 b2 b3 b4 b5 b6 b7 b8 b9 : List ℕ) → number ≡ kind_number kind → take 4 b1 ≡ front → take 5 b2 ≡ take 4 b1 ++ number ∷ [] →
      take 13 b3 ≡ take 5 b2 ++ little_bytes 8 n0 → take 21 b4 ≡ take 13 b3 ++ little_bytes 8 offset → take 29 b5 ≡ take 21 b4 ++ little_bytes 8 first →
      take (29 + length directory) b6 ≡ take 29 b5 ++ directory →
      take (29 + length directory + 4) b7 ≡ take (29 + length directory) b6 ++ little_bytes 4 (length reports) →
      take (29 + length directory + 4 + 16 * length reports) b8 ≡ take (29 + length directory + 4) b7 ++ flat_map report_bytes reports →
      take (len + 4 + 1) b9 ≡ take (len + 4) b8 ++ 0 ∷ [] → take (len + 5) b9 ≡ appendix (log_payload kind n0 offset first directory reports)
  laid number b1 b2 b3 b4 b5 b6 b7 b8 b9 number_is length_laid kind_laid n0_laid offset_laid first_laid directory_laid count_laid reports_laid end_laid =
      let one = kind_laid ∙ ap (λ text. text ++ number ∷ []) length_laid ∙ ap (λ n. front ++ n ∷ []) number_is in
      let two = grown front _ (little_bytes 8 n0) _ _ one n0_laid in
      let three = grown front _ (little_bytes 8 offset) _ _ two offset_laid in
      let four = grown front _ (little_bytes 8 first) _ _ three first_laid in
      let five = grown front _ directory _ _ four directory_laid in
      let six = grown front _ (little_bytes 4 (length reports)) _ _ five count_laid in
      let all = grown front _ (flat_map report_bytes reports) _ _ six reports_laid in
      let place : len + 4 ≡ 29 + length directory + 4 + 16 * length reports = omega arith in
      let last : len + 5 ≡ len + 4 + 1 = omega arith in
      ap (λ n. take n b9) last
      ∙ end_laid
      ∙ ap (λ text. text ++ 0 ∷ []) (ap (λ n. take n b8) place ∙ all)
      ∙ ap (λ n. little_bytes 4 n ++ log_payload kind n0 offset first directory reports ++ 0 ∷ []) (sym (log_payload_length kind n0 offset first directory reports))

pub returns-clause-text : goal.returns-clause-text
returns-clause-text c =
    laid c.args.kind c.args.n0 c.args.offset c.args.first c.args.directory.now c.args.reports.now c.number_of.result c.put_u32.new.into c.put.new.into c.put_u64.new.into
    c.put_u64-2.new.into c.put_u64-3.new.into c.put-2.new.into c.put_u32-2.new.into c.put_reports.new.into c.put-3.new.into c.number_of.ensures c.put_u32.ensures.text c.put.ensures.text
    c.put_u64.ensures.text c.put_u64-2.ensures.text c.put_u64-3.ensures.text c.put-2.ensures.text c.put_u32-2.ensures.text c.put_reports.ensures c.put-3.ensures.text
