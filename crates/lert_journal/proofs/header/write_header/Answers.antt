-- Seven steps lay the header's fields one behind the other over the whole array.
use Rattle.std.proofs.Common.{◌≡◌, ◌+◌, length, take, ap, subst, ◌∙◌, rules}
use Rattle.lert_spec.specs.Limits.{IsInLimits}
use Rattle.lert_journal.specs.Header.{magic, header, kept_in}
use Rattle.lert_journal.proofs.HeaderLaws.{laid, reads_back}
use Rattle.lert_journal.proofs.header.write_header.Goals as goal

pub returns-clause-text : goal.returns-clause-text
returns-clause-text c =
    let begun : take 8 c.put.new.into ≡ magic 2 = subst (λ bytes. take (0 + length bytes) c.put.new.into ≡ bytes) c.magic_of.ensures c.put.ensures.text in
    laid 8 12 16 20 24 28 32 _ _ _ _ _ _ _ c.put.new.into c.put_u32.new.into c.put_u32-2.new.into c.put_u32-3.new.into c.put_u32-4.new.into c.put-2.new.into c.put_u32-5.new.into
    begun c.put_u32.ensures.text c.put_u32-2.ensures.text c.put_u32-3.ensures.text c.put_u32-4.ensures.text c.put-2.ensures.text c.put_u32-5.ensures.text (search rules)
    ∙ ap (λ s. header (magic 2) s c.args.cone) c.numbers-numbers.ensures.value

pub returns-clause-reads_back : goal.returns-clause-reads_back
returns-clause-reads_back c =
    ap kept_in (returns-clause-text c) ∙ reads_back 2 c.args.settings.now c.args.cone (subst IsInLimits c.numbers-numbers.ensures.value c.numbers-numbers.ensures.valid.limits)
    c.ranges.cone.fits
