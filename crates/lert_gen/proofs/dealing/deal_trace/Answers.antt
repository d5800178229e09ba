use Rattle.std.proofs.Common.{◌++◌, ap, arith, sym, ◌∙◌}
use Rattle.byteorder.specs.Endian.{little_bytes}
use Rattle.lert_gen.specs.Generated.{trace_of}
use Rattle.lert_gen.proofs.DealLaws.{dealt-fourths, fourths, fourths-more}
use Rattle.lert_gen.proofs.dealing.deal_trace.Goals as goal

pub loop-number-preserved : goal.loop-number-preserved
loop-number-preserved c = record {
  within = omega arith;
  text =
      c.in_ok-extend_from_slice-2.ensures.items ∙ ap (λ text. c.loop-number.bytes.items ++ text) c.to_le_bytes.ensures
      ∙ ap (λ key. c.loop-number.bytes.items ++ little_bytes 8 key) c.key_at-key.ensures
      ∙ fourths-more c.args.seed c.args.trace c.loop-number.number c.loop-number.bytes.items c.loop-number.invariant.text;
}

pub returns : goal.returns
returns c =
    c.loop-number.invariant.text ∙ ap (λ n. trace_of (fourths c.args.seed c.args.trace n)) (omega arith)
    ∙ ap trace_of (sym (dealt-fourths c.args.seed c.args.trace c.requires.trace c.args.events))
