use Rattle.std.proofs.Common.{ℕ, ◌+◌, ◌++◌, List, length, take, drop, refl, subst, sym}
use Rattle.lert_bay.specs.Files.{padded, Torn}
use Rattle.lert_bay.proofs.Tearing.{torn_held}
use Rattle.lert_bay.proofs.Steps.{with_file, with_file_here, with_file_other}
use Rattle.lert_record_tests.proofs.bays.tears.Goals as goal

pub returns : goal.returns
returns g c seen told others long =
    let torn_bytes : List ℕ = take c.args.at (padded (seen c.args.file) c.args.at) ++ others ++ drop (c.args.at + length others) (seen c.args.file) in
    let here = with_file_here seen c.args.file torn_bytes in (
      with_file seen c.args.file torn_bytes,
      c.write_at.ensures.images.goes seen (with_file seen c.args.file torn_bytes) (g.met.B.Bay.as_read c.args.bay.now seen told)
          (record {
            here = subst (λ (file : List ℕ). Torn c.args.at (length c.args.bytes.now) (seen c.args.file) file) (sym here)
                (subst (λ (count : ℕ). Torn c.args.at count (seen c.args.file) torn_bytes) long (torn_held c.args.at others (seen c.args.file) torn_bytes refl));
            others = λ other apart. with_file_other seen c.args.file torn_bytes other apart;
          }),
      here,
    )
