use Rattle.std.proofs.Common.{◌≤◌, sym, subst}
use Rattle.lert_spec.{specs.declared.numbers.Numbers.Numbers, specs.Edges.span}
use Rattle.lert_levels.proofs.streams.BeginLaws.{begins, begun_kept, free_of, spare_is}
use Rattle.lert_levels.proofs.streams.BegunLaws.{begun_count, begun_coming, begun_breaking, begun_given, begun_limit, begun_width, begun_version, begun_others, begun_widths, begun_sure, begun_reads}
use Rattle.lert_levels.proofs.streams.streams.BinStreams.read.Goals as goal

pub start_at-requires : goal.start_at-requires
start_at-requires g c =
    let same = sym (free_of c.self.invariant c.self.view_is c.requires.spare c.index_mut.ensures.value) in
    record {
      version = c.self.invariant.known;
      first = c.requires.first;
      last = subst (λ (s : Numbers). c.args.level ≤ s.levels) same c.requires.last;
      frame = subst (λ (s : Numbers). c.args.frame ≤ s.bins) same c.requires.frame;
      some = c.requires.some;
      width = subst (λ (s : Numbers). c.args.width ≤ span s c.args.level) same c.requires.width;
    }

pub invariant_of-self : goal.invariant_of-self
invariant_of-self g c = begun_kept c.self.invariant c.start_at.new.self (spare_is c.self.invariant c.self.view_is c.requires.spare) c.index_mut.ensures.value c.start_at.ensures.settings

pub returns : goal.returns
returns g c =
    let begun = begins c.self.invariant c.self.view_is c.start_at.new.self (spare_is c.self.invariant c.self.view_is c.requires.spare) c.index_mut.ensures.value c.start_at.ensures in
    record {
      begins = begun;
      count = begun_count begun;
      coming = begun_coming begun;
      breaking = begun_breaking begun;
      given = begun_given begun;
      limit = begun_limit begun;
      width = begun_width begun;
      version = begun_version begun;
      others = begun_others begun;
      widths = begun_widths begun;
      sure = begun_sure begun;
      reads = begun_reads begun;
    }
