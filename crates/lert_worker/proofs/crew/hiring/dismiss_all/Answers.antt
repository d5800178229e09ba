use Rattle.lert_worker.proofs.crew.Passing.{all_from, all_quiet, all_show, first_done, others_leave, pass_from}
use Rattle.lert_worker.proofs.crew.hiring.dismiss_all.Goals as goal

pub into_pass-requires : goal.into_pass-requires
into_pass-requires g c = record {
  none_left = (first_done c.args.fleet.now c.args.crew.items c.pop.new.self.items c.reverse.new.self.items c.in-Some.first c.reverse.ensures.items c.in-Some.ensures.items c.requires.done).0;
}

pub dismiss-requires-clause-belongs : goal.dismiss-requires-clause-belongs
dismiss-requires-clause-belongs g c = (pass_from c.args.fleet.now c.args.crew.items c.pop.new.self.items c.reverse.new.self.items c.in-Some.first c.reverse.ensures.items
    c.in-Some.ensures.items c.requires.done c.into_pass.result c.into_pass.ensures).belongs

pub dismiss-requires-clause-leaving : goal.dismiss-requires-clause-leaving
dismiss-requires-clause-leaving g c = others_leave c.args.fleet.now c.args.crew.items c.pop.new.self.items c.reverse.new.self.items c.in-Some.first c.reverse.ensures.items
    c.in-Some.ensures.items c.requires.done c.into_pass.result c.into_pass.ensures

pub returns : goal.returns
returns g c = record {
  pass = all_from c.args.fleet.now c.args.crew.items c.pop.new.self.items c.reverse.new.self.items c.in-Some.first c.reverse.ensures.items c.in-Some.ensures.items
      c.requires.done c.into_pass.result c.into_pass.ensures c.dismiss.result c.dismiss.ensures.pass;
  quiet = all_quiet c.args.fleet.now c.args.crew.items c.pop.new.self.items c.reverse.new.self.items c.in-Some.first c.reverse.ensures.items c.in-Some.ensures.items
      c.requires.done c.into_pass.result c.into_pass.ensures c.dismiss.result c.dismiss.ensures.quiet;
  shows = λ brought turned. all_show c.args.fleet.now c.args.crew.items c.pop.new.self.items c.reverse.new.self.items c.in-Some.first c.reverse.ensures.items
      c.in-Some.ensures.items c.requires.done c.into_pass.result c.into_pass.ensures c.dismiss.result brought turned (c.dismiss.ensures.shows brought turned);
}
