use Rattle.std.proofs.Common.{append_assoc}
use Rattle.lert_host.specs.Name.{cone_file}
use Rattle.lert_host.proofs.file_place.name_of.Goals as goal

pub returns : goal.returns
unfolding cone_file
returns c = simp append_assoc c.format.ensures.ok
