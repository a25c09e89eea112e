use Rattle.mesh_laws.proofs.AnnouncedSums.{announces_checksums, announces_none_of_empty}
use Rattle.mesh_laws.proofs.table_laws.announced_sums_are_the_checksums.Goals as goal

pub returns : goal.returns
returns c = record { sums = announces_checksums; none = announces_none_of_empty }
