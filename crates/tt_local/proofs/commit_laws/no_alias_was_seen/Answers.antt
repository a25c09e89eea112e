use Rattle.tt_local.proofs.CommitLawLemmas.{no_alias_seen}
use Rattle.tt_local.proofs.commit_laws.no_alias_was_seen.Goals as goal

pub returns : goal.returns
returns c = no_alias_seen
