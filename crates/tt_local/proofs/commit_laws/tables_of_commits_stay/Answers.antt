use Rattle.tt_local.proofs.CommitLawLemmas.{tables_stay}
use Rattle.tt_local.proofs.commit_laws.tables_of_commits_stay.Goals as goal

pub returns : goal.returns
returns c = tables_stay
