use Rattle.mesh_laws.proofs.PresentLemmas.{last_membership_kept, last_mention_kept, row_kept}
use Rattle.mesh_laws.proofs.present_laws.older_mentions_do_not_matter.Goals as goal

pub returns : goal.returns
returns c = record { mention = last_mention_kept; membership = last_membership_kept; row = row_kept }
