use Rattle.mesh_laws.proofs.TableChanges.{changeset_leads, names_keys_once}
use Rattle.mesh_laws.proofs.table_laws.a_changeset_leads_to_its_table.Goals as goal

pub returns : goal.returns
returns c = record { leads = changeset_leads; once = names_keys_once }
