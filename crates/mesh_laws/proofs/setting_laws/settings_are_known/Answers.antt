use Rattle.mesh_laws.proofs.SettingLemmas.{settings_known}
use Rattle.mesh_laws.proofs.setting_laws.settings_are_known.Goals as goal

pub returns : goal.returns
returns c = settings_known
