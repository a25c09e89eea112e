-- A law of settings: what a node knows of its settings is what its log says of them. The main word
-- is `SettingsAreKnown`.
use Rattle.std.specs.Prelude.{◌≡◌}
use Rattle.mesh_base.specs.declared.address.Mac.{Mac}
use Rattle.mesh_model.specs.Clients.Log.{Log, settings}
use Rattle.mesh_model.specs.Knowledge.Steps.{knowledge}
use Rattle.mesh_model.specs.Routes.Queries.{Queries}

-- the settings that a node knows are those that were set by its log
abbrev pub SettingsAreKnown : Type 0
SettingsAreKnown = (q : Queries) (me : Mac) (log : Log) →
    (knowledge q me log).services.settings ≡ settings log
