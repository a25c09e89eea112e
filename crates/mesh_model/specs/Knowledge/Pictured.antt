-- The picture of a node by its log: that of its neighbours and their metrics at a tick, and of the
-- clients of the last commit behind it, before facts are told. The main word is `picture_by`.
use Rattle.std.specs.Prelude.{ℕ}
use Rattle.mesh_base.specs.declared.address.Mac.{Mac}
use Rattle.mesh_model.specs.Clients.Log.{Log}
use Rattle.mesh_model.specs.Knowledge.Steps.{before_round, knowledge, table_behind}
use Rattle.mesh_model.specs.Packets.Pictures.{Picture}
use Rattle.mesh_model.specs.Routes.Queries.{Queries}
use Rattle.mesh_model.specs.Services.Pictures.{own_picture}

-- the picture of the node of an address at a tick of an index right after a log
abbrev pub picture_by : Queries → Mac → Log → ℕ → ℕ → Picture
picture_by q me older now index = own_picture q
    (before_round q now index (knowledge q me older)).routes now (table_behind me older now index)
