-- The picture that a node puts of itself in the fact store: at each round, before its facts are
-- told, where pictures are on and the node has a part in the store. The main word is `with_picture`.
use Rattle.std.specs.Prelude.{ℕ, ◌&&◌, Bool, true, false, List, [], ◌∷◌, ◌++◌, if◌then◌else◌}
use Rattle.mesh_base.specs.declared.address.Mac.{Mac}
use Rattle.mesh_base.specs.declared.client.Entry.{Entry}
use Rattle.mesh_model.specs.declared.line_form.AlfredMode.{AlfredMode}
use Rattle.mesh_model.specs.declared.line_form.AlfredMode.TheVariants.{Off, Primary as IsPrimary, Secondary}
use Rattle.mesh_model.specs.Clients.Settings.{Settings}
use Rattle.mesh_model.specs.Knowledge.Known.{Knowledge}
use Rattle.mesh_model.specs.Routes.Queries.{Queries}
use Rattle.mesh_model.specs.Routes.RouteLog.{is_round}
use Rattle.mesh_model.specs.Services.Facts.{FactCall, WasPut}
use Rattle.mesh_model.specs.Services.Pictures.{own_picture, picture_fact}

-- whether a node has a part in the fact store
abbrev pub takes_part : AlfredMode → Bool
takes_part Off = false
takes_part IsPrimary = true
takes_part Secondary = true

-- whether a node with these settings puts its picture at a tick of an index
abbrev pub puts_picture : Settings → ℕ → Bool
puts_picture settings index =
    is_round index && (settings.pictures && takes_part settings.fact_store)

-- the picture that a node puts at a tick of an index, where it puts one: that at the tick, whose
-- last commit has this table
abbrev pub put_pictures : Queries → Mac → ℕ → ℕ → List Entry → Knowledge → List FactCall
put_pictures q me now index table known = if puts_picture known.services.settings index
    then WasPut now (picture_fact me (own_picture q known.routes now table)) ∷ [] else []

-- what is known once a node's picture is put, where it puts one
abbrev pub with_picture : Queries → Mac → ℕ → ℕ → List Entry → Knowledge → Knowledge
with_picture q me now index table known = record known {
  services = record known.services {
    facts = put_pictures q me now index table known ++ known.services.facts;
  };
}
