use Rattle.std.proofs.Common.{◌∙◌, ap, sym}
use Rattle.mesh_model.specs.Knowledge.Steps.{leads_to_gateway}
use Rattle.std.specs.Prelude.{option_map}
use Rattle.node_ground.specs.Ways.{way}
use Rattle.node_clients.proofs.LanLemmas.{leads_by_way, leads_nowhere}
use Rattle.node_clients.proofs.lan_frames.leads_to_gateway.Goals as goal

pub returns-in-Some : goal.returns-in-Some
returns-in-Some g c = λ me known gateway is bridged.
    c.is_beside.ensures me gateway bridged ∙ leads_by_way gateway.lan (way c.in-Some.way)
    ∙ ap (leads_to_gateway gateway.lan) (ap (option_map way) (sym c.in-Some.is) ∙ c.addressee.ensures me known is)

pub returns-in-None : goal.returns-in-None
returns-in-None g c = λ me known gateway is bridged.
    sym (leads_nowhere gateway.lan) ∙ ap (leads_to_gateway gateway.lan) (ap (option_map way) (sym c.in-None.is) ∙ c.addressee.ensures me known is)
