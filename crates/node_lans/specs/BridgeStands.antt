-- How what a node keeps of its LAN stands for the node as a gateway. The main word is
-- `BridgeStands`.
use Rattle.std.specs.Prelude.{◌≡◌, option_map}
use Rattle.mesh_base.specs.declared.address.Mac.{Mac}
use Rattle.mesh_bla.specs.Claims.{ClaimsStand}
use Rattle.mesh_model.specs.Clients.Lans.{Bridge, LanOf}
use Rattle.node_lans.specs.declared.bridge.Bridge as kept
use Rattle.node_lans.specs.declared.bridge.LanOf as kept_lan

-- the LAN of a gateway
abbrev pub lan_of : kept_lan.LanOf → LanOf
lan_of lan = record { number = lan.number; gateways = lan.gateways.items }

-- what is kept is the LAN of the node of an address, where it is a gateway, and the claims and
-- unclaims that came on it
pub record BridgeStands (bridge : kept.Bridge) (me : Mac) (gateway : Bridge) : Type 0 where
  pub lan : option_map lan_of bridge.lan ≡ gateway.lan
  pub claims : ClaimsStand bridge.claims me gateway.claims
