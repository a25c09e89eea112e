-- The settings of a node as the definitions see them. The main word is `settings_seen`.
use Rattle.mesh_model.specs.Clients.Settings.{GatewayPart, NoPart, Serves, Chooses, Setting, Wifi, Gateway, Multicast, ArpTable, FactStore, Pictures, LongestWhole, Settings}
use Rattle.mesh_serv.specs.OffersStand.{bandwidth}
use Rattle.node_ground.specs.declared.settings.GatewayPart as kept_part
use Rattle.node_ground.specs.declared.settings.GatewayPart.TheVariants as kept
use Rattle.node_ground.specs.declared.settings.Setting as kept_setting
use Rattle.node_ground.specs.declared.settings.Setting.TheVariants as one
use Rattle.node_ground.specs.declared.settings.Settings as kept_settings

-- a node's part as a gateway
abbrev pub part_seen : kept_part.GatewayPart → GatewayPart
part_seen kept.NoPart = NoPart
part_seen (kept.Serves offered) = Serves (bandwidth offered)
part_seen (kept.Chooses policy) = Chooses policy

-- one setting
abbrev pub setting_seen : kept_setting.Setting → Setting
setting_seen (one.Wifi on) = Wifi on
setting_seen (one.Gateway part) = Gateway (part_seen part)
setting_seen (one.Multicast flags) = Multicast flags
setting_seen (one.ArpTable on) = ArpTable on
setting_seen (one.FactStore mode) = FactStore mode
setting_seen (one.Pictures on) = Pictures on
setting_seen (one.LongestWhole size) = LongestWhole size

-- all settings
abbrev pub settings_seen : kept_settings.Settings → Settings
settings_seen settings = record {
  wifi = settings.wifi;
  gateway = part_seen settings.gateway;
  multicast = settings.multicast;
  arp_table = settings.arp_table;
  fact_store = settings.fact_store;
  pictures = settings.pictures;
  longest_whole = settings.longest_whole;
}
