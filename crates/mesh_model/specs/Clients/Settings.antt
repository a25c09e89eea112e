-- The settings of a node: whether its clients are wireless, its part as a gateway, its multicast
-- flags, its part in the ARP table, its part in the fact store, whether it puts its picture there,
-- and the greatest length of a packet for one node that goes whole. Each stands as it was set last;
-- at first a node has no part as a gateway or in the fact store, has no flags, takes part in the
-- ARP table, puts no picture, and lets all packets go whole. The main word is `Settings`.
use Rattle.std.specs.Prelude.{ℕ, Bool, true, false}
use Rattle.mesh_model.specs.declared.line_form.AlfredMode.{AlfredMode}
use Rattle.mesh_model.specs.declared.line_form.AlfredMode.TheVariants.{Off}
use Rattle.mesh_model.specs.declared.line_form.Policy.{Policy}
use Rattle.mesh_model.specs.Packets.Bodies.{Bandwidth}

-- a node's part as a gateway: none, or it offers throughputs, or its clients choose by a policy
pub data GatewayPart : Type 0 where
  NoPart : GatewayPart
  Serves : Bandwidth → GatewayPart
  Chooses : Policy → GatewayPart

-- one setting: how later sightings are marked, the part as a gateway, the multicast flags, the part
-- in the ARP table, the part in the fact store, whether the node puts its picture there, or the
-- greatest length of a packet that goes whole, or 0 where all do
pub data Setting : Type 0 where
  Wifi : (on : Bool) → Setting
  Gateway : GatewayPart → Setting
  Multicast : (flags : ℕ) → Setting
  ArpTable : (on : Bool) → Setting
  FactStore : AlfredMode → Setting
  Pictures : (on : Bool) → Setting
  LongestWhole : (size : ℕ) → Setting

-- all settings of a node
pub record Settings : Type 0 where
  pub wifi : Bool
  pub gateway : GatewayPart
  pub multicast : ℕ
  pub arp_table : Bool
  pub fact_store : AlfredMode
  pub pictures : Bool
  pub longest_whole : ℕ

-- before anything is set
abbrev pub first_settings : Settings
first_settings = record {
  wifi = false;
  gateway = NoPart;
  multicast = 0;
  arp_table = true;
  fact_store = Off;
  pictures = false;
  longest_whole = 0;
}

-- settings of which one is set
abbrev pub set_to : Setting → Settings → Settings
set_to (Wifi on) before = record before { wifi = on }
set_to (Gateway part) before = record before { gateway = part }
set_to (Multicast flags) before = record before { multicast = flags }
set_to (ArpTable on) before = record before { arp_table = on }
set_to (FactStore mode) before = record before { fact_store = mode }
set_to (Pictures on) before = record before { pictures = on }
set_to (LongestWhole size) before = record before { longest_whole = size }
