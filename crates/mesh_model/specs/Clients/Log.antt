-- A node's log: all that it was given, each with its moment and with the acts that it then put,
-- newest first. It is all that a node of the plain run keeps. What is asked of a log is asked of
-- the inputs; the acts stand there for laws. At a reboot a node forgets all but its settings, and
-- the log goes on. The main word is `Log`.
use Rattle.std.specs.Prelude.{ℕ, Bool, true, false, List, [], ◌∷◌, Option, Some, None}
use Rattle.mesh_base.specs.declared.address.Mac.{Mac}
use Rattle.mesh_base.specs.declared.client.Key.{Key}
use Rattle.mesh_base.specs.declared.client.Vid.{Vid}
use Rattle.mesh_model.specs.declared.act.Act.{Act}
use Rattle.mesh_model.specs.Clients.Settings.{Setting, Settings, first_settings, set_to}

-- what a line of the scenario gives a node: a LAN of which it is a gateway, with the addresses of
-- all its gateways; a client's frame; clients that come and go; a client's questions; a setting;
-- facts that are put and asked for; a probe; or a reboot
pub data LineGiven : Type 0 where
  Attach : (lan : ℕ) → (gateways : List Mac) → LineGiven
  Frame : (src dst : Mac) → (vid : Vid) → (text : List ℕ) → LineGiven
  Gone : (key : Key) → LineGiven
  Join : (key : Key) → LineGiven
  Leave : (key : Key) → LineGiven
  Arp : (mac : Mac) → (own_ip asked_ip : ℕ) → (vid : Vid) → LineGiven
  Dhcp : (key : Key) → (text : List ℕ) → LineGiven
  Sets : Setting → LineGiven
  Put : (type_no version : ℕ) → (text : List ℕ) → LineGiven
  Get : (type_no : ℕ) → LineGiven
  Ping : (target : Mac) → LineGiven
  Trace : (target : Mac) → LineGiven
  Reboot : LineGiven

-- what a node is given: a tick with its index, from 1; a link frame with its number, the sender,
-- the throughput of the node's link to the sender, or 0 where there is none, and its bytes; the
-- bytes of a frame of its LAN; or what a line gives it
pub data Given : Type 0 where
  Tick : (index : ℕ) → Given
  LinkFrame : (number : ℕ) → (from : Mac) → (throughput : ℕ) → (bytes : List ℕ) → Given
  LanFrame : (bytes : List ℕ) → Given
  Line : LineGiven → Given

-- what a node was given at a moment, in milliseconds, and the acts that it then put, in order
pub record LogEntry : Type 0 where
  pub moment : ℕ
  pub given : Given
  pub acts : List Act

-- a node's log, newest first
abbrev pub Log : Type 0
Log = List LogEntry

-- the index of a tick
abbrev pub tick_of : Given → Option ℕ
tick_of (Tick index) = Some index
tick_of (LinkFrame number from throughput bytes) = None
tick_of (LanFrame bytes) = None
tick_of (Line line) = None

-- the setting of an input, where it is one
abbrev pub setting_of : Given → Option Setting
setting_of (Tick index) = None
setting_of (LinkFrame number from throughput bytes) = None
setting_of (LanFrame bytes) = None
setting_of (Line (Sets setting)) = Some setting
setting_of (Line (Attach lan gateways)) = None
setting_of (Line (Frame src dst vid text)) = None
setting_of (Line (Gone key)) = None
setting_of (Line (Join key)) = None
setting_of (Line (Leave key)) = None
setting_of (Line (Arp mac own_ip asked_ip vid)) = None
setting_of (Line (Dhcp key text)) = None
setting_of (Line (Put type_no version text)) = None
setting_of (Line (Get type_no)) = None
setting_of (Line (Ping target)) = None
setting_of (Line (Trace target)) = None
setting_of (Line Reboot) = None

-- whether a line reboots its node
abbrev pub line_reboots : LineGiven → Bool
line_reboots (Attach lan gateways) = false
line_reboots (Frame src dst vid text) = false
line_reboots (Gone key) = false
line_reboots (Join key) = false
line_reboots (Leave key) = false
line_reboots (Arp mac own_ip asked_ip vid) = false
line_reboots (Dhcp key text) = false
line_reboots (Sets setting) = false
line_reboots (Put type_no version text) = false
line_reboots (Get type_no) = false
line_reboots (Ping target) = false
line_reboots (Trace target) = false
line_reboots Reboot = true

-- whether an input is a reboot
abbrev pub is_reboot : Given → Bool
is_reboot (Tick index) = false
is_reboot (LinkFrame number from throughput bytes) = false
is_reboot (LanFrame bytes) = false
is_reboot (Line line) = line_reboots line

-- settings after one is set, or none
abbrev pub after_setting : Option Setting → Settings → Settings
after_setting None before = before
after_setting (Some setting) before = set_to setting before

-- the settings of a node by its log
abbrev pub settings : Log → Settings
settings [] = first_settings
settings (entry ∷ older) = after_setting (setting_of entry.given) (settings older)
