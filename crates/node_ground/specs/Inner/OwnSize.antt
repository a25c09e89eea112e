-- How long the containers of the own originator message are: those of the settings, and between them
-- the translation table with what it announces. The main word is `own_size`.
use Rattle.std.specs.Prelude.{ℕ, ◌+◌, ◌*◌, length}
use Rattle.mesh_model.specs.Acts.OwnContainers.{arp_table_part, gateway_part, multicast_part}
use Rattle.mesh_model.specs.Packets.Containers.{containers_spelling}
use Rattle.node_ground.specs.declared.settings.Settings.{Settings}
use Rattle.node_ground.specs.SettingsSeen.{part_seen}
use Rattle.tt_table.specs.declared.announcement.Announcement.{Announcement}
use Rattle.tt_table.specs.Sums.{named_sums}

-- how many bytes they have, by the settings, with what is announced
abbrev pub own_size : Settings → Announcement → ℕ
own_size settings announced =
    length (containers_spelling (gateway_part (part_seen settings.gateway)))
    + length (containers_spelling (arp_table_part settings.arp_table))
    + (8 + 8 * length (named_sums announced.sums) + 12 * length announced.changes)
    + length (containers_spelling (multicast_part settings.multicast))
