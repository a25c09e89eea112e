-- Frames on a LAN where they lie. The main word is `seen_lan`.
use Rattle.mesh_model.specs.Packets.LanFrames as lan
use Rattle.mesh_codec.specs.Payloads.{seen_frame}
use Rattle.mesh_codec.specs.declared.lan.LanMessage.{LanMessage}
use Rattle.mesh_codec.specs.declared.lan.LanMessage.TheVariants.{Claims, Carries, Nothing}

-- what a frame on a LAN is, apart from where its text lies
abbrev pub seen_lan : LanMessage → lan.LanMessage
seen_lan (Claims claim sender key) = lan.Claims claim sender key
seen_lan (Carries frame) = lan.Carries (seen_frame frame)
seen_lan Nothing = lan.Nothing
