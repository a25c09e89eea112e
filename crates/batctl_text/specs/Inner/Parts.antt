-- The parts of a line and their text. The main word is `part_text`.
use Rattle.std.specs.Prelude.{◌≡◌, ℕ, List, [], ◌∷◌, ◌++◌, codes, flat_map}
use Rattle.hex.specs.Hex.{encode_lower}
use Rattle.mesh_model.specs.Scenario.Lines.{newline}
use Rattle.mesh_model.specs.Text.Events.{ip_text}
use Rattle.mesh_model.specs.Text.PacketLines.{named_number, named_address, named_flags}
use Rattle.mesh_model.specs.Text.GlobalTables.{byte_text}
use Rattle.mesh_model.specs.Text.Tables.{address_text, age_text, flags_text, sum_text, vid_text}
use Rattle.batctl_text.specs.declared.part.Part.{Part}
use Rattle.batctl_text.specs.declared.part.Part.TheVariants.{Text, Number, Address, Container, Flags, Vlan, Marks, Age, Hop, Byte, Sum, Ip, Hex}

-- the text of a part
abbrev pub part_text : Part → List ℕ
part_text (Text text) = text.now
part_text (Number name value) = named_number name.now value
part_text (Address name mac) = named_address name.now mac
part_text (Container kind version len) = named_number (codes "tvlv ") kind
    ++ named_number (codes " version=") version ++ named_number (codes " len=") len
part_text (Flags name flags) = named_flags name.now flags
part_text (Vlan vid) = vid_text vid
part_text (Marks flags) = flags_text flags
part_text (Age age) = age_text age
part_text (Hop mac) = address_text mac
part_text (Byte byte) = byte_text byte
part_text (Sum sum) = sum_text sum
part_text (Ip ip) = ip_text ip
part_text (Hex bytes) = encode_lower bytes.now

-- the line of parts
abbrev pub parts_line : List Part → List ℕ
parts_line parts = flat_map part_text parts ++ newline ∷ []

-- bytes that were kept, with more behind them
pub record Grows (old new : List ℕ) : Type 0 where
  pub more : List ℕ
  pub kept : new ≡ old ++ more
