-- The lines of the tables of services: each ends at its only newline, and tells its kind.
use Rattle.std.proofs.Common.{inl, inr, ℕ, ◌+◌, ◌-◌, List, [], ◌∷◌, length, map, Option, refl}
use Rattle.std.specs.Prelude.{codes}
use Rattle.hex.specs.Hex.{encode_lower}
use Rattle.mesh_base.specs.declared.address.Mac.{Mac}
use Rattle.mesh_base.specs.declared.client.Key.{Key}
use Rattle.mesh_model.specs.declared.line_form.AlfredMode.{AlfredMode}
use Rattle.mesh_model.specs.declared.line_form.AlfredMode.TheVariants as storing
use Rattle.mesh_model.specs.declared.service.ArpRow.{ArpRow}
use Rattle.mesh_model.specs.declared.service.GroupRow.{GroupRow}
use Rattle.mesh_model.specs.declared.service.GwMode.{GwMode}
use Rattle.mesh_model.specs.declared.service.GwMode.TheVariants.{Off, Server, Client}
use Rattle.mesh_model.specs.declared.service.GwRow.{GwRow}
use Rattle.mesh_model.specs.declared.service.KeptFact.{KeptFact}
use Rattle.mesh_model.specs.declared.service.Mark.{Mark}
use Rattle.mesh_model.specs.declared.service.Mark.TheVariants.{Local, First, Synced}
use Rattle.mesh_model.specs.Text.Events.{ip_text}
use Rattle.mesh_model.specs.Text.PacketLines.{named_address, named_number}
use Rattle.mesh_model.specs.Text.Services.{AddressesOf, FactsOf, GatewaysOf, GroupsOf, PicturesOf, ServiceTable, address_header, address_line, fact_header, fact_line, fact_text, gateway_header, gateway_line, group_header, groups_line, joined_line, mark_word, mode_word, store_word}
use Rattle.mesh_model.specs.Text.Tables.{address_text, vid_text}
use Rattle.mesh_laws.specs.Cuts.{IsUnbroken}
use Rattle.mesh_lines.specs.ItemLines.{ArePlainFacts, IsPlainTable, service_lines}
use Rattle.mesh_lines.specs.LineWords.{of_other}
use Rattle.mesh_lines.proofs.EventParts.{ip}
use Rattle.mesh_lines.proofs.JsonParts.{network_told}
use Rattle.mesh_lines.proofs.LineParts.{Told, address, mac, number, said, told, unbroken_word, vid}
use Rattle.mesh_lines.proofs.PacketParts.{AllOther, other_both, other_map}
use Rattle.mesh_lines.proofs.Words.{hex_word}

-- ---- gateways
mode_plain : (mode : GwMode) → IsUnbroken (mode_word mode)
mode_plain Off = said (codes "off") refl
mode_plain Server = said (codes "server") refl
mode_plain Client = said (codes "client") refl

gateway_header_told : (name : List ℕ) (mode : GwMode) (chosen : Option Mac) → IsUnbroken name → Told of_other (gateway_header name mode chosen)
unfolding gateway_header
gateway_header_told name mode chosen plain = told of_other (codes "gw " ∷ name ∷ codes " mode=" ∷ mode_word mode ∷ codes " chosen=" ∷ address_text chosen ∷ [])
    (said (codes "gw ") refl, (plain, (said (codes " mode=") refl, (mode_plain mode, (said (codes " chosen=") refl, (address chosen, tt)))))) refl

gateway_told : (row : GwRow) → Told of_other (gateway_line row)
unfolding gateway_line
gateway_told row = told of_other (named_address (codes "g ") row.orig ∷ named_number (codes " down=") row.down ∷ named_number (codes " up=") row.up ∷ named_number (codes " metric=") row.metric ∷ [])
    (mac (codes "g ") row.orig refl, (number (codes " down=") row.down refl, (number (codes " up=") row.up refl, (number (codes " metric=") row.metric refl, tt)))) refl

-- ---- groups
group_header_told : (name : List ℕ) (count : ℕ) → IsUnbroken name → Told of_other (group_header name count)
unfolding group_header
group_header_told name count plain = told of_other (codes "mc " ∷ name ∷ named_number (codes " count=") count ∷ [])
    (said (codes "mc ") refl, (plain, (number (codes " count=") count refl, tt))) refl

joined_told : (key : Key) → Told of_other (joined_line key)
unfolding joined_line
joined_told key = told of_other (named_address (codes "j ") key.mac ∷ codes " " ∷ vid_text key.vid ∷ [])
    (mac (codes "j ") key.mac refl, (said (codes " ") refl, (vid key.vid, tt))) refl

groups_told : (row : GroupRow) → Told of_other (groups_line row)
unfolding groups_line
groups_told row = told of_other (named_address (codes "m ") row.orig ∷ codes " flags=" ∷ encode_lower (row.flags ∷ []) ∷ [])
    (mac (codes "m ") row.orig refl, (said (codes " flags=") refl, (unbroken_word (encode_lower (row.flags ∷ [])) (hex_word (row.flags ∷ [])), tt))) refl

-- ---- the ARP table
address_header_told : (name : List ℕ) (count : ℕ) → IsUnbroken name → Told of_other (address_header name count)
unfolding address_header
address_header_told name count plain = told of_other (codes "dat " ∷ name ∷ named_number (codes " count=") count ∷ [])
    (said (codes "dat ") refl, (plain, (number (codes " count=") count refl, tt))) refl

address_told : (row : ArpRow) → Told of_other (address_line row)
unfolding address_line
address_told row = told of_other (codes "d " ∷ ip_text row.ip ∷ codes " " ∷ vid_text row.vid ∷ named_address (codes " ") row.mac ∷ named_number (codes " age=") row.age ∷ [])
    (said (codes "d ") refl, (ip row.ip, (said (codes " ") refl, (vid row.vid, (mac (codes " ") row.mac refl, (number (codes " age=") row.age refl, tt)))))) refl

-- ---- facts
store_plain : (mode : AlfredMode) → IsUnbroken (store_word mode)
store_plain storing.Off = said (codes "off") refl
store_plain storing.Primary = said (codes "primary") refl
store_plain storing.Secondary = said (codes "secondary") refl

mark_plain : (mark : Mark) → IsUnbroken (mark_word mark)
mark_plain Local = said (codes "local") refl
mark_plain First = said (codes "first") refl
mark_plain Synced = said (codes "synced") refl

fact_header_told : (name : List ℕ) (mode : AlfredMode) (count : ℕ) → IsUnbroken name → Told of_other (fact_header name mode count)
unfolding fact_header
fact_header_told name mode count plain = told of_other (codes "alfred " ∷ name ∷ codes " mode=" ∷ store_word mode ∷ named_number (codes " facts=") count ∷ [])
    (said (codes "alfred ") refl, (plain, (said (codes " mode=") refl, (store_plain mode, (number (codes " facts=") count refl, tt))))) refl

fact_told : (now : ℕ) (kept : KeptFact) → IsUnbroken (fact_text kept.fact) → Told of_other (fact_line now kept)
unfolding fact_line
fact_told now kept plain = told of_other
    (named_address (codes "a ") kept.fact.source ∷ named_number (codes " ") kept.fact.type_no ∷ named_number (codes " ") kept.fact.version ∷ codes " " ∷ mark_word kept.mark ∷ named_number (codes " age=") (now - kept.moment) ∷ codes " " ∷ fact_text kept.fact ∷ [])
    (mac (codes "a ") kept.fact.source refl, (number (codes " ") kept.fact.type_no refl, (number (codes " ") kept.fact.version refl, (said (codes " ") refl, (mark_plain kept.mark, (number (codes " age=") (now - kept.moment) refl, (said (codes " ") refl, (plain, tt)))))))) refl

facts_other : (now : ℕ) (rows : List KeptFact) → ArePlainFacts rows → AllOther (map (fact_line now) rows)
facts_other now [] plain = tt
facts_other now (kept ∷ rows) plain = (fact_told now kept (plain kept (inl refl)), facts_other now rows (λ one has. plain one (inr has)))

-- ---- tables
-- none of their lines is of a kind that the laws speak of
pub service_other : (table : ServiceTable) → IsPlainTable table → AllOther (service_lines table)
service_other (GatewaysOf table) plain = (gateway_header_told table.name table.mode table.chosen (unbroken_word table.name plain), other_map gateway_line gateway_told table.rows)
service_other (GroupsOf table) plain = (
  group_header_told table.name (length table.joined + length table.rows) (unbroken_word table.name plain),
  other_both (map joined_line table.joined) (map groups_line table.rows) (other_map joined_line joined_told table.joined) (other_map groups_line groups_told table.rows),
)
service_other (AddressesOf table) plain = (address_header_told table.name (length table.rows) (unbroken_word table.name plain), other_map address_line address_told table.rows)
service_other (FactsOf table) plain = (fact_header_told table.name table.mode (length table.rows) (unbroken_word table.name plain.0), facts_other table.now table.rows plain.1)
service_other (PicturesOf table) plain = (network_told table.name table.facts (unbroken_word table.name plain), tt)
