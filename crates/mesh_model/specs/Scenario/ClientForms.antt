-- The forms of lines that tell of clients: `frame`, `gone`, `join`, `leave`, `arp` and `dhcp`, each
-- by the words behind its command word. The main word is `client_forms`.
use Rattle.std.specs.Prelude.{ℕ, List, [], ◌∷◌, codes}
use Rattle.mesh_model.specs.declared.line_form.Command.TheVariants.{Frame, Gone, Join, Leave, Arp, Dhcp}
use Rattle.mesh_model.specs.Scenario.Fields.{name_field, unicast_field, target_field, group_field, vid_field, ip_field}
use Rattle.mesh_model.specs.Scenario.Readings.{Reading, a_field, a_key, a_text, the_end}
use Rattle.mesh_model.specs.Scenario.Words.{Word}

-- frame PLACE SRC DST VID TEXT
abbrev pub read_frame : List Word → Reading
read_frame =
    a_field name_field (λ place. a_field unicast_field (λ src. a_field target_field (λ dst.
    a_field vid_field (λ vid. a_text (λ text. Frame place src dst vid text)))))

-- gone PLACE MAC VID
abbrev pub read_gone : List Word → Reading
read_gone = a_field name_field (λ place. a_key unicast_field (λ key. the_end (Gone place key)))

-- join NODE GROUP VID
abbrev pub read_join : List Word → Reading
read_join = a_field name_field (λ node. a_key group_field (λ key. the_end (Join node key)))

-- leave NODE GROUP VID
abbrev pub read_leave : List Word → Reading
read_leave = a_field name_field (λ node. a_key group_field (λ key. the_end (Leave node key)))

-- arp NODE MAC IP1 IP2 VID
abbrev pub read_arp : List Word → Reading
read_arp =
    a_field name_field (λ node. a_field unicast_field (λ mac. a_field ip_field (λ own.
    a_field ip_field (λ asked. a_field vid_field (λ vid. the_end (Arp node mac own asked vid))))))

-- dhcp NODE MAC VID TEXT
abbrev pub read_dhcp : List Word → Reading
read_dhcp =
    a_field name_field (λ node. a_key unicast_field (λ key. a_text (λ text. Dhcp node key text)))

-- the forms that tell of clients, by their command words
abbrev pub client_forms : List (List ℕ × (List Word → Reading))
client_forms =
    (codes "frame", read_frame) ∷ (codes "gone", read_gone) ∷ (codes "join", read_join)
    ∷ (codes "leave", read_leave) ∷ (codes "arp", read_arp) ∷ (codes "dhcp", read_dhcp) ∷ []
