-- The forms of lines that make the net, let time pass, and print: `algo`, `node`, `link`, `lan`,
-- `ping`, `traceroute`, `reboot`, `run`, `deliver`, `show` and `decode`, each by the words behind
-- its command word. The main word is `net_forms`.
use Rattle.std.specs.Prelude.{ℕ, nat_lt, not, List, [], ◌∷◌, length, map, take, codes, Ok, if◌then◌else◌}
use Rattle.std.specs.List.{list_all}
use Rattle.mesh_model.specs.declared.ending.Refusal.TheVariants.{MissingWord, BadName, ExtraWord}
use Rattle.mesh_model.specs.declared.line_form.Command.{Command}
use Rattle.mesh_model.specs.declared.line_form.Command.TheVariants.{Algo, Node, Lan, Ping, Trace, Reboot, Run, Deliver, Show, Decode}
use Rattle.mesh_model.specs.Scenario.Fields.{name_field, unicast_field, number_field, frame_number_field, hex_field, algorithm_field, table_field}
use Rattle.mesh_model.specs.Scenario.LinkOptions.{the_options, link_with}
use Rattle.mesh_model.specs.Scenario.Readings.{Reading, refused, a_field, the_end}
use Rattle.mesh_model.specs.Scenario.Terms.{is_name}
use Rattle.mesh_model.specs.Scenario.Words.{Word}

-- algo iv, algo v
abbrev pub read_algo : List Word → Reading
read_algo = a_field algorithm_field (λ algorithm. the_end (Algo algorithm))

-- node NAME MAC
abbrev pub read_node : List Word → Reading
read_node = a_field name_field (λ name. a_field unicast_field (λ mac. the_end (Node name mac)))

-- link A B, with options
abbrev pub read_link : List Word → Reading
read_link = a_field name_field (λ from. a_field name_field (λ to. the_options (link_with from to)))

-- the most gateways of a LAN
abbrev pub gateway_limit : ℕ
gateway_limit = 16

-- the other words as gateways: at least one name, and no more than so many
abbrev pub the_gateways : (List (List ℕ) → Command) → List Word → Reading
the_gateways command [] = refused MissingWord
the_gateways command (first ∷ rest) =
    if not (list_all (λ word. is_name word.word) (take gateway_limit (first ∷ rest)))
    then refused BadName
    else if nat_lt gateway_limit (length (first ∷ rest)) then refused ExtraWord
    else Ok (command (map (λ word. word.word) (first ∷ rest)))

-- lan NAME NODE.., with 1 to 16 nodes
abbrev pub read_lan : List Word → Reading
read_lan = a_field name_field (λ name. the_gateways (Lan name))

-- ping NODE NODE
abbrev pub read_ping : List Word → Reading
read_ping = a_field name_field (λ node. a_field name_field (λ target. the_end (Ping node target)))

-- traceroute NODE NODE
abbrev pub read_traceroute : List Word → Reading
read_traceroute =
    a_field name_field (λ node. a_field name_field (λ target. the_end (Trace node target)))

-- reboot NODE
abbrev pub read_reboot : List Word → Reading
read_reboot = a_field name_field (λ node. the_end (Reboot node))

-- the fewest milliseconds that a line lets pass
abbrev pub least_time : ℕ
least_time = 1

-- the most milliseconds that a line lets pass
abbrev pub time_limit : ℕ
time_limit = 1099511627776

-- run MS
abbrev pub read_run : List Word → Reading
read_run = a_field (number_field least_time time_limit) (λ time. the_end (Run time))

-- deliver N
abbrev pub read_deliver : List Word → Reading
read_deliver = a_field frame_number_field (λ number. the_end (Deliver number))

-- show NODE T
abbrev pub read_show : List Word → Reading
read_show = a_field name_field (λ node. a_field table_field (λ table. the_end (Show node table)))

-- decode HEX
abbrev pub read_decode : List Word → Reading
read_decode = a_field hex_field (λ bytes. the_end (Decode bytes))

-- the forms that make the net, let time pass, and print, by their command words
abbrev pub net_forms : List (List ℕ × (List Word → Reading))
net_forms =
    (codes "algo", read_algo) ∷ (codes "node", read_node) ∷ (codes "link", read_link)
    ∷ (codes "lan", read_lan) ∷ (codes "ping", read_ping) ∷ (codes "traceroute", read_traceroute)
    ∷ (codes "reboot", read_reboot) ∷ (codes "run", read_run) ∷ (codes "deliver", read_deliver)
    ∷ (codes "show", read_show) ∷ (codes "decode", read_decode) ∷ []
