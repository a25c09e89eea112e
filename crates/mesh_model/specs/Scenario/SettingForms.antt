-- The forms of `set` lines, which set how a node behaves. What is set is named by a word of its
-- own, which is refused by `out of range` where it isn't one of those below; so are the mode of a
-- gateway and a client's policy. The main word is `read_set`.
use Rattle.std.specs.Prelude.{ℕ, ◌==◌, ◌||◌, nat_le, List, [], ◌∷◌, codes, Result}
use Rattle.mesh_model.specs.declared.ending.Refusal.{Refusal}
use Rattle.mesh_model.specs.declared.ending.Refusal.TheVariants.{OutOfRange}
use Rattle.mesh_model.specs.declared.line_form.Command.TheVariants.{Wifi, GwOff, GwServer, GwClient, Mcast, Dat, Frag, Vis}
use Rattle.mesh_model.specs.declared.line_form.Policy.TheVariants.{Best, Stable, Late}
use Rattle.mesh_model.specs.Scenario.Fields.{word_field, name_field, number_field, number_up_to, passing, switch_field}
use Rattle.mesh_model.specs.Scenario.Readings.{Reading, a_field, listed_form, the_end}
use Rattle.mesh_model.specs.Scenario.Words.{Word}

-- set NODE wifi on, or off
abbrev pub read_wifi : List ℕ → List Word → Reading
read_wifi node = a_field switch_field (λ on. the_end (Wifi node on))

-- the greatest throughput of a gateway, in units of 100 kbit/s: all that 32 bits hold
abbrev pub gateway_throughput_limit : ℕ
gateway_throughput_limit = 4294967295

-- set NODE gw server DOWN UP
abbrev pub read_server : List ℕ → List Word → Reading
read_server node =
    a_field (number_up_to gateway_throughput_limit) (λ down.
    a_field (number_up_to gateway_throughput_limit) (λ up. the_end (GwServer node down up)))

-- the least lead by which a later gateway is better
abbrev pub least_lead : ℕ
least_lead = 1

-- the greatest lead by which a later gateway is better: that of the best quality there is
abbrev pub lead_limit : ℕ
lead_limit = 255

-- set NODE gw client late K
abbrev pub read_late : List ℕ → List Word → Reading
read_late node =
    a_field (number_field least_lead lead_limit) (λ lead. the_end (GwClient node (Late lead)))

-- set NODE gw client best, stable, or late K
abbrev pub read_policy : List ℕ → List ℕ → List Word → Reading
read_policy node = listed_form (
    (codes "best", the_end (GwClient node Best)) ∷ (codes "stable", the_end (GwClient node Stable))
    ∷ (codes "late", read_late node) ∷ []) OutOfRange

-- set NODE gw off, server DOWN UP, or client with a policy
abbrev pub read_gateway : List ℕ → List ℕ → List Word → Reading
read_gateway node = listed_form (
    (codes "off", the_end (GwOff node)) ∷ (codes "server", read_server node)
    ∷ (codes "client", a_field word_field (read_policy node)) ∷ []) OutOfRange

-- the greatest multicast flags: all three of them
abbrev pub multicast_flags_limit : ℕ
multicast_flags_limit = 7

-- set NODE mcast N
abbrev pub read_mcast : List ℕ → List Word → Reading
read_mcast node =
    a_field (number_up_to multicast_flags_limit) (λ flags. the_end (Mcast node flags))

-- set NODE dat on, or off
abbrev pub read_dat : List ℕ → List Word → Reading
read_dat node = a_field switch_field (λ on. the_end (Dat node on))

-- the least length that the greatest length of a packet that goes whole may be
abbrev pub least_longest : ℕ
least_longest = 300

-- the greatest of these lengths: all that 16 bits hold
abbrev pub longest_limit : ℕ
longest_limit = 65535

-- the greatest length of a packet that goes whole, or 0 where all do
abbrev pub longest_field : List ℕ → Result ℕ Refusal
longest_field word = passing (λ size. (size == 0) || nat_le least_longest size)
    (number_up_to longest_limit word)

-- set NODE frag N
abbrev pub read_frag : List ℕ → List Word → Reading
read_frag node = a_field longest_field (λ longest. the_end (Frag node longest))

-- set NODE vis on, or off
abbrev pub read_vis : List ℕ → List Word → Reading
read_vis node = a_field switch_field (λ on. the_end (Vis node on))

-- what is set at a node
abbrev pub read_setting : List ℕ → List ℕ → List Word → Reading
read_setting node = listed_form (
    (codes "wifi", read_wifi node) ∷ (codes "gw", a_field word_field (read_gateway node))
    ∷ (codes "mcast", read_mcast node) ∷ (codes "dat", read_dat node)
    ∷ (codes "frag", read_frag node) ∷ (codes "vis", read_vis node) ∷ []) OutOfRange

-- set NODE ..
abbrev pub read_set : List Word → Reading
read_set = a_field name_field (λ node. a_field word_field (read_setting node))
