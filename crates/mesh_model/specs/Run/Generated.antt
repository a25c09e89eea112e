-- The lines that `--generate N` carries out as though they were read. N nodes stand in a ring; a
-- link leads from each to the next and one back, and each of them loses every tenth frame. Then, 60
-- times, a client that is drawn sends a frame at a node that is drawn, and a second passes. Of what
-- these lines print nothing is printed, but one line of counts at the end:
-- `generated nodes=N frames=F recv=R commits=C ok=K of=P`, of link frames, of `recv` lines, of the
-- commits with number 1 or more, of the ordered pairs of nodes where the first counts the table of
-- the second as ok, and of all ordered pairs. The main words are `generated_input` and
-- `generated_text`.
use Rattle.std.specs.Prelude.{ℕ, ◌+◌, ◌-◌, ◌*◌, ◌/◌, ◌%◌, ◌==◌, zero, suc, eqb, Bool, List, [], ◌∷◌, ◌++◌, codes, length, map, sum}
use Rattle.std.specs.List.{count_by, slice_split, starts_with}
use Rattle.mesh_base.specs.Address.{hex_of_byte}
use Rattle.mesh_model.specs.declared.frame_choice.FrameChoice.TheVariants.{Hidden}
use Rattle.mesh_model.specs.declared.line_form.Algorithm.{Algorithm}
use Rattle.mesh_model.specs.Commits.History.{commits}
use Rattle.mesh_model.specs.Net.Mesh.{NodeLog}
use Rattle.mesh_model.specs.Run.PlainRun.{Run, output, plain_run}
use Rattle.mesh_model.specs.Run.Shown.{global_table}
use Rattle.mesh_model.specs.Run.State.{State}
use Rattle.mesh_model.specs.Scenario.Lines.{newline}
use Rattle.mesh_model.specs.Text.PacketLines.{line_of, named_number}

-- ---- what is drawn

-- what follows a number in the series from which is drawn
unfoldable pub next_drawn : ℕ → ℕ
next_drawn x = (1103515245 * x + 12345) % 2147483648

-- the number below a bound that a number of the series draws
unfoldable pub draw : ℕ → ℕ → ℕ
draw bound x = x / 65536 % bound

-- where the series stands after so many seconds of a mesh of so many nodes: it begins with their
-- number, and two numbers are drawn in each second
unfoldable pub drawn_after : ℕ → ℕ → ℕ
drawn_after nodes zero = nodes
drawn_after nodes (suc seconds) = next_drawn (next_drawn (drawn_after nodes seconds))

-- ---- the lines

-- the name of the node at a place
abbrev pub name_of_node : ℕ → List ℕ
name_of_node place = named_number (codes "n") place

-- `node n<i> 02:00:00:00:00:<i>`
unfoldable pub node_line : ℕ → List ℕ
node_line place = line_of
    (codes "node " ∷ name_of_node place ∷ codes " 02:00:00:00:00:" ∷ hex_of_byte place ∷ [])

-- `link n<i> n<j> pattern=.........x`
unfoldable pub link_line : ℕ → ℕ → List ℕ
link_line from to = line_of
    (codes "link " ∷ name_of_node from ∷ codes " " ∷ name_of_node to ∷ codes " pattern=.........x"
    ∷ [])

-- `frame n<i> 02:00:00:00:01:<c> ff:ff:ff:ff:ff:ff - g<s>`
unfoldable pub frame_line : ℕ → ℕ → ℕ → List ℕ
frame_line client place second = line_of
    (codes "frame " ∷ name_of_node place ∷ codes " 02:00:00:00:01:" ∷ hex_of_byte client
    ∷ named_number (codes " ff:ff:ff:ff:ff:ff - g") second ∷ [])

-- the lines of the first nodes, so many
unfoldable pub node_lines : ℕ → List ℕ
node_lines zero = []
node_lines (suc place) = node_lines place ++ node_line place

-- the links between the first nodes of a ring, so many, and the next of each
unfoldable pub ring_lines : ℕ → ℕ → List ℕ
ring_lines nodes zero = []
ring_lines nodes (suc place) = ring_lines nodes place
    ++ (link_line place ((place + 1) % nodes) ++ link_line ((place + 1) % nodes) place)

-- the lines of a second of this number, before which the series stood at x: the client is drawn
-- first, then the node
unfoldable pub second_lines : ℕ → ℕ → ℕ → List ℕ
second_lines nodes second x =
    frame_line (draw (4 * nodes) (next_drawn x)) (draw nodes (next_drawn (next_drawn x))) second
    ++ line_of (codes "run 1000" ∷ [])

-- the lines of the first seconds, so many
unfoldable pub traffic_lines : ℕ → ℕ → List ℕ
traffic_lines nodes zero = []
traffic_lines nodes (suc seconds) = traffic_lines nodes seconds
    ++ second_lines nodes (seconds + 1) (drawn_after nodes seconds)

-- how many seconds are generated
abbrev pub generated_seconds : ℕ
generated_seconds = 60

-- the lines of a mesh of so many nodes
unfoldable pub generated_input : ℕ → List ℕ
generated_input nodes = line_of (codes "algo iv" ∷ []) ++ node_lines nodes
    ++ ring_lines nodes nodes ++ traffic_lines nodes generated_seconds

-- ---- the summary

-- whether a line is that of a frame that reached clients
abbrev pub is_received : List ℕ → Bool
is_received line = starts_with eqb line (codes "recv ")

-- how many such lines a text has
unfoldable pub received_lines : List ℕ → ℕ
received_lines text = count_by is_received (slice_split (λ byte. byte == newline) text)

-- how many commits a node has beside commit 0
abbrev pub later_commits : NodeLog → ℕ
later_commits node = length (commits node.mac node.log) - 1

-- how many tables a node counts as ok at a moment
abbrev pub ok_tables : Algorithm → ℕ → NodeLog → ℕ
ok_tables algorithm now node =
    count_by (λ part. part.row.ok) (global_table algorithm now node).parts

-- the counts of a mesh of so many nodes, as a line
unfoldable pub summary_line : (nodes frames received commits ok : ℕ) → List ℕ
summary_line nodes frames received commits ok = line_of
    (named_number (codes "generated nodes=") nodes ∷ named_number (codes " frames=") frames
    ∷ named_number (codes " recv=") received ∷ named_number (codes " commits=") commits
    ∷ named_number (codes " ok=") ok ∷ named_number (codes " of=") (nodes * (nodes - 1)) ∷ [])

-- the counts of a state of so many nodes after which this text was printed
abbrev pub summary : ℕ → State → List ℕ → List ℕ
summary nodes state text = summary_line nodes (length state.mesh.frames) (received_lines text)
    (sum (map later_commits state.mesh.nodes))
    (sum (map (ok_tables state.algorithm state.clock) state.mesh.nodes))

-- the run of the generated lines of a mesh of so many nodes
abbrev pub generated_run : ℕ → Run
generated_run nodes = plain_run Hidden (generated_input nodes)

-- what is printed of it
unfoldable pub generated_text : ℕ → List ℕ
generated_text nodes =
    summary nodes (generated_run nodes).state (output (generated_run nodes))
