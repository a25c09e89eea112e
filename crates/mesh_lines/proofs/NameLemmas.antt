-- The names of a run are words, and each event is printed by names that the nodes have at its end.
use Rattle.std.proofs.Common.{◌≡◌, ◌+◌, ◌-◌, ℕ, Bool, true, false, cond, nat_le, nat_lt, List, [], ◌∷◌, length, Option, Some, None, is_some, Ok, Err, refl}
use Rattle.mesh_model.specs.declared.ending.LimitName.TheVariants.{Input, Line, Links, Nodes}
use Rattle.mesh_model.specs.declared.ending.Refusal.{Refusal}
use Rattle.mesh_model.specs.declared.ending.Stop.TheVariants.{Limit}
use Rattle.mesh_model.specs.declared.frame_choice.FrameChoice.{FrameChoice}
use Rattle.mesh_model.specs.declared.line_form.Command.{Command}
use Rattle.mesh_model.specs.declared.line_form.Command.TheVariants.{Nothing, Algo, Node, Link, Lan, Frame, Gone, Join, Leave, Arp, Dhcp, Wifi, GwOff, GwServer, GwClient, Mcast, Dat, Frag, Vis, Alfred, Put, Get, Ping, Trace, Reboot, Run as RunFor, Deliver, Show, Decode}
use Rattle.mesh_model.specs.Clients.Log.{Line, Sets}
use Rattle.mesh_model.specs.Clients.Settings.{NoPart, Serves, Chooses}
use Rattle.mesh_model.specs.Clients.Settings.{ArpTable as ArpTableSet, FactStore as FactStoreSet, Gateway as GatewaySet, LongestWhole as LongestWholeSet, Multicast as MulticastSet, Pictures as PicturesSet, Wifi as WifiSet}
use Rattle.mesh_model.specs.Clients.Log.{Gone as GoneGiven, Join as JoinGiven, Leave as LeaveGiven, Arp as ArpGiven, Dhcp as DhcpGiven, Put as PutGiven, Get as GetGiven, Ping as PingGiven, Trace as TraceGiven, Reboot as RebootGiven}
use Rattle.mesh_model.specs.Net.Limits.{clock_limit, lans_limit, links_limit, nodes_limit}
use Rattle.mesh_model.specs.Net.Mesh.{NetLink}
use Rattle.mesh_model.specs.Net.Runs.{delivered}
use Rattle.mesh_model.specs.Run.Outcome.{Outcome, Ends, Goes}
use Rattle.mesh_model.specs.Run.PlainRun.{Run, after_line, after_lines, after_outcome, after_reading, line_outcome, passes_input, passes_line, start}
use Rattle.mesh_model.specs.Run.Rules.{carried_out, first_refused_rule, setup_of, unless_refused}
use Rattle.mesh_model.specs.Run.State.{Decoded, State, place_of}
use Rattle.mesh_model.specs.Run.Steps.{at_node, link_step, new_node, places_named, step_of, with_link, with_node}
use Rattle.mesh_model.specs.Scenario.Commands.{command_of_line}
use Rattle.mesh_model.specs.Scenario.Halt.{Halt}
use Rattle.mesh_model.specs.Scenario.Lines.{content}
use Rattle.mesh_model.specs.Scenario.Readings.{Reading}
use Rattle.mesh_laws.specs.Cuts.{IsUnbroken}
use Rattle.mesh_model.specs.Routes.Algorithms.{queries_of}
use Rattle.mesh_laws.proofs.Schedule.Steps.{delivered_effect}
use Rattle.mesh_lines.specs.PlainLines.{GivesPlain, PlainContents}
use Rattle.mesh_tie.specs.PlainRuns.{IsBetweenLines, IsTellable}
use Rattle.mesh_tie.proofs.LineReach.{RunHolds, first_holds, lines_hold}
use Rattle.mesh_tie.proofs.TellReading.{read_is_tellable}
use Rattle.mesh_lines.proofs.LogFits.{delivered_fits}
use Rattle.mesh_lines.proofs.NodeNames.{AreOfNodes, events_of_nodes}
use Rattle.mesh_lines.proofs.PlainReading.{read_is_plain}
use Rattle.mesh_lines.proofs.NamesGoOn.{IsNamed, effect_passes}
use Rattle.mesh_lines.proofs.NameSteps.{NamedOutcome, at_named, attempt_named, frame_named, full_named, gone_from, lan_named, line_named, print_named, session_named, show_named, time_named, with_node_named}

command_named : (state : State) (command : Command) → GivesPlain command → IsTellable command → IsBetweenLines state → IsNamed state → NamedOutcome (step_of (setup_of state.algorithm) command state)
command_named state Nothing p tell r n = λ of. n
command_named state (Algo algorithm) p tell r n = λ of. record { named = n.named; printed = n.printed; fits = record { logs = n.fits.logs; puts = n.fits.puts } }
command_named state (Node name mac) p tell r n = full_named (nat_le nodes_limit (length state.mesh.nodes)) (Ends state (Limit Nodes)) (Goes (with_node state (new_node name mac state.clock))) (λ of. n) (λ of. with_node_named state (new_node name mac state.clock) p tt n)
command_named state (Link from to delay pattern throughput) p tell r n =
    let link : ℕ → ℕ → NetLink = λ start end. record { from = start; to = end; delay = delay; pattern = pattern; throughput = throughput } in
    at_named state (λ start. at_node to (λ end. link_step (link start end))) (place_of state from) n (λ start.
    at_named state (λ end. link_step (link start end)) (place_of state to) n (λ end.
    full_named (nat_le links_limit (length state.mesh.links)) (Ends state (Limit Links)) (Goes (with_link state (link start end))) (λ of. n) (λ of. record { named = n.named; printed = n.printed; fits = record { logs = n.fits.logs; puts = n.fits.puts } })))
command_named state (Lan name gateways) p tell r n = lan_named state name (places_named gateways 0 state.mesh.nodes) (nat_le lans_limit (length state.mesh.lans)) p r.is_reached.low n
command_named state (Frame place src dst vid text) p tell r n = frame_named state place (record { dst = dst; src = src; vid = vid; text = text }) r.is_reached.low tell.1 tell.0.fits.address p n
command_named state (Gone place key) p tell r n = gone_from state place (GoneGiven key) r.is_reached.low tt n
command_named state (Join node key) p tell r n = line_named state node (JoinGiven key) r.is_reached.low tt n
command_named state (Leave node key) p tell r n = line_named state node (LeaveGiven key) r.is_reached.low tt n
command_named state (Arp node mac own asked vid) p tell r n = line_named state node (ArpGiven mac own asked vid) r.is_reached.low tt n
command_named state (Dhcp node key text) p tell r n = line_named state node (DhcpGiven key text) r.is_reached.low p n
command_named state (Wifi node on) p tell r n = line_named state node (Sets (WifiSet on)) r.is_reached.low tt n
command_named state (GwOff node) p tell r n = line_named state node (Sets (GatewaySet NoPart)) r.is_reached.low tt n
command_named state (GwServer node down up) p tell r n = line_named state node (Sets (GatewaySet (Serves (record { download = down; upload = up })))) r.is_reached.low tt n
command_named state (GwClient node policy) p tell r n = line_named state node (Sets (GatewaySet (Chooses policy))) r.is_reached.low tt n
command_named state (Mcast node flags) p tell r n = line_named state node (Sets (MulticastSet flags)) r.is_reached.low tt n
command_named state (Dat node on) p tell r n = line_named state node (Sets (ArpTableSet on)) r.is_reached.low tt n
command_named state (Frag node longest) p tell r n = line_named state node (Sets (LongestWholeSet longest)) r.is_reached.low tt n
command_named state (Vis node on) p tell r n = line_named state node (Sets (PicturesSet on)) r.is_reached.low tt n
command_named state (Alfred node mode) p tell r n = line_named state node (Sets (FactStoreSet mode)) r.is_reached.low tt n
command_named state (Put node type_no version text) p tell r n = line_named state node (PutGiven type_no version text) r.is_reached.low p n
command_named state (Get node type_no) p tell r n = line_named state node (GetGiven type_no) r.is_reached.low tt n
command_named state (Ping node target) p tell r n = session_named state PingGiven node target r.is_reached.low (λ mac. tt) n
command_named state (Trace node target) p tell r n = session_named state TraceGiven node target r.is_reached.low (λ mac. tt) n
command_named state (Reboot node) p tell r n = line_named state node RebootGiven r.is_reached.low tt n
command_named state (RunFor time) p tell r n = time_named state time (nat_lt clock_limit (state.clock + time)) refl r.is_reached n
command_named state (Deliver number) p tell r n = attempt_named state (delivered (setup_of state.algorithm) (number - 1) state.clock state.mesh) n (λ after is. effect_passes (setup_of state.algorithm) state.clock state.mesh after (delivered_effect (setup_of state.algorithm) state.mesh (number - 1) state.clock after is) (delivered_fits (queries_of state.algorithm) state.mesh (number - 1) state.clock after r.is_reached.low is))
command_named state (Show node table) p tell r n = show_named state node table r.reachable n
command_named state (Decode bytes) p tell r n = λ of. print_named state (Decoded bytes) tt n

carried_named : (state : State) (command : Command) → GivesPlain command → IsTellable command → IsBetweenLines state → IsNamed state → NamedOutcome (carried_out (setup_of state.algorithm) state command)
carried_named state command p tell r n = go (first_refused_rule state command)
  where
    go : (o : Option Refusal) → NamedOutcome (unless_refused state o (step_of (setup_of state.algorithm) command state))
    go None = command_named state command p tell r n
    go (Some refusal) = λ of. n

reading_named : (state : State) (line : List ℕ) → IsUnbroken line → IsBetweenLines state → IsNamed state → NamedOutcome (after_reading state (command_of_line line))
reading_named state line plain r n = go (command_of_line line) refl
  where
    go : (o : Reading) → command_of_line line ≡ o → NamedOutcome (after_reading state o)
    go (Ok command) is = carried_named state command (read_is_plain line command plain is) (read_is_tellable line command is) r n
    go (Err stop) is = λ of. n

line_keeps : (state : State) (before : ℕ) (line : List ℕ) → IsUnbroken (content line) → IsBetweenLines state → IsNamed state → NamedOutcome (line_outcome state before line)
unfolding line_outcome
line_keeps state before line plain r n = go (passes_line before line) (passes_input before line)
  where
    go : (l i : Bool) → NamedOutcome (cond l (Ends state (Limit Line)) (cond i (Ends state (Limit Input)) (after_reading state (command_of_line (content line)))))
    go true i = λ of. n
    go false true = λ of. n
    go false false = reading_named state (content line) plain r n

outcome_named : (run : Run) (line : List ℕ) (o : Outcome) → NamedOutcome o → AreOfNodes (after_outcome run line o).state.mesh → IsNamed (after_outcome run line o).state
outcome_named run line (Goes state) n of = n of
outcome_named run line (Ends state stop) n of = n of

after_named : (run : Run) (line : List ℕ) → IsUnbroken (content line) → (run.halt ≡ None → IsBetweenLines run.state) → AreOfNodes (after_line run line).state.mesh → IsNamed run.state → IsNamed (after_line run line).state
after_named run line plain r of n = go run.halt refl of
  where
    go : (o : Option Halt) → run.halt ≡ o → AreOfNodes (cond (is_some o) run (after_outcome run line (line_outcome run.state run.bytes line))).state.mesh → IsNamed (cond (is_some o) run (after_outcome run line (line_outcome run.state run.bytes line))).state
    go None none of = outcome_named run line (line_outcome run.state run.bytes line) (line_keeps run.state run.bytes line plain (r none) n) of
    go (Some halt) is of = n

lines_named : (run : Run) (lines : List (List ℕ)) → RunHolds run → PlainContents lines → IsNamed run.state → IsNamed (after_lines run lines).state
lines_named run [] h plain n = n
lines_named run (line ∷ lines) h plain n =
    let next = lines_hold run (line ∷ []) h in
    lines_named (after_line run line) lines next plain.1 (after_named run line plain.0 h.going (events_of_nodes (after_line run line).state.algorithm (after_line run line).state.mesh next.reachable) n)

pub runs_are_named : (choice : FrameChoice) (lines : List (List ℕ)) → PlainContents lines → IsNamed (after_lines (start choice) lines).state
runs_are_named choice lines plain = lines_named (start choice) lines (first_holds choice) plain (record { named = record { nodes = λ one has. absurd has; lans = λ one has. absurd has }; printed = λ item has. absurd has; fits = record { logs = tt; puts = λ place put got. cc } })
