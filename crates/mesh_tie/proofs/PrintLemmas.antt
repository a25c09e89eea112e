-- What is printed of frames that were sent by table.
use Rattle.std.proofs.Common.{◌≡◌, inl, inr, ◌+◌, ◌-◌, ℕ, Bool, true, false, cond, nat_le, nat_lt, List, [], ◌∷◌, ◌++◌, length, map, Option, Some, None, is_some, Ok, Err, refl, sym, ap, ◌∙◌, append-nil}
use Rattle.std.specs.Option.{option_map_or}
use Rattle.mesh_base.specs.declared.address.Mac.{Mac}
use Rattle.mesh_base.specs.declared.event.Event.{Event}
use Rattle.mesh_base.specs.declared.event.Event.TheVariants.{Alias, FrameSent}
use Rattle.mesh_base.specs.declared.event.Reason.TheVariants.{Table as ByTable}
use Rattle.mesh_base.specs.Names.{NamesGiven}
use Rattle.mesh_model.specs.declared.ending.LimitName.TheVariants.{Clock, Input, Lans, Line, Links, Nodes}
use Rattle.mesh_model.specs.declared.ending.Refusal.{Refusal}
use Rattle.mesh_model.specs.declared.ending.Stop.TheVariants.{Limit}
use Rattle.mesh_model.specs.declared.frame_choice.FrameChoice.{FrameChoice}
use Rattle.mesh_model.specs.declared.line_form.Algorithm.{Algorithm}
use Rattle.mesh_model.specs.declared.line_form.Command.{Command}
use Rattle.mesh_model.specs.declared.line_form.Command.TheVariants.{Nothing, Algo, Node, Link, Lan, Frame, Gone, Join, Leave, Arp, Dhcp, Wifi, GwOff, GwServer, GwClient, Mcast, Dat, Frag, Vis, Alfred, Put, Get, Ping, Trace, Reboot, Run as RunFor, Deliver, Show, Decode}
use Rattle.mesh_model.specs.declared.line_form.Table.{Table}
use Rattle.mesh_model.specs.declared.line_form.Table.TheVariants.{Originators, Neighbors, Locals, Globals, Claims, Gateways, Groups, Addresses, Facts, Pictures}
use Rattle.mesh_model.specs.Clients.Log.{Line, LineGiven, Sets}
use Rattle.mesh_model.specs.Clients.Settings.{NoPart, Serves, Chooses}
use Rattle.mesh_model.specs.Clients.Settings.{ArpTable as ArpTableSet, FactStore as FactStoreSet, Gateway as GatewaySet, LongestWhole as LongestWholeSet, Multicast as MulticastSet, Pictures as PicturesSet, Wifi as WifiSet}
use Rattle.mesh_model.specs.Clients.Log.{Frame as FrameGiven, Gone as GoneGiven, Join as JoinGiven, Leave as LeaveGiven, Arp as ArpGiven, Dhcp as DhcpGiven, Put as PutGiven, Get as GetGiven, Ping as PingGiven, Trace as TraceGiven, Reboot as RebootGiven}
use Rattle.mesh_model.specs.Net.Inputs.{all_given, given_to}
use Rattle.mesh_model.specs.Net.Lans.{gateways_at, joins_lan}
use Rattle.mesh_model.specs.Net.Limits.{clock_limit, lans_limit, links_limit, nodes_limit}
use Rattle.mesh_model.specs.Net.Mesh.{NodeLog, NetLink, LanPut, Mesh, address_at}
use Rattle.mesh_model.specs.Net.Next.{Has}
use Rattle.mesh_model.specs.Net.Runs.{Course, PassedLimit, begin, delivered, run_to}
use Rattle.mesh_model.specs.Net.Sending.{Attempt, with_put}
use Rattle.mesh_model.specs.Packets.Payload.{payload_spelling}
use Rattle.mesh_model.specs.Routes.Algorithms.{queries_of}
use Rattle.mesh_model.specs.Run.Outcome.{Outcome, Ends, Goes, reached}
use Rattle.mesh_model.specs.Run.Passing.{after_attempt, course_outcome, events_since, gone_on, run_until}
use Rattle.mesh_model.specs.Run.PlainRun.{Run, after_line, after_lines, after_outcome, after_reading, line_outcome, passes_input, passes_line, start}
use Rattle.mesh_model.specs.Run.Rules.{carried_out, first_refused_rule, setup_of, unless_refused}
use Rattle.mesh_model.specs.Run.Shown.{after_print, shown}
use Rattle.mesh_model.specs.Run.State.{Printed, LocalsShown, OriginatorsShown, NeighborsShown, GlobalsShown, ClaimsShown, ServiceShown, Decoded, Happened, State, names_of, lan_place_of, node_named, place_of}
use Rattle.mesh_model.specs.Run.Steps.{Step, at_node, at_place, gateways_step, lan_frame_step, places_named, choice_step, input_step, link_step, new_node, session_step, step_of, with_link, with_node}
use Rattle.mesh_model.specs.Scenario.Commands.{command_of_line}
use Rattle.mesh_model.specs.Scenario.Halt.{Halt}
use Rattle.mesh_model.specs.Scenario.Lines.{content}
use Rattle.mesh_model.specs.Scenario.Readings.{Reading}
use Rattle.mesh_laws.proofs.Lines.Courses.{going_follows}
use Rattle.mesh_tie.specs.AliasesStand.{EventsArePrinted, events_in}
use Rattle.mesh_tie.specs.LinesByTable.{LinesByTableAreRight}
use Rattle.mesh_tie.proofs.EventLemmas.{events_by_table_are_right}
use Rattle.mesh_tie.proofs.GainLemmas.{GainsEvents, again_gains, all_gains, course_gains, gained_is, given_gains, lan_gains, put_gains}
use Rattle.mesh_tie.proofs.LineReach.{first_holds, lines_hold}
use Rattle.mesh_tie.proofs.VLemmas.{algorithms_keep}

-- ---- the events among what is printed
pub events_both : (xs ys : List Printed) → events_in (xs ++ ys) ≡ events_in xs ++ events_in ys
unfolding events_in
events_both [] ys = refl
events_both (LocalsShown table ∷ xs) ys = events_both xs ys
events_both (OriginatorsShown table ∷ xs) ys = events_both xs ys
events_both (NeighborsShown table ∷ xs) ys = events_both xs ys
events_both (GlobalsShown table ∷ xs) ys = events_both xs ys
events_both (ClaimsShown table ∷ xs) ys = events_both xs ys
events_both (ServiceShown table ∷ xs) ys = events_both xs ys
events_both (Decoded bytes ∷ xs) ys = events_both xs ys
events_both (Happened names event ∷ xs) ys = ap (λ es. event ∷ es) (events_both xs ys)

events_happened : (names : NamesGiven) (es : List Event) → events_in (map (Happened names) es) ≡ es
unfolding events_in
events_happened names [] = refl
events_happened names (e ∷ es) = ap (λ xs. e ∷ xs) (events_happened names es)

pub printed_has : (xs : List Printed) (event : Event) → Has (events_in xs) event → (names : NamesGiven) × Has xs (Happened names event)
unfolding events_in
printed_has [] event has = absurd has
printed_has (LocalsShown table ∷ xs) event has = let p = printed_has xs event has in (p.0, inr p.1)
printed_has (OriginatorsShown table ∷ xs) event has = let p = printed_has xs event has in (p.0, inr p.1)
printed_has (NeighborsShown table ∷ xs) event has = let p = printed_has xs event has in (p.0, inr p.1)
printed_has (GlobalsShown table ∷ xs) event has = let p = printed_has xs event has in (p.0, inr p.1)
printed_has (ClaimsShown table ∷ xs) event has = let p = printed_has xs event has in (p.0, inr p.1)
printed_has (ServiceShown table ∷ xs) event has = let p = printed_has xs event has in (p.0, inr p.1)
printed_has (Decoded bytes ∷ xs) event has = let p = printed_has xs event has in (p.0, inr p.1)
printed_has (Happened names e ∷ xs) event (inl same) = (names, inl (ap (Happened names) same))
printed_has (Happened names e ∷ xs) event (inr has) = let p = printed_has xs event has in (p.0, inr p.1)

-- ---- they are those of the mesh
SameEvents : State → Type 0
SameEvents state = events_in state.printed ≡ state.mesh.events

abbrev SameOutcome : Outcome → Type 0
SameOutcome outcome = SameEvents (reached outcome)

gone_same : (state : State) (now : ℕ) (mesh : Mesh) → GainsEvents state.mesh mesh → SameEvents state → SameEvents (gone_on state now mesh)
unfolding SameEvents
gone_same state now mesh f same =
    events_both state.printed (map (Happened (names_of mesh)) (events_since state.mesh mesh))
    ∙ ap (λ es. es ++ events_in (map (Happened (names_of mesh)) (events_since state.mesh mesh))) same
    ∙ ap (λ es. state.mesh.events ++ es) (events_happened (names_of mesh) (events_since state.mesh mesh) ∙ gained_is state.mesh mesh f) ∙ sym f.events

attempt_same : (state : State) (attempt : Attempt) → SameEvents state → ((after : Mesh) → attempt ≡ Ok after → GainsEvents state.mesh after) → SameOutcome (after_attempt state attempt)
attempt_same state (Ok after) same follows = gone_same state state.clock after (follows after refl) same
attempt_same state (Err limit) same follows = same

at_same : (state : State) (step : ℕ → Step) (o : Option ℕ) → SameEvents state → ((place : ℕ) → SameOutcome (step place state)) → SameOutcome (option_map_or (λ place. step place state) o (Goes state))
at_same state step None same all = same
at_same state step (Some place) same all = all place

given_same : (state : State) (place : ℕ) (line : LineGiven) → SameEvents state → SameOutcome (input_step (setup_of state.algorithm) line place state)
given_same state place line same =
    attempt_same state (given_to (setup_of state.algorithm) place state.clock 0 (Line line) state.mesh) same (λ after is. given_gains (setup_of state.algorithm) place state.clock line state.mesh after is)

session_same : (state : State) (line : Mac → LineGiven) (node target : List ℕ) → SameEvents state → SameOutcome (session_step (setup_of state.algorithm) line node target state)
session_same state line node target same =
    let to : ℕ → ℕ → Step = λ place end s. input_step (setup_of state.algorithm) (line (address_at end s.mesh.nodes)) place s in
    at_same state (λ place. at_node target (to place)) (place_of state node) same (λ place.
    at_same state (to place) (place_of state target) same (λ end. given_same state place (line (address_at end state.mesh.nodes)) same))

line_same : (state : State) (name : List ℕ) (line : LineGiven) → SameEvents state → SameOutcome (at_node name (input_step (setup_of state.algorithm) line) state)
line_same state name line same = at_same state (input_step (setup_of state.algorithm) line) (place_of state name) same (λ place. given_same state place line same)

-- at the LAN of a name, or else at the node of it
place_same : (state : State) (name : List ℕ) (line : LineGiven) (on_lan : ℕ → Step) → SameEvents state → ((lan : ℕ) → SameOutcome (on_lan lan state)) → SameOutcome (at_place name on_lan (input_step (setup_of state.algorithm) line) state)
place_same state name line on_lan same all = go (lan_place_of state name)
  where
    go : (o : Option ℕ) → SameOutcome (option_map_or (λ lan. on_lan lan state) o (at_node name (input_step (setup_of state.algorithm) line) state))
    go None = line_same state name line same
    go (Some lan) = all lan

frame_same : (state : State) (name bytes : List ℕ) (line : LineGiven) → SameEvents state → SameOutcome (at_place name (lan_frame_step (setup_of state.algorithm) bytes) (input_step (setup_of state.algorithm) line) state)
frame_same state name bytes line same = place_same state name line (lan_frame_step (setup_of state.algorithm) bytes) same (λ lan.
    let put : LanPut = record { lan = lan; moment = state.clock; bytes = bytes; by = None } in
    attempt_same state (with_put (setup_of state.algorithm) put state.mesh) same (λ after is. put_gains (setup_of state.algorithm) put state.mesh after is))

gone_from : (state : State) (name : List ℕ) (line : LineGiven) → SameEvents state → SameOutcome (at_place name (gateways_step (setup_of state.algorithm) line) (input_step (setup_of state.algorithm) line) state)
gone_from state name line same = place_same state name line (gateways_step (setup_of state.algorithm) line) same (λ lan.
    let places = gateways_at lan state.mesh.lans in
    attempt_same state (all_given (setup_of state.algorithm) places state.clock (Line line) state.mesh) same (λ after is. all_gains (setup_of state.algorithm) places state.clock line state.mesh after is))

lan_same : (state : State) (name : List ℕ) (places : List ℕ) (full : Bool) → SameEvents state → SameOutcome (cond full (Ends state (Limit Lans)) (after_attempt state (joins_lan (setup_of state.algorithm) name places state.clock state.mesh)))
lan_same state name places true same = same
lan_same state name places false same = attempt_same state (joins_lan (setup_of state.algorithm) name places state.clock state.mesh) same (λ after is. lan_gains (setup_of state.algorithm) name places state.clock state.mesh after is)

full_same : (b : Bool) (stopped : Outcome) (state : State) → SameOutcome stopped → SameEvents state → SameOutcome (cond b stopped (Goes state))
full_same true stopped state a b = a
full_same false stopped state a b = b

with_node_same : (state : State) (node : NodeLog) → SameEvents state → SameEvents (with_node state node)
unfolding SameEvents
with_node_same state node same = same

with_link_same : (state : State) (link : NetLink) → SameEvents state → SameEvents (with_link state link)
unfolding SameEvents
with_link_same state link same = same

choice_same : (state : State) (algorithm : Algorithm) → SameEvents state → SameOutcome (choice_step algorithm state)
unfolding SameEvents
choice_same state algorithm same = same

course_same : (state : State) (t : ℕ) (o : Course) (stop : Option PassedLimit) → GainsEvents state.mesh o.mesh → SameEvents state → SameOutcome (course_outcome state t o.mesh stop)
course_same state t o None f same = gone_same state t o.mesh f same
course_same state t o (Some p) f same = gone_same state p.moment o.mesh f same

time_same : (state : State) (t : ℕ) (past : Bool) → SameEvents state → SameOutcome (cond past (Ends state (Limit Clock)) (run_until (setup_of state.algorithm) t state))
time_same state t true same = same
time_same state t false same = course_same state t (run_to (setup_of state.algorithm) t state.mesh) (run_to (setup_of state.algorithm) t state.mesh).stop (course_gains state.mesh (run_to (setup_of state.algorithm) t state.mesh).mesh (going_follows (setup_of state.algorithm) t (begin state.mesh))) same

-- something printed that is no event
abbrev IsNoEvent : Printed → Type 0
IsNoEvent printed = events_in (printed ∷ []) ≡ []

print_same : (state : State) (printed : Printed) → IsNoEvent printed → SameEvents state → SameEvents (after_print state printed)
unfolding SameEvents
print_same state printed none same = events_both state.printed (printed ∷ []) ∙ ap (λ es. events_in state.printed ++ es) none ∙ append-nil (events_in state.printed) ∙ same

show_same : (state : State) (print : State → NodeLog → Printed) (o : Option NodeLog) → ((node : NodeLog) → IsNoEvent (print state node)) → SameEvents state
    → SameOutcome (option_map_or (λ node. Goes (after_print state (print state node))) o (Goes state))
show_same state print None none same = same
show_same state print (Some node) none same = print_same state (print state node) (none node) same

-- the tables that are shown are no events
shown_none : (table : Table) (state : State) (node : NodeLog) → IsNoEvent (shown table state node)
unfolding events_in
shown_none Originators state node = refl
shown_none Neighbors state node = refl
shown_none Locals state node = refl
shown_none Globals state node = refl
shown_none Claims state node = refl
shown_none Gateways state node = refl
shown_none Groups state node = refl
shown_none Addresses state node = refl
shown_none Facts state node = refl
shown_none Pictures state node = refl

decoded_none : (bytes : List ℕ) → IsNoEvent (Decoded bytes)
unfolding events_in
decoded_none bytes = refl

command_same : (state : State) (command : Command) → SameEvents state → SameOutcome (step_of (setup_of state.algorithm) command state)
command_same state Nothing same = same
command_same state (Algo algorithm) same = choice_same state algorithm same
command_same state (Node name mac) same = full_same (nat_le nodes_limit (length state.mesh.nodes)) (Ends state (Limit Nodes)) (with_node state (new_node name mac state.clock)) same (with_node_same state (new_node name mac state.clock) same)
command_same state (Link from to delay pattern throughput) same =
    let link : ℕ → ℕ → NetLink = λ start end. record { from = start; to = end; delay = delay; pattern = pattern; throughput = throughput } in
    at_same state (λ start. at_node to (λ end. link_step (link start end))) (place_of state from) same (λ start.
    at_same state (λ end. link_step (link start end)) (place_of state to) same (λ end.
    full_same (nat_le links_limit (length state.mesh.links)) (Ends state (Limit Links)) (with_link state (link start end)) same (with_link_same state (link start end) same)))
command_same state (Lan name gateways) same = lan_same state name (places_named gateways 0 state.mesh.nodes) (nat_le lans_limit (length state.mesh.lans)) same
command_same state (Frame place src dst vid text) same = frame_same state place (payload_spelling (record { dst = dst; src = src; vid = vid; text = text })) (FrameGiven src dst vid text) same
command_same state (Gone place key) same = gone_from state place (GoneGiven key) same
command_same state (Join node key) same = line_same state node (JoinGiven key) same
command_same state (Leave node key) same = line_same state node (LeaveGiven key) same
command_same state (Arp node mac own asked vid) same = line_same state node (ArpGiven mac own asked vid) same
command_same state (Dhcp node key text) same = line_same state node (DhcpGiven key text) same
command_same state (Wifi node on) same = line_same state node (Sets (WifiSet on)) same
command_same state (GwOff node) same = line_same state node (Sets (GatewaySet NoPart)) same
command_same state (GwServer node down up) same = line_same state node (Sets (GatewaySet (Serves (record { download = down; upload = up })))) same
command_same state (GwClient node policy) same = line_same state node (Sets (GatewaySet (Chooses policy))) same
command_same state (Mcast node flags) same = line_same state node (Sets (MulticastSet flags)) same
command_same state (Dat node on) same = line_same state node (Sets (ArpTableSet on)) same
command_same state (Frag node longest) same = line_same state node (Sets (LongestWholeSet longest)) same
command_same state (Vis node on) same = line_same state node (Sets (PicturesSet on)) same
command_same state (Alfred node mode) same = line_same state node (Sets (FactStoreSet mode)) same
command_same state (Put node type_no version text) same = line_same state node (PutGiven type_no version text) same
command_same state (Get node type_no) same = line_same state node (GetGiven type_no) same
command_same state (Ping node target) same = session_same state PingGiven node target same
command_same state (Trace node target) same = session_same state TraceGiven node target same
command_same state (Reboot node) same = line_same state node RebootGiven same
command_same state (RunFor time) same = time_same state (state.clock + time) (nat_lt clock_limit (state.clock + time)) same
command_same state (Deliver number) same = attempt_same state (delivered (setup_of state.algorithm) (number - 1) state.clock state.mesh) same (λ after is. again_gains (setup_of state.algorithm) (number - 1) state.clock state.mesh after is)
command_same state (Show node table) same = show_same state (shown table) (node_named state node) (shown_none table state) same
command_same state (Decode bytes) same = print_same state (Decoded bytes) (decoded_none bytes) same

carried_same : (state : State) (command : Command) → SameEvents state → SameOutcome (carried_out (setup_of state.algorithm) state command)
carried_same state command same = go (first_refused_rule state command)
  where
    go : (o : Option Refusal) → SameOutcome (unless_refused state o (step_of (setup_of state.algorithm) command state))
    go None = command_same state command same
    go (Some refusal) = same

reading_same : (state : State) (r : Reading) → SameEvents state → SameOutcome (after_reading state r)
reading_same state (Ok command) same = carried_same state command same
reading_same state (Err stop) same = same

line_keeps : (state : State) (before : ℕ) (line : List ℕ) → SameEvents state → SameOutcome (line_outcome state before line)
unfolding line_outcome
line_keeps state before line same = go (passes_line before line) (passes_input before line)
  where
    go : (l i : Bool) → SameOutcome (cond l (Ends state (Limit Line)) (cond i (Ends state (Limit Input)) (after_reading state (command_of_line (content line)))))
    go true i = same
    go false true = same
    go false false = reading_same state (command_of_line (content line)) same

outcome_same : (run : Run) (line : List ℕ) (o : Outcome) → SameOutcome o → SameEvents (after_outcome run line o).state
outcome_same run line (Goes state) same = same
outcome_same run line (Ends state stop) same = same

after_same : (run : Run) (line : List ℕ) → SameEvents run.state → SameEvents (after_line run line).state
after_same run line same = go run.halt
  where
    go : (o : Option Halt) → SameEvents (cond (is_some o) run (after_outcome run line (line_outcome run.state run.bytes line))).state
    go None = outcome_same run line (line_outcome run.state run.bytes line) (line_keeps run.state run.bytes line same)
    go (Some halt) = same

lines_same : (run : Run) (lines : List (List ℕ)) → SameEvents run.state → SameEvents (after_lines run lines).state
lines_same run [] same = same
lines_same run (line ∷ lines) same = lines_same (after_line run line) lines (after_same run line same)

pub events_are_printed : EventsArePrinted
unfolding SameEvents events_in
events_are_printed choice lines = lines_same (start choice) lines refl

-- an event between others of what is printed is between others of the mesh
pub events_parted : (choice : FrameChoice) (lines : List (List ℕ)) (before after : List Printed) (names : NamesGiven) (event : Event) → (after_lines (start choice) lines).state.printed ≡ before ++ Happened names event ∷ after
    → (after_lines (start choice) lines).state.mesh.events ≡ events_in before ++ event ∷ events_in after
unfolding events_in
events_parted choice lines before after names event printed = sym (events_are_printed choice lines) ∙ ap events_in printed ∙ events_both before (Happened names event ∷ after)

-- ---- the law
pub lines_by_table_are_right : LinesByTableAreRight
lines_by_table_are_right choice lines orig before after names number moment me next bytes printed none =
    let run = after_lines (start choice) lines in
    let event : Event = FrameSent number moment me next (Some ByTable) bytes in
    let events = events_parted choice lines before after names event printed in
    events_by_table_are_right (queries_of run.state.algorithm) (algorithms_keep run.state.algorithm) run.state.mesh (lines_hold (start choice) lines (first_holds choice)).reachable orig (events_in before) (events_in after) number moment me next bytes events
    (λ n e told. let p = printed_has before (Alias orig n e) told in none p.0 n e p.1)
