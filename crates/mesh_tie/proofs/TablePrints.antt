-- What is printed of tables.
use Rattle.std.proofs.Common.{◌≡◌, inl, inr, ◌+◌, ◌-◌, ℕ, Bool, true, false, cond, nat_le, nat_lt, List, [], ◌∷◌, ◌++◌, length, map, Option, Some, None, option_and_then, slice_get, append_assoc, is_some, Ok, Err, refl, sym, ap, subst, ◌∙◌, append-nil}
use Rattle.std.specs.Option.{option_map_or}
use Rattle.mesh_base.specs.declared.address.Mac.{Mac}
use Rattle.mesh_base.specs.declared.event.Event.{Event}
use Rattle.mesh_model.specs.declared.ending.LimitName.TheVariants.{Clock, Input, Lans, Line, Links, Nodes}
use Rattle.mesh_model.specs.declared.ending.Refusal.{Refusal}
use Rattle.mesh_model.specs.declared.ending.Stop.TheVariants.{Limit}
use Rattle.mesh_model.specs.declared.frame_choice.FrameChoice.{FrameChoice}
use Rattle.mesh_model.specs.declared.line_form.Command.{Command}
use Rattle.mesh_model.specs.declared.line_form.Command.TheVariants.{Nothing, Algo, Node, Link, Lan, Frame, Gone, Join, Leave, Arp, Dhcp, Wifi, GwOff, GwServer, GwClient, Mcast, Dat, Frag, Vis, Alfred, Put, Get, Ping, Trace, Reboot, Run as RunFor, Deliver, Show, Decode}
use Rattle.mesh_model.specs.declared.line_form.Table.{Table}
use Rattle.mesh_model.specs.declared.line_form.Table.TheVariants.{Originators, Neighbors, Locals, Globals, Claims, Gateways, Groups, Addresses, Facts, Pictures}
use Rattle.mesh_model.specs.Clients.Log.{Line, LineGiven, Sets}
use Rattle.mesh_model.specs.Clients.Settings.{NoPart, Serves, Chooses}
use Rattle.mesh_model.specs.Clients.Settings.{ArpTable as ArpTableSet, FactStore as FactStoreSet, Gateway as GatewaySet, LongestWhole as LongestWholeSet, Multicast as MulticastSet, Pictures as PicturesSet, Wifi as WifiSet}
use Rattle.mesh_model.specs.Clients.Log.{Frame as FrameGiven, Gone as GoneGiven, Join as JoinGiven, Leave as LeaveGiven, Arp as ArpGiven, Dhcp as DhcpGiven, Put as PutGiven, Get as GetGiven, Ping as PingGiven, Trace as TraceGiven, Reboot as RebootGiven}
use Rattle.mesh_model.specs.Net.Inputs.{all_given, given_to}
use Rattle.mesh_model.specs.Net.Lans.{gateways_at, joins_lan}
use Rattle.mesh_model.specs.Net.Limits.{clock_limit, lans_limit, links_limit, nodes_limit}
use Rattle.mesh_model.specs.Net.Mesh.{NodeLog, NetLink, Mesh, address_at}
use Rattle.mesh_model.specs.Net.Next.{Has}
use Rattle.mesh_model.specs.Net.Runs.{PassedLimit, delivered, run_to}
use Rattle.mesh_model.specs.Net.Sending.{Attempt, with_put}
use Rattle.mesh_model.specs.Packets.Payload.{payload_spelling}
use Rattle.mesh_model.specs.Run.Outcome.{Outcome, Ends, Goes, reached}
use Rattle.mesh_model.specs.Run.Passing.{after_attempt, course_outcome, events_since, gone_on, run_until}
use Rattle.mesh_model.specs.Run.PlainRun.{Run, after_line, after_lines, after_outcome, after_reading, line_outcome, passes_input, passes_line, start}
use Rattle.mesh_model.specs.Run.Rules.{carried_out, first_refused_rule, setup_of, unless_refused}
use Rattle.mesh_model.specs.Run.Shown.{after_print, global_table, shown}
use Rattle.mesh_model.specs.Run.State.{Printed, GlobalsShown, Decoded, Happened, State, names_of, lan_place_of, node_named, place_of}
use Rattle.mesh_model.specs.Run.Steps.{Step, at_node, at_place, gateways_step, lan_frame_step, places_named, input_step, link_step, new_node, session_step, show_step, step_of, with_link, with_node}
use Rattle.mesh_model.specs.Scenario.Commands.{command_of_line}
use Rattle.mesh_model.specs.Scenario.Halt.{Halt}
use Rattle.mesh_model.specs.Scenario.Lines.{content}
use Rattle.mesh_model.specs.Scenario.Readings.{Reading}
use Rattle.mesh_model.specs.Text.GlobalTables.{GlobalTable}
use Rattle.mesh_laws.proofs.Schedule.Members.{map_has}
use Rattle.mesh_tie.specs.ShownTables.{PrintedNone, PrintedTablesAreCommitted, PrintsCommits, WasCommitted}
use Rattle.mesh_tie.proofs.EventLemmas.{Split, in_first, in_second, split, split_has}
use Rattle.mesh_tie.proofs.ShownLemmas.{shown_tables_are_committed}

-- ---- what a line adds
-- a table is that of a node of a state
record OfNode (state : State) (table : GlobalTable) : Type 0 where
  place : ℕ
  node : NodeLog
  found : slice_get state.mesh.nodes place ≡ Some node
  is : table ≡ global_table state.algorithm state.clock node

-- a table is that of a node of a state, and is all that is new
record IsAlone (state : State) (new : List Printed) (table : GlobalTable) : Type 0 where
  one : Printed
  all_is : new ≡ one ∷ []
  of_node : OfNode state table

-- what is printed after a state, where each table is that of a node of it, and comes alone
record Added (state after : State) : Type 0 where
  new : List Printed
  printed : after.printed ≡ state.printed ++ new
  tables : (table : GlobalTable) → Has new (GlobalsShown table) → IsAlone state new table

abbrev AddsTo : State → Outcome → Type 0
AddsTo state outcome = Added state (reached outcome)

adds_none : (state after : State) → after.printed ≡ state.printed → Added state after
adds_none state after same = record { new = []; printed = same ∙ sym (append-nil state.printed); tables = λ table has. absurd has }

adds_events : (state : State) (now : ℕ) (mesh : Mesh) → Added state (gone_on state now mesh)
adds_events state now mesh = record {
  new = map (Happened (names_of mesh)) (events_since state.mesh mesh);
  printed = refl;
  tables = λ table has. absurd (no_table table (map_has (Happened (names_of mesh)) (events_since state.mesh mesh) (GlobalsShown table) has));
}
  where
    no_table : (table : GlobalTable) → (e : Event) × Has (events_since state.mesh mesh) e × (GlobalsShown table ≡ Happened (names_of mesh) e) → ⊥
    no_table table p = let e = p.2 in cc

adds_attempt : (state : State) (attempt : Attempt) → AddsTo state (after_attempt state attempt)
adds_attempt state (Ok after) = adds_events state state.clock after
adds_attempt state (Err limit) = adds_none state state refl

adds_at : (state : State) (step : ℕ → Step) (o : Option ℕ) → ((place : ℕ) → AddsTo state (step place state)) → AddsTo state (option_map_or (λ place. step place state) o (Goes state))
adds_at state step None all = adds_none state state refl
adds_at state step (Some place) all = all place

adds_line : (state : State) (name : List ℕ) (line : LineGiven) → AddsTo state (at_node name (input_step (setup_of state.algorithm) line) state)
adds_line state name line = adds_at state (input_step (setup_of state.algorithm) line) (place_of state name) (λ place. adds_attempt state (given_to (setup_of state.algorithm) place state.clock 0 (Line line) state.mesh))

adds_session : (state : State) (line : Mac → LineGiven) (node target : List ℕ) → AddsTo state (session_step (setup_of state.algorithm) line node target state)
adds_session state line node target =
    let to : ℕ → ℕ → Step = λ place end s. input_step (setup_of state.algorithm) (line (address_at end s.mesh.nodes)) place s in
    adds_at state (λ place. at_node target (to place)) (place_of state node) (λ place.
    adds_at state (to place) (place_of state target) (λ end. adds_attempt state (given_to (setup_of state.algorithm) place state.clock 0 (Line (line (address_at end state.mesh.nodes))) state.mesh)))

-- at the LAN of a name, or else at the node of it
adds_place : (state : State) (name : List ℕ) (line : LineGiven) (on_lan : ℕ → Step) → ((lan : ℕ) → AddsTo state (on_lan lan state)) → AddsTo state (at_place name on_lan (input_step (setup_of state.algorithm) line) state)
adds_place state name line on_lan all = go (lan_place_of state name)
  where
    go : (o : Option ℕ) → AddsTo state (option_map_or (λ lan. on_lan lan state) o (at_node name (input_step (setup_of state.algorithm) line) state))
    go None = adds_line state name line
    go (Some lan) = all lan

adds_frame : (state : State) (name bytes : List ℕ) (line : LineGiven) → AddsTo state (at_place name (lan_frame_step (setup_of state.algorithm) bytes) (input_step (setup_of state.algorithm) line) state)
adds_frame state name bytes line = adds_place state name line (lan_frame_step (setup_of state.algorithm) bytes) (λ lan.
    adds_attempt state (with_put (setup_of state.algorithm) (record { lan = lan; moment = state.clock; bytes = bytes; by = None }) state.mesh))

adds_gone : (state : State) (name : List ℕ) (line : LineGiven) → AddsTo state (at_place name (gateways_step (setup_of state.algorithm) line) (input_step (setup_of state.algorithm) line) state)
adds_gone state name line = adds_place state name line (gateways_step (setup_of state.algorithm) line) (λ lan.
    adds_attempt state (all_given (setup_of state.algorithm) (gateways_at lan state.mesh.lans) state.clock (Line line) state.mesh))

adds_lan : (state : State) (name : List ℕ) (places : List ℕ) (full : Bool) → AddsTo state (cond full (Ends state (Limit Lans)) (after_attempt state (joins_lan (setup_of state.algorithm) name places state.clock state.mesh)))
adds_lan state name places true = adds_none state state refl
adds_lan state name places false = adds_attempt state (joins_lan (setup_of state.algorithm) name places state.clock state.mesh)

adds_full : (b : Bool) (state : State) (stopped : Outcome) (after : State) → AddsTo state stopped → Added state after → AddsTo state (cond b stopped (Goes after))
adds_full true state stopped after a b = a
adds_full false state stopped after a b = b

adds_course : (state : State) (t : ℕ) (mesh : Mesh) (stop : Option PassedLimit) → AddsTo state (course_outcome state t mesh stop)
adds_course state t mesh None = adds_events state t mesh
adds_course state t mesh (Some p) = adds_events state p.moment mesh

adds_time : (state : State) (t : ℕ) (past : Bool) → AddsTo state (cond past (Ends state (Limit Clock)) (run_until (setup_of state.algorithm) t state))
adds_time state t true = adds_none state state refl
adds_time state t false = adds_course state t (run_to (setup_of state.algorithm) t state.mesh).mesh (run_to (setup_of state.algorithm) t state.mesh).stop

-- what is printed of a node
adds_print : (state : State) (one : Printed) → ((table : GlobalTable) → GlobalsShown table ≡ one → OfNode state table) → Added state (after_print state one)
adds_print state one of = record { new = one ∷ []; printed = refl; tables = λ table has. only table has }
  where
    only : (table : GlobalTable) → Has (one ∷ []) (GlobalsShown table) → IsAlone state (one ∷ []) table
    only table (inl is) = record { one = one; all_is = refl; of_node = of table is }
    only table (inr none) = absurd none

-- a table that is printed of a node is its own
prints_own : (state : State) (shown_one : Table) (node : NodeLog) (table : GlobalTable) → GlobalsShown table ≡ shown shown_one state node → table ≡ global_table state.algorithm state.clock node
prints_own state Originators node table is = cc
prints_own state Neighbors node table is = cc
prints_own state Locals node table is = cc
prints_own state Globals node table is = cc
prints_own state Claims node table is = cc
prints_own state Gateways node table is = cc
prints_own state Groups node table is = cc
prints_own state Addresses node table is = cc
prints_own state Facts node table is = cc
prints_own state Pictures node table is = cc

node_at : (state : State) (o : Option ℕ) (node : NodeLog) → option_and_then (slice_get state.mesh.nodes) o ≡ Some node → (place : ℕ) × (slice_get state.mesh.nodes place ≡ Some node)
node_at state None node is = cc
node_at state (Some place) node is = (place, is)

adds_show : (state : State) (name : List ℕ) (shown_one : Table) → AddsTo state (show_step name (shown shown_one) state)
adds_show state name shown_one = go (node_named state name) (λ node is. node_at state (place_of state name) node is)
  where
    print : State → NodeLog → Printed
    print = shown shown_one

    go : (o : Option NodeLog) → ((node : NodeLog) → o ≡ Some node → (place : ℕ) × (slice_get state.mesh.nodes place ≡ Some node)) → AddsTo state (option_map_or (λ node. Goes (after_print state (print state node))) o (Goes state))
    go None at = adds_none state state refl
    go (Some node) at = adds_print state (print state node) (λ table is. let p = at node refl in record { place = p.0; node = node; found = p.1; is = prints_own state shown_one node table is })

adds_command : (state : State) (command : Command) → AddsTo state (step_of (setup_of state.algorithm) command state)
adds_command state Nothing = adds_none state state refl
adds_command state (Algo algorithm) = adds_none state (record state { algorithm = algorithm }) refl
adds_command state (Node name mac) = adds_full (nat_le nodes_limit (length state.mesh.nodes)) state (Ends state (Limit Nodes)) (with_node state (new_node name mac state.clock)) (adds_none state state refl) (adds_none state (with_node state (new_node name mac state.clock)) refl)
adds_command state (Link from to delay pattern throughput) =
    let link : ℕ → ℕ → NetLink = λ start end. record { from = start; to = end; delay = delay; pattern = pattern; throughput = throughput } in
    adds_at state (λ start. at_node to (λ end. link_step (link start end))) (place_of state from) (λ start.
    adds_at state (λ end. link_step (link start end)) (place_of state to) (λ end.
    adds_full (nat_le links_limit (length state.mesh.links)) state (Ends state (Limit Links)) (with_link state (link start end)) (adds_none state state refl) (adds_none state (with_link state (link start end)) refl)))
adds_command state (Lan name gateways) = adds_lan state name (places_named gateways 0 state.mesh.nodes) (nat_le lans_limit (length state.mesh.lans))
adds_command state (Frame place src dst vid text) = adds_frame state place (payload_spelling (record { dst = dst; src = src; vid = vid; text = text })) (FrameGiven src dst vid text)
adds_command state (Gone place key) = adds_gone state place (GoneGiven key)
adds_command state (Join node key) = adds_line state node (JoinGiven key)
adds_command state (Leave node key) = adds_line state node (LeaveGiven key)
adds_command state (Arp node mac own asked vid) = adds_line state node (ArpGiven mac own asked vid)
adds_command state (Dhcp node key text) = adds_line state node (DhcpGiven key text)
adds_command state (Wifi node on) = adds_line state node (Sets (WifiSet on))
adds_command state (GwOff node) = adds_line state node (Sets (GatewaySet NoPart))
adds_command state (GwServer node down up) = adds_line state node (Sets (GatewaySet (Serves (record { download = down; upload = up }))))
adds_command state (GwClient node policy) = adds_line state node (Sets (GatewaySet (Chooses policy)))
adds_command state (Mcast node flags) = adds_line state node (Sets (MulticastSet flags))
adds_command state (Dat node on) = adds_line state node (Sets (ArpTableSet on))
adds_command state (Frag node longest) = adds_line state node (Sets (LongestWholeSet longest))
adds_command state (Vis node on) = adds_line state node (Sets (PicturesSet on))
adds_command state (Alfred node mode) = adds_line state node (Sets (FactStoreSet mode))
adds_command state (Put node type_no version text) = adds_line state node (PutGiven type_no version text)
adds_command state (Get node type_no) = adds_line state node (GetGiven type_no)
adds_command state (Ping node target) = adds_session state PingGiven node target
adds_command state (Trace node target) = adds_session state TraceGiven node target
adds_command state (Reboot node) = adds_line state node RebootGiven
adds_command state (RunFor time) = adds_time state (state.clock + time) (nat_lt clock_limit (state.clock + time))
adds_command state (Deliver number) = adds_attempt state (delivered (setup_of state.algorithm) (number - 1) state.clock state.mesh)
adds_command state (Show node table) = adds_show state node table
adds_command state (Decode bytes) = adds_print state (Decoded bytes) (λ table is. absurd (no_table table is))
  where
    no_table : (table : GlobalTable) → GlobalsShown table ≡ Decoded bytes → ⊥
    no_table table is = cc

adds_carried : (state : State) (command : Command) → AddsTo state (carried_out (setup_of state.algorithm) state command)
adds_carried state command = go (first_refused_rule state command)
  where
    go : (o : Option Refusal) → AddsTo state (unless_refused state o (step_of (setup_of state.algorithm) command state))
    go None = adds_command state command
    go (Some refusal) = adds_none state state refl

adds_reading : (state : State) (r : Reading) → AddsTo state (after_reading state r)
adds_reading state (Ok command) = adds_carried state command
adds_reading state (Err stop) = adds_none state state refl

adds_by_line : (state : State) (before : ℕ) (line : List ℕ) → AddsTo state (line_outcome state before line)
unfolding line_outcome
adds_by_line state before line = go (passes_line before line) (passes_input before line)
  where
    go : (l i : Bool) → AddsTo state (cond l (Ends state (Limit Line)) (cond i (Ends state (Limit Input)) (after_reading state (command_of_line (content line)))))
    go true i = adds_none state state refl
    go false true = adds_none state state refl
    go false false = adds_reading state (command_of_line (content line))

adds_outcome : (run : Run) (line : List ℕ) (o : Outcome) → AddsTo run.state o → Added run.state (after_outcome run line o).state
adds_outcome run line (Goes state) a = a
adds_outcome run line (Ends state stop) a = a

adds_after : (run : Run) (line : List ℕ) → Added run.state (after_line run line).state
adds_after run line = go run.halt
  where
    go : (o : Option Halt) → Added run.state (cond (is_some o) run (after_outcome run line (line_outcome run.state run.bytes line))).state
    go None = adds_outcome run line (line_outcome run.state run.bytes line) (adds_by_line run.state run.bytes line)
    go (Some halt) = adds_none run.state run.state refl

-- ---- a whole run
lines_more : (run : Run) (xs : List (List ℕ)) (y : List ℕ) → after_lines run (xs ++ y ∷ []) ≡ after_line (after_lines run xs) y
lines_more run [] y = refl
lines_more run (x ∷ xs) y = lines_more (after_line run x) xs y

-- nothing stands before an item that stands alone
alone : {X : Type 0} (one : X) (more : List X) (e : X) (back : List X) → one ∷ [] ≡ more ++ e ∷ back → more ≡ []
alone one [] e back is = refl
alone one (first ∷ more) e back is = absurd (none more e back (let rest : [] ≡ more ++ e ∷ back = cc in rest))
  where
    none : {X : Type 0} (more : List X) (e : X) (back : List X) → [] ≡ more ++ e ∷ back → ⊥
    none [] e back is = cc
    none (first ∷ more) e back is = cc

parts_next : (choice : FrameChoice) (lines : List (List ℕ)) (line : List ℕ) → PrintsCommits choice lines → PrintsCommits choice (lines ++ line ∷ [])
parts_next choice lines line all before after table part printed has ok none =
    go (split run.state.printed a.new before (GlobalsShown table) after (sym a.printed ∙ sym (ap (λ (r : Run). r.state.printed) (lines_more (start choice) lines line)) ∙ printed))
  where
    run : Run
    run = after_lines (start choice) lines

    a : Added run.state (after_line run line).state
    a = adds_after run line

    go : Split run.state.printed a.new before (GlobalsShown table) → WasCommitted choice (lines ++ line ∷ []) before table part
    go (in_first back p) =
        let w = all before back table part p has ok none in
        record {
          done = w.done;
          rest = w.rest ++ line ∷ [];
          lines_are = ap (λ ls. ls ++ line ∷ []) w.lines_are ∙ append_assoc w.done w.rest (line ∷ []);
          printed_before = w.printed_before;
          node = w.node;
          shown = w.shown;
          of_commit = w.of_commit;
        }
    go (in_second more back p q) =
        let n = a.tables table (split_has a.new more (GlobalsShown table) back q) in
        let first = alone n.one more (GlobalsShown table) back (sym n.all_is ∙ q) in
        let before_is : before ≡ run.state.printed = p ∙ ap (λ ms. run.state.printed ++ ms) first ∙ append-nil run.state.printed in
        record {
          done = lines;
          rest = line ∷ [];
          lines_are = refl;
          printed_before = before_is;
          node = n.of_node.node;
          shown = record { place = n.of_node.place; found = n.of_node.found; table_is = n.of_node.is };
          of_commit = shown_tables_are_committed choice lines n.of_node.place n.of_node.node part n.of_node.found (subst (λ (t : GlobalTable). Has t.parts part) n.of_node.is has) ok
              (subst (PrintedNone part.row.orig) before_is none);
        }

-- the lines that are left, behind those that were done
parts_all : (choice : FrameChoice) (done left : List (List ℕ)) → PrintsCommits choice done → PrintsCommits choice (done ++ left)
parts_all choice done [] all = subst (PrintsCommits choice) (sym (append-nil done)) all
parts_all choice done (line ∷ left) all = subst (PrintsCommits choice) (append_assoc done (line ∷ []) left) (parts_all choice (done ++ line ∷ []) left (parts_next choice done line all))

none_printed : (before : List Printed) (one : Printed) (after : List Printed) → [] ≡ before ++ one ∷ after → ⊥
none_printed [] one after is = cc
none_printed (first ∷ before) one after is = cc

pub printed_tables_are_committed : PrintedTablesAreCommitted
printed_tables_are_committed choice lines = parts_all choice [] lines (λ before after table part is has ok none. absurd (none_printed before (GlobalsShown table) after is))
