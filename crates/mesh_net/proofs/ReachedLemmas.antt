-- What holds of every mesh that is reached, as the laws of the net need it.
use Rattle.std.proofs.Common.{◌≡◌, ℕ, ◌≤◌, inl, inr, List, [], Ok, refl, sym, ap, ◌∙◌, subst, arith}
use Rattle.mesh_base.specs.declared.address.Mac.{Mac}
use Rattle.mesh_model.specs.declared.happening.Happening.{Happening}
use Rattle.mesh_model.specs.Clients.Log.{Given, Tick, LinkFrame, LanFrame, Line, LineGiven, Attach, Frame, Gone, Join, Leave, Arp, Dhcp, Sets, Put, Get, Ping, Trace, Reboot}
use Rattle.mesh_model.specs.Net.Due.{ticks_by}
use Rattle.mesh_model.specs.Net.Inputs.{given_to}
use Rattle.mesh_model.specs.Net.Limits.{clock_limit, scenario_setup}
use Rattle.mesh_model.specs.Net.Mesh.{NodeLog, SentFrame, Mesh}
use Rattle.mesh_model.specs.Net.Next.{Has, IsNext}
use Rattle.mesh_model.specs.Routes.Queries.{Queries}
use Rattle.mesh_model.specs.Run.Steps.{new_node}
use Rattle.mesh_laws.specs.GatewayLaws.{IsNoLan, LansStand}
use Rattle.mesh_laws.specs.Soundness.{IsSound, KeepsBytes, GivesItsBytes}
use Rattle.mesh_laws.proofs.Gateways.Joining.{all_stand, deliveries_stand, empty_stands, inputs_stand, lans_stand, links_stand, nodes_stand, puts_stand}
use Rattle.mesh_laws.proofs.Gateways.Standing.{happenings_stand}
use Rattle.mesh_laws.proofs.LanLemmas.{effect_bytes, joined_bytes, joined_sound}
use Rattle.mesh_laws.proofs.Schedule.Added.{empty_sound, empty_bytes, nodes_sound, links_sound}
use Rattle.mesh_laws.proofs.Schedule.Due.{next_first}
use Rattle.mesh_laws.proofs.Schedule.Kept.{bytes_after}
use Rattle.mesh_laws.proofs.Schedule.Members.{get_last}
use Rattle.mesh_laws.proofs.Schedule.Sound.{steps_keep_sound, lines_keep_sound}
use Rattle.mesh_laws.proofs.Schedule.Steps.{all_effect, delivered_effect, no_ticks, put_joins, step_is, tickless, ticks_of}
use Rattle.mesh_laws.proofs.Schedule.Steps.{lan_joins as joined_effect}
use Rattle.mesh_net.specs.Reached.{IsReached, begun_watch, begins, joins, links, lan_joins, lan_comes, all_are_given, is_given, is_delivered, happens, passes, IsOfLine, LeavesPlace}
use Rattle.mesh_post.specs.Joining.{with_node}

-- what holds of a mesh that is reached, with the clock
pub record Reached (clock : ℕ) (mesh : Mesh) : Type 0 where
  pub sound : IsSound mesh
  pub lans : LansStand mesh
  pub bytes : KeepsBytes mesh
  pub past : mesh.last.moment ≤ clock
  pub low : clock ≤ clock_limit

-- what a line gives is no tick, and no link frame
pub of_line : (frames : List SentFrame) (given : Given) → IsOfLine given → (ticks_by given ≡ 0) × GivesItsBytes frames given
of_line frames (Tick index) l = absurd l
of_line frames (LinkFrame number from throughput bytes) l = absurd l
of_line frames (LanFrame bytes) l = absurd l
of_line frames (Line line) l = (refl, tt)

-- nor does it make a node a gateway
no_lan : (line : LineGiven) → LeavesPlace line → IsNoLan line
no_lan (Attach lan gateways) l = absurd l
no_lan (Frame src dst vid text) l = λ lan gateways e. cc
no_lan (Gone key) l = λ lan gateways e. cc
no_lan (Join key) l = λ lan gateways e. cc
no_lan (Leave key) l = λ lan gateways e. cc
no_lan (Arp mac own_ip asked_ip vid) l = λ lan gateways e. cc
no_lan (Dhcp key text) l = λ lan gateways e. cc
no_lan (Sets setting) l = λ lan gateways e. cc
no_lan (Put type_no version text) l = λ lan gateways e. cc
no_lan (Get type_no) l = λ lan gateways e. cc
no_lan (Ping target) l = λ lan gateways e. cc
no_lan (Trace target) l = λ lan gateways e. cc
no_lan Reboot l = λ lan gateways e. cc

input_lans : (queries : Mac → Queries) (place clock : ℕ) (given : Given) (mesh after : Mesh) → IsOfLine given → LansStand mesh → given_to (scenario_setup queries) place clock 0 given mesh ≡ Ok after → LansStand after
input_lans queries place clock (Tick index) mesh after l stand e = absurd l
input_lans queries place clock (LinkFrame number from throughput bytes) mesh after l stand e = absurd l
input_lans queries place clock (LanFrame bytes) mesh after l stand e = absurd l
input_lans queries place clock (Line line) mesh after l stand e = inputs_stand (scenario_setup queries) place clock 0 line mesh after stand (no_lan line l) e

node_bytes : (mesh : Mesh) (new : NodeLog) → new.log ≡ [] → KeepsBytes mesh → KeepsBytes (with_node new mesh)
node_bytes mesh new empty bytes place node found entry h = elim (get_last mesh.nodes new place node found) as (λ _. GivesItsBytes mesh.frames entry.given) [
  | inl old ↦ bytes place node old entry h
  | inr e ↦ absurd (subst (λ l. Has l entry) (ap (λ (n : NodeLog). n.log) e ∙ empty) h)
]

pub reached : (queries : Mac → Queries) (clock : ℕ) (mesh : Mesh) → IsReached (scenario_setup queries) clock mesh → Reached clock mesh
reached queries _ _ (begins watched) = record { sound = empty_sound (begun_watch watched); lans = empty_stands (begun_watch watched); bytes = empty_bytes (begun_watch watched); past = omega arith; low = omega arith }
reached queries _ _ (joins clock mesh name mac way few) =
    let r = reached queries clock mesh way in
    record { sound = nodes_sound mesh (new_node name mac clock) r.sound refl r.past (omega (arith, few)); lans = nodes_stand mesh (new_node name mac clock) r.lans refl; bytes = node_bytes mesh (new_node name mac clock) refl r.bytes; past = r.past; low = r.low }
reached queries _ _ (links clock mesh link way few new) =
    let r = reached queries clock mesh way in
    record { sound = links_sound mesh link r.sound new.least; lans = links_stand mesh link r.lans; bytes = r.bytes; past = r.past; low = r.low }
reached queries _ _ (lan_joins clock mesh after name gateways way few new e) =
    let r = reached queries clock mesh way in
    let x = joined_effect (scenario_setup queries) name gateways clock mesh after e in
    record {
      sound = joined_sound (scenario_setup queries) name gateways clock mesh after (omega arith) r.sound e;
      lans = lans_stand (scenario_setup queries) name gateways clock mesh after r.lans new.can e;
      bytes = joined_bytes (scenario_setup queries) name gateways clock mesh after r.bytes e;
      past = subst (λ (h : Happening). h.moment ≤ clock) (sym x.last) r.past;
      low = r.low;
    }
reached queries _ _ (lan_comes clock mesh after put way by now low e) =
    let r = reached queries clock mesh way in
    let x = put_joins (scenario_setup queries) put mesh after low e in
    record {
      sound = lines_keep_sound (scenario_setup queries) mesh put.moment after (omega arith) r.sound x;
      lans = puts_stand (scenario_setup queries) put mesh after r.lans low e;
      bytes = effect_bytes (scenario_setup queries) put.moment mesh after r.bytes x;
      past = subst (λ (h : Happening). h.moment ≤ clock) (sym x.last) r.past;
      low = r.low;
    }
reached queries _ _ (all_are_given clock mesh after places line way leaves e) =
    let r = reached queries clock mesh way in
    let x = all_effect (scenario_setup queries) places clock (Line line) mesh after refl (λ frames. tt) e in
    record {
      sound = lines_keep_sound (scenario_setup queries) mesh clock after (omega arith) r.sound x;
      lans = all_stand (scenario_setup queries) places clock line mesh after r.lans (no_lan line leaves) e;
      bytes = effect_bytes (scenario_setup queries) clock mesh after r.bytes x;
      past = subst (λ (h : Happening). h.moment ≤ clock) (sym x.last) r.past;
      low = r.low;
    }
reached queries _ _ (is_given clock mesh after place given way line e) =
    let r = reached queries clock mesh way in
    let l = of_line mesh.frames given line in
    let x = tickless (scenario_setup queries) mesh place clock 0 given after l.0 l.1 e in
    record {
      sound = lines_keep_sound (scenario_setup queries) mesh clock after (omega arith) r.sound x;
      lans = input_lans queries place clock given mesh after line r.lans e;
      bytes = bytes_after (scenario_setup queries) no_ticks clock mesh after r.bytes x.nodes x.adds;
      past = subst (λ (h : Happening). h.moment ≤ clock) (sym x.last) r.past;
      low = r.low;
    }
reached queries _ _ (is_delivered clock mesh after place way e) =
    let r = reached queries clock mesh way in
    let x = delivered_effect (scenario_setup queries) mesh place clock after e in
    record {
      sound = lines_keep_sound (scenario_setup queries) mesh clock after (omega arith) r.sound x;
      lans = deliveries_stand (scenario_setup queries) place clock mesh after r.lans e;
      bytes = bytes_after (scenario_setup queries) no_ticks clock mesh after r.bytes x.nodes x.adds;
      past = subst (λ (h : Happening). h.moment ≤ clock) (sym x.last) r.past;
      low = r.low;
    }
reached queries _ _ (happens clock mesh after h way next later within e) =
    let r = reached queries clock mesh way in
    let f = next_first mesh r.sound h next in
    let n : IsNext h.moment mesh h = record { happens = f.happens; after = f.after; within = omega arith; first = f.first } in
    let s = step_is (scenario_setup queries) mesh h after e in
    record {
      sound = steps_keep_sound (scenario_setup queries) h.moment mesh after h (omega arith) r.sound n e;
      lans = happenings_stand (scenario_setup queries) mesh after h r.lans e;
      bytes = bytes_after (scenario_setup queries) (ticks_of h.class h.place) h.moment mesh after r.bytes s.nodes s.adds;
      past = subst (λ (x : Happening). x.moment ≤ h.moment) (sym s.last) (omega arith);
      low = within;
    }
reached queries _ _ (passes clock later mesh way l low quiet) =
    let r = reached queries clock mesh way in
    let p = r.past in
    record { sound = r.sound; lans = r.lans; bytes = r.bytes; past = omega (arith, p, l); low = low }
