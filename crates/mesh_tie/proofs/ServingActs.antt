-- What the rows of groups and of calls for a gateway put: a client frame on its way to an originator,
-- to all nodes, or to the clients of the node.
use Rattle.std.proofs.Common.{◌≡◌, inl, inr, Bool, true, false, cond, List, [], ◌∷◌, filter_map, length, map, Option, Some, None, option_and_then, option_map, refl}
use Rattle.std.specs.List.{AllByRecursion, cons_option}
use Rattle.mesh_base.specs.declared.address.Mac.{Mac}
use Rattle.mesh_base.specs.declared.event.Reason.{Reason}
use Rattle.mesh_base.specs.declared.event.Reason.TheVariants.{Gw, Mc}
use Rattle.mesh_model.specs.declared.act.Act.{Act}
use Rattle.mesh_model.specs.declared.service.Fan.{Fan}
use Rattle.mesh_model.specs.declared.service.Fan.TheVariants.{Nobody, Each, Flood}
use Rattle.mesh_model.specs.Acts.BridgeRows.{Place, handed_out}
use Rattle.mesh_model.specs.Acts.GroupRows.{call_acts, called, each_acts, fan_acts, flooded, group_acts, receivers_acts, sent_on}
use Rattle.mesh_model.specs.Clients.Mentions.{key_of}
use Rattle.mesh_model.specs.Knowledge.Addressee.{way_to}
use Rattle.mesh_model.specs.Knowledge.Known.{Knowledge}
use Rattle.mesh_model.specs.Knowledge.Offers.{receivers}
use Rattle.mesh_model.specs.Net.Next.{Has}
use Rattle.mesh_model.specs.Packets.Payload.{ClientFrame}
use Rattle.mesh_model.specs.Routes.Queries.{Queries}
use Rattle.mesh_model.specs.Services.Groups.{fan_of}
use Rattle.mesh_tie.proofs.EntryLemmas.{each_appended}

-- why a client frame goes to an originator that serves
pub data IsServingReason : Reason → Type 0 where
  for_group : IsServingReason Mc
  for_gateway : IsServingReason Gw

-- an act of these rows for a client frame, where something holds of the originators that it goes to
pub data IsServing (P : Mac → Type 0) (q : Queries) (known : Knowledge) (at : Place) (frame : ClientFrame) : Act → Type 0 where
  serves_one : (orig next : Mac) (reason : Reason) → P orig → IsServingReason reason → IsServing P q known at frame (sent_on q known at frame (record { orig = orig; next = next; reason = reason }))
  serves_all : IsServing P q known at frame (flooded known at frame)
  serves_here : IsServing P q known at frame (handed_out at frame)

abbrev pub AreServing : (Mac → Type 0) → Queries → Knowledge → Place → ClientFrame → List Act → Type 0
AreServing P q known at frame acts = AllByRecursion (IsServing P q known at frame) acts

-- what holds of each such act
pub each_serving : (P : Mac → Type 0) (q : Queries) (known : Knowledge) (at : Place) (frame : ClientFrame) (R : Act → Type 0) → ((act : Act) → IsServing P q known at frame act → R act) → (acts : List Act) → AreServing P q known at frame acts → AllByRecursion R acts
each_serving P q known at frame R one [] all = tt
each_serving P q known at frame R one (act ∷ acts) all = (one act all.0, each_serving P q known at frame R one acts all.1)

-- ---- groups
each_serves : (P : Mac → Type 0) (q : Queries) (known : Knowledge) (at : Place) (frame : ClientFrame) (macs : List Mac) → ((orig : Mac) → Has macs orig → P orig) → AreServing P q known at frame (each_acts q known at frame macs)
each_serves P q known at frame [] holds = tt
each_serves P q known at frame (orig ∷ rest) holds = go (q.route known.routes at.now orig) (holds orig (inl refl)) (each_serves P q known at frame rest (λ other has. holds other (inr has)))
  where
    go : (o : Option Mac) → P orig → AreServing P q known at frame (each_acts q known at frame rest)
        → AreServing P q known at frame (map (sent_on q known at frame) (cons_option (option_map (λ next. record { orig = orig; next = next; reason = Mc }) o) (filter_map (way_to q known at.now Mc) rest)))
    go None one more = more
    go (Some next) one more = (serves_one orig next Mc one for_group, more)

fan_serves : (P : Mac → Type 0) (q : Queries) (known : Knowledge) (at : Place) (frame : ClientFrame) (macs : List Mac) (fan : Fan) → ((orig : Mac) → Has macs orig → P orig) → AreServing P q known at frame (fan_acts q known at frame macs fan)
fan_serves P q known at frame macs Nobody holds = tt
fan_serves P q known at frame macs Each holds = each_serves P q known at frame macs holds
fan_serves P q known at frame macs Flood holds = (serves_all, tt)

pub group_serves : (P : Mac → Type 0) (q : Queries) (known : Knowledge) (at : Place) (frame : ClientFrame) (joined : Bool) → ((orig : Mac) → Has (receivers q known at.now (key_of frame.dst frame.vid)) orig → P orig) → AreServing P q known at frame (group_acts q known at frame joined)
unfolding group_acts
group_serves P q known at frame joined holds =
    each_appended (IsServing P q known at frame) (cond joined (handed_out at frame ∷ []) []) (receivers_acts q known at frame macs) (here joined) (fan_serves P q known at frame macs (fan_of (length macs)) holds)
  where
    macs : List Mac
    macs = receivers q known at.now (key_of frame.dst frame.vid)

    here : (b : Bool) → AreServing P q known at frame (cond b (handed_out at frame ∷ []) [])
    here true = (serves_here, tt)
    here false = tt

-- ---- calls for a gateway
pub call_serves : (P : Mac → Type 0) (q : Queries) (known : Knowledge) (at : Place) (frame : ClientFrame) → ((orig : Mac) → known.services.choice ≡ Some orig → P orig) → AreServing P q known at frame (call_acts q known at frame)
unfolding call_acts
call_serves P q known at frame holds = go known.services.choice holds
  where
    by : (orig : Mac) → P orig → (o : Option Mac) → AreServing P q known at frame (called q known at frame (option_map (λ next. record { orig = orig; next = next; reason = Gw }) o))
    by orig one None = (serves_all, tt)
    by orig one (Some next) = (serves_one orig next Gw one for_gateway, tt)

    go : (o : Option Mac) → ((orig : Mac) → o ≡ Some orig → P orig) → AreServing P q known at frame (called q known at frame (option_and_then (way_to q known at.now Gw) o))
    go None one = (serves_all, tt)
    go (Some orig) one = by orig (one orig refl) (q.route known.routes at.now orig)
