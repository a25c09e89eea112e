-- Algorithm V keeps originator messages their originators', and so each algorithm does.
use Rattle.std.proofs.Common.{◌≡◌, ◌+◌, ℕ, Bool, true, false, cond, List, Some, None, refl, subst}
use Rattle.mesh_base.specs.declared.address.Mac.{Mac}
use Rattle.mesh_model.specs.declared.line_form.Algorithm.TheVariants.{Iv, V}
use Rattle.mesh_model.specs.declared.packet.Head.{Head}
use Rattle.mesh_model.specs.declared.packet.Head.TheVariants.{IvOgm, Bcast, Elp, Ogm2, Unicast, Frag, Unicast4, Icmp, Utvlv}
use Rattle.mesh_model.specs.Routes.AlgorithmV.{answer_to_v, forward_head_v, own_elp, own_ogm_v, v_answer, v_queries}
use Rattle.mesh_model.specs.Routes.Hearings.{before}
use Rattle.mesh_model.specs.Routes.HearingsV.{heard_v, hearing_v, passes_v}
use Rattle.mesh_model.specs.Routes.Life.{HeardOgm}
use Rattle.mesh_model.specs.Routes.Neighbours.{is_up}
use Rattle.mesh_model.specs.Routes.Ogm2.{OgmV, ogm2_of_head}
use Rattle.mesh_model.specs.Routes.Quality.{own_ogms}
use Rattle.mesh_model.specs.Routes.Queries.{is_elp, unheard}
use Rattle.mesh_model.specs.Routes.RouteLog.{RouteLog, is_ogm_tick, own_ticks}
use Rattle.mesh_tie.specs.Sources.{IsMessageOf, IsWhole, MessageOf}
use Rattle.mesh_tie.specs.TieLaws.{AlgorithmsKeep, AllKeep}
use Rattle.mesh_tie.proofs.IvLemmas.{iv_keeps}

own_is : (me : Mac) (number : ℕ) (b : Bool) (head : Head) → IsWhole me → cond b (Some (own_ogm_v me number)) None ≡ Some head → IsMessageOf me head
own_is me number true head whole is =
    let same : own_ogm_v me number ≡ head = cc in
    subst (IsMessageOf me) same (record { word = refl; addresses = whole })
own_is me number false head whole is = cc

elp_is : (me : Mac) (number : ℕ) (head : Head) → Some (own_elp me number) ≡ Some head → is_elp head ≡ true
elp_is me number head is =
    let same : own_elp me number ≡ head = cc in
    subst (λ h. is_elp h ≡ true) same refl

sent_is : (flags : ℕ) (h : HeardOgm) (b : Bool) (sent : Head) → IsWhole h.orig → cond b (Some (forward_head_v flags h)) None ≡ Some sent → IsMessageOf h.orig sent
sent_is flags h true sent orig is =
    let same : forward_head_v flags h ≡ sent = cc in
    subst (IsMessageOf h.orig) same (record { word = refl; addresses = orig })
sent_is flags h false sent orig is = cc

heard_is : (up : Mac → Bool) (moment : ℕ) (from : Mac) (throughput : ℕ) (m : OgmV) (older : List HeardOgm) (b : Bool) (sent : Head) → IsWhole m.orig
    → (cond b (answer_to_v m.flags (hearing_v up moment from throughput m older) (before (hearing_v up moment from throughput m older) older)) unheard).forward ≡ Some sent → IsMessageOf m.orig sent
heard_is up moment from throughput m older true sent orig is =
    let h = hearing_v up moment from throughput m older in
    sent_is m.flags h h.sent_on sent orig is
heard_is up moment from throughput m older false sent orig is = cc

message_one : (a b : Mac) → MessageOf a ≡ MessageOf b → a ≡ b
message_one a b is = cc

onward_is : (me : Mac) (log : RouteLog) (moment : ℕ) (from : Mac) (throughput : ℕ) (head sent : Head) (orig : Mac) → IsMessageOf orig head
    → (v_answer me (λ k. is_up moment k log) moment from throughput (ogm2_of_head head) (heard_v me log)).forward ≡ Some sent → IsMessageOf orig sent
onward_is me log moment from throughput (IvOgm ttl flags seq o prev tq) sent orig is forward = cc
onward_is me log moment from throughput (Bcast ttl seq o) sent orig is forward = cc
onward_is me log moment from throughput (Elp o seq interval) sent orig is forward = cc
onward_is me log moment from throughput (Ogm2 ttl flags seq o told) sent orig is forward =
    let m : OgmV = record { ttl = ttl; flags = flags; seq = seq; orig = o; throughput = told } in
    let up : Mac → Bool = λ k. is_up moment k log in
    subst (λ x. IsMessageOf x sent) (message_one o orig is.word) (heard_is up moment from throughput m (heard_v me log) (passes_v me (up from) m) sent is.addresses forward)
onward_is me log moment from throughput (Unicast ttl ttvn dst) sent orig is forward = cc
onward_is me log moment from throughput (Frag ttl number priority dst o seq total) sent orig is forward = cc
onward_is me log moment from throughput (Unicast4 ttl ttvn dst src subtype) sent orig is forward = cc
onward_is me log moment from throughput (Icmp ttl msg dst o uid seq) sent orig is forward = cc
onward_is me log moment from throughput (Utvlv ttl dst src) sent orig is forward = cc

v_keeps : AllKeep v_queries
v_keeps me = record {
  own = λ log index head whole is. own_is me (own_ogms log + 1) (is_ogm_tick index) head whole is;
  onward = λ log moment from throughput head sent orig whole is forward. onward_is me log moment from throughput head sent orig is forward;
  elps = λ log index head is. elp_is me (own_ticks log + 1) head is;
}

pub algorithms_keep : AlgorithmsKeep
algorithms_keep Iv = iv_keeps
algorithms_keep V = v_keeps
