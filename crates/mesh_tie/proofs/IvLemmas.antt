-- Algorithm IV keeps originator messages their originators'.
use Rattle.std.proofs.Common.{◌≡◌, ◌+◌, ◌%◌, ℕ, Bool, true, false, cond, ◌==◌, List, ◌∷◌, Some, None, refl, subst}
use Rattle.mesh_base.specs.declared.address.Mac.{Mac}
use Rattle.mesh_model.specs.declared.packet.Head.{Head}
use Rattle.mesh_model.specs.declared.packet.Head.TheVariants.{IvOgm, Bcast, Elp, Ogm2, Unicast, Frag, Unicast4, Icmp, Utvlv}
use Rattle.mesh_model.specs.Routes.AlgorithmIv.{answer_to, forward_head, iv_answer, iv_queries, own_ogm}
use Rattle.mesh_model.specs.Routes.Hearings.{before, heard, hearing}
use Rattle.mesh_model.specs.Routes.Life.{HeardOgm}
use Rattle.mesh_model.specs.Routes.Ogm.{Ogm, ogm_of_head, passes}
use Rattle.mesh_model.specs.Routes.Quality.{echo_quality, own_ogms}
use Rattle.mesh_model.specs.Routes.Queries.{unheard}
use Rattle.mesh_model.specs.Routes.RouteLog.{RouteLog}
use Rattle.mesh_tie.specs.Sources.{IsMessageOf, IsWhole, MessageOf}
use Rattle.mesh_tie.specs.TieLaws.{AllKeep}

own_is : (me : Mac) (number : ℕ) (b : Bool) (head : Head) → IsWhole me → cond b (Some (own_ogm me number)) None ≡ Some head → IsMessageOf me head
own_is me number true head whole is =
    let same : own_ogm me number ≡ head = cc in
    subst (IsMessageOf me) same (record { word = refl; addresses = (whole, whole) })
own_is me number false head whole is = cc

sent_is : (h : HeardOgm) (alive : List HeardOgm) (b : Bool) (sent : Head) → IsWhole h.orig → IsWhole h.from → cond b (Some (forward_head h alive)) None ≡ Some sent → IsMessageOf h.orig sent
sent_is h alive true sent orig from is =
    let same : forward_head h alive ≡ sent = cc in
    subst (IsMessageOf h.orig) same (record { word = refl; addresses = (orig, from) })
sent_is h alive false sent orig from is = cc

heard_is : (me : Mac) (moment : ℕ) (from : Mac) (m : Ogm) (older : List HeardOgm) (echo : ℕ) (b : Bool) (sent : Head) → IsWhole m.orig → IsWhole from
    → (cond b (answer_to (hearing moment from m older echo) (before (hearing moment from m older echo) older)) unheard).forward ≡ Some sent → IsMessageOf m.orig sent
heard_is me moment from m older echo true sent orig whole is =
    let h = hearing moment from m older echo in
    sent_is h (h ∷ before h older) h.sent_on sent orig whole is
heard_is me moment from m older echo false sent orig whole is = cc

message_one : (a b : Mac) → MessageOf a ≡ MessageOf b → a ≡ b
message_one a b is = cc

onward_is : (me : Mac) (log : RouteLog) (moment : ℕ) (from : Mac) (head sent : Head) (orig : Mac) → IsWhole from → IsMessageOf orig head
    → (iv_answer me moment from (ogm_of_head head) (heard me log) (echo_quality me from log)).forward ≡ Some sent → IsMessageOf orig sent
onward_is me log moment from (IvOgm ttl flags seq o prev tq) sent orig whole is forward =
    let m : Ogm = record { ttl = ttl; flags = flags; seq = seq; orig = o; prev = prev; tq = tq } in
    subst (λ x. IsMessageOf x sent) (message_one o orig is.word) (heard_is me moment from m (heard me log) (echo_quality me from log) (passes me m) sent is.addresses.0 whole forward)
onward_is me log moment from (Bcast ttl seq o) sent orig whole is forward = cc
onward_is me log moment from (Elp o seq interval) sent orig whole is forward = cc
onward_is me log moment from (Ogm2 ttl flags seq o throughput) sent orig whole is forward = cc
onward_is me log moment from (Unicast ttl ttvn dst) sent orig whole is forward = cc
onward_is me log moment from (Frag ttl number priority dst o seq total) sent orig whole is forward = cc
onward_is me log moment from (Unicast4 ttl ttvn dst src subtype) sent orig whole is forward = cc
onward_is me log moment from (Icmp ttl msg dst o uid seq) sent orig whole is forward = cc
onward_is me log moment from (Utvlv ttl dst src) sent orig whole is forward = cc

pub iv_keeps : AllKeep iv_queries
iv_keeps me = record {
  own = λ log index head whole is. own_is me (own_ogms log + 1) (index % 2 == 0) head whole is;
  onward = λ log moment from throughput head sent orig whole is forward. onward_is me log moment from head sent orig whole is forward;
  elps = λ log index head is. cc;
}
