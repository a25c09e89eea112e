-- What a node puts is carried out, one act after another.
use Rattle.std.proofs.Common.{◌≡◌, ℕ, zero, suc, ◌<◌, inl, inr, List, [], ◌∷◌, length, Bool, true, false, slice_get, Option, Some, None, Result, Ok, Err, refl, sym, ap, ◌∙◌, subst, append-nil}
use Rattle.std.specs.Result.{OnOk, IfErr}
use Rattle.mesh_base.specs.declared.address.Mac.{Mac}
use Rattle.mesh_base.specs.declared.event.Event.{Event}
use Rattle.mesh_model.specs.declared.act.Act.{Act}
use Rattle.mesh_model.specs.declared.ending.LimitName.{LimitName}
use Rattle.mesh_model.specs.declared.ending.LimitName.TheVariants as limits
use Rattle.mesh_model.specs.declared.frame_choice.FrameChoice.{FrameChoice}
use Rattle.mesh_model.specs.declared.happening.Happening.{Happening}
use Rattle.mesh_model.specs.Acts.Choosing.{acts_of}
use Rattle.mesh_model.specs.Acts.NodeLimits.{NodeLimit, node_limit}
use Rattle.mesh_model.specs.Clients.Log.{Given, LogEntry}
use Rattle.mesh_model.specs.Net.Inputs.{entry_of, noted_at, noted, given_to, given_node, unless_passed}
use Rattle.mesh_model.specs.Net.Limits.{scenario_setup}
use Rattle.mesh_model.specs.Net.Mesh.{NodeLog, NetLink, Mesh, address_at}
use Rattle.mesh_post.specs.declared.row.Row.{Row}
use Rattle.mesh_post.specs.Kept.{RowIs}
use Rattle.mesh_post.proofs.LookUps.{some_one}
use Rattle.mesh_model.specs.Net.Sending.{Attempt, on_ok, after_acts}
use Rattle.mesh_model.specs.Routes.Queries.{Queries}
use Rattle.mesh_model.specs.Routes.RouteLog.{RouteLog}
use Rattle.node_ground.specs.declared.failure.NodeErr.{NodeErr}
use Rattle.node_ground.specs.declared.failure.NodeErr.TheVariants.{Memory, Clients, Vlans, Frames, FrameBytes, Cuts, Dead}
use Rattle.mesh_node.specs.declared.node.Node.{Node}
use Rattle.mesh_node.specs.NodeStands.{NodeStands}
use Rattle.node_ground.specs.Errors.{HasCause, HasOwnCause}
use Rattle.node_ground.specs.Puts.{TakesAll, StopsAt, StopsBehind, Puts, Leaves}
use Rattle.mesh_post.specs.declared.port.NetPort.{NetPort}
use Rattle.mesh_post.specs.declared.post.Post.{Post}
use Rattle.mesh_post.specs.declared.row.Sender.{Sender}
use Rattle.mesh_post.specs.declared.row.Sending.{Sending}
use Rattle.mesh_net.specs.Given.{HasGiven, GiveTells}
use Rattle.mesh_post.specs.Refused.{PortSame}
use Rattle.mesh_post.specs.Sent.{InStep, MaySend, Logged, Grew, PortTook, passed_by, actor_of}
use Rattle.mesh_post.proofs.ActLemmas.{over_act}
use Rattle.mesh_post.proofs.Besides.{step_over}
use Rattle.mesh_post.proofs.Midway.{logged_none, logged_both, grew_none, grew_both}

-- what a port would pass
abbrev pub port_over : NetPort → Act → Option LimitName
port_over p act = passed_by p.post.now p.sender.place act

-- ---- what stays of a port
pub record PortKept (old new : NetPort) : Type 0 where
  pub post : new.post.ghost_name ≡ old.post.ghost_name
  pub log : new.log.ghost_name ≡ old.log.ghost_name
  pub grew : Grew old.log.now new.log.now

kept_none : (p : NetPort) → PortKept p p
kept_none p = record { post = refl; log = refl; grew = grew_none p.log.now }

kept_both : (p q r : NetPort) → PortKept p q → PortKept q r → PortKept p r
kept_both p q r a b = record { post = b.post ∙ a.post; log = b.log ∙ a.log; grew = grew_both p.log.now q.log.now r.log.now a.grew b.grew }

took_kept : (p q : NetPort) (act : Act) → PortTook p act q → PortKept p q
took_kept p q act t = record { post = t.post; log = t.log; grew = t.grew }

pub same_kept : (p q : NetPort) → PortSame p q → PortKept p q
same_kept p q s = record { post = s.post; log = s.log; grew = record { more = []; is = s.told ∙ sym (append-nil p.log.now) } }

all_kept : (p : NetPort) (acts : List Act) (q : NetPort) → TakesAll PortTook port_over p acts q → PortKept p q
all_kept p [] q t = subst (PortKept p) t (kept_none p)
all_kept p (act ∷ acts) q t = kept_both p t.0 q (took_kept p t.0 act t.1) (all_kept t.0 acts q t.3)

stop_kept : (error : NodeErr) (p : NetPort) (acts : List Act) (q : NetPort) → StopsAt PortTook PortSame port_over error p acts q → PortKept p q
stop_kept error p [] q t = same_kept p q t.0
stop_kept error p (act ∷ acts) q t = elim t as (λ _. PortKept p q) [
  | inl s ↦ same_kept p q s.0
  | inr s ↦ kept_both p s.0 q (took_kept p s.0 act s.1) (stop_kept error s.0 acts q s.3)
]

puts_kept : (p : NetPort) (acts : List Act) (r : Result Unit NodeErr) (q : NetPort) → Puts PortTook PortSame port_over p acts r q → PortKept p q
puts_kept p acts (Ok done) q t = all_kept p acts q t
puts_kept p acts (Err error) q t = stop_kept error p acts q t

behind_kept : (limit : LimitName) (p : NetPort) (acts : List Act) (r : Result Unit NodeErr) (q : NetPort) → StopsBehind PortTook PortSame port_over limit p acts r q → PortKept p q
behind_kept limit p [] r q t = same_kept p q t.0
behind_kept limit p (act ∷ acts) r q t = elim t as (λ _. PortKept p q) [
  | inl s ↦ same_kept p q s.0
  | inr s ↦ kept_both p s.0 q (took_kept p s.0 act s.1) (behind_kept limit s.0 acts r q s.3)
]

pub leaves_kept : (o : Option NodeLimit) (p : NetPort) (acts : List Act) (r : Result Unit NodeErr) (q : NetPort) → Leaves PortTook PortSame port_over o p acts r q → PortKept p q
leaves_kept None p acts r q t = puts_kept p acts r q t
leaves_kept (Some passed) p acts r q t = behind_kept passed.limit p passed.acts r q t

-- ---- what the mesh becomes
pub record HasPut (queries : Mac → Queries) (choice : FrameChoice) (sender : Sender) (acts : List Act) (post : Post) (older : List Sending) (last : Happening) (ticks : List Happening) (before : Mesh) (old new : List Event) : Type 0 where
  pub after : Mesh
  pub is : after_acts (scenario_setup queries) (actor_of sender) acts before ≡ Ok after
  pub step : InStep post older last ticks after
  pub choice_is : post.choice ≡ choice
  pub logged : Logged choice before after old new
  pub nodes : after.nodes ≡ before.nodes

may_next : (sender sender' : Sender) (last : Happening) (mesh after : Mesh) → sender' ≡ sender → after.nodes ≡ mesh.nodes → MaySend sender last mesh → MaySend sender' last after
may_next sender sender' last mesh after same nodes may = subst (λ s. MaySend s last after) (sym same) (record { place = subst (λ ns. sender.place < length ns) (sym nodes) may.place; late = may.late; soon = may.soon })

pub put_all : (queries : Mac → Queries) (older : List Sending) (last : Happening) (ticks : List Happening) (p : NetPort) (acts : List Act) (q : NetPort) (mesh : Mesh) → TakesAll PortTook port_over p acts q → InStep p.post.now older last ticks mesh → MaySend p.sender last mesh
    → HasPut queries p.post.now.choice p.sender acts q.post.now older last ticks mesh p.log.now q.log.now
put_all queries older last ticks p [] q mesh t step may = subst (λ (r : NetPort). HasPut queries p.post.now.choice p.sender [] r.post.now older last ticks mesh p.log.now r.log.now) t
    (record { after = mesh; is = refl; step = step; choice_is = refl; logged = logged_none p.post.now.choice mesh p.log.now; nodes = refl })
put_all queries older last ticks p (act ∷ acts) q mesh t step may =
    let m : NetPort = t.0 in
    let a = t.1.took queries older last ticks mesh step may in
    let b = put_all queries older last ticks m acts q a.after t.3 a.step (may_next p.sender m.sender last mesh a.after t.1.sender a.nodes may) in
    record {
      after = b.after;
      is = ap (on_ok (after_acts (scenario_setup queries) (actor_of p.sender) acts)) a.is ∙ ap (λ s. after_acts (scenario_setup queries) (actor_of s) acts a.after) (sym t.1.sender) ∙ b.is;
      step = b.step;
      choice_is = b.choice_is ∙ t.1.choice;
      logged = logged_both p.post.now.choice mesh a.after b.after p.log.now m.log.now q.log.now a.logged (subst (λ k. Logged k a.after b.after m.log.now q.log.now) t.1.choice b.logged);
      nodes = b.nodes ∙ a.nodes;
    }

-- the limit that an error names
abbrev pub Named : NodeErr → Attempt → Type 0
Named error attempt = GiveTells attempt error

on_err : (f : Mesh → Attempt) (a : Attempt) (limit : LimitName) → a ≡ Err limit → on_ok f a ≡ Err limit
on_err f a limit e = ap (on_ok f) e

named_cause : (error : NodeErr) (over : Option LimitName) (attempt : Attempt) → HasCause over error → ((limit : LimitName) → over ≡ Some limit → attempt ≡ Err limit) → Named error attempt
named_cause Memory over attempt c e = tt
named_cause Clients over attempt c e = absurd c
named_cause Vlans over attempt c e = absurd c
named_cause Frames over attempt c e = e limits.Frames c
named_cause FrameBytes over attempt c e = e limits.FrameBytes c
named_cause Cuts over attempt c e = absurd c
named_cause Dead over attempt c e = absurd c

none_named : (error : NodeErr) (attempt : Attempt) → HasCause None error → Named error attempt
none_named error attempt c = named_cause error None attempt c (λ limit e. cc)

pub named_map : (error : NodeErr) (a b : Attempt) → ((limit : LimitName) → a ≡ Err limit → b ≡ Err limit) → Named error a → Named error b
named_map Memory a b f n = tt
named_map Clients a b f n = f limits.Clients n
named_map Vlans a b f n = f limits.Vlans n
named_map Frames a b f n = f limits.Frames n
named_map FrameBytes a b f n = f limits.FrameBytes n
named_map Cuts a b f n = f limits.Cuts n
named_map Dead a b f n = n

pub stop_named : (queries : Mac → Queries) (older : List Sending) (last : Happening) (ticks : List Happening) (error : NodeErr) (p : NetPort) (acts : List Act) (q : NetPort) (mesh : Mesh) → StopsAt PortTook PortSame port_over error p acts q → InStep p.post.now older last ticks mesh → MaySend p.sender last mesh
    → Named error (after_acts (scenario_setup queries) (actor_of p.sender) acts mesh)
stop_named queries older last ticks error p [] q mesh t step may = none_named error (Ok mesh) t.1
stop_named queries older last ticks error p (act ∷ acts) q mesh t step may = elim t as (λ _. Named error (after_acts (scenario_setup queries) (actor_of p.sender) (act ∷ acts) mesh)) [
  | inl s ↦ named_cause error (port_over p act) (after_acts (scenario_setup queries) (actor_of p.sender) (act ∷ acts) mesh) s.1
      (λ limit e. ap (on_ok (after_acts (scenario_setup queries) (actor_of p.sender) acts)) (over_act queries p.post.now older last ticks p.sender act mesh limit step may.place e))
  | inr s ↦
      let m : NetPort = s.0 in
      let a = s.1.took queries older last ticks mesh step may in
      let n = stop_named queries older last ticks error m acts q a.after s.3 a.step (may_next p.sender m.sender last mesh a.after s.1.sender a.nodes may) in
      named_map error (after_acts (scenario_setup queries) (actor_of m.sender) acts a.after) (after_acts (scenario_setup queries) (actor_of p.sender) (act ∷ acts) mesh)
      (λ limit e. ap (on_ok (after_acts (scenario_setup queries) (actor_of p.sender) acts)) a.is ∙ ap (λ v. after_acts (scenario_setup queries) (actor_of v) acts a.after) (sym s.1.sender) ∙ e) n
]

-- ---- a node notes an entry
noted_length : (place : ℕ) (entry : LogEntry) (nodes : List NodeLog) → length (noted_at place entry nodes) ≡ length nodes
noted_length place entry [] = refl
noted_length zero entry (node ∷ rest) = refl
noted_length (suc place) entry (node ∷ rest) = ap suc (noted_length place entry rest)

noted_address : (place : ℕ) (entry : LogEntry) (nodes : List NodeLog) (p : ℕ) → address_at p (noted_at place entry nodes) ≡ address_at p nodes
noted_address place entry [] p = refl
noted_address zero entry (node ∷ rest) zero = refl
noted_address zero entry (node ∷ rest) (suc p) = refl
noted_address (suc place) entry (node ∷ rest) zero = refl
noted_address (suc place) entry (node ∷ rest) (suc p) = noted_address place entry rest p

noted_row : (place : ℕ) (entry : LogEntry) (nodes : List NodeLog) (link : NetLink) (row : Row) → RowIs nodes link row → RowIs (noted_at place entry nodes) link row
noted_row place entry nodes link row is = record {
  from = is.from;
  to = is.to;
  start = is.start ∙ sym (noted_address place entry nodes link.from);
  end = is.end ∙ sym (noted_address place entry nodes link.to);
  delay = is.delay;
  pattern = is.pattern;
  throughput = is.throughput;
  starts = subst (λ n. link.from < n) (sym (noted_length place entry nodes)) is.starts;
  ends = subst (λ n. link.to < n) (sym (noted_length place entry nodes)) is.ends;
  least = is.least;
  most = is.most;
}

-- the mesh whose node at a place notes an entry
abbrev pub noting_mesh : ℕ → LogEntry → Mesh → Mesh
noting_mesh place entry mesh = record mesh { nodes = noted_at place entry mesh.nodes }

noted_step : (post : Post) (older : List Sending) (last : Happening) (ticks : List Happening) (place : ℕ) (entry : LogEntry) (mesh : Mesh) → InStep post older last ticks mesh → InStep post older last ticks (noting_mesh place entry mesh)
noted_step post older last ticks place entry mesh step =
    let s = step.amid.stands in
    step_over step (record {
      count = s.rows.count;
      each = λ p link found. let h = s.rows.each p link found in record { row = h.row; found = h.found; is = noted_row place entry mesh.nodes link h.row h.is };
    }) s.turns (record { count = s.ways.count ∙ sym (noted_length place entry mesh.nodes); each = s.ways.each }) step.amid.waits

-- ---- a node is given something
-- what the acts of a node and its entry leave of a mesh
abbrev pub noted_after : (Mac → Queries) → Sender → Given → NodeLog → Mesh → Attempt
noted_after queries sender given row mesh =
    on_ok (noted sender.place (entry_of (scenario_setup queries) row sender.now given)) (after_acts (scenario_setup queries) (actor_of sender) (acts_of (queries row.mac) row.mac row.log sender.now given) mesh)

given_is : (queries : Mac → Queries) (sender : Sender) (given : Given) (row : NodeLog) (mesh : Mesh) → slice_get mesh.nodes sender.place ≡ Some row → sender.mac ≡ row.mac
    → given_to (scenario_setup queries) sender.place sender.now sender.root given mesh
    ≡ unless_passed (scenario_setup queries) (actor_of sender) mesh (node_limit (queries row.mac) row.mac row.log sender.now given) (noted_after queries sender given row mesh)
given_is queries sender given row mesh found mac_is =
    ap (λ o. given_node (scenario_setup queries) sender.place sender.now sender.root given o mesh) found
    ∙ ap (λ (mac : Mac). unless_passed (scenario_setup queries) (record { place = sender.place; mac = mac; now = sender.now; root = sender.root }) mesh (node_limit (queries row.mac) row.mac row.log sender.now given)
    (on_ok (noted sender.place (entry_of (scenario_setup queries) row sender.now given)) (after_acts (scenario_setup queries) (record { place = sender.place; mac = mac; now = sender.now; root = sender.root }) (acts_of (queries row.mac) row.mac row.log sender.now given) mesh))) (sym mac_is)

-- the mesh after it, as far as what is kept knows
pub record GaveMesh (queries : Mac → Queries) (choice : FrameChoice) (sender : Sender) (given : Given) (post : Post) (older : List Sending) (last : Happening) (ticks : List Happening) (row : NodeLog) (before : Mesh) (old new : List Event) : Type 0 where
  pub after : Mesh
  pub is : given_to (scenario_setup queries) sender.place sender.now sender.root given before ≡ Ok after
  pub nodes : after.nodes ≡ noted_at sender.place (entry_of (scenario_setup queries) row sender.now given) before.nodes
  pub step : InStep post older last ticks after
  pub choice_is : post.choice ≡ choice
  pub logged : Logged choice before after old new

abbrev pub Gave : (Mac → Queries) → FrameChoice → Sender → Given → Post → List Sending → Happening → List Happening → NodeLog → Mesh → List Event → List Event → Result Unit NodeErr → Type 0
Gave queries choice sender given post older last ticks row before old new (Ok done) = GaveMesh queries choice sender given post older last ticks row before old new
Gave queries choice sender given post older last ticks row before old new (Err error) = GiveTells (given_to (scenario_setup queries) sender.place sender.now sender.root given before) error

own_named : (error : NodeErr) (limit : LimitName) (attempt : Attempt) → HasOwnCause (Some limit) error → attempt ≡ Err limit → GiveTells attempt error
own_named Memory limit attempt c e = tt
own_named Clients limit attempt c e = e ∙ ap Err (some_one limit limits.Clients c)
own_named Vlans limit attempt c e = e ∙ ap Err (some_one limit limits.Vlans c)
own_named Frames limit attempt c e = absurd c
own_named FrameBytes limit attempt c e = absurd c
own_named Cuts limit attempt c e = e ∙ ap Err (some_one limit limits.Cuts c)
own_named Dead limit attempt c e = absurd c

-- a limit of the node's own, behind these acts
abbrev limit_behind : (Mac → Queries) → Sender → List Act → LimitName → Mesh → Attempt
limit_behind queries sender acts limit mesh = on_ok (λ after. Err limit) (after_acts (scenario_setup queries) (actor_of sender) acts mesh)

no_ok : {X : Type 0} (l : LimitName) → Some l ≡ None → X
no_ok l e = cc

behind_named : (queries : Mac → Queries) (older : List Sending) (last : Happening) (ticks : List Happening) (limit : LimitName) (error : NodeErr) (p : NetPort) (acts : List Act) (q : NetPort) (mesh : Mesh) → StopsBehind PortTook PortSame port_over limit p acts (Err error) q → InStep p.post.now older last ticks mesh → MaySend p.sender last mesh
    → Named error (limit_behind queries p.sender acts limit mesh)
behind_named queries older last ticks limit error p [] q mesh t step may = own_named error limit (Err limit) t.1 refl
behind_named queries older last ticks limit error p (act ∷ acts) q mesh t step may = elim t as (λ _. Named error (limit_behind queries p.sender (act ∷ acts) limit mesh)) [
  | inl s ↦ named_cause error (port_over p act) (limit_behind queries p.sender (act ∷ acts) limit mesh) s.1
      (λ l e. ap (λ a. on_ok (λ after. Err limit) (on_ok (after_acts (scenario_setup queries) (actor_of p.sender) acts) a)) (over_act queries p.post.now older last ticks p.sender act mesh l step may.place e))
  | inr s ↦
      let m : NetPort = s.0 in
      let a = s.1.took queries older last ticks mesh step may in
      let n = behind_named queries older last ticks limit error m acts q a.after s.3 a.step (may_next p.sender m.sender last mesh a.after s.1.sender a.nodes may) in
      named_map error (limit_behind queries m.sender acts limit a.after) (limit_behind queries p.sender (act ∷ acts) limit mesh)
      (λ l e. ap (λ b. on_ok (λ after. Err limit) (on_ok (after_acts (scenario_setup queries) (actor_of p.sender) acts) b)) a.is ∙ ap (λ v. limit_behind queries v acts limit a.after) (sym s.1.sender) ∙ e) n
]

behind_not_ok : (limit : LimitName) (p : NetPort) (acts : List Act) (done : Unit) (q : NetPort) → StopsBehind PortTook PortSame port_over limit p acts (Ok done) q → ⊥
behind_not_ok limit p [] done q t = no_ok limit t.1
behind_not_ok limit p (act ∷ acts) done q t = elim t as (λ _. ⊥) [
  | inl s ↦ s.1
  | inr s ↦ behind_not_ok limit s.0 acts done q s.3
]

gave_by : (queries : Mac → Queries) (older : List Sending) (last : Happening) (ticks : List Happening) (p q : NetPort) (row : NodeLog) (given : Given) (mesh : Mesh) (o : Option NodeLimit) (r : Result Unit NodeErr) → slice_get mesh.nodes p.sender.place ≡ Some row → p.sender.mac ≡ row.mac
    → node_limit (queries row.mac) row.mac row.log p.sender.now given ≡ o → Leaves PortTook PortSame port_over o p (acts_of (queries row.mac) row.mac row.log p.sender.now given) r q → InStep p.post.now older last ticks mesh → MaySend p.sender last mesh
    → Gave queries p.post.now.choice p.sender given q.post.now older last ticks row mesh p.log.now q.log.now r
gave_by queries older last ticks p q row given mesh None (Ok done) found mac_is none t step may =
    let setup = scenario_setup queries in
    let entry = entry_of setup row p.sender.now given in
    let a = put_all queries older last ticks p (acts_of (queries row.mac) row.mac row.log p.sender.now given) q mesh t step may in
    record {
      after = noting_mesh p.sender.place entry a.after;
      is = given_is queries p.sender given row mesh found mac_is ∙ ap (λ x. unless_passed setup (actor_of p.sender) mesh x (noted_after queries p.sender given row mesh)) none ∙ ap (on_ok (noted p.sender.place entry)) a.is;
      nodes = ap (noted_at p.sender.place entry) a.nodes;
      step = noted_step q.post.now older last ticks p.sender.place entry a.after a.step;
      choice_is = a.choice_is;
      logged = record { more = a.logged.more; came = a.logged.came; told = a.logged.told };
    }
gave_by queries older last ticks p q row given mesh None (Err error) found mac_is none t step may =
    let setup = scenario_setup queries in
    let entry = entry_of setup row p.sender.now given in
    named_map error (after_acts setup (actor_of p.sender) (acts_of (queries row.mac) row.mac row.log p.sender.now given) mesh) (given_to setup p.sender.place p.sender.now p.sender.root given mesh)
    (λ limit e. given_is queries p.sender given row mesh found mac_is ∙ ap (λ x. unless_passed setup (actor_of p.sender) mesh x (noted_after queries p.sender given row mesh)) none ∙ ap (on_ok (noted p.sender.place entry)) e)
    (stop_named queries older last ticks error p (acts_of (queries row.mac) row.mac row.log p.sender.now given) q mesh t step may)
gave_by queries older last ticks p q row given mesh (Some passed) (Ok done) found mac_is some t step may = absurd (behind_not_ok passed.limit p passed.acts done q t)
gave_by queries older last ticks p q row given mesh (Some passed) (Err error) found mac_is some t step may =
    let setup = scenario_setup queries in
    named_map error (limit_behind queries p.sender passed.acts passed.limit mesh) (given_to setup p.sender.place p.sender.now p.sender.root given mesh)
    (λ limit e. given_is queries p.sender given row mesh found mac_is ∙ ap (λ x. unless_passed setup (actor_of p.sender) mesh x (noted_after queries p.sender given row mesh)) some ∙ e)
    (behind_named queries older last ticks passed.limit error p passed.acts q mesh t step may)

pub gave : (queries : Mac → Queries) (older : List Sending) (last : Happening) (ticks : List Happening) (p q : NetPort) (row : NodeLog) (given : Given) (mesh : Mesh) (r : Result Unit NodeErr) → slice_get mesh.nodes p.sender.place ≡ Some row → p.sender.mac ≡ row.mac
    → Leaves PortTook PortSame port_over (node_limit (queries row.mac) row.mac row.log p.sender.now given) p (acts_of (queries row.mac) row.mac row.log p.sender.now given) r q → InStep p.post.now older last ticks mesh → MaySend p.sender last mesh
    → Gave queries p.post.now.choice p.sender given q.post.now older last ticks row mesh p.log.now q.log.now r
gave queries older last ticks p q row given mesh r found mac_is t step may = gave_by queries older last ticks p q row given mesh (node_limit (queries row.mac) row.mac row.log p.sender.now given) r found mac_is refl t step may

-- ---- what the caller learns
pub by_bool : {X : Type 0} (b : Bool) → (b ≡ true → X) → (b ≡ false → X) → X
by_bool true f h = f refl
by_bool false f h = h refl

pub given_ok : {A : Type 0} (queries : Mac → Queries) (stands : A → Mac → RouteLog → Type 0) (node : Node A) (choice : FrameChoice) (sender : Sender) (given : Given) (post post' : Post) (older : List Sending) (last : Happening) (ticks : List Happening) (row : NodeLog) (mesh : Mesh) (old new new' : List Event) (r : Result Unit NodeErr)
    → post' ≡ post → new' ≡ new → Gave queries choice sender given post older last ticks row mesh old new r
    → OnOk r (NodeStands stands queries node row.mac (entry_of (scenario_setup queries) row sender.now given ∷ row.log))
    → OnOk r (HasGiven queries stands node choice sender given post' older last ticks row mesh old new')
given_ok queries stands node choice sender given post post' older last ticks row mesh old new new' (Ok done) same told gave stand = record {
  after = gave.after;
  is = gave.is;
  node_stands = stand;
  nodes = gave.nodes;
  step = subst (λ p. InStep p older last ticks gave.after) (sym same) gave.step;
  choice_is = ap (λ (p : Post). p.choice) same ∙ gave.choice_is;
  logged = subst (λ n. Logged choice mesh gave.after old n) (sym told) gave.logged;
}
given_ok queries stands node choice sender given post post' older last ticks row mesh old new new' (Err error) same told gave stand = tt

pub given_err : (queries : Mac → Queries) (choice : FrameChoice) (sender : Sender) (given : Given) (post : Post) (older : List Sending) (last : Happening) (ticks : List Happening) (row : NodeLog) (mesh : Mesh) (old new : List Event) (r : Result Unit NodeErr)
    → Gave queries choice sender given post older last ticks row mesh old new r → IfErr r (GiveTells (given_to (scenario_setup queries) sender.place sender.now sender.root given mesh))
given_err queries choice sender given post older last ticks row mesh old new (Ok done) gave = tt
given_err queries choice sender given post older last ticks row mesh old new (Err error) gave = gave
