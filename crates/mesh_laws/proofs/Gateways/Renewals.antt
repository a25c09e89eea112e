-- What inputs leave of nodes as gateways.
use Rattle.std.proofs.Common.{◌≡◌, ℕ, ◌<◌, ◌⊎◌, inl, inr, Bool, true, false, cond, ◌||◌, nat_eq, List, [], ◌∷◌, slice_get, Option, Some, None, Ok, refl, sym, ap, ap₂, ◌∙◌, subst, arith}
use Rattle.std.specs.List.{list_any}
use Rattle.std.proofs.lemmas.Bool.{cases_eq, eq-eqb, ne_eqb, true≢false}
use Rattle.mesh_model.specs.Clients.Lans.{Bridge, bridge, next_bridge}
use Rattle.mesh_model.specs.Clients.Log.{Given, Line, LineGiven, Attach, Frame, Gone, Join, Leave, Arp, Dhcp, Sets, Put, Get, Ping, Trace, Reboot, LogEntry}
use Rattle.mesh_model.specs.Net.Inputs.{all_given, after_entry, entry_of, given_node, given_to, noted, noted_at}
use Rattle.mesh_model.specs.Net.Mesh.{NodeLog, Mesh, Setup}
use Rattle.mesh_model.specs.Net.Next.{Has}
use Rattle.mesh_model.specs.Net.Sending.{Actor, after_acts}
use Rattle.mesh_laws.specs.GatewayLaws.{IsNoLan, Rise}
use Rattle.mesh_laws.proofs.Gateways.Places.{any_has}
use Rattle.mesh_laws.proofs.Schedule.Sends.{acts_send, as_ok, ok_one, on_ok_ok}
use Rattle.mesh_laws.proofs.Schedule.Steps.{Before1, itself, not_passed, other, renewed}

-- a node by what it was as a gateway before an input at a moment, which it was given or not
abbrev pub Renews : ℕ → Given → Bool → Mesh → ℕ → NodeLog → Type 0
Renews now given which mesh place node =
    (before : NodeLog) × (slice_get mesh.nodes place ≡ Some before) × (bridge node.log ≡ cond which (next_bridge (bridge before.log) now given) (bridge before.log))

from_entry : (now : ℕ) (given : Given) (at : ℕ) (entry : LogEntry) (mesh : Mesh) (place : ℕ) (node : NodeLog) → entry.moment ≡ now → entry.given ≡ given → Before1 at entry mesh.nodes place node
    → Renews now given (nat_eq place at) mesh place node
from_entry now given at entry mesh place node moment_is given_is (before, found, other d e) =
    (before, found, ap (λ (n : NodeLog). bridge n.log) e ∙ sym (ap (λ b. cond b (next_bridge (bridge before.log) now given) (bridge before.log)) (ne_eqb place at (λ q. d (sym q)))))
from_entry now given at entry mesh place node moment_is given_is (before, found, itself q e) = (
  before,
  found,
  ap (λ (n : NodeLog). bridge n.log) e
      ∙ ap₂ (next_bridge (bridge before.log)) moment_is given_is
      ∙ sym (ap (λ b. cond b (next_bridge (bridge before.log) now given) (bridge before.log)) (eq-eqb place at (sym q))),
)

same_after : (now : ℕ) (given : Given) (mesh after : Mesh) (place : ℕ) (node : NodeLog) → as_ok mesh ≡ as_ok after → slice_get after.nodes place ≡ Some node → slice_get mesh.nodes place ≡ Some node
same_after now given mesh after place node e found = subst (λ (m : Mesh). slice_get m.nodes place ≡ Some node) (sym (ok_one mesh after e)) found

none_some : (node : NodeLog) (o : Option NodeLog) → o ≡ None → o ≡ Some node → ⊥
none_some node None a b = cc
none_some node (Some x) a b = cc

node_renews : (setup : Setup) (at now root : ℕ) (given : Given) (o : Option NodeLog) (mesh after : Mesh) → slice_get mesh.nodes at ≡ o → given_node setup at now root given o mesh ≡ Ok after
    → (place : ℕ) (node : NodeLog) → slice_get after.nodes place ≡ Some node → Renews now given (nat_eq place at) mesh place node
node_renews setup at now root given None mesh after none e place node found =
    let same = same_after now given mesh after place node e found in
    let apart = ne_eqb place at (λ (q : place ≡ at). none_some node (slice_get mesh.nodes at) none (subst (λ i. slice_get mesh.nodes i ≡ Some node) q same)) in
    (node, same, sym (ap (λ b. cond b (next_bridge (bridge node.log) now given) (bridge node.log)) apart))
node_renews setup at now root given (Some n) mesh after there e place node found =
    let actor : Actor = record { place = at; mac = n.mac; now = now; root = root } in
    let entry : LogEntry = entry_of setup n now given in
    let p = on_ok_ok (noted at entry) (after_acts setup actor entry.acts mesh) after (not_passed setup actor mesh (setup.node_limit n.mac n.log now given) (after_entry setup actor entry mesh) after e) in
    let sends = acts_send setup actor entry.acts mesh p.0 p.1 in
    let made : Mesh = record p.0 { nodes = noted_at at entry p.0.nodes } in
    let here = subst (λ (m : Mesh). slice_get m.nodes place ≡ Some node) (sym (ok_one made after p.2)) found in
    from_entry now given at entry mesh place node refl refl (renewed at entry mesh.nodes place node (subst (λ ns. slice_get (noted_at at entry ns) place ≡ Some node) sends.nodes here))

pub given_renews : (setup : Setup) (at now root : ℕ) (given : Given) (mesh after : Mesh) → given_to setup at now root given mesh ≡ Ok after
    → (place : ℕ) (node : NodeLog) → slice_get after.nodes place ≡ Some node → Renews now given (nat_eq place at) mesh place node
given_renews setup at now root given mesh after e = node_renews setup at now root given (slice_get mesh.nodes at) mesh after refl e

-- a place that is before another list's isn't in it
apart : (p q : ℕ) (rest : List ℕ) → ((x : ℕ) → Has rest x → q < x) → nat_eq p q ≡ true → list_any (nat_eq p) rest ≡ false
apart p q rest low same = by (list_any (nat_eq p) rest) refl
  where
    by : (b : Bool) → list_any (nat_eq p) rest ≡ b → b ≡ false
    by false e = refl
    by true e = absurd (let l = low p (any_has p rest e) in let is = is_one (cases_eq p q) in omega (arith, l, is))
      where
        is_one : (p ≡ q) ⊎ (p ≡ q → ⊥) → p ≡ q
        is_one (inl r) = r
        is_one (inr d) = absurd (true≢false (sym same ∙ ne_eqb p q d))

twice : (f : Bridge → Bridge) (n m b : Bridge) (here later : Bool) → (here ≡ true → later ≡ false) → n ≡ cond later (f m) m → m ≡ cond here (f b) b → n ≡ cond (here || later) (f b) b
twice f n m b true true once e g = absurd (true≢false (once refl))
twice f n m b true false once e g = e ∙ g
twice f n m b false true once e g = e ∙ ap f g
twice f n m b false false once e g = e ∙ g

-- several nodes that are given the same, each once
pub all_renew : (setup : Setup) (places : List ℕ) (now : ℕ) (given : Given) (mesh after : Mesh) → Rise places → all_given setup places now given mesh ≡ Ok after
    → (place : ℕ) (node : NodeLog) → slice_get after.nodes place ≡ Some node → Renews now given (list_any (nat_eq place) places) mesh place node
all_renew setup [] now given mesh after rise e place node found = (node, same_after now given mesh after place node e found, refl)
all_renew setup (at ∷ rest) now given mesh after rise e place node found =
    let p = on_ok_ok (all_given setup rest now given) (given_to setup at now 0 given mesh) after e in
    let w = all_renew setup rest now given p.0 after rise.1 p.2 place node found in
    let v = given_renews setup at now 0 given mesh p.0 p.1 place w.0 w.1 in
    (v.0, v.1, twice (λ b. next_bridge b now given) (bridge node.log) (bridge w.0.log) (bridge v.0.log) (nat_eq place at) (list_any (nat_eq place) rest) (apart place at rest rise.0) w.2 v.2)

-- ---- inputs that leave a gateway as it is

-- an input that leaves every node as a gateway as it is
abbrev pub LeavesGateways : ℕ → Given → Type 0
LeavesGateways now given = (b : Bridge) → next_bridge b now given ≡ b

-- a node as it was as a gateway
abbrev pub IsSame : Mesh → ℕ → NodeLog → Type 0
IsSame mesh place node = (before : NodeLog) × (slice_get mesh.nodes place ≡ Some before) × (bridge node.log ≡ bridge before.log)

pub quiet_same : (now : ℕ) (given : Given) (which : Bool) (mesh : Mesh) (place : ℕ) (node : NodeLog) → LeavesGateways now given → Renews now given which mesh place node → IsSame mesh place node
quiet_same now given true mesh place node quiet (before, found, e) = (before, found, e ∙ quiet (bridge before.log))
quiet_same now given false mesh place node quiet (before, found, e) = (before, found, e)

pub given_same : (setup : Setup) (at now root : ℕ) (given : Given) (mesh after : Mesh) → LeavesGateways now given → given_to setup at now root given mesh ≡ Ok after
    → (place : ℕ) (node : NodeLog) → slice_get after.nodes place ≡ Some node → IsSame mesh place node
given_same setup at now root given mesh after quiet e place node found = quiet_same now given (nat_eq place at) mesh place node quiet (given_renews setup at now root given mesh after e place node found)

pub all_same : (setup : Setup) (places : List ℕ) (now : ℕ) (given : Given) (mesh after : Mesh) → LeavesGateways now given → all_given setup places now given mesh ≡ Ok after
    → (place : ℕ) (node : NodeLog) → slice_get after.nodes place ≡ Some node → IsSame mesh place node
all_same setup [] now given mesh after quiet e place node found = (node, same_after now given mesh after place node e found, refl)
all_same setup (at ∷ rest) now given mesh after quiet e place node found =
    let p = on_ok_ok (all_given setup rest now given) (given_to setup at now 0 given mesh) after e in
    let w = all_same setup rest now given p.0 after quiet p.2 place node found in
    let v = given_same setup at now 0 given mesh p.0 quiet p.1 place w.0 w.1 in
    (v.0, v.1, w.2 ∙ v.2)

-- a line that makes no node a gateway is one
pub line_quiet : (now : ℕ) (line : LineGiven) → IsNoLan line → LeavesGateways now (Line line)
line_quiet now (Attach lan gateways) plain b = absurd (plain lan gateways refl)
line_quiet now (Frame src dst vid text) plain b = refl
line_quiet now (Gone key) plain b = refl
line_quiet now (Join key) plain b = refl
line_quiet now (Leave key) plain b = refl
line_quiet now (Arp mac own_ip asked_ip vid) plain b = refl
line_quiet now (Dhcp key text) plain b = refl
line_quiet now (Sets setting) plain b = refl
line_quiet now (Put type_no version text) plain b = refl
line_quiet now (Get type_no) plain b = refl
line_quiet now (Ping target) plain b = refl
line_quiet now (Trace target) plain b = refl
line_quiet now Reboot plain b = refl
