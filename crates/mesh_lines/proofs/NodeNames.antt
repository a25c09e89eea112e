-- The nodes of events of an alias, and the senders by table, are nodes of the mesh, and have names.
use Rattle.std.proofs.Common.{◌≡◌, ◌⊎◌, inl, inr, ℕ, zero, suc, Bool, true, false, cond, List, [], ◌∷◌, ◌++◌, length, Option, Some, None, option_map, refl, sym, ap, subst, ◌∙◌, arith}
use Rattle.std.specs.Prelude.{bytes_eq, find, slice_get}
use Rattle.std.specs.Option.{unwrap_or}
use Rattle.mesh_base.specs.Address.{mac_text}
use Rattle.mesh_base.specs.Names.{NamesGiven, node_name}
use Rattle.mesh_base.specs.declared.address.Mac.{Mac}
use Rattle.mesh_base.specs.declared.event.Event.{Event}
use Rattle.mesh_base.specs.declared.event.Event.TheVariants.{FrameSent, Received, LanSent, Bridged, Lost, Alias, Pinged, Traced, Arp, Alfred as AlfredAsked, Route}
use Rattle.mesh_base.specs.declared.event.Reason.{Reason}
use Rattle.mesh_base.specs.declared.event.Reason.TheVariants.{Roam, Table, Old, Gw, Mc, Alfred, Fwd}
use Rattle.mesh_base.specs.declared.names.NodeName.{NodeName}
use Rattle.mesh_model.specs.declared.line_form.Algorithm.{Algorithm}
use Rattle.mesh_model.specs.Commits.History.{commits}
use Rattle.mesh_model.specs.Commits.Versions.{first_commit}
use Rattle.mesh_model.specs.Net.Mesh.{Mesh, NodeLog}
use Rattle.mesh_model.specs.Net.Next.{Has}
use Rattle.mesh_model.specs.Routes.Addresses.{same_mac}
use Rattle.mesh_model.specs.Routes.Algorithms.{queries_of}
use Rattle.mesh_model.specs.Run.State.{node_names}
use Rattle.mesh_model.specs.Text.Events.{name_text}
use Rattle.mesh_laws.proofs.MacLemmas.{same_exact, same_self}
use Rattle.mesh_tie.specs.AliasesSeen.{HasAlias}
use Rattle.mesh_tie.specs.Originators.{log_of}
use Rattle.mesh_tie.specs.Sources.{IsWhole}
use Rattle.mesh_tie.specs.Steps.{IsReachable}
use Rattle.mesh_tie.proofs.EventLemmas.{events_by_table_are_right}
use Rattle.mesh_tie.proofs.ReachLemmas.{reached}
use Rattle.mesh_tie.proofs.SeenLemmas.{aliases_are_told}
use Rattle.mesh_tie.proofs.VLemmas.{algorithms_keep}

-- ---- nodes
-- a node has an address
pub record IsAmong (nodes : List NodeLog) (mac : Mac) : Type 0 where
  pub place : ℕ
  pub node : NodeLog
  pub found : slice_get nodes place ≡ Some node
  pub mac_is : node.mac ≡ mac

later_among : (first : NodeLog) (rest : List NodeLog) (mac : Mac) → IsAmong rest mac → IsAmong (first ∷ rest) mac
later_among first rest mac a = record { place = suc a.place; node = a.node; found = a.found; mac_is = a.mac_is }

pub among_or_none : (mac : Mac) (nodes : List NodeLog) → IsAmong nodes mac ⊎ (log_of mac nodes ≡ [])
among_or_none mac [] = inr refl
among_or_none mac (first ∷ rest) = go (same_mac first.mac mac) refl (among_or_none mac rest)
  where
    go : (b : Bool) → same_mac first.mac mac ≡ b → IsAmong rest mac ⊎ (log_of mac rest ≡ []) → IsAmong (first ∷ rest) mac ⊎ (cond b first.log (log_of mac rest) ≡ [])
    go true same more = inl (record { place = 0; node = first; found = refl; mac_is = same_exact first.mac mac same })
    go false other (inl a) = inl (later_among first rest mac a)
    go false other (inr none) = inr none

no_first_alias : (number earlier : ℕ) → HasAlias (first_commit ∷ []) number earlier → ⊥
no_first_alias zero earlier has = let is = has.1 in cc
no_first_alias (suc number) earlier has = let low = has.0 in omega (arith, low)

pub alias_among : (algorithm : Algorithm) (mesh : Mesh) → IsReachable (queries_of algorithm) mesh → (mac : Mac) (number earlier : ℕ) → Has mesh.events (Alias mac number earlier) → IsAmong mesh.nodes mac
alias_among algorithm mesh r mac number earlier told = go (among_or_none mac mesh.nodes)
  where
    has : HasAlias (commits mac (log_of mac mesh.nodes)) number earlier
    has = (aliases_are_told (queries_of algorithm) mesh r mac number earlier).0 told

    go : IsAmong mesh.nodes mac ⊎ (log_of mac mesh.nodes ≡ []) → IsAmong mesh.nodes mac
    go (inl a) = a
    go (inr none) = absurd (no_first_alias number earlier (subst (λ log. HasAlias (commits mac log) number earlier) none has))

-- ---- senders
-- an address that no node has
nobody : Mac
nobody = record { 0 = [] }

pub record Parted {X : Type 0} (xs : List X) (x : X) : Type 0 where
  pub front : List X
  pub back : List X
  pub is : xs ≡ front ++ x ∷ back

pub parted : {X : Type 0} (xs : List X) (x : X) → Has xs x → Parted xs x
parted [] x has = absurd has
parted (first ∷ rest) x (inl same) = record { front = []; back = rest; is = ap (λ y. y ∷ rest) (sym same) }
parted (first ∷ rest) x (inr has) = let p = parted rest x has in record { front = first ∷ p.front; back = p.back; is = ap (λ ys. first ∷ ys) p.is }

front_has : {X : Type 0} (front : List X) (x : X) (back : List X) (y : X) → Has front y → Has (front ++ x ∷ back) y
front_has [] x back y has = absurd has
front_has (first ∷ front) x back y (inl same) = inl same
front_has (first ∷ front) x back y (inr has) = inr (front_has front x back y has)

nobody_none : (nodes : List NodeLog) → ((place : ℕ) (node : NodeLog) → slice_get nodes place ≡ Some node → IsWhole node.mac) → IsAmong nodes nobody → ⊥
unfolding nobody
nobody_none nodes whole a =
    let six = whole a.place a.node a.found in
    let none : length a.node.mac.0 ≡ 0 = ap (λ (m : Mac). length m.0) a.mac_is in
    omega (arith, six, none)

table_among : (algorithm : Algorithm) (mesh : Mesh) → IsReachable (queries_of algorithm) mesh → (number moment : ℕ) (from to : Mac) (bytes : List ℕ) → Has mesh.events (FrameSent number moment from to (Some Table) bytes) → IsAmong mesh.nodes from
table_among algorithm mesh r number moment from to bytes has =
    let q = queries_of algorithm in
    let event : Event = FrameSent number moment from to (Some Table) bytes in
    let p = parted mesh.events event has in
    let all = reached q (algorithms_keep algorithm) mesh r in
    let s = events_by_table_are_right q (algorithms_keep algorithm) mesh r nobody p.front p.back number moment from to bytes p.is
    (λ n e told. nobody_none mesh.nodes all.holds.orderly.whole (alias_among algorithm mesh r nobody n e (subst (λ es. Has es (Alias nobody n e)) (sym p.is) (front_has p.front event p.back (Alias nobody n e) told)))) in
    record { place = s.place; node = s.node; found = s.found; mac_is = s.mac_is }

-- ---- events
-- the sender by table is a node
abbrev BySender : List NodeLog → Mac → Option Reason → Type 0
BySender nodes from None = Unit {0}
BySender nodes from (Some Roam) = Unit {0}
BySender nodes from (Some Table) = IsAmong nodes from
BySender nodes from (Some Old) = Unit {0}
BySender nodes from (Some Gw) = Unit {0}
BySender nodes from (Some Mc) = Unit {0}
BySender nodes from (Some Alfred) = Unit {0}
BySender nodes from (Some Fwd) = Unit {0}

-- the node of an alias and the sender by table are nodes
abbrev pub IsOfNode : List NodeLog → Event → Type 0
IsOfNode nodes (FrameSent number moment from to reason bytes) = BySender nodes from reason
IsOfNode nodes (Received moment node vid src dst text) = Unit {0}
IsOfNode nodes (LanSent number moment lan bytes) = Unit {0}
IsOfNode nodes (Bridged moment lan vid src dst text) = Unit {0}
IsOfNode nodes (Lost moment node vid src dst reason) = Unit {0}
IsOfNode nodes (Alias node commit earlier) = IsAmong nodes node
IsOfNode nodes (Pinged node target seq result) = Unit {0}
IsOfNode nodes (Traced node target result) = Unit {0}
IsOfNode nodes (Arp node ip result) = Unit {0}
IsOfNode nodes (AlfredAsked node type_no result) = Unit {0}
IsOfNode nodes (Route at node orig next) = Unit {0}

sender_among : (algorithm : Algorithm) (mesh : Mesh) → IsReachable (queries_of algorithm) mesh → (number moment : ℕ) (from to : Mac) (reason : Option Reason) (bytes : List ℕ) → Has mesh.events (FrameSent number moment from to reason bytes) → BySender mesh.nodes from reason
sender_among algorithm mesh r number moment from to None bytes has = tt
sender_among algorithm mesh r number moment from to (Some Roam) bytes has = tt
sender_among algorithm mesh r number moment from to (Some Table) bytes has = table_among algorithm mesh r number moment from to bytes has
sender_among algorithm mesh r number moment from to (Some Old) bytes has = tt
sender_among algorithm mesh r number moment from to (Some Gw) bytes has = tt
sender_among algorithm mesh r number moment from to (Some Mc) bytes has = tt
sender_among algorithm mesh r number moment from to (Some Alfred) bytes has = tt
sender_among algorithm mesh r number moment from to (Some Fwd) bytes has = tt

-- so are those of all events of a mesh
abbrev pub AreOfNodes : Mesh → Type 0
AreOfNodes mesh = (event : Event) → Has mesh.events event → IsOfNode mesh.nodes event

pub events_of_nodes : (algorithm : Algorithm) (mesh : Mesh) → IsReachable (queries_of algorithm) mesh → AreOfNodes mesh
events_of_nodes algorithm mesh r (FrameSent number moment from to reason bytes) has = sender_among algorithm mesh r number moment from to reason bytes has
events_of_nodes algorithm mesh r (Received moment node vid src dst text) has = tt
events_of_nodes algorithm mesh r (LanSent number moment lan bytes) has = tt
events_of_nodes algorithm mesh r (Bridged moment lan vid src dst text) has = tt
events_of_nodes algorithm mesh r (Lost moment node vid src dst reason) has = tt
events_of_nodes algorithm mesh r (Alias node commit earlier) has = alias_among algorithm mesh r node commit earlier has
events_of_nodes algorithm mesh r (Pinged node target seq result) has = tt
events_of_nodes algorithm mesh r (Traced node target result) has = tt
events_of_nodes algorithm mesh r (Arp node ip result) has = tt
events_of_nodes algorithm mesh r (AlfredAsked node type_no result) has = tt
events_of_nodes algorithm mesh r (Route at node orig next) has = tt

-- ---- names
-- a node of these names has an address
pub record HasName (names : List NodeName) (mac : Mac) : Type 0 where
  pub name : List ℕ
  pub is : node_name names mac ≡ Some name

named_first : (b : Bool) (node : NodeName) (o : Option NodeName) (name : List ℕ) → option_map (λ (n : NodeName). n.name) o ≡ Some name → (other : List ℕ) × (option_map (λ (n : NodeName). n.name) (cond b (Some node) o) ≡ Some other)
named_first true node o name is = (node.name, refl)
named_first false node o name is = (name, is)

pub among_named : (nodes : List NodeLog) (place : ℕ) (node : NodeLog) (mac : Mac) → slice_get nodes place ≡ Some node → node.mac ≡ mac → HasName (node_names nodes) mac
among_named [] place node mac got same = cc
among_named (first ∷ rest) zero node mac got same =
    let is : first ≡ node = cc in
    let true_is : same_mac first.mac mac ≡ true = subst (λ m. same_mac m mac ≡ true) (sym (ap (λ (n : NodeLog). n.mac) is ∙ same)) (same_self mac) in
    record { name = first.name; is = ap (λ b. option_map (λ (n : NodeName). n.name) (cond b (Some (record { mac = first.mac; name = first.name })) (find (λ n. bytes_eq n.mac.0 mac.0) (node_names rest)))) true_is }
among_named (first ∷ rest) (suc place) node mac got same =
    let h = among_named rest place node mac got same in
    let p = named_first (same_mac first.mac mac) (record { mac = first.mac; name = first.name }) (find (λ n. bytes_eq n.mac.0 mac.0) (node_names rest)) h.name h.is in
    record { name = p.0; is = p.1 }

found_more : (test : NodeName → Bool) (names more : List NodeName) (name : List ℕ) → option_map (λ (n : NodeName). n.name) (find test names) ≡ Some name → option_map (λ (n : NodeName). n.name) (find test (names ++ more)) ≡ Some name
found_more test [] more name is = cc
found_more test (first ∷ rest) more name is = go (test first) is (found_more test rest more name)
  where
    go : (b : Bool) → option_map (λ (n : NodeName). n.name) (cond b (Some first) (find test rest)) ≡ Some name → (option_map (λ (n : NodeName). n.name) (find test rest) ≡ Some name → option_map (λ (n : NodeName). n.name) (find test (rest ++ more)) ≡ Some name)
        → option_map (λ (n : NodeName). n.name) (cond b (Some first) (find test (rest ++ more))) ≡ Some name
    go true is later = is
    go false is later = later is

-- a name stays where others follow
pub name_stays : (names all : NamesGiven) (more : List NodeName) (mac : Mac) → all.nodes ≡ names.nodes ++ more → HasName names.nodes mac → name_text names mac ≡ name_text all mac
name_stays names all more mac e h =
    let after = ap (λ ns. node_name ns mac) e ∙ found_more (λ node. bytes_eq node.mac.0 mac.0) names.nodes more h.name h.is in
    ap (λ o. unwrap_or o (mac_text mac)) h.is ∙ sym (ap (λ o. unwrap_or o (mac_text mac)) after)

-- the sender by table has a name
abbrev NamedSender : List NodeName → Mac → Option Reason → Type 0
NamedSender names from None = Unit {0}
NamedSender names from (Some Roam) = Unit {0}
NamedSender names from (Some Table) = HasName names from
NamedSender names from (Some Old) = Unit {0}
NamedSender names from (Some Gw) = Unit {0}
NamedSender names from (Some Mc) = Unit {0}
NamedSender names from (Some Alfred) = Unit {0}
NamedSender names from (Some Fwd) = Unit {0}

-- the node of an alias and the sender by table have names
abbrev pub IsOfName : List NodeName → Event → Type 0
IsOfName names (FrameSent number moment from to reason bytes) = NamedSender names from reason
IsOfName names (Received moment node vid src dst text) = Unit {0}
IsOfName names (LanSent number moment lan bytes) = Unit {0}
IsOfName names (Bridged moment lan vid src dst text) = Unit {0}
IsOfName names (Lost moment node vid src dst reason) = Unit {0}
IsOfName names (Alias node commit earlier) = HasName names node
IsOfName names (Pinged node target seq result) = Unit {0}
IsOfName names (Traced node target result) = Unit {0}
IsOfName names (Arp node ip result) = Unit {0}
IsOfName names (AlfredAsked node type_no result) = Unit {0}
IsOfName names (Route at node orig next) = Unit {0}

sender_named : (nodes : List NodeLog) (from : Mac) (reason : Option Reason) → BySender nodes from reason → NamedSender (node_names nodes) from reason
sender_named nodes from None a = tt
sender_named nodes from (Some Roam) a = tt
sender_named nodes from (Some Table) a = among_named nodes a.place a.node from a.found a.mac_is
sender_named nodes from (Some Old) a = tt
sender_named nodes from (Some Gw) a = tt
sender_named nodes from (Some Mc) a = tt
sender_named nodes from (Some Alfred) a = tt
sender_named nodes from (Some Fwd) a = tt

pub of_name : (nodes : List NodeLog) (event : Event) → IsOfNode nodes event → IsOfName (node_names nodes) event
of_name nodes (FrameSent number moment from to reason bytes) a = sender_named nodes from reason a
of_name nodes (Received moment node vid src dst text) a = tt
of_name nodes (LanSent number moment lan bytes) a = tt
of_name nodes (Bridged moment lan vid src dst text) a = tt
of_name nodes (Lost moment node vid src dst reason) a = tt
of_name nodes (Alias node commit earlier) a = among_named nodes a.place a.node node a.found a.mac_is
of_name nodes (Pinged node target seq result) a = tt
of_name nodes (Traced node target result) a = tt
of_name nodes (Arp node ip result) a = tt
of_name nodes (AlfredAsked node type_no result) a = tt
of_name nodes (Route at node orig next) a = tt
