-- How the log of an originator grows, and that what was said and told of it stays so.
use Rattle.std.proofs.Common.{◌≡◌, ◌≢◌, ◌≤◌, ◌-◌, ℕ, zero, suc, Bool, true, false, cond, List, [], ◌∷◌, ◌++◌, slice_get, Option, Some, None, refl, sym, ap, subst, ◌∙◌, arith}
use Rattle.mesh_base.specs.declared.address.Mac.{Mac}
use Rattle.mesh_model.specs.Clients.Log.{Log, LogEntry}
use Rattle.mesh_model.specs.Commits.Announcements.{commit_at_root}
use Rattle.mesh_model.specs.Net.Due.{ticks_in}
use Rattle.mesh_model.specs.Net.Inputs.{noted_at, noting}
use Rattle.mesh_model.specs.Net.Mesh.{NodeLog, SentFrame}
use Rattle.mesh_model.specs.Routes.Addresses.{same_mac}
use Rattle.mesh_model.specs.Tables.Known.{Known, LastTold, stamp_of}
use Rattle.mesh_laws.specs.Machine.World.{Node, Saying, Told, WasSaid}
use Rattle.mesh_laws.proofs.MacLemmas.{same_exact, same_self}
use Rattle.mesh_laws.proofs.Schedule.Steps.{get_front}
use Rattle.mesh_tie.specs.Originators.{log_of, number_at_root}
use Rattle.mesh_tie.specs.Sayings.{FrameSays, IsAnnounced, WordSays, announcement_by}
use Rattle.mesh_tie.specs.Sources.{ContainersOf, MessageOf, Nothing, Word, word_of}
use Rattle.mesh_tie.specs.Tie.{IsToldBy, NodeIsTied}
use Rattle.mesh_tie.proofs.CommitLemmas.{Follows, commit_stays, number_stays}
use Rattle.mesh_tie.proofs.GatheredSaid.{gathered_more}

-- ---- the log of an originator
-- no two nodes have one address
abbrev pub AreDistinct : List NodeLog → Type 0
AreDistinct nodes = (place other : ℕ) (node second : NodeLog) → slice_get nodes place ≡ Some node → slice_get nodes other ≡ Some second → node.mac ≡ second.mac → place ≡ other

pub not_same : (a b : Mac) → a ≢ b → same_mac a b ≡ false
not_same a b other = go (same_mac a b) refl
  where
    go : (t : Bool) → same_mac a b ≡ t → t ≡ false
    go true is = absurd (other (same_exact a b is))
    go false is = refl

rest_distinct : (first : NodeLog) (rest : List NodeLog) → AreDistinct (first ∷ rest) → AreDistinct rest
rest_distinct first rest d place other node second f s same = let e = d (suc place) (suc other) node second f s same in omega (arith, e)

pub log_first : (orig : Mac) (first : NodeLog) (rest : List NodeLog) → first.mac ≡ orig → log_of orig (first ∷ rest) ≡ first.log
log_first orig first rest same = ap (λ b. cond b first.log (log_of orig rest)) (ap (λ m. same_mac m orig) same ∙ same_self orig)

pub log_rest : (orig : Mac) (first : NodeLog) (rest : List NodeLog) → first.mac ≢ orig → log_of orig (first ∷ rest) ≡ log_of orig rest
log_rest orig first rest other = ap (λ b. cond b first.log (log_of orig rest)) (not_same first.mac orig other)

-- the node of an address has its log
pub log_found : (orig : Mac) (nodes : List NodeLog) (place : ℕ) (node : NodeLog) → AreDistinct nodes → slice_get nodes place ≡ Some node → node.mac ≡ orig → log_of orig nodes ≡ node.log
log_found orig [] place node d found same = cc
log_found orig (first ∷ rest) zero node d found same = let is : first ≡ node = cc in log_first orig first rest (ap (λ (n : NodeLog). n.mac) is ∙ same) ∙ ap (λ (n : NodeLog). n.log) is
log_found orig (first ∷ rest) (suc place) node d found same =
    log_rest orig first rest (λ e. let z = d 0 (suc place) first node refl found (e ∙ sym same) in omega (arith, z)) ∙ log_found orig rest place node (rest_distinct first rest d) found same

-- an entry at a node is one more in the log of its address
pub log_itself : (orig : Mac) (nodes : List NodeLog) (place : ℕ) (node : NodeLog) (entry : LogEntry) → AreDistinct nodes → slice_get nodes place ≡ Some node → node.mac ≡ orig → log_of orig (noted_at place entry nodes) ≡ entry ∷ node.log
log_itself orig [] place node entry d found same = cc
log_itself orig (first ∷ rest) zero node entry d found same =
    let is : first ≡ node = cc in
    log_first orig (noting entry first) rest (ap (λ (n : NodeLog). n.mac) is ∙ same) ∙ ap (λ (n : NodeLog). entry ∷ n.log) is
log_itself orig (first ∷ rest) (suc place) node entry d found same =
    log_rest orig first (noted_at place entry rest) (λ e. let z = d 0 (suc place) first node refl found (e ∙ sym same) in omega (arith, z))
    ∙ log_itself orig rest place node entry (rest_distinct first rest d) found same

pub log_other : (orig : Mac) (nodes : List NodeLog) (place : ℕ) (node : NodeLog) (entry : LogEntry) → slice_get nodes place ≡ Some node → node.mac ≢ orig → log_of orig (noted_at place entry nodes) ≡ log_of orig nodes
log_other orig [] place node entry found other = cc
log_other orig (first ∷ rest) zero node entry found other =
    let is : first ≡ node = cc in
    let apart : first.mac ≢ orig = λ e. other (ap (λ (n : NodeLog). n.mac) (sym is) ∙ e) in
    log_rest orig (noting entry first) rest apart ∙ sym (log_rest orig first rest apart)
log_other orig (first ∷ rest) (suc place) node entry found other = ap (λ l. cond (same_mac first.mac orig) first.log l) (log_other orig rest place node entry found other)

-- ---- how it grows
pub record Grows (orig : Mac) (log after : Log) : Type 0 where
  pub numbers : (root : ℕ) → root ≤ ticks_in log → number_at_root orig after root ≡ number_at_root orig log root
  pub roots : (root : ℕ) → root ≤ ticks_in log → commit_at_root orig after root ≡ commit_at_root orig log root
  pub ticks : ticks_in log ≤ ticks_in after

pub grows_same : (orig : Mac) (log after : Log) → after ≡ log → Grows orig log after
grows_same orig log after is = record {
  numbers = λ root past. ap (λ l. number_at_root orig l root) is;
  roots = λ root past. ap (λ l. commit_at_root orig l root) is;
  ticks = subst (λ (l : Log). ticks_in log ≤ ticks_in l) (sym is) (omega arith);
}

pub grows_entry : (orig : Mac) (log : Log) (entry : LogEntry) → Follows log entry.given → Grows orig log (entry ∷ log)
grows_entry orig log entry next = record {
  numbers = λ root past. number_stays orig log entry root past next;
  roots = λ root past. commit_stays orig log entry root past next;
  ticks = omega arith;
}

announced_grows : (orig : Mac) (log after : Log) (said : List Saying) (root : ℕ) (tail : List ℕ) → Grows orig log after → IsAnnounced orig log said root tail → IsAnnounced orig after said root tail
announced_grows orig log after said root tail g a = record {
  table = a.table;
  found = a.found;
  past = let past = a.past in let ticks = g.ticks in omega (arith, past, ticks);
  was_said = subst (λ n. WasSaid said (announcement_by n a.table)) (sym (g.numbers root a.past)) a.was_said;
}

word_grows : (orig : Mac) (log after : Log) (said : List Saying) (root : ℕ) (tail : List ℕ) (word : Word) → Grows orig log after → WordSays orig log said root tail word → WordSays orig after said root tail word
word_grows orig log after said root tail (MessageOf source) g says = (says.0, λ same. announced_grows orig log after said root tail g (says.1 same))
word_grows orig log after said root tail (ContainersOf source) g says = says
word_grows orig log after said root tail Nothing g says = tt

pub frame_grows : (orig : Mac) (log after : Log) (said : List Saying) (root : ℕ) (bytes : List ℕ) → Grows orig log after → FrameSays orig log said root bytes → FrameSays orig after said root bytes
frame_grows orig log after said root bytes g says packet has =
    let p = says packet has in
    record { addresses = p.addresses; says = word_grows orig log after said root packet.tail (word_of packet.head) g p.says }

told_grows : (orig : Mac) (log after : Log) (frames : List SentFrame) (last : Option LastTold) (told : Option Told) → Grows orig log after → IsToldBy orig log frames last told → IsToldBy orig after frames last told
told_grows orig log after frames None told g is = is
told_grows orig log after frames (Some last) told g is = (
  is.0,
  is.1,
  (let past = is.2 in let ticks = g.ticks in omega (arith, past, ticks)),
  is.3 ∙ ap (λ n. Some (record { number = n; byte = last.stamp.byte; sums = last.stamp.sums })) (sym (g.numbers is.0.root is.2)),
)

pub node_grows : (orig : Mac) (log after : Log) (frames : List SentFrame) (said : List Saying) (known : Known) (node : Node) → Grows orig log after → NodeIsTied orig log frames said known node → NodeIsTied orig after frames said known node
node_grows orig log after frames said known node g t = record { held = t.held; told = told_grows orig log after frames known.told node.told g t.told; gathered = t.gathered }

-- more frames
told_later : (orig : Mac) (log : Log) (frames more : List SentFrame) (last : Option LastTold) (told : Option Told) → IsToldBy orig log frames last told → IsToldBy orig log (frames ++ more) last told
told_later orig log frames more None told is = is
told_later orig log frames more (Some last) told is = (is.0, get_front frames more (last.frame - 1) is.0 is.1, is.2, is.3)

pub node_later : (orig : Mac) (log : Log) (frames more : List SentFrame) (said : List Saying) (known : Known) (node : Node) → NodeIsTied orig log frames said known node → NodeIsTied orig log (frames ++ more) said known node
node_later orig log frames more said known node t = record { held = t.held; told = told_later orig log frames more known.told node.told t.told; gathered = t.gathered }

-- more sayings
pub node_more : (orig : Mac) (log : Log) (frames : List SentFrame) (s t : List Saying) (known : Known) (node : Node) → ((x : Saying) → WasSaid s x → WasSaid t x) → NodeIsTied orig log frames s known node → NodeIsTied orig log frames t known node
node_more orig log frames s t known node more tied = record { held = tied.held; told = tied.told; gathered = gathered_more s t (stamp_of known) known.gathered more tied.gathered }
