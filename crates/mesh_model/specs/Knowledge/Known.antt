-- What a node knows at a moment: of an originator's table, which counts only while the originator
-- is live, and of broadcasts that it took, each of another node. The broadcasts that are taken from
-- an originator come in rounds: the first of all begins one, and a number that isn't far from the
-- greatest of its round is taken once in it. One that is far is wild: it begins a new round and is
-- taken, where no wild one did so within 30,000 ms before; else it isn't taken. The main words are
-- `Knowledge`, `known_at`, `round` and `is_new_broadcast`.
use Rattle.std.specs.Prelude.{ℕ, nat_lt, ◌&&◌, Bool, not, List, [], ◌∷◌, find, length, map, Option, None, option_map, if◌then◌else◌}
use Rattle.mesh_base.specs.declared.address.Mac.{Mac}
use Rattle.mesh_model.specs.Fragments.Assembly.{PartCall}
use Rattle.mesh_model.specs.Knowledge.Served.{Services, no_services}
use Rattle.mesh_model.specs.Marks.Calls.{Calls}
use Rattle.mesh_model.specs.Probes.OpenProbes.{ProbeCall}
use Rattle.mesh_model.specs.Routes.Addresses.{same_mac}
use Rattle.mesh_model.specs.Routes.Numbers.{greatest, has, is_far, may_begin}
use Rattle.mesh_model.specs.Routes.Queries.{Queries}
use Rattle.mesh_model.specs.Routes.RouteLog.{RouteLog}
use Rattle.mesh_model.specs.Tables.Known.{Known, TableCalls, is_agreed, known_by, nothing, stamp_of}

-- a broadcast: its originator, and its number there
pub record Broadcast : Type 0 where
  pub orig : Mac
  pub number : ℕ

-- a broadcast that was taken: when, and whether it is wild, so that a round began with it
pub record TakenBroadcast : Type 0 where
  pub moment : ℕ
  pub broadcast : Broadcast
  pub wild : Bool

-- all that came, each list newest first: for the routing algorithm, for the tables of originators,
-- on marks, for the node's probes, the broadcasts that were taken, and the parts of packets that
-- were cut; how many broadcasts were sent; and what is kept for services
pub record Knowledge : Type 0 where
  pub routes : RouteLog
  pub tables : TableCalls
  pub marks : Calls
  pub probes : List ProbeCall
  pub taken : List TakenBroadcast
  pub parts : List PartCall
  pub sent : ℕ
  pub services : Services

-- before anything came
abbrev pub no_knowledge : Knowledge
no_knowledge = record {
  routes = [];
  tables = [];
  marks = [];
  probes = [];
  taken = [];
  parts = [];
  sent = 0;
  services = no_services;
}

-- what is known of an originator's table at a moment: nothing where it isn't live
abbrev pub known_at : Queries → Knowledge → ℕ → Mac → Known
known_at q known now orig =
    if q.live known.routes now orig then known_by known.tables orig else nothing

-- the byte that an originator was told to have at a moment
abbrev pub told_at : Queries → Knowledge → ℕ → Mac → Option ℕ
told_at q known now orig = option_map (λ stamp. stamp.byte) (stamp_of (known_at q known now orig))

-- the byte under which a table is held in agreement, if any
abbrev pub agreed_byte : Known → Option ℕ
agreed_byte known =
    if is_agreed known then option_map (λ held. held.byte) known.held else None

-- ---- broadcasts

-- the last round of an originator: its broadcasts that were taken, down to the last wild one
abbrev pub round : Mac → List TakenBroadcast → List TakenBroadcast
round orig [] = []
round orig (one ∷ older) = if same_mac one.broadcast.orig orig
    then one ∷ (if one.wild then [] else round orig older) else round orig older

-- the numbers that were taken in a round
abbrev pub round_numbers : List TakenBroadcast → List ℕ
round_numbers taken = map (λ (one : TakenBroadcast). one.broadcast.number) taken

-- when a round began with a wild broadcast, if it did
abbrev pub wild_at : List TakenBroadcast → Option ℕ
wild_at taken = option_map (λ (one : TakenBroadcast). one.moment)
    (find (λ (one : TakenBroadcast). one.wild) taken)

-- whether a number is wild beside a round: there is one, and the number is far from its greatest
abbrev pub is_wild_number : ℕ → List TakenBroadcast → Bool
is_wild_number number taken =
    nat_lt 0 (length taken) && is_far number (greatest (round_numbers taken))

-- whether a number is taken at a moment beside a round
abbrev pub is_new_number : ℕ → ℕ → List TakenBroadcast → Bool
is_new_number now number taken = if is_wild_number number taken then may_begin now (wild_at taken)
    else not (has number (round_numbers taken))

-- whether the node of an address takes a broadcast at a moment, after those that it took
abbrev pub is_new_broadcast : Mac → ℕ → Broadcast → List TakenBroadcast → Bool
is_new_broadcast me now broadcast taken = not (same_mac broadcast.orig me)
    && is_new_number now broadcast.number (round broadcast.orig taken)

-- a broadcast as it is taken at a moment, after those that were
abbrev pub taken_at : ℕ → Broadcast → List TakenBroadcast → TakenBroadcast
taken_at now broadcast taken = record {
  moment = now;
  broadcast = broadcast;
  wild = is_wild_number broadcast.number (round broadcast.orig taken);
}
