-- Laws of the distributed ARP table: how long a pair of an IP address and a VLAN is known, what is
-- printed as found, and which nodes keep a pair. The main words are `KnownWhileYoung`,
-- `FoundAnswersQuestion` and `CandidatesAreNearest`.
use Rattle.std.specs.Prelude.{◌≡◌, ◌↔◌, ◌⊎◌, ◌<◌, ◌+◌, ℕ, min, true, false, List, [], ◌∷◌, ◌++◌, length, Option, Some, ⊤}
use Rattle.mesh_base.specs.declared.address.Mac.{Mac}
use Rattle.mesh_base.specs.declared.client.Vid.{Vid}
use Rattle.mesh_base.specs.declared.event.ArpResult.TheVariants.{Found}
use Rattle.mesh_base.specs.declared.event.Event.TheVariants.{Arp}
use Rattle.mesh_model.specs.declared.act.Act.TheVariants.{Print}
use Rattle.mesh_model.specs.Acts.ArpRows.{arp_here, question_acts}
use Rattle.mesh_model.specs.Acts.BridgeRows.{Place}
use Rattle.mesh_model.specs.Clients.Log.{Line, Log, LogEntry}
use Rattle.mesh_model.specs.Clients.Log.{Arp as ArpGiven}
use Rattle.mesh_model.specs.Knowledge.Known.{Knowledge}
use Rattle.mesh_model.specs.Knowledge.Pairs.{after_arp}
use Rattle.mesh_model.specs.Knowledge.Steps.{knowledge}
use Rattle.mesh_model.specs.Net.Next.{Has}
use Rattle.mesh_model.specs.Packets.ArpMessages.{ArpCame, ArpMessage, Tells}
use Rattle.mesh_model.specs.Routes.Addresses.{is_smaller}
use Rattle.mesh_model.specs.Routes.Queries.{Queries}
use Rattle.mesh_model.specs.Services.ArpTable.{Learned, PairCall, AskedFor, ToldOf, candidates_of, distance, is_awaited, known_pair, most_candidates, pair_age, pair_place}

-- ---- what is known

-- what was learned is of a pair
abbrev pub IsOfPair : ℕ → Vid → Learned → Type 0
IsOfPair ip vid one = (one.ip ≡ ip) × (one.vid ≡ vid)

-- among what was learned, newest first, this is the last of a pair
pub record IsLearnedLast (learned : List Learned) (ip : ℕ) (vid : Vid) (last : Learned) : Type 0
  where
    pub newer : List Learned
    pub older : List Learned
    pub learned_is : learned ≡ newer ++ last ∷ older
    pub of_pair : IsOfPair ip vid last
    pub none_newer : (one : Learned) → Has newer one → IsOfPair ip vid one → ⊥

-- a pair is known exactly while what was learned last of it is younger than 300,000 ms
abbrev pub KnownWhileYoung : Type 0
KnownWhileYoung = (learned : List Learned) (now ip : ℕ) (vid : Vid) (last : Learned) →
    (known_pair learned now ip vid ≡ Some last)
    ↔ (IsLearnedLast learned ip vid last × (now < last.moment + pair_age))

-- ---- what is printed as found

-- a pair was asked for, and nothing told of it since
pub record WasAskedSince (calls : List PairCall) (ip : ℕ) (vid : Vid) : Type 0 where
  pub newer : List PairCall
  pub older : List PairCall
  pub calls_are : calls ≡ newer ++ AskedFor ip vid ∷ older
  pub untold : Has newer (ToldOf ip vid) → ⊥

-- an answer is awaited exactly where that is so
abbrev pub AwaitedUntilTold : Type 0
AwaitedUntilTold = (calls : List PairCall) (ip : ℕ) (vid : Vid) →
    (is_awaited calls ip vid ≡ true) ↔ WasAskedSince calls ip vid

-- a line asked for a pair
pub record WasAskedByLine (log : Log) (ip : ℕ) (vid : Vid) : Type 0 where
  pub entry : LogEntry
  pub among : Has log entry
  pub client : Mac
  pub own_ip : ℕ
  pub given_is : entry.given ≡ Line (ArpGiven client own_ip ip vid)

-- a node awaits an answer only for a pair that a line of its log asked for
abbrev pub AwaitedByLines : Type 0
AwaitedByLines = (q : Queries) (me : Mac) (log : Log) (ip : ℕ) (vid : Vid) →
    WasAskedSince (knowledge q me log).services.asks ip vid → WasAskedByLine log ip vid

-- what came is an answer to a question: it tells the address of a pair that was asked for
pub record AnswersQuestion (known : Knowledge) (came : Option ArpCame) (ip : ℕ) (mac : Mac)
    : Type 0 where
  pub message : ArpMessage
  pub came_is : came ≡ Some (Tells message)
  pub ip_is : message.sender_ip ≡ ip
  pub address_is : message.sender ≡ mac
  pub asked : WasAskedSince known.services.asks ip message.vid

-- for a packet of the table an address is printed as found exactly where the packet answers a
-- question, by a node that takes part
abbrev pub FoundAnswersQuestion : Type 0
FoundAnswersQuestion = (q : Queries) (known : Knowledge) (at : Place) (src : Mac)
    (came : Option ArpCame) (node : Mac) (ip : ℕ) (mac : Mac) →
    Has (arp_here q known at src came) (Print (Arp node ip (Found mac)))
    ↔ ((node ≡ at.me) × (known.services.settings.arp_table ≡ true)
    × AnswersQuestion known came ip mac)

-- for a question itself none is
abbrev pub QuestionFindsNone : Type 0
QuestionFindsNone = (q : Queries) (known : Knowledge) (at : Place) (client : Mac)
    (own_ip asked_ip : ℕ) (vid : Vid) (node : Mac) (ip : ℕ) (mac : Mac) →
    Has (question_acts q known at client own_ip asked_ip vid) (Print (Arp node ip (Found mac))) → ⊥

-- behind an answer nothing is awaited for its pair, until the pair is asked for again
abbrev pub NoneAwaitedUntilAsked : Type 0
NoneAwaitedUntilAsked = (now : ℕ) (known : Knowledge) (message : ArpMessage)
    (newer : List PairCall) → known.services.settings.arp_table ≡ true →
    (Has newer (AskedFor message.sender_ip message.vid) → ⊥) →
    is_awaited (newer ++ (after_arp now (Some (Tells message)) known).services.asks)
    message.sender_ip message.vid ≡ false

-- ---- which nodes keep a pair

-- to a place a second node is no nearer than a first: it is farther, or as far and not of the
-- smaller address
abbrev pub IsNoNearer : ℕ → Mac → Mac → Type 0
IsNoNearer place first second = (distance place first < distance place second)
    ⊎ ((distance place first ≡ distance place second) × (is_smaller second first ≡ false))

-- nodes stand the nearest first
abbrev pub StandNearestFirst : ℕ → List Mac → Type 0
StandNearestFirst place [] = ⊤
StandNearestFirst place (first ∷ rest) =
    ((second : Mac) → Has rest second → IsNoNearer place first second)
    × StandNearestFirst place rest

-- a pair has three candidates, or as many as there are nodes
abbrev pub CandidatesAreThree : Type 0
CandidatesAreThree = (ip : ℕ) (vid : Vid) (nodes : List Mac) →
    length (candidates_of ip vid nodes) ≡ min most_candidates (length nodes)

-- they are among the nodes
abbrev pub CandidatesAreAmong : Type 0
CandidatesAreAmong = (ip : ℕ) (vid : Vid) (nodes : List Mac) (mac : Mac) →
    Has (candidates_of ip vid nodes) mac → Has nodes mac

-- no other node is nearer than one of them
abbrev pub CandidatesAreNearest : Type 0
CandidatesAreNearest = (ip : ℕ) (vid : Vid) (nodes : List Mac) (mac other : Mac) →
    Has (candidates_of ip vid nodes) mac → Has nodes other →
    (Has (candidates_of ip vid nodes) other → ⊥) → IsNoNearer (pair_place ip vid) mac other

-- and they stand the nearest first
abbrev pub CandidatesAreInOrder : Type 0
CandidatesAreInOrder = (ip : ℕ) (vid : Vid) (nodes : List Mac) →
    StandNearestFirst (pair_place ip vid) (candidates_of ip vid nodes)
