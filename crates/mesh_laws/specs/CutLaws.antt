-- Laws of cuts: a node that lets all packets go whole puts its whole acts; what it puts are acts
-- that it had to put, or fragments of its cuts; and its cuts have the numbers from 1 on, in order,
-- so that no two have one number. The main words are `NothingIsCut`, `PutsAreOfActs` and
-- `CutsAreNumbered`.
use Rattle.std.specs.Prelude.{◌≡◌, ◌≤◌, ◌⊎◌, ℕ, suc, List, [], ◌∷◌, ◌++◌, length, slice_get, Option, Some, if◌then◌else◌}
use Rattle.mesh_base.specs.declared.address.Mac.{Mac}
use Rattle.mesh_base.specs.declared.event.Reason.{Reason}
use Rattle.mesh_model.specs.declared.act.Act.{Act}
use Rattle.mesh_model.specs.declared.act.Act.TheVariants.{Link, Lan, Print}
use Rattle.mesh_model.specs.declared.packet.Head.{Head}
use Rattle.mesh_model.specs.Acts.Choosing.{cutter_by, cuts_by, whole_acts}
use Rattle.mesh_model.specs.Acts.Cuts.{Cutter, after_act, cut_acts, fragment_act, is_cut, next_cut}
use Rattle.mesh_model.specs.Clients.Log.{Log}
use Rattle.mesh_model.specs.Fragments.Cutting.{CanBeMade, Cut, cuts_limit, fragments}
use Rattle.mesh_model.specs.Net.Next.{Has}
use Rattle.mesh_model.specs.Routes.Queries.{Queries}

-- the cut of what an act puts
abbrev pub cut_of_act : Cutter → Act → List Cut
cut_of_act cutter (Link to reason bytes) = next_cut cutter bytes ∷ []
cut_of_act cutter (Lan bytes) = []
cut_of_act cutter (Print event) = []

-- the cuts that are made of acts, in order
abbrev pub cuts_made : Cutter → List Act → List Cut
cuts_made cutter [] = []
cuts_made cutter (act ∷ acts) = (if is_cut cutter.most act then cut_of_act cutter act else [])
    ++ cuts_made (after_act cutter act) acts

-- the cuts that a node made by its log, in order
abbrev pub cuts_of_log : Queries → Mac → Log → List Cut
cuts_of_log q me [] = []
cuts_of_log q me (entry ∷ older) = cuts_of_log q me older
    ++ cuts_made (cutter_by q me older) (whole_acts q me older entry.moment entry.given)

-- where all packets go whole, nothing is cut
abbrev pub NothingIsCut : Type 0
NothingIsCut = (cutter : Cutter) (acts : List Act) → cutter.most ≡ 0 → cut_acts cutter acts ≡ acts

-- an act is a fragment of a cut that is made of acts: of the packet of one of them, which can be
-- cut, in the name of the node, with a number that two bytes tell
pub record IsPutForCut (cutter : Cutter) (acts : List Act) (act : Act) : Type 0 where
  pub cut : Cut
  pub made : Has (cuts_made cutter acts) cut
  pub can_be_made : CanBeMade cut
  pub own : cut.me ≡ cutter.me
  pub few : cut.number ≤ cuts_limit
  pub to : Option Mac
  pub reason : Option Reason
  pub whole : Has acts (Link to reason cut.packet)
  pub fragment : Head × List ℕ
  pub is_of_cut : Has (fragments cut) fragment
  pub is : act ≡ fragment_act to fragment

-- each act that is put is one of the acts, or a fragment of a cut that is made of them
abbrev pub PutsAreOfActs : Type 0
PutsAreOfActs = (cutter : Cutter) (acts : List Act) (act : Act) → Has (cut_acts cutter acts) act
    → Has acts act ⊎ IsPutForCut cutter acts act

-- the cuts of a node are as many as it counts, and each has its place among them as its number
pub record AreNumbered (q : Queries) (me : Mac) (log : Log) : Type 0 where
  pub counted : length (cuts_of_log q me log) ≡ cuts_by q me log
  pub numbered : (place : ℕ) (cut : Cut) → slice_get (cuts_of_log q me log) place ≡ Some cut →
      cut.number ≡ suc place

-- so it is of each log
abbrev pub CutsAreNumbered : Type 0
CutsAreNumbered = (q : Queries) (me : Mac) (log : Log) → AreNumbered q me log
