-- What nodes know of the network by pictures is right: each fact of the type of pictures that a node
-- keeps at a moment, that stands in a broadcast or in a packet for one node, or that came to a node
-- with a transaction, is the picture of its source at one of its rounds, by its log before it. So is
-- each that a node shows at a line of a run. The main words are `PicturesAreRight` and
-- `RunShowsPictures`.
use Rattle.std.specs.Prelude.{◌≡◌, ℕ, List, ◌++◌, slice_get, Some}
use Rattle.mesh_base.specs.declared.address.Mac.{Mac}
use Rattle.mesh_model.specs.declared.frame_choice.FrameChoice.{FrameChoice}
use Rattle.mesh_model.specs.declared.service.Fact.{Fact}
use Rattle.mesh_model.specs.declared.service.KeptFact.{KeptFact}
use Rattle.mesh_model.specs.Net.Mesh.{NodeLog, Mesh}
use Rattle.mesh_model.specs.Net.Next.{Has}
use Rattle.mesh_model.specs.Routes.Algorithms.{queries_of}
use Rattle.mesh_model.specs.Routes.Queries.{Queries}
use Rattle.mesh_model.specs.Run.PlainRun.{after_lines, start}
use Rattle.mesh_model.specs.Run.State.{State}
use Rattle.mesh_model.specs.Services.Facts.{facts_at}
use Rattle.mesh_model.specs.Services.Pictures.{picture_type}
use Rattle.mesh_tie.specs.Carried.{SendsOnly, WasPictured}
use Rattle.mesh_tie.specs.Steps.{IsReachable}
use Rattle.mesh_tie.specs.Tie.{known_at_node}
use Rattle.mesh_tie.specs.TieLaws.{AllKeep}

-- a fact is the picture of its source at one of its rounds, where it is of the type of pictures
abbrev pub IsRightPicture : (Mac → Queries) → Mesh → Fact → Type 0
IsRightPicture queries mesh fact = fact.type_no ≡ picture_type → WasPictured queries mesh fact

-- so is each that the nodes of a mesh keep at a moment, and each that was sent or came
pub record PicturesAreRight (queries : Mac → Queries) (mesh : Mesh) : Type 0 where
  pub kept : (place : ℕ) (node : NodeLog) → slice_get mesh.nodes place ≡ Some node →
      (now : ℕ) (kept : KeptFact) →
      Has (facts_at (known_at_node queries node).services.facts now) kept →
      IsRightPicture queries mesh kept.fact
  pub sent : SendsOnly (IsRightPicture queries mesh) queries mesh

-- so it is in every mesh that is reached
abbrev pub ReachedPicturesAreRight : Type 0
ReachedPicturesAreRight = (queries : Mac → Queries) → AllKeep queries → (mesh : Mesh) →
    IsReachable queries mesh → PicturesAreRight queries mesh

-- so it is in a state
abbrev pub HasRightPictures : State → Type 0
HasRightPictures state = PicturesAreRight (queries_of state.algorithm) state.mesh

-- so it is before and behind each of some lines, as they are carried out
abbrev pub RunShowsPictures : FrameChoice → List (List ℕ) → Type 0
RunShowsPictures choice lines = (before after : List (List ℕ)) → lines ≡ before ++ after →
    HasRightPictures (after_lines (start choice) before).state

-- so it is in a run of any lines
abbrev pub RunsShowPictures : Type 0
RunsShowPictures = (choice : FrameChoice) (lines : List (List ℕ)) →
    RunShowsPictures choice lines
