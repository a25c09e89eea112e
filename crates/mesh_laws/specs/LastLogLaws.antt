-- Laws of reboots: what is asked of a node is the same of its log and of its log since the last
-- reboot, its commits before the last one and its cuts apart, where each reboot came to a node that
-- was no gateway; and so it is in every plain run. The main word is `LastLogAnswers`.
use Rattle.std.specs.Prelude.{◌≡◌, ℕ, true, List, [], ◌∷◌, slice_get, Some, ⊤}
use Rattle.mesh_base.specs.declared.address.Mac.{Mac}
use Rattle.mesh_model.specs.declared.frame_choice.FrameChoice.{FrameChoice}
use Rattle.mesh_model.specs.Clients.Lans.{bridge, no_bridge}
use Rattle.mesh_model.specs.Clients.LastLog.{last_log}
use Rattle.mesh_model.specs.Clients.Log.{Log, is_reboot, settings}
use Rattle.mesh_model.specs.Clients.Mentions.{mentions}
use Rattle.mesh_model.specs.Commits.History.{commits}
use Rattle.mesh_model.specs.Commits.Versions.{last_commit}
use Rattle.mesh_model.specs.Knowledge.Steps.{knowledge}
use Rattle.mesh_model.specs.Net.Mesh.{NodeLog}
use Rattle.mesh_model.specs.Routes.Queries.{Queries}
use Rattle.mesh_model.specs.Run.PlainRun.{plain_run}

-- at each reboot in a log the node is no gateway, and heard nothing on a LAN
abbrev pub RebootsOffLans : Log → Type 0
RebootsOffLans [] = ⊤
RebootsOffLans (entry ∷ older) =
    (is_reboot entry.given ≡ true → bridge older ≡ no_bridge) × RebootsOffLans older

-- what is asked of a node is the same of two logs
pub record AnswerAlike (log other : Log) : Type 0 where
  pub settings_same : settings log ≡ settings other
  pub bridge_same : bridge log ≡ bridge other
  pub mentions_same : (me : Mac) → mentions me log ≡ mentions me other
  pub last_same : (me : Mac) → last_commit (commits me log) ≡ last_commit (commits me other)
  pub knowledge_same : (q : Queries) (me : Mac) → knowledge q me log ≡ knowledge q me other
  pub services_same : (q : Queries) (me : Mac)
      → (knowledge q me log).services ≡ (knowledge q me other).services

-- so it is of a log and what of it is since its last reboot
abbrev pub LastLogAnswers : Type 0
LastLogAnswers = (log : Log) → RebootsOffLans log → AnswerAlike log (last_log log)

-- each reboot in a log of a plain run came to a node that was no gateway
abbrev pub RunsRebootOffLans : Type 0
RunsRebootOffLans = (choice : FrameChoice) (input : List ℕ) (place : ℕ) (node : NodeLog) →
    slice_get (plain_run choice input).state.mesh.nodes place ≡ Some node →
    RebootsOffLans node.log
