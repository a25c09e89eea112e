-- What a command does to a scene: the state after it and what it prints, or the cause of its fault.
-- The main word is `AnswersCommand`; `AnswersFrom` says it over whatever stands for a state.
use Rattle.std.specs.Prelude.{◌≡◌, ◌<◌, Bool, true, false, List, ℕ, ◌++◌, length, Result, Ok, Err}
use Rattle.mesh_base.specs.declared.address.Mac.{Mac}
use Rattle.mesh_model.specs.declared.line_form.Algorithm.{Algorithm}
use Rattle.mesh_model.specs.declared.line_form.Command.{Command}
use Rattle.mesh_model.specs.declared.line_form.Command.TheVariants.{Nothing, Algo, Node, Link, Lan, Frame, Gone, Join, Leave, Arp, Dhcp, Wifi, GwOff, GwServer, GwClient, Mcast, Dat, Frag, Vis, Alfred, Put, Get, Ping, Trace, Reboot, Run, Deliver, Show, Decode}
use Rattle.mesh_model.specs.Net.Limits.{scenario_setup}
use Rattle.mesh_model.specs.Routes.Queries.{Queries}
use Rattle.mesh_model.specs.Routes.RouteLog.{RouteLog}
use Rattle.mesh_model.specs.Run.Outcome.{Outcome, Goes, Ends}
use Rattle.mesh_model.specs.Run.Rules.{carried_out}
use Rattle.mesh_model.specs.Run.State.{State, text_of}
use Rattle.mesh_scene.specs.SceneStands.{SceneStands}
use Rattle.mesh_scene.specs.declared.fault.LineFault.{LineFault}
use Rattle.mesh_scene.specs.declared.fault.LineFault.TheVariants.{Stopped, Memory}
use Rattle.mesh_scene.specs.declared.scene.Scene.{Scene}

-- a line that is carried out: the state after it, for which the scene stands, and what it printed
pub record Carries {S : Type 0} (stands : S → State → Type 0) (outcome : Outcome) (before : State)
    (scene : S) (printed : List ℕ) : Type 0 where
  pub after : State
  pub carried : outcome ≡ Goes after
  pub standing : stands scene after
  pub text : text_of after ≡ text_of before ++ printed

-- the cause of a line's fault, which changes no state: want of memory is free
abbrev pub HasLineCause : State → Outcome → LineFault → Type 0
HasLineCause before outcome (Stopped stop) = outcome ≡ Ends before stop
HasLineCause before outcome Memory = Unit {0}

-- what a call for a line of this outcome answers: the line is carried out, or its fault has a cause
abbrev pub AnswersLine : {S : Type 0} → (S → State → Type 0) → Outcome → State → S → List ℕ
    → Result (Unit {0}) LineFault → Type 0
AnswersLine stands outcome before scene printed (Ok done) =
    Carries stands outcome before scene printed
AnswersLine stands outcome before scene printed (Err fault) = HasLineCause before outcome fault

-- from each state that the scene stood for, a call answers a line of this outcome, and prints
abbrev pub AnswersFrom : {S : Type 0} → (S → State → Type 0) → (old new : S) → (State → Outcome)
    → List ℕ → Result (Unit {0}) LineFault → Type 0
AnswersFrom stands old new outcome printed result =
    (state : State) → stands old state
    → AnswersLine stands (outcome state) state new printed result

-- the outcome of a command in a mesh whose nodes answer so
abbrev pub outcome_under : (Mac → Queries) → Command → State → Outcome
outcome_under queries command state = carried_out (scenario_setup queries) state command

-- from each state that a scene stood for under an algorithm, a call answers a command, and prints
abbrev pub AnswersCommand : {A : Type 0} → Algorithm → (Mac → Queries)
    → (A → Mac → RouteLog → Type 0) → (old new : Scene A) → Command → List ℕ
    → Result (Unit {0}) LineFault → Type 0
AnswersCommand algorithm queries stands old new command printed result =
    AnswersFrom (SceneStands algorithm queries stands) old new (outcome_under queries command)
    printed result

-- a command, where it is a LAN, has a gateway
abbrev pub HasGateways : Command → Type 0
HasGateways command = (name : List ℕ) (gateways : List (List ℕ)) → command ≡ Lan name gateways
    → 0 < length gateways

-- whether a command is one for a scene: `algo` chooses another, and `run` lets time pass slice by
-- slice
abbrev pub is_for_scene : Command → Bool
is_for_scene Nothing = true
is_for_scene (Algo algorithm) = false
is_for_scene (Node name mac) = true
is_for_scene (Link from to delay pattern throughput) = true
is_for_scene (Lan name gateways) = true
is_for_scene (Frame place src dst vid text) = true
is_for_scene (Gone place key) = true
is_for_scene (Join node key) = true
is_for_scene (Leave node key) = true
is_for_scene (Arp node mac own asked vid) = true
is_for_scene (Dhcp node key text) = true
is_for_scene (Wifi node on) = true
is_for_scene (GwOff node) = true
is_for_scene (GwServer node down up) = true
is_for_scene (GwClient node policy) = true
is_for_scene (Mcast node flags) = true
is_for_scene (Dat node on) = true
is_for_scene (Frag node longest) = true
is_for_scene (Vis node on) = true
is_for_scene (Alfred node mode) = true
is_for_scene (Put node type_no version text) = true
is_for_scene (Get node type_no) = true
is_for_scene (Ping node target) = true
is_for_scene (Trace node target) = true
is_for_scene (Reboot node) = true
is_for_scene (Run time) = false
is_for_scene (Deliver number) = true
is_for_scene (Show node table) = true
is_for_scene (Decode bytes) = true
