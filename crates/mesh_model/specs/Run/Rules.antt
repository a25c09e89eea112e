-- The rules on a command that was read, in the state before it: each name that it uses, one after
-- another, is that of a node or a LAN, and of a node where one is needed; what else it asks is met:
-- a new node has a name and an address of its own and a LAN a name, a link leads to another node
-- and isn't there yet, a ping goes to another node, the algorithm is chosen before the first node,
-- a frame that is delivered again was sent, and no gateway is made one again, rebooted or named as a
-- place.
-- They are looked at in this order. The first that is broken refuses the command and ends the run
-- in the state before it; a command that breaks none takes its step. The main words are
-- `first_refused_rule` and `carried_out`.
use Rattle.std.specs.Prelude.{not, List, [], ◌∷◌, Option, Some, None}
use Rattle.std.specs.Option.{option_or}
use Rattle.mesh_model.specs.declared.ending.Refusal.{Refusal}
use Rattle.mesh_model.specs.declared.ending.Refusal.TheVariants.{UnknownName, WrongKind}
use Rattle.mesh_model.specs.declared.ending.Stop.TheVariants.{Refused}
use Rattle.mesh_model.specs.declared.line_form.Algorithm.{Algorithm}
use Rattle.mesh_model.specs.declared.line_form.Command.{Command}
use Rattle.mesh_model.specs.Net.Limits.{scenario_setup}
use Rattle.mesh_model.specs.Net.Mesh.{Setup}
use Rattle.mesh_model.specs.Run.State.{State}
use Rattle.mesh_model.specs.Run.Outcome.{Outcome, Ends}
use Rattle.mesh_model.specs.Run.Steps.{step_of}
use Rattle.mesh_model.specs.Run.Demands.{demand_of, is_known_lan, is_taken, refusal_if, first_unmet}
use Rattle.mesh_model.specs.Routes.Algorithms.{queries_of}
use Rattle.mesh_model.specs.Run.Names.{NameUse, OfNode, OfPlace, names_used}

-- what a scenario whose nodes have an algorithm is run with
abbrev pub setup_of : Algorithm → Setup
setup_of algorithm = scenario_setup (queries_of algorithm)

-- why a name can't be used, if so: neither a node nor a LAN has it, or a LAN has it where a node is
-- needed
abbrev pub name_refusal : State → NameUse → Option Refusal
name_refusal state (OfNode name) = option_or (refusal_if (not (is_taken state name)) UnknownName)
    (refusal_if (is_known_lan state name) WrongKind)
name_refusal state (OfPlace name) = refusal_if (not (is_taken state name)) UnknownName

-- why the first of these names that can't be used can't be
abbrev pub names_refusal : State → List NameUse → Option Refusal
names_refusal state [] = None
names_refusal state (first ∷ rest) =
    option_or (name_refusal state first) (names_refusal state rest)

-- a command uses a name that can't be used
abbrev pub wrong_name : State → Command → Option Refusal
wrong_name state command = names_refusal state (names_used command)

-- the first rule that a command breaks
abbrev pub first_refused_rule : State → Command → Option Refusal
first_refused_rule state command =
    option_or (wrong_name state command) (first_unmet state (demand_of command))

-- the outcome of a rule's answer, and else that of a step
abbrev pub unless_refused : State → Option Refusal → Outcome → Outcome
unless_refused before (Some refusal) outcome = Ends before (Refused refusal)
unless_refused before None outcome = outcome

-- the outcome of a command
abbrev pub carried_out : Setup → State → Command → Outcome
carried_out setup state command =
    unless_refused state (first_refused_rule state command) (step_of setup command state)
