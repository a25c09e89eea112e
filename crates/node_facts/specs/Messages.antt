-- Messages of the store on their way, and what answers a request. No public clause cites this
-- module.
use Rattle.std.specs.Prelude.{ℕ, Bool, true, false, not, List, [], Option, Some, None}
use Rattle.alfred_store.specs.Answers.{Answered}
use Rattle.mesh_base.specs.declared.address.Mac.{Mac}
use Rattle.mesh_base.specs.declared.event.Reason.TheVariants.{Alfred}
use Rattle.mesh_model.specs.declared.act.Act.{Act}
use Rattle.mesh_model.specs.declared.line_form.AlfredMode.{AlfredMode}
use Rattle.mesh_model.specs.declared.line_form.AlfredMode.TheVariants.{Off, Primary, Secondary}
use Rattle.mesh_model.specs.declared.packet.Head.TheVariants.{Unicast}
use Rattle.mesh_model.specs.Acts.BridgeRows.{Place}
use Rattle.mesh_model.specs.Acts.FactRows.{facts_told}
use Rattle.mesh_model.specs.Acts.Packing.{sent_to}
use Rattle.mesh_model.specs.Packets.FactMessages.{FactMessage, fact_message_spelling}
use Rattle.mesh_model.specs.Packets.Numbers.{first_ttl}

-- what is carried goes to a node over a neighbour
abbrev pub carried_over : Mac → Mac → List ℕ → Act
carried_over next dst payload = sent_to next (Some Alfred) (Unicast first_ttl 0 dst) payload

-- a message goes to a node over a neighbour
abbrev pub message_over : Mac → Place → Mac → FactMessage → Act
message_over next at dst message =
    carried_over next dst (fact_message_spelling dst at.me message)

-- what answers a request is printed, if anything does
abbrev pub answer_acts : Place → Option Answered → List Act
answer_acts at None = []
answer_acts at (Some answer) = facts_told at answer.type_no answer.facts

-- whether a node takes the messages of a transaction, by its part in the store
abbrev pub takes : AlfredMode → Bool → Bool
takes Off push = false
takes Primary push = true
takes Secondary push = not push
