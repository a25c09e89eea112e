-- Messages of the fact store where they lie. The main word is `seen_came`.
use Rattle.mesh_model.specs.Packets.FactMessages as messages
use Rattle.mesh_messages.specs.declared.fact_message.CameFact.{CameFact}
use Rattle.mesh_messages.specs.declared.fact_message.FactMessage.{FactMessage}
use Rattle.mesh_messages.specs.declared.fact_message.FactMessage.TheVariants.{Part, Primary, Request, End}

-- a message apart from where its facts lie
abbrev pub seen_message : FactMessage → messages.FactMessage
seen_message (Part push id number facts) = messages.HasPart push id number facts
seen_message Primary = messages.Primary
seen_message (Request id type_no) = messages.Requests id type_no
seen_message (End push id count) = messages.HasEnd push id count

-- a message with its sender, apart from where its facts lie
abbrev pub seen_came : CameFact → messages.CameFact
seen_came came = record { sender = came.sender; message = seen_message came.message }
