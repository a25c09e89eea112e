-- A client's question for an IP address, as a line gives it. The main word is `given_question`.
use Rattle.mesh_base.specs.declared.client.Key.{Key}
use Rattle.mesh_model.specs.Clients.Log.{Given, Line, Arp}
use Rattle.mesh_model.specs.Clients.Mentions.{key_of}
use Rattle.node_arp.specs.declared.question.Question.{Question}

-- what a question gives
abbrev pub given_question : Question → Given
given_question asked = Line (Arp asked.mac asked.own_ip asked.asked_ip asked.vid)

-- the client that asks
abbrev pub asking_client : Question → Key
asking_client asked = key_of asked.mac asked.vid
