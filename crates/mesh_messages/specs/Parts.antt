-- A part whose facts are lent. The main word is `seen_part`.
use Rattle.mesh_model.specs.Services.Transactions as transactions
use Rattle.mesh_messages.specs.declared.part.Part.{Part}
use Rattle.mesh_messages.specs.LentFacts.{lent_facts}

-- a part apart from where its facts lie
abbrev pub seen_part : Part → transactions.Part
seen_part part = record { number = part.number; facts = lent_facts part.facts.now }
