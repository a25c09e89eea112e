-- What is left of a transaction on its way to a node.
use Rattle.std.proofs.Common.{◌≡◌, ℕ, List, [], ◌∷◌, ◌++◌, length, map, subst, Option, Result}
use Rattle.mesh_base.specs.declared.address.Mac.{Mac}
use Rattle.mesh_model.specs.declared.act.Act.{Act}
use Rattle.mesh_model.specs.declared.ending.LimitName.{LimitName}
use Rattle.mesh_model.specs.declared.service.Fact.{Fact}
use Rattle.mesh_model.specs.Acts.BridgeRows.{Place}
use Rattle.mesh_model.specs.Packets.FactMessages.{HasEnd, fact_message_spelling}
use Rattle.mesh_model.specs.Services.Parts.{part_message, parts_of}
use Rattle.mesh_model.specs.Services.Transactions.{Part}
use Rattle.node_facts.specs.Messages.{carried_over, message_over}
use Rattle.node_facts.specs.declared.sending.Transaction.{Transaction}
use Rattle.node_facts.proofs.Underway.{IsUnderway}
use Rattle.node_ground.specs.declared.failure.NodeErr.{NodeErr}
use Rattle.node_ground.specs.Puts.{Puts}

-- the parts that are left, and then the end
abbrev pub left_of : Mac → Place → Mac → Transaction → List Fact → List Part → List Act
left_of next at dst transaction facts rest = map (message_over next at dst)
    (map (part_message transaction.push transaction.id) rest ++ HasEnd transaction.push transaction.id (length (parts_of facts)) ∷ [])

module _ {P : Type 0} (takes : P → Act → P → Type 0) (same : P → P → Type 0) (over : P → Act → Option LimitName)
    (next : Mac) (at : Place) (dst : Mac) (transaction : Transaction) (facts : List Fact) where
  -- behind the last part the end goes
  pub end_goes : (old mid new : P) (rest : List Part) (count : ℕ) (bytes : List ℕ) (result : Result Unit NodeErr)
      → IsUnderway takes same over old mid (left_of next at dst transaction facts (parts_of facts)) (left_of next at dst transaction facts rest) → rest ≡ [] → count ≡ length (parts_of facts)
      → bytes ≡ fact_message_spelling dst at.me (HasEnd transaction.push transaction.id count) → Puts takes same over mid (carried_over next dst bytes ∷ []) result new
      → Puts takes same over old (left_of next at dst transaction facts (parts_of facts)) result new
  end_goes old mid new rest count bytes result way none counted spelled puts =
      let whole = left_of next at dst transaction facts (parts_of facts) in
      let at_end = subst (λ rest. IsUnderway takes same over old mid whole (left_of next at dst transaction facts rest)) none way in
      at_end.puts result new (subst (λ n. Puts takes same over mid (message_over next at dst (HasEnd transaction.push transaction.id n) ∷ []) result new) counted
      (subst (λ bytes. Puts takes same over mid (carried_over next dst bytes ∷ []) result new) spelled puts))
