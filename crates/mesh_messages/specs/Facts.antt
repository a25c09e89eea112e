-- Facts where they lie in a part. The main words are `seen_fact`, and `facts_read`, the facts that
-- bytes are.
use Rattle.std.specs.Prelude.{◌≡◌, ◌<◌, ℕ, List, [], length, unwrap_or}
use Rattle.mesh_model.specs.declared.service.Fact.{Fact}
use Rattle.mesh_model.specs.Packets.FactMessages.{fact_before, facts_of}
use Rattle.mesh_messages.specs.declared.facts.FactRef.{FactRef}

-- a fact apart from where its bytes lie
abbrev pub seen_fact : FactRef → Fact
seen_fact fact = record {
  source = fact.source;
  type_no = fact.type_no;
  version = fact.version;
  bytes = fact.bytes.now;
}

-- the facts that bytes are; none for bytes that aren't facts to their last byte
abbrev pub facts_read : List ℕ → List Fact
facts_read bytes = unwrap_or (facts_of bytes) []

-- the bytes begin with this fact, and these come behind it
pub record IsFront (bytes : List ℕ) (fact : Fact) (rest : List ℕ) : Type 0 where
  pub facts : facts_of bytes ≡ fact_before fact (facts_of rest)
  pub shorter : length rest < length bytes
