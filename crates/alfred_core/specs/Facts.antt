-- How what a node keeps of facts stands for all that were put or came: of each source and type what
-- the calls leave, in their order. The main word is `FactsStand`.
use Rattle.std.specs.Prelude.{◌≡◌, List, ◌∷◌, Some, if◌then◌else◌}
use Rattle.std.specs.List.Sorted.{IsStrictlySortedBy}
use Rattle.std.specs.Map.{keys_of, lookup}
use Rattle.std.specs.Ordering.{eq_by_cmp}
use Rattle.mesh_base.specs.declared.address.Mac.{Mac}
use Rattle.mesh_model.specs.declared.service.FactKey.{FactKey}
use Rattle.mesh_model.specs.declared.service.KeptFact.{KeptFact}
use Rattle.mesh_model.specs.Services.Facts.{FactCall, fact_order, kept_fact, key_of_fact}

-- what is kept: the node, and the facts by source and type
pub record KeptFacts : Type 0 where
  pub me : Mac
  pub kept : List (FactKey × KeptFact)

-- what is kept is that of the node of an address after these calls
pub record FactsStand (facts : KeptFacts) (me : Mac) (calls : List FactCall) : Type 0 where
  pub own : facts.me ≡ me
  -- of each source and type what the calls leave is kept
  pub left : (key : FactKey) →
      lookup (eq_by_cmp fact_order key) facts.kept ≡ kept_fact calls key.source key.type_no
  -- sources and types ascend
  pub ordered : IsStrictlySortedBy fact_order (keys_of facts.kept)

-- a call leaves a fact in the place of that of its source and type, and all others
abbrev pub IsKeptBy : FactCall → List FactCall → KeptFact → Type 0
IsKeptBy call calls kept = (key : FactKey) → kept_fact (call ∷ calls) key.source key.type_no
    ≡ (if eq_by_cmp fact_order (key_of_fact kept.fact) key then Some kept
    else kept_fact calls key.source key.type_no)
