-- Facts that are lent. The main words are `lent_facts` and `seen_part`.
use Rattle.std.specs.Prelude.{◌≤◌, List, map, length, flat_map}
use Rattle.std.specs.Borrow.{Bor}
use Rattle.mesh_model.specs.declared.service.Fact.{Fact}
use Rattle.mesh_model.specs.Packets.FactMessages.{fact_spelling}
use Rattle.mesh_model.specs.Services.Parts.{part_room}

-- lent facts apart from where they lie
abbrev pub lent_facts : List (Bor Fact) → List Fact
lent_facts facts = map (λ fact. fact.now) facts

-- a part has room for these facts
abbrev pub FitPart : List Fact → Type 0
FitPart facts = length (flat_map fact_spelling facts) ≤ part_room
