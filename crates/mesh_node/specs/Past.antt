-- What a node knows is past at a moment: no message of a transaction and no part of a packet came
-- after it. The main word is `IsPast`.
use Rattle.std.specs.Prelude.{ℕ, ◌≤◌}
use Rattle.alfred_store.specs.StoreStands.{IsBefore, store_in}
use Rattle.mesh_frag.specs.Frags.{newest_moment}
use Rattle.mesh_model.specs.Knowledge.Known.{Knowledge}

-- no message and no part came after a moment
pub record IsPast (known : Knowledge) (now : ℕ) : Type 0 where
  pub store : IsBefore (store_in known) now
  pub parts : newest_moment known.parts ≤ now
