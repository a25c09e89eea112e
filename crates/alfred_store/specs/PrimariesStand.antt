-- How what is kept of primaries stands for all that announced themselves: the addresses are in order,
-- and beside each is the moment at which it did so last. The main word is `PrimariesStand`.
use Rattle.std.specs.Prelude.{◌≡◌, ℕ, List}
use Rattle.std.specs.Map.{keys_of, lookup}
use Rattle.mesh_base.specs.declared.address.Mac.{Mac}
use Rattle.mesh_model.specs.Knowledge.FactStore.{announced_primaries, last_announced}
use Rattle.mesh_model.specs.Knowledge.Served.{PrimaryCall}
use Rattle.mesh_model.specs.Routes.Addresses.{same_mac}

-- what is kept is that of these announcements
pub record PrimariesStand (kept : List (Mac × ℕ)) (calls : List PrimaryCall) : Type 0 where
  -- the addresses are those that announced themselves, in order
  pub addresses : keys_of kept ≡ announced_primaries calls
  -- beside each is when it did so last
  pub last : (mac : Mac) → lookup (same_mac mac) kept ≡ last_announced calls mac
