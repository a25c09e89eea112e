-- Where a client is advertised by whether it is newly present, and what is noted of it. The main
-- word is `advert_way`.
use Rattle.std.specs.Prelude.{ℕ, ◌&&◌, Bool, ◌∷◌, Option, Some, None, is_none, if◌then◌else◌}
use Rattle.mesh_base.specs.declared.client.Key.{Key}
use Rattle.mesh_model.specs.Knowledge.Addressee.{Way, addressee}
use Rattle.mesh_model.specs.Knowledge.Known.{Knowledge}
use Rattle.mesh_model.specs.Marks.Advertisements.{too_many}
use Rattle.mesh_model.specs.Marks.Calls.{Calls, Advised}
use Rattle.mesh_model.specs.Routes.Queries.{Queries}

-- where a sighted client is advertised that was newly present by it or not
abbrev pub advert_way : Queries → Knowledge → ℕ → Key → Bool → Option Way
advert_way q known now key newly =
    if newly && is_none (too_many now known.marks key) then addressee q known now key else None

-- the calls with the one that a client is advertised, where it is
abbrev pub advised : ℕ → Key → Option Way → Calls → Calls
advised now key None calls = calls
advised now key (Some to) calls = Advised now key ∷ calls
