-- How what a node keeps for services stands for what it knows of them. The main word is
-- `ServicesStand`.
use Rattle.std.specs.Prelude.{◌≡◌}
use Rattle.mesh_base.specs.declared.address.Mac.{Mac}
use Rattle.mesh_model.specs.Knowledge.Served.{Services}
use Rattle.mesh_dat.specs.Cache.{CacheStands}
use Rattle.alfred_store.specs.StoreStands.{StoreStands, store_of}
use Rattle.mesh_serv.specs.OffersStand.{OffersStand}
use Rattle.node_ground.specs.AsksStand.{AsksStand}
use Rattle.node_ground.specs.SettingsSeen.{settings_seen}
use Rattle.node_ground.specs.declared.services.Services as kept_services

-- the settings are as they were set, the offers are those that came, the choice is the one that was
-- made last, the pairs are those that were learned, and those for which an answer is awaited, and
-- the store is that of the node of an address
pub record ServicesStand (kept : kept_services.Services) (me : Mac) (known : Services) : Type 0
  where
    pub settings : settings_seen kept.settings ≡ known.settings
    pub offers : OffersStand kept.offers known.offers
    pub choice : kept.choice ≡ known.choice
    pub cache : CacheStands kept.cache known.learned
    pub asks : AsksStand kept.asks known.asks
    pub store : StoreStands kept.store me (store_of known)
