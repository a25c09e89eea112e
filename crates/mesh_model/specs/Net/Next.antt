-- The next happening as a relation: what can happen at all, and which of it comes next. The ticks
-- are without end, so this is no search; `next_due` in Due computes the same. The main words are
-- `IsNext` and `IsQuiet`.
use Rattle.std.specs.Prelude.{◌≡◌, ℕ, suc, ◌<◌, ◌≤◌, ◌⊎◌, List, [], ◌∷◌, slice_get, Some}
use Rattle.mesh_model.specs.declared.happening.Class.TheVariants.{LinkDelivery}
use Rattle.mesh_model.specs.declared.happening.Happening.{Happening}
use Rattle.mesh_model.specs.Net.Happenings.{Before}
use Rattle.mesh_model.specs.Net.Mesh.{NodeLog, SentFrame, LanPut, Mesh}
use Rattle.mesh_model.specs.Net.Due.{arrivals, lan_delivery_at, tick_at}

-- a value stands in a list
abbrev pub Has : {X : Type 0} → List X → X → Type 0
Has [] x = ⊥
Has (y ∷ ys) x = (x ≡ y) ⊎ Has ys x

-- a delivery of a frame that was sent
pub record IsDelivery (mesh : Mesh) (h : Happening) : Type 0 where
  pub class_is : h.class ≡ LinkDelivery
  pub frame : SentFrame
  pub found : slice_get mesh.frames h.place ≡ Some frame
  pub arrives : Has (arrivals mesh.links frame) h.moment

-- the delivery of a LAN frame that was put
pub record IsLanDelivery (mesh : Mesh) (h : Happening) : Type 0 where
  pub put : LanPut
  pub found : slice_get mesh.puts h.place ≡ Some put
  pub is : h ≡ lan_delivery_at h.place put

-- a tick of a node, by an index from 1
pub record IsTick (mesh : Mesh) (h : Happening) : Type 0 where
  pub node : NodeLog
  pub found : slice_get mesh.nodes h.place ≡ Some node
  pub index : ℕ
  pub is : h ≡ tick_at h.place node (suc index)

-- it can happen, at some moment before or to come
pub data Happens (mesh : Mesh) (h : Happening) : Type 0 where
  delivers : IsDelivery mesh h → Happens mesh h
  lan_delivers : IsLanDelivery mesh h → Happens mesh h
  ticks : IsTick mesh h → Happens mesh h

-- the same happening, or one before it
abbrev pub AtMost : Happening → Happening → Type 0
AtMost a b = (a ≡ b) ⊎ Before a b

-- it happens, it is after the last happening, it is until a moment, and nothing that happens after
-- the last one is before it
pub record IsNext (t : ℕ) (mesh : Mesh) (h : Happening) : Type 0 where
  pub happens : Happens mesh h
  pub after : Before mesh.last h
  pub within : h.moment ≤ t
  pub first : (x : Happening) → Happens mesh x → Before mesh.last x → AtMost h x

-- nothing is due until a moment
abbrev pub IsQuiet : ℕ → Mesh → Type 0
IsQuiet t mesh = (x : Happening) → Happens mesh x → Before mesh.last x → t < x.moment
