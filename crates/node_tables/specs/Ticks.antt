-- What a tick asks of what a node keeps, and how it leaves it. The main words are `MayTickNext` and
-- `IsTicked`.
use Rattle.std.specs.Prelude.{◌≤◌, ℕ, List, Result, OnOk}
use Rattle.mesh_base.specs.declared.address.Mac.{Mac}
use Rattle.mesh_model.specs.Clients.Mentions.{Mention}
use Rattle.mesh_model.specs.Commits.History.{History, after_tick, present_table}
use Rattle.mesh_model.specs.Knowledge.Known.{Knowledge}
use Rattle.mesh_model.specs.Knowledge.Steps.{before_round}
use Rattle.mesh_model.specs.Routes.Queries.{Queries}
use Rattle.mesh_model.specs.Routes.RouteLog.{MayTick, RouteLog}
use Rattle.node_ground.specs.declared.knowledge.NodeKnowledge.{NodeKnowledge}
use Rattle.node_ground.specs.declared.place.Place.{Place}
use Rattle.node_ground.specs.KnowledgeStands.{KnowledgeStands}
use Rattle.node_ground.specs.OwnStands.{AreFew}
use Rattle.tt_local.specs.Locals.{LocalsStand, LocalsView}

-- what is kept is what a node knows for which the tick of an index may come next
abbrev pub MayTickNext : {A : Type 0} → (A → Mac → RouteLog → Type 0) → NodeKnowledge A → Mac → ℕ
    → Type 0
MayTickNext stands kept me index = (known : Knowledge) × KnowledgeStands stands kept me known
    × MayTick known.routes index

-- the local clients and the commits of them are few enough from a moment on
abbrev pub HasFew : LocalsView → ℕ → Type 0
HasFew locals now = (mentions : List Mention) × (history : History) × (since : ℕ)
    × LocalsStand locals mentions history since × (since ≤ now) × AreFew mentions history now

-- what is kept once a call ticked
abbrev pub IsTicked : {A E : Type 0} → (A → Mac → RouteLog → Type 0) → Queries → Place → ℕ
    → NodeKnowledge A → NodeKnowledge A → Result Unit E → Type 0
IsTicked stands q at index old new result = (known : Knowledge) →
    KnowledgeStands stands old at.me known →
    OnOk result (KnowledgeStands stands new at.me (before_round q at.now index known))

-- and of the local clients
abbrev pub HasTicked : {E : Type 0} → ℕ → ℕ → LocalsView → LocalsView → Result Unit E → Type 0
HasTicked now index old new result = (mentions : List Mention) (history : History) (since : ℕ) →
    LocalsStand old mentions history since → since ≤ now →
    OnOk result (LocalsStand new mentions
    (after_tick index (present_table mentions now) history) now)
