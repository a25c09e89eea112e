-- How what a node keeps of its clients stands for its mentions and its history of commits. It does
-- so from a moment on: it knows nothing of sightings that counted no longer before. What stands
-- from a moment on stands from each later one on. The main word is `LocalsStand`.
use Rattle.std.specs.Prelude.{◌≤◌, ◌↔◌, ℕ, Bool, List, ◌∷◌, Result, IfOk, IsNone, IsTrue, OnOk}
use Rattle.mesh_base.specs.declared.client.Key.{Key}
use Rattle.mesh_model.specs.Clients.Mentions.{Mention}
use Rattle.mesh_model.specs.Clients.Present.{present_row}
use Rattle.mesh_model.specs.Commits.History.{first_history, History}
use Rattle.tt_local.specs.declared.client.Client.{Client}
use Rattle.tt_local.specs.Clients.{ClientsStand}
use Rattle.tt_local.specs.Journal.{JournalView, JournalStands}

-- clients by key, and the journal of the commits
pub record LocalsView : Type 0 where
  pub clients : List (Key × Client)
  pub journal : JournalView

-- clients and journal are those of a node with these mentions and this history, from a moment on
pub record LocalsStand (view : LocalsView) (mentions : List Mention) (history : History)
    (since : ℕ) : Type 0 where
  pub clients : ClientsStand view.clients mentions since
  pub journal : JournalStands view.journal history

-- clients are those of a node with these mentions that never committed
abbrev pub StandsFor : LocalsView → List Mention → Type 0
StandsFor view mentions = LocalsStand view mentions first_history 0

-- a mention is noted in what stood for those before it
abbrev pub Notes : {X E : Type 0} → Mention → LocalsView → LocalsView → Result X E → Type 0
Notes mention old new result = (mentions : List Mention) (history : History) (since : ℕ) →
    LocalsStand old mentions history since →
    OnOk result (LocalsStand new (mention ∷ mentions) history since)

-- it is told whether a client wasn't present before
abbrev pub TellsNew : {E : Type 0} → ℕ → Key → LocalsView → Result Bool E → Type 0
TellsNew now key old result = IfOk result (λ newly. (mentions : List Mention) (history : History)
    (since : ℕ) → LocalsStand old mentions history since → since ≤ now →
    IsTrue newly ↔ IsNone (present_row mentions now key))
