-- The own clients of a log at the next moment, and with one more mention.
use Rattle.std.proofs.Common.{◌≡◌, ◌≤◌, ℕ, List, ◌∷◌, refl, arith, None}
use Rattle.mesh_base.specs.declared.address.Mac.{Mac}
use Rattle.mesh_model.specs.Acts.Rows.{own_by}
use Rattle.mesh_model.specs.Clients.Limits.{limit_of_mention}
use Rattle.mesh_model.specs.Clients.Log.{Log}
use Rattle.mesh_model.specs.Clients.Mentions.{Mention, mentions}
use Rattle.mesh_model.specs.Commits.History.{History, history}
use Rattle.node_ground.specs.OwnStands.{AreFew, HasClients, OwnStands, newest_moment}
use Rattle.mesh_laws.proofs.FewLemmas.{few_with}
use Rattle.tt_local.specs.Locals.{LocalsStand, LocalsView}

-- the clients of a log are those of its node at each moment from the newest on
pub owned : (locals : LocalsView) (me : Mac) (log : Log) (now : ℕ) → HasClients locals me log → newest_moment log ≤ now → OwnStands locals (own_by me log) now
owned locals me log now has late = record {
  history = history me log;
  since = has.since;
  stand = has.stand;
  settled = (let settled = has.settled in omega (arith, settled, late));
  last = refl;
  told = refl;
  few = has.few.committed;
}

-- what stands for a log does so at the next moment
pub before_now : (locals : LocalsView) (me : Mac) (log : Log) (now : ℕ) (has : HasClients locals me log) → newest_moment log ≤ now → has.since ≤ now
before_now locals me log now has late =
    let settled = has.settled in
    omega (arith, settled, late)

-- the same with one more mention
pub owned_with : (old new : LocalsView) (me : Mac) (log : Log) (now : ℕ) (mention : Mention) (has : HasClients old me log) → has.since ≤ now
    → LocalsStand new (mention ∷ mentions me log) (history me log) has.since → OwnStands new (record (own_by me log) { mentions = mention ∷ mentions me log }) now
owned_with old new me log now mention has settled stand = record {
  history = history me log;
  since = has.since;
  stand = stand;
  settled = settled;
  last = refl;
  told = refl;
  few = has.few.committed;
}

-- clients are few at each later moment
pub few_later : (mentions : List Mention) (history : History) (since now : ℕ) → AreFew mentions history since → since ≤ now → AreFew mentions history now
few_later mentions history since now few late = record {
  present = λ at later. few.present at (omega (arith, late, later));
  committed = few.committed;
}

-- and with a mention that passes no limit
pub few_news : (older : List Mention) (history : History) (since : ℕ) (m : Mention) → AreFew older history since → since ≤ m.moment → limit_of_mention older m ≡ None
    → AreFew (m ∷ older) history m.moment
few_news older history since m few late none = record {
  present = few_with older since m few.present late none;
  committed = few.committed;
}
