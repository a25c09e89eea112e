-- Laws of restarts. Whether a wild number is a restart is asked of the life in which it comes; over
-- hearings in order that says the same of all hearings of its originator: it is a restart where no
-- restart stands among them less than 30,000 ms before, and else late. What is heard by a log in
-- order is in order. The main word is `RestartIsOfLife`.
use Rattle.std.specs.Prelude.{◌≡◌, ◌↔◌, ℕ, ◌+◌, ◌<◌, ◌≤◌, true, false, Bool, List, [], ◌∷◌, ⊤}
use Rattle.mesh_base.specs.declared.address.Mac.{Mac}
use Rattle.mesh_model.specs.declared.route.Meeting.{Meeting}
use Rattle.mesh_model.specs.Net.Next.{Has}
use Rattle.mesh_model.specs.Routes.Addresses.{same_mac}
use Rattle.mesh_model.specs.Routes.Hearings.{heard}
use Rattle.mesh_model.specs.Routes.HearingsV.{heard_v}
use Rattle.mesh_model.specs.Routes.Life.{HeardOgm, is_wild, life, meeting, of}
use Rattle.mesh_model.specs.Routes.Numbers.{restart_pause}
use Rattle.mesh_model.specs.Routes.RouteLog.{RouteInput, RouteLog, OwnTick, HeadCame}

-- ---- what stands in order

-- hearings, newest first, of which none is later than the next, nor the last than a moment
abbrev pub AreInOrder : ℕ → List HeardOgm → Type 0
AreInOrder moment [] = ⊤
AreInOrder moment (h ∷ older) = (h.moment ≤ moment) × AreInOrder h.moment older

-- the moment of an input
abbrev pub moment_of : RouteInput → ℕ
moment_of (OwnTick moment index) = moment
moment_of (HeadCame moment from throughput head) = moment

-- the same of a log
abbrev pub IsInOrder : ℕ → RouteLog → Type 0
IsInOrder moment [] = ⊤
IsInOrder moment (input ∷ older) = (moment_of input ≤ moment) × IsInOrder (moment_of input) older

-- what is heard by a log in order is in order, under either algorithm
abbrev pub HearsInOrder : Type 0
HearsInOrder = (me : Mac) (moment : ℕ) (log : RouteLog) → IsInOrder moment log →
    AreInOrder moment (heard me log) × AreInOrder moment (heard_v me log)

-- ---- restarts

-- a restart of an originator stands among hearings, less than 30,000 ms before a moment
pub record RestartedLately (moment : ℕ) (orig : Mac) (hearings : List HeardOgm) : Type 0 where
  pub hearing : HeardOgm
  pub among : Has hearings hearing
  pub of_it : same_mac hearing.orig orig ≡ true
  pub is_restart : hearing.restart ≡ true
  pub lately : moment < hearing.moment + restart_pause

-- how a number of an originator, which comes at a moment, meets what was heard of it
abbrev pub met : (moment number : ℕ) → Mac → List HeardOgm → Meeting
met moment number orig hearings = meeting moment number (life moment (of orig hearings))

-- whether it is wild then
abbrev pub is_met_wild : (moment number : ℕ) → Mac → List HeardOgm → Bool
is_met_wild moment number orig hearings = is_wild number (life moment (of orig hearings))

-- a wild number is a restart exactly where no restart came lately, and else late
abbrev pub RestartIsOfLife : Type 0
RestartIsOfLife = (moment number : ℕ) (orig : Mac) (hearings : List HeardOgm) →
    AreInOrder moment hearings → is_met_wild moment number orig hearings ≡ true →
    (((met moment number orig hearings).restart ≡ true)
    ↔ (RestartedLately moment orig hearings → ⊥))
    × (((met moment number orig hearings).late ≡ true) ↔ RestartedLately moment orig hearings)

-- any other number is neither
abbrev pub OthersAreNeither : Type 0
OthersAreNeither = (moment number : ℕ) (orig : Mac) (hearings : List HeardOgm) →
    is_met_wild moment number orig hearings ≡ false →
    met moment number orig hearings ≡ record { late = false; restart = false }
