-- What is said of a routing algorithm's answers in the laws that each algorithm keeps. The main
-- words are `HasRouteByMetric` and `IgnoresAllBut`.
use Rattle.std.specs.Prelude.{◌≡◌, ◌↔◌, ℕ, ◌%◌, ◌<◌, Bool, false, ◌∷◌, is_some, IsSome, IfSome, IsTrue}
use Rattle.mesh_base.specs.declared.address.Mac.{Mac}
use Rattle.mesh_model.specs.declared.packet.Head.{Head}
use Rattle.mesh_model.specs.Routes.Queries.{Queries, is_elp, is_ogm, unheard}
use Rattle.mesh_model.specs.Routes.RouteLog.{RouteLog, HeadCame}

-- a route is there exactly where the metric is above 0
abbrev pub HasRouteByMetric : Queries → Type 0
HasRouteByMetric q =
    (log : RouteLog) (moment : ℕ) (orig : Mac) →
    IsSome (q.route log moment orig) ↔ (0 < q.metric log moment orig)

-- only live originators have a route
abbrev pub HasLiveRoutes : Queries → Type 0
HasLiveRoutes q =
    (log : RouteLog) (moment : ℕ) (orig : Mac) →
    IsSome (q.route log moment orig) → IsTrue (q.live log moment orig)

-- an OGM is sent exactly at ticks of even index
abbrev pub HasOgmAtEvenTicks : Queries → Type 0
HasOgmAtEvenTicks q =
    (log : RouteLog) (index : ℕ) → IsSome (q.beats log index).ogm ↔ (index % 2 ≡ 0)

-- what is sent as an originator message, and what is sent on, is the head of one
pub record SendsOgms (q : Queries) : Type 0 where
  pub own : (log : RouteLog) (index : ℕ) →
      IfSome (q.beats log index).ogm (λ head. IsTrue (is_ogm head))
  pub forwarded : (log : RouteLog) (moment : ℕ) (from : Mac) (throughput : ℕ) (came : Head) →
      IfSome (q.hear log moment from throughput came).forward (λ head. IsTrue (is_ogm head))

-- an ELP is sent at each tick, or at none
abbrev pub HasElps : Queries → Bool → Type 0
HasElps q sends = (log : RouteLog) (index : ℕ) → is_some (q.beats log index).elp ≡ sends

-- what is sent as an ELP is the head of one
abbrev pub SendsElps : Queries → Type 0
SendsElps q =
    (log : RouteLog) (index : ℕ) → IfSome (q.beats log index).elp (λ head. IsTrue (is_elp head))

-- a head of another kind than those that are heard is not heard
abbrev pub HearsNoneBut : Queries → (Head → Bool) → Type 0
HearsNoneBut q hears =
    (log : RouteLog) (moment : ℕ) (from : Mac) (throughput : ℕ) (head : Head) →
    hears head ≡ false → q.hear log moment from throughput head ≡ unheard

-- every answer is the same by two logs
pub record HasSameAnswers (q : Queries) (a b : RouteLog) : Type 0 where
  pub beats : (index : ℕ) → q.beats a index ≡ q.beats b index
  pub hear : (moment : ℕ) (from : Mac) (throughput : ℕ) (head : Head) →
      q.hear a moment from throughput head ≡ q.hear b moment from throughput head
  pub metric : (moment : ℕ) (orig : Mac) → q.metric a moment orig ≡ q.metric b moment orig
  pub route : (moment : ℕ) (orig : Mac) → q.route a moment orig ≡ q.route b moment orig
  pub live : (moment : ℕ) (orig : Mac) → q.live a moment orig ≡ q.live b moment orig
  pub originators : (moment : ℕ) → q.originators a moment ≡ q.originators b moment
  pub neighbours : (moment : ℕ) → q.neighbours a moment ≡ q.neighbours b moment

-- a head of another kind than those that are heard changes no answer
abbrev pub IgnoresAllBut : Queries → (Head → Bool) → Type 0
IgnoresAllBut q hears =
    (log : RouteLog) (moment : ℕ) (from : Mac) (throughput : ℕ) (head : Head) →
    hears head ≡ false → HasSameAnswers q (HeadCame moment from throughput head ∷ log) log
