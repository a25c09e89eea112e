-- What is known of an OGM that is heard, and what is made of it. The main word is `IsHeard`.
use Rattle.std.specs.Prelude.{◌≡◌, ℕ, ◌-◌, ◌&&◌, nat_lt, Bool, true, not, List, Option, Some, None, if◌then◌else◌}
use Rattle.mesh_base.specs.declared.address.Mac.{Mac}
use Rattle.mesh_model.specs.declared.packet.Head.{Head}
use Rattle.mesh_model.specs.declared.packet.Head.TheVariants.{Ogm2}
use Rattle.mesh_model.specs.Routes.AlgorithmIv.{after_hop}
use Rattle.mesh_model.specs.Routes.Hearings.{before}
use Rattle.mesh_model.specs.Routes.HearingsV.{heard_v, hearing_v, last_number, passes_v}
use Rattle.mesh_model.specs.Routes.Life.{HeardOgm, is_first, numbers_from, value_at}
use Rattle.mesh_model.specs.Routes.Neighbours.{is_up, last_elp}
use Rattle.mesh_model.specs.Routes.Numbers.{has, window}
use Rattle.mesh_model.specs.Routes.RouteLog.{RouteLog, RouteInput, HeadCame}
use Rattle.mesh_algo.specs.declared.life.Life.{Life}
use Rattle.mesh_algo.specs.LifeRows.{life_row}
use Rattle.mesh_v.specs.declared.ogm.OgmCame.{OgmCame}
use Rattle.mesh_v.specs.declared.path.Path.{Path}
use Rattle.mesh_v.specs.declared.row.LastElp.{LastElp}
use Rattle.mesh_v.specs.Came.{ogm_in, head_of}
use Rattle.mesh_v.specs.Rows.{elp_row}
use Rattle.mesh_v.specs.Tables.{Tables, StandsFor}

-- the input that an OGM is
abbrev pub input_of : OgmCame → RouteInput
input_of came = HeadCame came.moment came.from came.link (head_of came)

-- whether a neighbour is up when an OGM comes
abbrev pub up_then : RouteLog → OgmCame → Mac → Bool
up_then log came k = is_up came.moment k log

-- the hearing of an OGM
abbrev pub hearing_of : Mac → RouteLog → OgmCame → HeardOgm
hearing_of me log came =
    hearing_v (up_then log came) came.moment came.from came.link (ogm_in came) (heard_v me log)

-- the originator's life before an OGM, with which the hearing goes on
abbrev pub life_before : Mac → RouteLog → OgmCame → List HeardOgm
life_before me log came = before (hearing_of me log came) (heard_v me log)

-- an OGM is heard, by tables that stand for a log, where the life that it goes on with and the last
-- ELP of its originator have these rows
pub record IsHeard (me : Mac) (tables : Tables) (log : RouteLog) (came : OgmCame)
    (elp : Option LastElp) (row : Option Life) : Type 0 where
  pub stands : StandsFor me tables log
  pub passing : passes_v me (up_then log came came.from) (ogm_in came) ≡ true
  pub elp_is : elp ≡ elp_row (last_elp came.orig log)
  pub row_is : row ≡ life_row (life_before me log came)

-- the row of a neighbour in a life
abbrev pub kept_row : Mac → List HeardOgm → Path
kept_row k alive = record {
  heard = window (numbers_from k alive);
  value = value_at (last_number alive k) k alive;
}

-- it is the first of its number from its neighbour, which has this row in the originator's life
pub record IsFirstHeard (me : Mac) (tables : Tables) (log : RouteLog) (came : OgmCame)
    (elp : Option LastElp) (row : Option Life) (path : Path) : Type 0 where
  pub is : IsHeard me tables log came elp row
  pub path_is : path ≡ kept_row came.from (life_before me log came)
  pub first : is_first (hearing_of me log came) (life_before me log came) ≡ true

-- whether an OGM is sent on that is the first of its number from its neighbour and on time
abbrev pub goes_on : OgmCame → ℕ → List ℕ → Bool → Bool
goes_on came value sent over =
    nat_lt 1 came.ttl && (nat_lt 0 value && (over && not (has came.seq sent)))

-- the head with which it is sent on
abbrev pub head_on : OgmCame → ℕ → Head
head_on came value = Ogm2 (came.ttl - 1) came.flags came.seq came.orig (after_hop value)

-- the same where it is sent on
abbrev pub sent_on_as : OgmCame → ℕ → List ℕ → Bool → Option Head
sent_on_as came value sent over =
    if goes_on came value sent over then Some (head_on came value) else None
