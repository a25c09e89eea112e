-- What is known of an OGM that is heard, and what is made of it. The main word is `IsHeard`.
use Rattle.std.specs.Prelude.{◌≡◌, ℕ, ◌+◌, ◌-◌, ◌&&◌, ◌||◌, nat_lt, Bool, true, not, List, Option, Some, None, if◌then◌else◌}
use Rattle.mesh_base.specs.declared.address.Mac.{Mac}
use Rattle.mesh_model.specs.declared.packet.Head.{Head}
use Rattle.mesh_model.specs.declared.packet.Head.TheVariants.{IvOgm}
use Rattle.mesh_model.specs.Routes.Addresses.{same_mac}
use Rattle.mesh_model.specs.Routes.AlgorithmIv.{iv_life, after_hop}
use Rattle.mesh_model.specs.Routes.Hearings.{before, hearing, heard}
use Rattle.mesh_model.specs.Routes.Life.{HeardOgm, is_first, numbers_from}
use Rattle.mesh_model.specs.Routes.Numbers.{has, window}
use Rattle.mesh_model.specs.Routes.Ogm.{ogm_of_head, passes}
use Rattle.mesh_model.specs.Packets.Numbers.{not_best_next_hop_flag, directlink_flag}
use Rattle.mesh_model.specs.Routes.Quality.{echo_quality}
use Rattle.mesh_model.specs.Routes.RouteLog.{RouteLog, RouteInput, HeadCame}
use Rattle.mesh_algo.specs.declared.life.Life.{Life}
use Rattle.mesh_algo.specs.LifeRows.{life_row}
use Rattle.mesh_iv.specs.declared.ogm.OgmCame.{OgmCame}
use Rattle.mesh_iv.specs.declared.path.Path.{Path}
use Rattle.mesh_iv.specs.Came.{ogm_in, head_of}
use Rattle.mesh_iv.specs.Rows.{five, value_below}
use Rattle.mesh_iv.specs.Tables.{Tables, StandsFor}

-- the input that an OGM is
abbrev pub input_of : OgmCame → ℕ → RouteInput
input_of came throughput = HeadCame came.moment came.from throughput (head_of came)

-- the life that the originator has when an OGM comes, which its number meets
abbrev pub lived_at : Mac → RouteLog → OgmCame → List HeardOgm
lived_at me log came = iv_life me log came.moment came.orig

-- the hearing of an OGM
abbrev pub hearing_of : Mac → RouteLog → OgmCame → HeardOgm
hearing_of me log came =
    hearing came.moment came.from (ogm_in came) (heard me log) (echo_quality me came.from log)

-- the originator's life before an OGM, with which the hearing goes on
abbrev pub life_before : Mac → RouteLog → OgmCame → List HeardOgm
life_before me log came = before (hearing_of me log came) (heard me log)

-- an OGM is heard, by tables that stand for a log, where the life that it goes on with has this row
pub record IsHeard (me : Mac) (tables : Tables) (log : RouteLog) (came : OgmCame)
    (row : Option Life) : Type 0 where
  pub stands : StandsFor me tables log
  pub passing : passes me (ogm_in came) ≡ true
  pub row_is : row ≡ life_row (life_before me log came)

-- the row of a neighbour in a life
abbrev pub kept_row : Mac → List HeardOgm → Path
kept_row k alive = record {
  heard = window (numbers_from k alive);
  values = five (λ back. value_below back k alive);
}

-- it is the first of its number from its neighbour, which has this row in the originator's life
pub record IsFirstHeard (me : Mac) (tables : Tables) (log : RouteLog) (came : OgmCame)
    (row : Option Life) (path : Path) : Type 0 where
  pub is : IsHeard me tables log came row
  pub path_is : path ≡ kept_row came.from (life_before me log came)
  pub first : is_first (hearing_of me log came) (life_before me log came) ≡ true

-- whether an OGM is sent on that is the first of its number from its neighbour and on time
abbrev pub goes_on : OgmCame → ℕ → List ℕ → Bool → Bool
goes_on came value sent over =
    nat_lt 1 came.ttl && (same_mac came.from came.orig
    || (nat_lt 0 value && (over && not (has came.seq sent))))

-- the flags with which it is sent on
abbrev pub flags_on : OgmCame → Bool → ℕ
flags_on came over =
    if same_mac came.from came.orig
    then (if over then directlink_flag else directlink_flag + not_best_next_hop_flag)
    else 0

-- the head with which it is sent on
abbrev pub head_on : OgmCame → ℕ → Bool → Head
head_on came value over =
    IvOgm (came.ttl - 1) (flags_on came over) came.seq came.orig came.from (after_hop value)

-- the same where it is sent on
abbrev pub sent_on_as : OgmCame → ℕ → List ℕ → Bool → Option Head
sent_on_as came value sent over =
    if goes_on came value sent over then Some (head_on came value over) else None

-- an OGM that came at a moment from a neighbour is what a head is, if it is one
abbrev pub IsCame : ℕ → Mac → Head → Option OgmCame → Type 0
IsCame moment from head None = ogm_of_head head ≡ None
IsCame moment from head (Some came) =
    (came.moment ≡ moment) × (came.from ≡ from) × (head ≡ head_of came)
