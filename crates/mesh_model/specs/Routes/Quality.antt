-- The quality of links and paths under algorithm IV. The receive quality of a neighbour is how many
-- of its own last 64 numbers were heard from itself in its life. The echo quality is how many of
-- the node's own last 64 numbers came back from it. By both an OGM has its value: with `link = 255
-- * min(echo, receive) / receive` and `asym = 255 - 255 * (64 - receive)^3 / 262144` it is `tq *
-- link * asym / 65025`, each division floored, and 0 where nothing is received. The quality of a
-- path is the mean of the values above 0 among the originator's newest five numbers. The main words
-- are `transmit_quality` and `average_quality`.
use Rattle.std.specs.Prelude.{ℕ, suc, ◌-◌, ◌*◌, ◌/◌, ◌&&◌, ◌==◌, nat_lt, min, List, [], ◌∷◌, length, map, filter, sum, Option, Some, None, if◌then◌else◌}
use Rattle.mesh_base.specs.declared.address.Mac.{Mac}
use Rattle.mesh_model.specs.Routes.Addresses.{same_mac}
use Rattle.mesh_model.specs.Routes.Life.{HeardOgm, of, life, newest, numbers_from, value_at}
use Rattle.mesh_model.specs.Routes.Numbers.{seen_among, window_length}
use Rattle.mesh_model.specs.Routes.Ogm.{Ogm, ogm_of_head, is_echo}
use Rattle.mesh_model.specs.Routes.RouteLog.{RouteLog, OwnTick, HeadCame, is_ogm_tick}

-- how many numbers of a neighbour count in a life of it
abbrev pub received_in : Mac → List HeardOgm → ℕ
received_in k alive = length (seen_among (newest alive) window_length (numbers_from k alive))

-- the receive quality of a neighbour at a moment
abbrev pub receive_quality : ℕ → Mac → List HeardOgm → ℕ
receive_quality moment k hearings = received_in k (life moment (of k hearings))

-- how many OGMs the node itself sent, one at each tick of even index; it is the last one's number
abbrev pub own_ogms : RouteLog → ℕ
own_ogms [] = 0
own_ogms (OwnTick moment index ∷ older) =
    if is_ogm_tick index then suc (own_ogms older) else own_ogms older
own_ogms (HeadCame moment from throughput head ∷ older) = own_ogms older

-- the numbers that came back from a neighbour, with one more where an OGM from `from` is an echo
abbrev pub echoes_with : Mac → Mac → ℕ → Mac → Option Ogm → List ℕ → List ℕ
echoes_with me k last from None echoes = echoes
echoes_with me k last from (Some m) echoes =
    if is_echo me last m && same_mac from k then m.seq ∷ echoes else echoes

-- the own numbers that came back from a neighbour
abbrev pub echoes_from : Mac → Mac → RouteLog → List ℕ
echoes_from me k [] = []
echoes_from me k (OwnTick moment index ∷ older) = echoes_from me k older
echoes_from me k (HeadCame moment from throughput head ∷ older) =
    echoes_with me k (own_ogms older) from (ogm_of_head head) (echoes_from me k older)

-- the echo quality of a neighbour
abbrev pub echo_quality : Mac → Mac → RouteLog → ℕ
echo_quality me k log = length (seen_among (own_ogms log) window_length (echoes_from me k log))

-- the greatest quality
abbrev pub full_quality : ℕ
full_quality = 255

-- how much of what is received is also sent well
abbrev pub link_quality : ℕ → ℕ → ℕ
link_quality echo receive = full_quality * min echo receive / receive

-- the part that is left where little is received
abbrev pub asymmetry : ℕ → ℕ
asymmetry receive =
    full_quality - full_quality * ((64 - receive) * (64 - receive) * (64 - receive)) / 262144

-- the value of an OGM that says `tq`, from a neighbour of these qualities
unfoldable pub transmit_quality : ℕ → ℕ → ℕ → ℕ
transmit_quality tq echo receive =
    if receive == 0 then 0 else tq * link_quality echo receive * asymmetry receive / 65025

-- how many numbers an average is over
abbrev pub average_length : ℕ
average_length = 5

-- the floored mean of some numbers, 0 where there is none
abbrev pub mean : List ℕ → ℕ
mean [] = 0
mean (value ∷ values) = sum (value ∷ values) / length (value ∷ values)

-- the values above 0 of an originator's newest five numbers from a neighbour, in a life
abbrev pub good_values : List HeardOgm → Mac → List ℕ
good_values alive k =
    filter (λ value. nat_lt 0 value) (map (λ number. value_at number k alive)
    (seen_among (newest alive) average_length (numbers_from k alive)))

-- the quality of the path to an originator over a neighbour, in a life
unfoldable pub average_quality : List HeardOgm → Mac → ℕ
average_quality alive k = mean (good_values alive k)
