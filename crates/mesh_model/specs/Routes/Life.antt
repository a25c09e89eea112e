-- What a node knows of an originator, by the OGMs of it that it heard. A life is the longest run of
-- hearings in which each follows the one before by less than 200,000 ms, and none but the first is
-- a restart; an originator is live while its last hearing is younger than that. How a number meets
-- the life that it comes in is said by `meeting` alone: it is wild where it is far from the newest
-- of that life. A wild number is a restart, or late where the life itself began with a restart less
-- than 30,000 ms before; any other number is neither. A late hearing counts for the life and for
-- nothing else. Each list of hearings is newest first. The main words are `life` and `meeting`.
use Rattle.std.specs.Prelude.{ℕ, ◌-◌, ◌&&◌, nat_eq, nat_lt, max, Bool, true, false, not, List, [], ◌∷◌, filter, find, Option, option_map, if◌then◌else◌}
use Rattle.mesh_base.specs.declared.address.Mac.{Mac}
use Rattle.mesh_model.specs.declared.route.Meeting.{Meeting}
use Rattle.mesh_model.specs.Routes.Addresses.{same_mac, insert_mac}
use Rattle.mesh_model.specs.Routes.Numbers.{has, is_far, may_begin}

-- the hearing of an OGM, with what was decided when it came
pub record HeardOgm : Type 0 where
  -- when it was heard, in milliseconds
  pub moment : ℕ
  -- the originator, and the neighbour from which it came
  pub orig : Mac
  pub from : Mac
  -- its number and its time to live
  pub seq : ℕ
  pub ttl : ℕ
  -- whether it is late, and whether it is a restart, with which a life begins
  pub late : Bool
  pub restart : Bool
  -- what the path over the neighbour is worth by it
  pub value : ℕ
  -- whether it was sent on
  pub sent_on : Bool

-- how long an originator lives after a hearing, in milliseconds
abbrev pub life_span : ℕ
life_span = 200000

-- the hearings of an originator
abbrev pub of : Mac → List HeardOgm → List HeardOgm
of orig hearings = filter (λ h. same_mac h.orig orig) hearings

-- the originators heard, in the order of their addresses and each once
abbrev pub heard_originators : List HeardOgm → List Mac
heard_originators [] = []
heard_originators (h ∷ older) = insert_mac h.orig (heard_originators older)

-- of an originator's hearings, those of the life that it has at a moment
abbrev pub life : ℕ → List HeardOgm → List HeardOgm
life moment [] = []
life moment (h ∷ older) =
    if nat_lt (moment - h.moment) life_span
    then h ∷ (if h.restart then [] else life h.moment older) else []

-- of the hearings before one, those of its life: none where it is a restart
abbrev pub since : HeardOgm → List HeardOgm → List HeardOgm
since h older = if h.restart then [] else life h.moment older

-- whether there is a life
abbrev pub is_live : List HeardOgm → Bool
is_live [] = false
is_live (h ∷ older) = true

-- the greatest number in a life, late hearings apart; 0 where there is none
abbrev pub newest : List HeardOgm → ℕ
newest [] = 0
newest (h ∷ older) = if h.late then newest older else max h.seq (newest older)

-- whether a number is wild in a life: there is one, and the number is far from its newest
abbrev pub is_wild : ℕ → List HeardOgm → Bool
is_wild number alive = is_live alive && is_far number (newest alive)

-- the moment of the restart with which a life began, if it began with one
abbrev pub began_wild : List HeardOgm → Option ℕ
began_wild alive = option_map (λ (h : HeardOgm). h.moment) (find (λ (h : HeardOgm). h.restart) alive)

-- whether a wild number that comes at a moment in a life is a restart
abbrev pub may_restart : ℕ → List HeardOgm → Bool
may_restart moment alive = may_begin moment (began_wild alive)

-- how a number that comes at a moment meets the life at that moment
unfoldable pub meeting : (moment number : ℕ) → (alive : List HeardOgm) → Meeting
meeting moment number alive = record {
  late = is_wild number alive && not (may_restart moment alive);
  restart = is_wild number alive && may_restart moment alive;
}

-- the numbers heard from a neighbour, late hearings apart
abbrev pub numbers_from : Mac → List HeardOgm → List ℕ
numbers_from k [] = []
numbers_from k (h ∷ older) =
    if not h.late && same_mac h.from k then h.seq ∷ numbers_from k older else numbers_from k older

-- whether a hearing is the first of its number from its neighbour in its life, and isn't late
abbrev pub is_first : HeardOgm → List HeardOgm → Bool
is_first h before = not h.late && not (has h.seq (numbers_from h.from before))

-- whether a hearing is accepted: it begins a life or raises the newest number
abbrev pub is_accepted : HeardOgm → List HeardOgm → Bool
is_accepted h [] = true
is_accepted h (g ∷ older) = not h.late && nat_lt (newest (g ∷ older)) h.seq

-- the numbers that were sent on in a life
abbrev pub forwarded : List HeardOgm → List ℕ
forwarded [] = []
forwarded (h ∷ older) = if not h.late && h.sent_on then h.seq ∷ forwarded older else forwarded older

-- what a number is worth from a neighbour: the value at its first hearing, 0 where there is none
abbrev pub value_at : ℕ → Mac → List HeardOgm → ℕ
value_at number k [] = 0
value_at number k (h ∷ older) =
    if is_first h older && (same_mac h.from k && nat_eq h.seq number) then h.value
    else value_at number k older
