-- The fragments that come, put together. An assembly is known by the node that cut, the number of
-- the cut and the length of the packet. It is opened by the first part that comes where none is
-- open, or where it was opened 10,000 ms ago or more. It has the first copy of each place since
-- then. It is whole where for some count, from 1 to the most that a packet has, all places below it
-- are there and their tails together are as long as the packet; its bytes are these tails, for the
-- least such count. Then it is open no more. The main words are `assembly` and `made_whole`.
use Rattle.std.specs.Prelude.{ℕ, zero, suc, ◌-◌, ◌==◌, ◌&&◌, nat_eq, nat_lt, Bool, List, [], ◌∷◌, ◌++◌, length, Option, Some, None, is_some, option_map, option_and_then, unwrap_or, if◌then◌else◌}
use Rattle.std.specs.Map.{lookup}
use Rattle.std.specs.Option.{option_or}
use Rattle.mesh_base.specs.declared.address.Mac.{Mac}
use Rattle.mesh_model.specs.Fragments.Cutting.{most_fragments}
use Rattle.mesh_model.specs.Routes.Addresses.{same_mac}

-- a part that came: a fragment's place and tail, and the assembly that it is of
pub record PartCall : Type 0 where
  pub moment : ℕ
  pub orig : Mac
  pub seq : ℕ
  pub total : ℕ
  pub place : ℕ
  pub tail : List ℕ

-- the part that a fragment is at a moment, by what its head tells and its tail
abbrev pub part_of : ℕ → Mac → ℕ → ℕ → ℕ → List ℕ → PartCall
part_of now orig seq total place tail = record {
  moment = now;
  orig = orig;
  seq = seq;
  total = total;
  place = place;
  tail = tail;
}

-- an open assembly: when it was opened, and the tails by place, in the order in which they came
pub record Assembly : Type 0 where
  pub opened : ℕ
  pub parts : List (ℕ × List ℕ)

-- how long an assembly stays open, in milliseconds
abbrev pub assembly_age : ℕ
assembly_age = 10000

-- ---- when an assembly is whole

-- the tails of the first places, so many, one behind the other; none where one is missing
abbrev pub bytes_below : List (ℕ × List ℕ) → ℕ → Option (List ℕ)
bytes_below parts zero = Some []
bytes_below parts (suc place) = option_and_then
    (λ bytes. option_map (λ tail. bytes ++ tail) (lookup (nat_eq place) parts))
    (bytes_below parts place)

-- bytes, where there are so many
abbrev pub if_so_many : ℕ → List ℕ → Option (List ℕ)
if_so_many total bytes = if length bytes == total then Some bytes else None

-- these tails, where they are as long as the packet
abbrev pub whole_at : ℕ → List (ℕ × List ℕ) → ℕ → Option (List ℕ)
whole_at total parts count = option_and_then (if_so_many total) (bytes_below parts count)

-- the same for the least count that they are so for, from 1 to this one
abbrev pub whole_within : ℕ → List (ℕ × List ℕ) → ℕ → Option (List ℕ)
whole_within total parts zero = None
whole_within total parts (suc count) =
    option_or (whole_within total parts count) (whole_at total parts (suc count))

-- the bytes of a packet of this length by the parts of it that came, where it is whole
unfoldable pub whole_of : ℕ → List (ℕ × List ℕ) → Option (List ℕ)
whole_of total parts = whole_within total parts most_fragments

-- ---- what is open

-- an assembly that is opened at a moment
abbrev pub new_assembly : ℕ → Assembly
new_assembly now = record { opened = now; parts = [] }

-- an assembly, while it stays open
abbrev pub if_young : ℕ → Assembly → Option Assembly
if_young now assembly =
    if nat_lt (now - assembly.opened) assembly_age then Some assembly else None

-- what is open still at a moment of what was open
abbrev pub standing : ℕ → Option Assembly → Option Assembly
standing now before = option_and_then (if_young now) before

-- the assembly that a part goes to: what is open still, or a new one
abbrev pub goes_to : ℕ → Option Assembly → Assembly
goes_to now before = unwrap_or (standing now before) (new_assembly now)

-- an assembly with a part, unless one of its place came before
abbrev pub with_part : ℕ → List ℕ → Assembly → Assembly
with_part place tail before = if is_some (lookup (nat_eq place) before.parts) then before
    else record before { parts = before.parts ++ (place, tail) ∷ [] }

-- an assembly of a packet of this length, unless it is whole
abbrev pub if_not_whole : ℕ → Assembly → Option Assembly
if_not_whole total assembly =
    if is_some (whole_of total assembly.parts) then None else Some assembly

-- whether a part is of the assembly of this node, number and length
abbrev pub is_part_of : Mac → ℕ → ℕ → PartCall → Bool
is_part_of orig seq total call =
    same_mac call.orig orig && (call.seq == seq) && (call.total == total)

-- what is open of this node, number and length after a part, from before
abbrev pub next_assembly : Mac → ℕ → ℕ → PartCall → Option Assembly → Option Assembly
next_assembly orig seq total call before = if is_part_of orig seq total call
    then if_not_whole total (with_part call.place call.tail (goes_to call.moment before))
    else before

-- what is open of this node, number and length, by the parts that came, newest first
abbrev pub assembly : List PartCall → Mac → ℕ → ℕ → Option Assembly
assembly [] orig seq total = None
assembly (call ∷ older) orig seq total =
    next_assembly orig seq total call (assembly older orig seq total)

-- the packet that a part makes whole, after others
abbrev pub made_whole : PartCall → List PartCall → Option (List ℕ)
made_whole call older = whole_of call.total (with_part call.place call.tail
    (goes_to call.moment (assembly older call.orig call.seq call.total))).parts
