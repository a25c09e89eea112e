-- The report of a moment: the loops before it that are gone, then those that are new, each by
-- originator, then by its least node. A loop that is gone is `clear T ORIG N`, with its least node;
-- one that is new is `loop T ORIG` with all its nodes. Addresses are printed themselves. The main
-- word is `report_text`.
use Rattle.std.specs.Prelude.{ℕ, ◌&&◌, not, Bool, List, [], ◌∷◌, ◌++◌, codes, filter, flat_map, take}
use Rattle.std.specs.Cmp.Lexicographic.{pointwise}
use Rattle.std.specs.List.{list_any}
use Rattle.mesh_base.specs.declared.address.Mac.{Mac}
use Rattle.mesh_model.specs.declared.route_loop.Loop.{Loop}
use Rattle.mesh_model.specs.Routes.Addresses.{same_mac}
use Rattle.mesh_model.specs.Text.PacketLines.{line_of, named_address, named_number}

-- whether two loops are one
abbrev pub same_loop : Loop → Loop → Bool
same_loop a b = same_mac a.orig b.orig && pointwise same_mac a.nodes b.nodes

-- whether a loop is one of these
abbrev pub has_loop : List Loop → Loop → Bool
has_loop loops loop = list_any (same_loop loop) loops

-- the loops from before that are no more
abbrev pub gone_from : List Loop → List Loop → List Loop
gone_from before now = filter (λ loop. not (has_loop now loop)) before

-- the loops that were none before
abbrev pub new_in : List Loop → List Loop → List Loop
new_in before now = gone_from now before

-- nodes, each behind a space
abbrev pub nodes_text : List Mac → List ℕ
nodes_text nodes = flat_map (named_address (codes " ")) nodes

-- a line on a loop at a moment, that names these of its nodes
abbrev pub line_on : List ℕ → ℕ → Mac → List Mac → List ℕ
line_on word moment orig nodes = line_of (named_number word moment
    ∷ named_address (codes " ") orig ∷ nodes_text nodes ∷ [])

-- the line of a loop that is gone
unfoldable pub clear_line : ℕ → Loop → List ℕ
clear_line moment loop = line_on (codes "clear ") moment loop.orig (take 1 loop.nodes)

-- the line of a loop that is new
unfoldable pub loop_line : ℕ → Loop → List ℕ
loop_line moment loop = line_on (codes "loop ") moment loop.orig loop.nodes

-- what is printed of a moment, by the loops before it and those at its end
abbrev pub report_text : ℕ → List Loop → List Loop → List ℕ
report_text moment before now = flat_map (clear_line moment) (gone_from before now)
    ++ flat_map (loop_line moment) (new_in before now)
