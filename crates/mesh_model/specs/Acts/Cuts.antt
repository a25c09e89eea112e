-- Packets that are too long to go whole. The acts of a row have whole packets. Of these a packet
-- for one node that is longer than the node lets go whole is cut: its fragments go in its place, in
-- order, each an act of its own that has no reason. A packet of another kind goes whole, and so
-- does one that is too long for fragments. A node numbers its cuts from 1. The cut behind the last
-- number that two bytes tell would pass a limit: neither it nor an act behind it is put. The main
-- words are `cut_acts` and `passes_cuts`.
use Rattle.std.specs.Prelude.{ℕ, suc, ◌+◌, ◌*◌, ◌^◌, ◌&&◌, nat_le, nat_lt, Bool, false, List, [], ◌∷◌, ◌++◌, filter, length, map, Option, None, is_some, if◌then◌else◌}
use Rattle.mesh_base.specs.declared.address.Mac.{Mac}
use Rattle.mesh_model.specs.declared.act.Act.{Act}
use Rattle.mesh_model.specs.declared.act.Act.TheVariants.{Link, Lan, Print}
use Rattle.mesh_model.specs.declared.packet.Head.{Head}
use Rattle.mesh_model.specs.Fragments.Cutting.{Cut, cuts_limit, fragments, least_most, most_fragments, reach_of, tail_size}
use Rattle.mesh_model.specs.Packets.Layout.{spelling}

-- how a node cuts: its address, the greatest length of a packet that goes whole, or 0 where all do,
-- and how many cuts it made
pub record Cutter : Type 0 where
  pub me : Mac
  pub most : ℕ
  pub cuts : ℕ

-- ---- one act

-- whether a packet of this length is too long to go whole, and not too long for fragments
abbrev pub is_too_long : ℕ → ℕ → Bool
is_too_long most size = nat_le least_most most && nat_lt most size
    && nat_le size (most_fragments * tail_size most) && nat_lt size (2 ^ 16)

-- whether an act is cut
abbrev pub is_cut : ℕ → Act → Bool
is_cut most (Link to reason bytes) =
    is_too_long most (length bytes) && is_some (reach_of bytes)
is_cut most (Lan bytes) = false
is_cut most (Print event) = false

-- the next cut of a node
abbrev pub next_cut : Cutter → List ℕ → Cut
next_cut cutter packet = record {
  most = cutter.most;
  number = suc cutter.cuts;
  me = cutter.me;
  packet = packet;
}

-- a fragment, on the way of its packet
abbrev pub fragment_act : Option Mac → Head × List ℕ → Act
fragment_act to fragment = Link to None (spelling fragment.0 fragment.1)

-- the fragments of what an act puts
abbrev pub fragment_acts : Cutter → Act → List Act
fragment_acts cutter (Link to reason bytes) =
    map (fragment_act to) (fragments (next_cut cutter bytes))
fragment_acts cutter (Lan bytes) = []
fragment_acts cutter (Print event) = []

-- what is put for an act
abbrev pub cut_act : Cutter → Act → List Act
cut_act cutter act = if is_cut cutter.most act then fragment_acts cutter act else act ∷ []

-- how a node cuts behind an act
abbrev pub after_act : Cutter → Act → Cutter
after_act cutter act = if is_cut cutter.most act then record cutter { cuts = suc cutter.cuts }
    else cutter

-- ---- acts, one after another

-- whether an act would be cut, and one cut more would be too many
abbrev pub is_one_too_many : Cutter → Act → Bool
is_one_too_many cutter act = is_cut cutter.most act && nat_le cuts_limit cutter.cuts

-- what is put for acts, before the cut that would be too many
abbrev pub cut_acts : Cutter → List Act → List Act
cut_acts cutter [] = []
cut_acts cutter (act ∷ acts) = if is_one_too_many cutter act then []
    else cut_act cutter act ++ cut_acts (after_act cutter act) acts

-- how many of the acts are cut
abbrev pub cuts_among : ℕ → List Act → ℕ
cuts_among most acts = length (filter (is_cut most) acts)

-- whether one of the acts would be one cut too many
abbrev pub passes_cuts : Cutter → List Act → Bool
passes_cuts cutter acts = nat_lt 0 cutter.most
    && nat_lt cuts_limit (cutter.cuts + cuts_among cutter.most acts)
