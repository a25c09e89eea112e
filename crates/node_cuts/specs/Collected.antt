-- Acts that are collected before they are put. The main words are `Collects` and `Collected`.
use Rattle.std.specs.Prelude.{◌≡◌, ℕ, filter, Bool, true, false, ⊤, List, [], ◌∷◌, ◌++◌, Option, Some, None, Result, if◌then◌else◌}
use Rattle.mesh_model.specs.declared.act.Act.{Act}
use Rattle.mesh_model.specs.declared.ending.LimitName.TheVariants.{Cuts}
use Rattle.mesh_model.specs.Acts.Cuts.{Cutter, is_cut, is_one_too_many}
use Rattle.mesh_model.specs.Acts.NodeLimits.{NodeLimit}
use Rattle.node_ground.specs.declared.failure.NodeErr.{NodeErr}
use Rattle.node_ground.specs.declared.failure.NodeErr.TheVariants as error
use Rattle.node_ground.specs.Puts.{Leaves}
use Rattle.node_cuts.specs.declared.cutter.Cutter.{Cutter as CutterCode}

-- one act more is collected
abbrev pub Collects : List Act → Act → List Act → Type 0
Collects old act new = new ≡ old ++ act ∷ []

-- what a row with this answer put into a list, by the acts that are its own and the limit that it
-- passes, or none
abbrev pub Collected : Option NodeLimit → List Act → Result Unit NodeErr → List Act → Type 0
Collected own whole answer list =
    Leaves Collects (λ old new. old ≡ new) (λ _ _. None) own [] whole answer list

-- a cutter as the model sees it
abbrev pub cutter_of : CutterCode → Cutter
cutter_of cutter = record { me = cutter.me; most = cutter.most; cuts = cutter.cuts }

-- the limit of cuts, where an act passes it
abbrev pub one_cut_limit : Cutter → Act → Option NodeLimit
one_cut_limit cutter act =
    if is_one_too_many cutter act then Some (record { acts = []; limit = Cuts }) else None

-- the acts before a limit aren't cut
abbrev pub AreUncut : ℕ → Option NodeLimit → Type 0
AreUncut most None = ⊤
AreUncut most (Some passed) = filter (is_cut most) passed.acts ≡ []

-- whether an error is want of memory
abbrev pub is_memory : NodeErr → Bool
is_memory error.Memory = true
is_memory error.Clients = false
is_memory error.Vlans = false
is_memory error.Frames = false
is_memory error.FrameBytes = false
is_memory error.Cuts = false
is_memory error.Dead = false
