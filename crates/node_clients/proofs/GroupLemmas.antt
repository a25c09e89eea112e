-- How a frame for a group is put: first where it is joined, then to its receivers.
use Rattle.std.proofs.Common.{◌≡◌, ℕ, Bool, List, [], ◌∷◌, ◌++◌, filter_map, map, refl, subst, Option, Some, None, Result}
use Rattle.std.specs.Prelude.{if◌then◌else◌}
use Rattle.std.specs.List.{cons_option}
use Rattle.mesh_base.specs.declared.address.Mac.{Mac}
use Rattle.mesh_base.specs.declared.event.Reason.TheVariants.{Mc}
use Rattle.mesh_model.specs.declared.act.Act.{Act}
use Rattle.mesh_model.specs.declared.ending.LimitName.{LimitName}
use Rattle.mesh_model.specs.Acts.BridgeRows.{Place, handed_out}
use Rattle.mesh_model.specs.Acts.GroupRows.{addressed, group_acts, receivers_acts}
use Rattle.mesh_model.specs.Clients.Mentions.{key_of}
use Rattle.mesh_model.specs.Knowledge.Addressee.{Way, way_to}
use Rattle.mesh_model.specs.Knowledge.Known.{Knowledge}
use Rattle.mesh_model.specs.Knowledge.Offers.{receivers}
use Rattle.mesh_model.specs.Packets.Numbers.{first_ttl}
use Rattle.mesh_model.specs.Packets.Payload.{ClientFrame}
use Rattle.mesh_model.specs.Routes.Queries.{Queries}
use Rattle.node_clients.specs.GroupRows.{each_addressed, on_its_way, one_addressed}
use Rattle.node_ground.specs.declared.failure.NodeErr.{NodeErr}
use Rattle.node_ground.specs.Puts.{Puts, StopsAt, TakesAll}
use Rattle.node_ground.proofs.PutsLemmas.{puts_behind, stops_among}

-- the first receiver, and the others behind it
pub each_next : (q : Queries) (known : Knowledge) (now : ℕ) (payload : List ℕ) (first : Mac) (rest : List Mac)
    → one_addressed q known now payload first ++ each_addressed q known now payload rest ≡ each_addressed q known now payload (first ∷ rest)
each_next q known now payload first rest =
    elim (way_to q known now Mc first) as (λ (way : Option Way). on_its_way q known now payload way ++ each_addressed q known now payload rest
    ≡ map (λ to. addressed q known now first_ttl to payload) (cons_option way (filter_map (way_to q known now Mc) rest))) [
      | None ↦ refl
      | Some way ↦ refl
    ]

module _ {P : Type 0} (takes : P → Act → P → Type 0) (same : P → P → Type 0) (over : P → Act → Option LimitName)
    (q : Queries) (known : Knowledge) (at : Place) (frame : ClientFrame) (joined : Bool) where
  -- what is put where the group is joined
  abbrev joined_acts : List Act
  joined_acts = if joined then handed_out at frame ∷ [] else []

  -- it stops where the group is joined
  pub group_stops : (error : NodeErr) (old new : P) → StopsAt takes same over error old joined_acts new → StopsAt takes same over error old (group_acts q known at frame joined) new
  unfolding group_acts
  group_stops error old new stop =
      stops_among takes same over error old new joined_acts (receivers_acts q known at frame (receivers q known at.now (key_of frame.dst frame.vid))) stop

  -- it goes to the receivers behind that
  pub group_puts : (rows : List Mac) (old mid new : P) (result : Result Unit NodeErr) → rows ≡ receivers q known at.now (key_of frame.dst frame.vid)
      → TakesAll takes over old joined_acts mid → Puts takes same over mid (receivers_acts q known at frame rows) result new → Puts takes same over old (group_acts q known at frame joined) result new
  unfolding group_acts
  group_puts rows old mid new result are all puts =
      puts_behind takes same over old mid new joined_acts (receivers_acts q known at frame (receivers q known at.now (key_of frame.dst frame.vid))) result all
      (subst (λ rows. Puts takes same over mid (receivers_acts q known at frame rows) result new) are puts)
