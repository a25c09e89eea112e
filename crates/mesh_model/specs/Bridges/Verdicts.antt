-- What a gateway does with a client frame, by who holds its source. From the LAN the holder passes
-- it; where none holds it, the gateway claims it and holds the frame back; else it holds it back.
-- From the mesh a frame to a group goes likewise, and one that a gateway of the same LAN broadcast
-- is always held back; any other is passed, and the source is claimed by a gateway that isn't its
-- holder. A holder that passes a frame claims the source anew where its last claim is 10,000 ms old
-- or older. The main words are `verdict_from_lan` and `verdict_from_mesh`.
use Rattle.std.specs.Prelude.{ℕ, ◌-◌, nat_le, true, false, Option, Some, None, if◌then◌else◌}
use Rattle.mesh_base.specs.declared.address.Mac.{Mac}
use Rattle.mesh_base.specs.declared.client.Key.{Key}
use Rattle.mesh_model.specs.declared.claim.Spread.{Spread}
use Rattle.mesh_model.specs.declared.claim.Spread.TheVariants.{Unicast, Flood, SameLan}
use Rattle.mesh_model.specs.declared.claim.Verdict.{Verdict}
use Rattle.mesh_model.specs.Bridges.Claims.{ClaimCall, ClaimCalls, standing_claim}
use Rattle.mesh_model.specs.Routes.Addresses.{same_mac}

-- how old a holder's claim may be before it is made anew, in milliseconds
abbrev pub renewal_age : ℕ
renewal_age = 10000

-- who holds a source: the gateway itself, by a claim so many milliseconds old, nobody, or another
pub data Hold : Type 0 where
  Ours : (age : ℕ) → Hold
  Nobodys : Hold
  Anothers : Hold

-- the same by the claim that stands
abbrev pub hold_by : Mac → ℕ → Option ClaimCall → Hold
hold_by me now None = Nobodys
hold_by me now (Some call) = if same_mac call.sender me then Ours (now - call.moment) else Anothers

-- the holder passes a frame
abbrev pub passed_by_holder : ℕ → Verdict
passed_by_holder age = record { pass = true; claim = nat_le renewal_age age }

-- what is done with a frame from the LAN, or with one to a group from the mesh
abbrev pub held_unless_ours : Hold → Verdict
held_unless_ours (Ours age) = passed_by_holder age
held_unless_ours Nobodys = record { pass = false; claim = true }
held_unless_ours Anothers = record { pass = false; claim = false }

-- what is done with a frame to a client from the mesh
abbrev pub passed_anyhow : Hold → Verdict
passed_anyhow (Ours age) = passed_by_holder age
passed_anyhow Nobodys = record { pass = true; claim = true }
passed_anyhow Anothers = record { pass = true; claim = true }

-- what is done with a frame from the mesh that is meant to go so far
abbrev pub by_spread : Spread → Hold → Verdict
by_spread Unicast hold = passed_anyhow hold
by_spread Flood hold = held_unless_ours hold
by_spread SameLan hold = record { pass = false; claim = false }

-- who holds a source at a moment
abbrev pub hold_of : Mac → ClaimCalls → ℕ → Key → Hold
hold_of me calls now source = hold_by me now (standing_claim calls now source)

-- what the gateway of an address does with a client frame from the LAN
abbrev pub verdict_from_lan : Mac → ClaimCalls → ℕ → Key → Verdict
verdict_from_lan me calls now source = held_unless_ours (hold_of me calls now source)

-- and with one from the mesh
abbrev pub verdict_from_mesh : Mac → ClaimCalls → ℕ → Key → Spread → Verdict
verdict_from_mesh me calls now source spread = by_spread spread (hold_of me calls now source)
