-- The VLANs of a list, each once in any order, and VLANs that those of all clients are among. No
-- public clause cites this file.
use Rattle.std.specs.Prelude.{◌≡◌, ◌==◌, Bool, true, List, length, IsSome}
use Rattle.std.specs.List.{list_any}
use Rattle.mesh_base.specs.declared.client.Key.{Key}
use Rattle.mesh_base.specs.declared.client.Vid.{Vid}
use Rattle.mesh_model.specs.Clients.Limits.{distinct_vids}
use Rattle.tt_local.specs.declared.client.Client.{Client}
use Rattle.tt_local.specs.Clients.{client_at}

-- whether a VLAN is among these
abbrev pub has_vid : List Vid → Vid → Bool
has_vid vids vid = list_any (λ other. other.0 == vid.0) vids

-- each VLAN of a list is among others
abbrev pub AreAmong : List Vid → List Vid → Type 0
AreAmong vids named = (vid : Vid) → has_vid vids vid ≡ true → has_vid named vid ≡ true

-- the VLANs of all these clients are among others
abbrev pub AreNamed : List Vid → List (Key × Client) → Type 0
AreNamed named clients = (key : Key) → IsSome (client_at clients key) →
    has_vid named key.vid ≡ true

-- these are the VLANs of a list, each once
pub record AreVlansOf (named vids : List Vid) : Type 0 where
  -- there are as many as the list has
  pub count : length named ≡ length (distinct_vids vids)
  -- a VLAN is named where the list has it
  pub same : (vid : Vid) → has_vid named vid ≡ has_vid vids vid
