-- How what a gateway keeps of claim frames stands for all that came: of each key the last one, the
-- keys in their order. An unclaim is kept as a claim is. The main word is `ClaimsStand`.
use Rattle.std.specs.Prelude.{◌≡◌, ℕ, List, Option, option_map}
use Rattle.std.specs.List.Sorted.{IsStrictlySortedBy}
use Rattle.std.specs.Map.{keys_of, lookup}
use Rattle.std.specs.Ordering.{eq_by_cmp}
use Rattle.mesh_base.specs.KeyOrder.{key_order}
use Rattle.mesh_base.specs.declared.address.Mac.{Mac}
use Rattle.mesh_base.specs.declared.client.Key.{Key}
use Rattle.mesh_model.specs.declared.claim.ClaimRow.{ClaimRow}
use Rattle.mesh_model.specs.Bridges.Claims.{ClaimCall, ClaimCalls, if_standing, last_claim, row_of_claim}
use Rattle.mesh_bla.specs.declared.kept.Kept.{Kept}

-- what is kept: the gateway, and the last frame of each key
pub record KeptClaims : Type 0 where
  pub me : Mac
  pub kept : List (Key × Kept)

-- what is kept of a key, as the frame that came
abbrev pub call_of : Key → Kept → ClaimCall
call_of key kept = record {
  moment = kept.moment;
  sender = kept.sender;
  key = key;
  claim = kept.claim;
}

-- the row of a key of which this is kept, where a claim of it stands
abbrev pub kept_row : ℕ → Key → Kept → Option ClaimRow
kept_row now key kept = option_map (row_of_claim now) (if_standing now (call_of key kept))

-- the last frame of a key, by what is kept
abbrev pub kept_call : List (Key × Kept) → Key → Option ClaimCall
kept_call kept key = option_map (call_of key) (lookup (eq_by_cmp key_order key) kept)

-- what is kept is that of the gateway of an address after these frames came
pub record ClaimsStand (claims : KeptClaims) (me : Mac) (calls : ClaimCalls) : Type 0 where
  pub own : claims.me ≡ me
  -- of each key the last frame is kept
  pub last : (key : Key) → kept_call claims.kept key ≡ last_claim calls key
  -- the keys ascend
  pub ordered : IsStrictlySortedBy key_order (keys_of claims.kept)
