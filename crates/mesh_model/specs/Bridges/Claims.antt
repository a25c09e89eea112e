-- Who holds a client of a LAN: the sender of the last claim or unclaim frame of its key, if that was
-- a claim and came less than 100,000 ms ago. All gateways of a LAN get the same such frames in the
-- same order, so the holder is the same at each of them. The main word is `claim_holder`.
use Rattle.std.specs.Prelude.{ℕ, ◌-◌, ◌&&◌, nat_lt, Bool, List, find, filter, filter_map, length, map, Option, Some, None, option_map, option_and_then, if◌then◌else◌}
use Rattle.std.specs.Ordering.{is_eq}
use Rattle.mesh_base.specs.KeyOrder.{key_order}
use Rattle.mesh_base.specs.Ordered.{in_order}
use Rattle.mesh_base.specs.declared.address.Mac.{Mac}
use Rattle.mesh_base.specs.declared.client.Key.{Key}
use Rattle.mesh_model.specs.declared.claim.ClaimRow.{ClaimRow}
use Rattle.mesh_model.specs.Routes.Addresses.{same_mac}

-- a claim frame that came, or for `claim` false an unclaim frame
pub record ClaimCall : Type 0 where
  pub moment : ℕ
  pub sender : Mac
  pub key : Key
  pub claim : Bool

-- all that came, newest first
abbrev pub ClaimCalls : Type 0
ClaimCalls = List ClaimCall

-- how long a claim stands, in milliseconds
abbrev pub claim_age : ℕ
claim_age = 100000

-- the last frame of a key
abbrev pub last_claim : ClaimCalls → Key → Option ClaimCall
last_claim calls key = find (λ call. is_eq (key_order key call.key)) calls

-- a frame, where it is a claim that stands at a moment
abbrev pub if_standing : ℕ → ClaimCall → Option ClaimCall
if_standing now call =
    if call.claim && nat_lt (now - call.moment) claim_age then Some call else None

-- the claim of a key that stands at a moment
abbrev pub standing_claim : ClaimCalls → ℕ → Key → Option ClaimCall
standing_claim calls now key = option_and_then (if_standing now) (last_claim calls key)

-- the holder of a key at a moment
abbrev pub claim_holder : ClaimCalls → ℕ → Key → Option Mac
claim_holder calls now key = option_map (λ call. call.sender) (standing_claim calls now key)

-- ---- rows

-- the keys of the frames that came, in key order and each once
abbrev pub claimed_keys : ClaimCalls → List Key
claimed_keys calls = in_order key_order (map (λ call. call.key) calls)

-- the row of a claim at a moment
abbrev pub row_of_claim : ℕ → ClaimCall → ClaimRow
row_of_claim now call =
    record { key = call.key; holder = call.sender; age = now - call.moment }

-- the row of a key at a moment, where a claim of it stands
abbrev pub claim_row : ClaimCalls → ℕ → Key → Option ClaimRow
claim_row calls now key = option_map (row_of_claim now) (standing_claim calls now key)

-- the claims that stand at a moment, in key order
abbrev pub claims_at : ClaimCalls → ℕ → List ClaimRow
claims_at calls now = filter_map (claim_row calls now) (claimed_keys calls)

-- how many of them a gateway holds
abbrev pub claims_of : Mac → ClaimCalls → ℕ → ℕ
claims_of me calls now = length (filter (λ row. same_mac row.holder me) (claims_at calls now))
