-- How the requests that are kept, each under its id, stand for those that are open. The main word is
-- `RequestsStand`.
use Rattle.std.specs.Prelude.{◌≡◌, ℕ, nat_eq, List, Option, Some, None, option_and_then, if◌then◌else◌}
use Rattle.std.specs.Map.{lookup}
use Rattle.mesh_base.specs.declared.address.Mac.{Mac}
use Rattle.mesh_model.specs.Knowledge.FactStore.{open_request, without_request}
use Rattle.mesh_model.specs.Knowledge.Served.{FactRequest}
use Rattle.mesh_model.specs.Routes.Addresses.{same_mac}
use Rattle.alfred_store.specs.declared.requests.Asked.{Asked}

-- the request under an id that is kept, where it went to this primary
abbrev pub request_to : ℕ → Mac → Asked → Option FactRequest
request_to id primary asked = if same_mac asked.primary primary
    then Some (record { id = id; primary = asked.primary; type_no = asked.type_no }) else None

-- of each id and primary the open request is kept
pub record RequestsStand (kept : List (ℕ × Asked)) (requests : List FactRequest) : Type 0 where
  pub open_under : (id : ℕ) (primary : Mac) →
      option_and_then (request_to id primary) (lookup (nat_eq id) kept)
      ≡ open_request requests primary id

-- requests without one, if any
abbrev pub without : Option FactRequest → List FactRequest → List FactRequest
without None requests = requests
without (Some request) requests = without_request request.id requests
