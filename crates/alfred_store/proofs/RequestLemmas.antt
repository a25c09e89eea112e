-- What is kept of requests once one is opened or closed.
use Rattle.std.proofs.Common.{◌≡◌, ℕ, nat_eq, arith, ◌==◌, ◌&&◌, not, Bool, true, false, cond, List, [], ◌∷◌, find, Option, None, Some, option_map, option_and_then, refl, sym, ap, ◌∙◌}
use Rattle.std.specs.Prelude.{if◌then◌else◌}
use Rattle.std.specs.Map.{lookup}
use Rattle.std.proofs.lemmas.Bool.Decides.{nat_tests}
use Rattle.mesh_base.specs.declared.address.Mac.{Mac}
use Rattle.mesh_model.specs.Knowledge.FactStore.{open_request, without_request}
use Rattle.mesh_model.specs.Knowledge.Served.{FactRequest}
use Rattle.mesh_model.specs.Routes.Addresses.{same_mac}
use Rattle.alfred_store.specs.declared.requests.Asked.{Asked}
use Rattle.alfred_store.specs.RequestsStand.{RequestsStand, request_to, without}

-- whether a request is that of an id to a primary
abbrev is_to : Mac → ℕ → FactRequest → Bool
is_to primary id one = (one.id == id) && same_mac one.primary primary

-- without the requests of an id none of it is open, and of other ids all are
others_open : (primary : Mac) (gone id : ℕ) (requests : List FactRequest)
    → open_request (without_request gone requests) primary id ≡ cond (nat_eq gone id) None (open_request requests primary id)
others_open primary gone id [] = none (nat_eq gone id)
  where
    none : (b : Bool) → open_request [] primary id ≡ cond b None (open_request [] primary id)
    none true = refl
    none false = refl
others_open primary gone id (one ∷ rest) = by_id (one.id == gone) refl (others_open primary gone id rest)
  where
    other : (one.id == gone) ≡ true → nat_eq gone id ≡ false → (one.id == id) ≡ false
    other same not = grind (arith, nat_tests)

    apart : (one.id == gone) ≡ false → nat_eq gone id ≡ true → (one.id == id) ≡ false
    apart not same = grind (arith, nat_tests)

    by_id : (b : Bool) → (one.id == gone) ≡ b → open_request (without_request gone rest) primary id ≡ cond (nat_eq gone id) None (open_request rest primary id)
        → find (is_to primary id) (cond (not b) (one ∷ without_request gone rest) (without_request gone rest)) ≡ cond (nat_eq gone id) None (cond (is_to primary id one) (Some one) (open_request rest primary id))
    by_id true is rest_is =
        rest_is ∙ elim (nat_eq gone id) as (λ c. nat_eq gone id ≡ c → cond c None (open_request rest primary id) ≡ cond c None (cond (is_to primary id one) (Some one) (open_request rest primary id))) [
          | true ↦ λ t. refl
          | false ↦ λ t. sym (ap (λ b. cond (b && same_mac one.primary primary) (Some one) (open_request rest primary id)) (other is t))
        ] refl
    by_id false is rest_is =
        elim (nat_eq gone id) as (λ c. nat_eq gone id ≡ c → open_request (without_request gone rest) primary id ≡ cond c None (open_request rest primary id)
        → cond (is_to primary id one) (Some one) (open_request (without_request gone rest) primary id) ≡ cond c None (cond (is_to primary id one) (Some one) (open_request rest primary id))) [
          | true ↦ λ t h. ap (λ b. cond (b && same_mac one.primary primary) (Some one) (open_request (without_request gone rest) primary id)) (apart is t) ∙ h
          | false ↦ λ t h. ap (λ o. cond (is_to primary id one) (Some one) o) h
        ] refl rest_is

-- what is found once a request is opened
pub opened : (kept after : List (ℕ × Asked)) (id : ℕ) (asked : Asked) → ((q : ℕ) → lookup (nat_eq q) after ≡ cond (nat_eq id q) (Some asked) (lookup (nat_eq q) kept))
    → (requests : List FactRequest) → RequestsStand kept requests → RequestsStand after (record { id = id; primary = asked.primary; type_no = asked.type_no } ∷ without_request id requests)
opened kept after id asked updates requests stands = record {
  open_under = λ q primary. ap (option_and_then (request_to q primary)) (updates q) ∙ go q primary (nat_eq id q) refl ∙ sym (ap (λ o. cond (is_to primary q made) (Some made) o) (others_open primary id q requests));
}
  where
    made : FactRequest
    made = record { id = id; primary = asked.primary; type_no = asked.type_no }

    go : (q : ℕ) (primary : Mac) (b : Bool) → nat_eq id q ≡ b → option_and_then (request_to q primary) (cond b (Some asked) (lookup (nat_eq q) kept))
        ≡ cond (b && same_mac asked.primary primary) (Some made) (cond b None (open_request requests primary q))
    go q primary true is = ap (λ (i : ℕ). if same_mac asked.primary primary then Some (record { id = i; primary = asked.primary; type_no = asked.type_no }) else None) (grind (arith, nat_tests))
    go q primary false is = stands.open_under q primary

-- what is found once the request of an id is closed
pub closed : (kept after : List (ℕ × Asked)) (id : ℕ) → ((q : ℕ) → lookup (nat_eq q) after ≡ cond (nat_eq id q) None (lookup (nat_eq q) kept))
    → (requests : List FactRequest) → RequestsStand kept requests → RequestsStand after (without_request id requests)
closed kept after id updates requests stands = record {
  open_under = λ q primary. ap (option_and_then (request_to q primary)) (updates q) ∙ go q primary (nat_eq id q) ∙ sym (others_open primary id q requests);
}
  where
    go : (q : ℕ) (primary : Mac) (b : Bool) → option_and_then (request_to q primary) (cond b None (lookup (nat_eq q) kept)) ≡ cond b None (open_request requests primary q)
    go q primary true = refl
    go q primary false = stands.open_under q primary

-- a request that is found is that of the id
found_id : (primary : Mac) (id : ℕ) (requests : List FactRequest) (one : FactRequest) → open_request requests primary id ≡ Some one → one.id ≡ id
found_id primary id [] one is = cc
found_id primary id (first ∷ rest) one is = go (first.id == id) refl (same_mac first.primary primary) is (found_id primary id rest one)
  where
    first_is : (first.id == id) ≡ true → Some first ≡ Some one → one.id ≡ id
    first_is same is = by (grind (arith, nat_tests)) cc
      where
        by : first.id ≡ id → first ≡ one → one.id ≡ id
        by same is = sym (ap (λ (r : FactRequest). r.id) is) ∙ same

    go : (b : Bool) → (first.id == id) ≡ b → (c : Bool) → cond (b && c) (Some first) (open_request rest primary id) ≡ Some one → (open_request rest primary id ≡ Some one → one.id ≡ id) → one.id ≡ id
    go true same true is later = first_is same is
    go true same false is later = later is
    go false other c is later = later is

-- closing one that is found closes that of the id
pub closed_found : (primary : Mac) (id : ℕ) (requests : List FactRequest) (type_no : ℕ) → option_map (λ (one : FactRequest). one.type_no) (open_request requests primary id) ≡ Some type_no
    → without_request id requests ≡ without (open_request requests primary id) requests
closed_found primary id requests type_no is = go (open_request requests primary id) refl is
  where
    go : (o : Option FactRequest) → open_request requests primary id ≡ o → option_map (λ (one : FactRequest). one.type_no) o ≡ Some type_no → without_request id requests ≡ without o requests
    go None found is = cc
    go (Some one) found is = ap (λ i. without_request i requests) (sym (found_id primary id requests one found))
