-- The nodes that keep a pair: by what is kept of each that offered something, and apart from this
-- one.
use Rattle.std.proofs.Common.{◌≡◌, ◌<◌, ◌&&◌, ℕ, Bool, true, false, not, cond, List, [], ◌∷◌, filter, filter_map, length, slice_get, take, Option, Some, None, refl, ap, ap₂, ◌∙◌, arith}
use Rattle.std.specs.Prelude.{if◌then◌else◌}
use Rattle.std.specs.List.{cons_option}
use Rattle.mesh_base.specs.declared.address.Mac.{Mac}
use Rattle.mesh_base.specs.declared.client.Vid.{Vid}
use Rattle.mesh_model.specs.Knowledge.Known.{Knowledge}
use Rattle.mesh_model.specs.Knowledge.Offers.{has_route, offering}
use Rattle.mesh_model.specs.Knowledge.Pairs.{pair_keepers, pair_nodes, takes_part}
use Rattle.mesh_model.specs.Routes.Addresses.{same_mac}
use Rattle.mesh_model.specs.Routes.Queries.{Queries}
use Rattle.mesh_model.specs.Services.ArpTable.{candidates_of, nearest, pair_place}
use Rattle.mesh_serv.specs.OffersStand.{OffersStand, offered}
use Rattle.mesh_serv.specs.declared.offers.Offer as kept_offer
use Rattle.node_ground.specs.PairRows.{keeper_of, other_than, unless_me}
use Rattle.node_ground.proofs.OffersLemmas.{of_those, themselves, walked}

-- the nodes among which those are that keep a pair
pub nodes_are : (q : Queries) (me : Mac) (known : Knowledge) (now : ℕ) (kept : List (Mac × kept_offer.Offer)) → OffersStand kept known.services.offers
    → me ∷ filter_map (λ (e : Mac × kept_offer.Offer). keeper_of q known now e.0 (Some (offered e.1))) kept ≡ pair_nodes q me known now
nodes_are q me known now kept stands =
    let origs = offering known.services.offers in
    let part : Mac → Bool = λ orig. has_route q known now orig && takes_part known orig in
    ap (λ nodes. me ∷ nodes)
    (walked (keeper_of q known now) kept known.services.offers stands
    ∙ of_those (q.live known.routes now) (λ orig. if part orig then Some orig else None) origs
    ∙ themselves part (filter (q.live known.routes now) origs))

-- ---- other nodes

-- a node that is another one is left
left_if : (me node : Mac) (rest : List Mac) (b : Bool) → cons_option (if b then None else Some node) rest ≡ cond (not b) (node ∷ rest) rest
left_if me node rest true = refl
left_if me node rest false = refl

-- with the others behind it
one_left : (me node : Mac) (rest nodes : List Mac) → rest ≡ filter (λ mac. not (same_mac mac me)) nodes
    → cons_option (unless_me me node) rest ≡ filter (λ mac. not (same_mac mac me)) (node ∷ nodes)
one_left me node rest nodes is =
    left_if me node rest (same_mac node me) ∙ ap (λ xs. cond (not (same_mac node me)) (node ∷ xs) xs) is

-- the others among the first three of some nodes, which are no more
others_of : (me : Mac) (nodes : List Mac) → length nodes < 4
    → filter_map (other_than me) (slice_get nodes 0 ∷ slice_get nodes 1 ∷ slice_get nodes 2 ∷ []) ≡ filter (λ mac. not (same_mac mac me)) nodes
others_of me [] few = refl
others_of me (a ∷ []) few = one_left me a [] [] refl
others_of me (a ∷ b ∷ []) few = one_left me a _ (b ∷ []) (one_left me b [] [] refl)
others_of me (a ∷ b ∷ c ∷ []) few = one_left me a _ (b ∷ c ∷ []) (one_left me b _ (c ∷ []) (one_left me c [] [] refl))
others_of me (a ∷ b ∷ c ∷ d ∷ rest) few = absurd (omega (arith, few))

-- the first three of a list are no more
few_taken : {X : Type 0} (xs : List X) → length (take 3 xs) < 4
few_taken [] = omega arith
few_taken (a ∷ []) = omega arith
few_taken (a ∷ b ∷ []) = omega arith
few_taken (a ∷ b ∷ c ∷ rest) = omega arith

some_one : {X : Type 0} {a b : X} → Some a ≡ Some b → a ≡ b
some_one is = cc

-- an array that has the first three places of a list
first_three : {X : Type 0} (near : List (Option X)) (xs : List X) → length near ≡ 3 → ((i : ℕ) → i < 3 → slice_get near i ≡ Some (slice_get xs i))
    → near ≡ slice_get xs 0 ∷ slice_get xs 1 ∷ slice_get xs 2 ∷ []
first_three [] xs three at = absurd (omega (arith, three))
first_three (a ∷ []) xs three at = absurd (omega (arith, three))
first_three (a ∷ b ∷ []) xs three at = absurd (omega (arith, three))
first_three (a ∷ b ∷ c ∷ []) xs three at =
    let first : a ≡ slice_get xs 0 = some_one (at 0 (omega arith)) in
    let second : b ≡ slice_get xs 1 = some_one (at 1 (omega arith)) in
    let third : c ≡ slice_get xs 2 = some_one (at 2 (omega arith)) in
    ap₂ (λ x ys. x ∷ ys) first (ap₂ (λ y zs. y ∷ zs) second (ap (λ z. z ∷ []) third))
first_three (a ∷ b ∷ c ∷ d ∷ rest) xs three at = absurd (omega (arith, three))

-- three candidates that are those of a pair leave the nodes that keep it
pub keepers_are : (q : Queries) (me : Mac) (known : Knowledge) (now ip : ℕ) (vid : Vid) (near : List (Option Mac)) (nodes left : List Mac) → length near ≡ 3
    → ((i : ℕ) → i < 3 → slice_get near i ≡ Some (slice_get (candidates_of ip vid nodes) i)) → nodes ≡ pair_nodes q me known now
    → left ≡ filter_map (other_than me) near → left ≡ pair_keepers q me known now ip vid
keepers_are q me known now ip vid near nodes left three at are is =
    is ∙ ap (filter_map (other_than me)) (first_three near (candidates_of ip vid nodes) three at)
    ∙ others_of me (candidates_of ip vid nodes) (few_taken (nearest (pair_place ip vid) nodes))
    ∙ ap (λ ns. filter (λ mac. not (same_mac mac me)) (candidates_of ip vid ns)) are
