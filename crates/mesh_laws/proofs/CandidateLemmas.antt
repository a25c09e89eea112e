-- The candidates of a pair are the nearest of the nodes.
use Rattle.std.proofs.Common.{◌≡◌, ◌⊎◌, inl, inr, ◌<◌, ◌||◌, ◌&&◌, ℕ, zero, suc, Bool, true, false, cond, nat_lt, nat_eq, min, List, [], ◌∷◌, length, take, refl, sym, ap, subst, ◌∙◌, arith}
use Rattle.std.proofs.lemmas.Bool.{ltb-true}
use Rattle.std.proofs.lemmas.Bool.Decides.{nat_tests}
use Rattle.std.proofs.lemmas.List.{length-take}
use Rattle.mesh_base.specs.declared.address.Mac.{Mac}
use Rattle.mesh_model.specs.Net.Next.{Has}
use Rattle.mesh_model.specs.Routes.Addresses.{is_smaller}
use Rattle.mesh_model.specs.Services.ArpTable.{distance, insert_near, is_nearer, most_candidates, nearest, pair_place}
use Rattle.mesh_laws.specs.AddressLaws.{CandidatesAreAmong, CandidatesAreInOrder, CandidatesAreNearest, CandidatesAreThree, IsNoNearer, StandNearestFirst}
use Rattle.mesh_laws.proofs.ChoiceLemmas.{not_below, not_itself}

-- ---- nearer, by distances and addresses
abbrev nearer_by : ℕ → ℕ → Mac → Mac → Bool
nearer_by d e a b = nat_lt d e || (nat_eq d e && is_smaller a b)

abbrev NoNearerBy : ℕ → ℕ → Mac → Mac → Type 0
NoNearerBy d e a b = (d < e) ⊎ ((d ≡ e) × (is_smaller b a ≡ false))

nearer_is : (d e : ℕ) (a b : Mac) → nearer_by d e a b ≡ true → (d < e) ⊎ ((d ≡ e) × (is_smaller a b ≡ true))
nearer_is d e a b is = go (nat_lt d e) (nat_eq d e) refl refl is
  where
    go : (l s : Bool) → nat_lt d e ≡ l → nat_eq d e ≡ s → (l || (s && is_smaller a b)) ≡ true → (d < e) ⊎ ((d ≡ e) × (is_smaller a b ≡ true))
    go true s low same t = inl (ltb-true d e low)
    go false true low same t = inr (grind (arith, nat_tests, same), t)
    go false false low same t = cc

not_nearer_is : (d e : ℕ) (a b : Mac) → nearer_by d e a b ≡ false → NoNearerBy e d b a
not_nearer_is d e a b is = go (nat_lt d e) (nat_eq d e) refl refl is
  where
    go : (l s : Bool) → nat_lt d e ≡ l → nat_eq d e ≡ s → (l || (s && is_smaller a b)) ≡ false → NoNearerBy e d b a
    go true s low same t = cc
    go false true low same t = inr (grind (arith, nat_tests, same), t)
    go false false low same t = inl (grind (arith, nat_tests, low, same))

-- what is no nearer than one is no nearer than one that is nearer
beyond_by : (d e f : ℕ) (a b c : Mac) → nearer_by d e a b ≡ true → NoNearerBy e f b c → NoNearerBy d f a c
beyond_by d e f a b c is behind = go (nearer_is d e a b is) behind
  where
    go : (d < e) ⊎ ((d ≡ e) × (is_smaller a b ≡ true)) → NoNearerBy e f b c → NoNearerBy d f a c
    go (inl p) (inl r) = inl (omega (arith, p, r))
    go (inl p) (inr r) = let same = r.0 in inl (omega (arith, p, same))
    go (inr p) (inl r) = let same = p.0 in inl (omega (arith, r, same))
    go (inr p) (inr r) = inr (p.0 ∙ r.0, not_below a b c p.1 r.1)

beyond : (place : ℕ) (a b c : Mac) → is_nearer place a b ≡ true → IsNoNearer place b c → IsNoNearer place a c
beyond place a b c = beyond_by (distance place a) (distance place b) (distance place c) a b c

itself_no_nearer : (place : ℕ) (a : Mac) → IsNoNearer place a a
itself_no_nearer place a = inr (refl, not_itself a)

-- ---- among nodes
inserted_has : (place : ℕ) (mac : Mac) (nodes : List Mac) (one : Mac) → Has (insert_near place mac nodes) one → (one ≡ mac) ⊎ Has nodes one
inserted_has place mac [] one (inl is) = inl is
inserted_has place mac [] one (inr none) = absurd none
inserted_has place mac (first ∷ rest) one has = go (is_nearer place mac first) has (inserted_has place mac rest one)
  where
    further : (one ≡ mac) ⊎ Has rest one → (one ≡ mac) ⊎ Has (first ∷ rest) one
    further (inl is) = inl is
    further (inr h) = inr (inr h)

    go : (b : Bool) → Has (cond b (mac ∷ first ∷ rest) (first ∷ insert_near place mac rest)) one → (Has (insert_near place mac rest) one → (one ≡ mac) ⊎ Has rest one) → (one ≡ mac) ⊎ Has (first ∷ rest) one
    go true h more = h
    go false (inl is) more = inr (inl is)
    go false (inr h) more = further (more h)

has_inserted : (place : ℕ) (mac : Mac) (nodes : List Mac) (one : Mac) → (one ≡ mac) ⊎ Has nodes one → Has (insert_near place mac nodes) one
has_inserted place mac [] one h = h
has_inserted place mac (first ∷ rest) one h = go (is_nearer place mac first) h (has_inserted place mac rest one)
  where
    go : (b : Bool) → (one ≡ mac) ⊎ Has (first ∷ rest) one → ((one ≡ mac) ⊎ Has rest one → Has (insert_near place mac rest) one) → Has (cond b (mac ∷ first ∷ rest) (first ∷ insert_near place mac rest)) one
    go true h more = h
    go false (inl is) more = inr (more (inl is))
    go false (inr (inl is)) more = inl is
    go false (inr (inr has)) more = inr (more (inr has))

nearest_has : (place : ℕ) (nodes : List Mac) (one : Mac) → Has (nearest place nodes) one → Has nodes one
nearest_has place [] one has = absurd has
nearest_has place (mac ∷ rest) one has = go (inserted_has place mac (nearest place rest) one has) (nearest_has place rest one)
  where
    go : (one ≡ mac) ⊎ Has (nearest place rest) one → (Has (nearest place rest) one → Has rest one) → Has (mac ∷ rest) one
    go (inl is) more = inl is
    go (inr h) more = inr (more h)

has_nearest : (place : ℕ) (nodes : List Mac) (one : Mac) → Has nodes one → Has (nearest place nodes) one
has_nearest place [] one has = absurd has
has_nearest place (mac ∷ rest) one (inl is) = has_inserted place mac (nearest place rest) one (inl is)
has_nearest place (mac ∷ rest) one (inr has) = has_inserted place mac (nearest place rest) one (inr (has_nearest place rest one has))

taken_has : (n : ℕ) (nodes : List Mac) (one : Mac) → Has (take n nodes) one → Has nodes one
taken_has zero nodes one has = absurd has
taken_has (suc n) [] one has = absurd has
taken_has (suc n) (first ∷ rest) one (inl is) = inl is
taken_has (suc n) (first ∷ rest) one (inr has) = inr (taken_has n rest one has)

-- ---- in order
inserted_stands : (place : ℕ) (mac : Mac) (nodes : List Mac) → StandNearestFirst place nodes → StandNearestFirst place (insert_near place mac nodes)
inserted_stands place mac [] stands = ((λ second none. absurd none), tt)
inserted_stands place mac (first ∷ rest) stands = go (is_nearer place mac first) refl (inserted_stands place mac rest stands.1)
  where
    behind_both : is_nearer place mac first ≡ true → (second : Mac) → Has (first ∷ rest) second → IsNoNearer place mac second
    behind_both near second (inl is) = beyond place mac first second near (subst (IsNoNearer place first) (sym is) (itself_no_nearer place first))
    behind_both near second (inr has) = beyond place mac first second near (stands.0 second has)

    behind_first : is_nearer place mac first ≡ false → (second : Mac) → (second ≡ mac) ⊎ Has rest second → IsNoNearer place first second
    behind_first far second (inl is) = subst (IsNoNearer place first) (sym is) (not_nearer_is (distance place mac) (distance place first) mac first far)
    behind_first far second (inr has) = stands.0 second has

    go : (b : Bool) → is_nearer place mac first ≡ b → StandNearestFirst place (insert_near place mac rest) → StandNearestFirst place (cond b (mac ∷ first ∷ rest) (first ∷ insert_near place mac rest))
    go true near more = (behind_both near, stands)
    go false far more = ((λ second has. behind_first far second (inserted_has place mac rest second has)), more)

nearest_stands : (place : ℕ) (nodes : List Mac) → StandNearestFirst place (nearest place nodes)
nearest_stands place [] = tt
nearest_stands place (mac ∷ rest) = inserted_stands place mac (nearest place rest) (nearest_stands place rest)

taken_stands : (place n : ℕ) (nodes : List Mac) → StandNearestFirst place nodes → StandNearestFirst place (take n nodes)
taken_stands place zero nodes stands = tt
taken_stands place (suc n) [] stands = tt
taken_stands place (suc n) (first ∷ rest) stands = ((λ second has. stands.0 second (taken_has n rest second has)), taken_stands place n rest stands.1)

taken_nearest : (place n : ℕ) (nodes : List Mac) (mac other : Mac) → StandNearestFirst place nodes → Has (take n nodes) mac → Has nodes other → (Has (take n nodes) other → ⊥) → IsNoNearer place mac other
taken_nearest place zero nodes mac other stands has among not = absurd has
taken_nearest place (suc n) [] mac other stands has among not = absurd has
taken_nearest place (suc n) (first ∷ rest) mac other stands has (inl is) not = absurd (not (inl is))
taken_nearest place (suc n) (first ∷ rest) mac other stands (inl is) (inr among) not = subst (λ m. IsNoNearer place m other) (sym is) (stands.0 other among)
taken_nearest place (suc n) (first ∷ rest) mac other stands (inr has) (inr among) not = taken_nearest place n rest mac other stands.1 has among (λ h. not (inr h))

-- ---- how many
inserted_length : (place : ℕ) (mac : Mac) (nodes : List Mac) → length (insert_near place mac nodes) ≡ suc (length nodes)
inserted_length place mac [] = refl
inserted_length place mac (first ∷ rest) = go (is_nearer place mac first) (inserted_length place mac rest)
  where
    go : (b : Bool) → length (insert_near place mac rest) ≡ suc (length rest) → length (cond b (mac ∷ first ∷ rest) (first ∷ insert_near place mac rest)) ≡ suc (suc (length rest))
    go true more = refl
    go false more = ap suc more

nearest_length : (place : ℕ) (nodes : List Mac) → length (nearest place nodes) ≡ length nodes
nearest_length place [] = refl
nearest_length place (mac ∷ rest) = inserted_length place mac (nearest place rest) ∙ ap suc (nearest_length place rest)

-- ---- the laws
pub candidates_are_three : CandidatesAreThree
candidates_are_three ip vid nodes =
    let place = pair_place ip vid in
    length-take most_candidates (nearest place nodes) ∙ ap (min most_candidates) (nearest_length place nodes)

pub candidates_are_among : CandidatesAreAmong
candidates_are_among ip vid nodes mac has =
    let place = pair_place ip vid in
    nearest_has place nodes mac (taken_has most_candidates (nearest place nodes) mac has)

pub candidates_are_nearest : CandidatesAreNearest
candidates_are_nearest ip vid nodes mac other has among not =
    let place = pair_place ip vid in
    taken_nearest place most_candidates (nearest place nodes) mac other (nearest_stands place nodes) has (has_nearest place nodes other among) not

pub candidates_are_in_order : CandidatesAreInOrder
candidates_are_in_order ip vid nodes =
    let place = pair_place ip vid in
    taken_stands place most_candidates (nearest place nodes) (nearest_stands place nodes)
