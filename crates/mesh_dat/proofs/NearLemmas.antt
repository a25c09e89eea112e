-- The first three of nodes with one more, by how it stands to those that are first.
use Rattle.std.proofs.Common.{◌≡◌, ℕ, true, false, List, [], ◌∷◌, Some, None, slice_get, refl, arith}
use Rattle.mesh_base.specs.declared.address.Mac.{Mac}
use Rattle.mesh_model.specs.Services.ArpTable.{insert_near, is_nearer}
use Rattle.mesh_dat.specs.Candidates.{first_three}

module _ (place : ℕ) (node : Mac) where
  -- none is there
  pub alone : (nodes : List Mac) → slice_get nodes 0 ≡ None → Some node ∷ None ∷ None ∷ [] ≡ first_three (insert_near place node nodes)
  alone [] none = refl
  alone (x ∷ xs) none = absurd cc

  -- it is nearer than the first
  pub before_first : (nodes : List Mac) (first : Mac) → slice_get nodes 0 ≡ Some first → is_nearer place node first ≡ true → Some node ∷ Some first ∷ slice_get nodes 1 ∷ [] ≡ first_three (insert_near place node nodes)
  before_first [] first some nearer = absurd cc
  before_first (x ∷ xs) first some nearer = grind arith

  -- the first is nearer, and there is no other
  pub before_end : (nodes : List Mac) (first : Mac) → slice_get nodes 0 ≡ Some first → is_nearer place node first ≡ false → slice_get nodes 1 ≡ None → Some first ∷ Some node ∷ None ∷ [] ≡ first_three (insert_near place node nodes)
  before_end [] first some nearer none = absurd cc
  before_end (x ∷ []) first some nearer none = grind arith
  before_end (x ∷ y ∷ xs) first some nearer none = absurd cc

  -- the first is nearer, and the second isn't
  pub before_second : (nodes : List Mac) (first second : Mac) → slice_get nodes 0 ≡ Some first → is_nearer place node first ≡ false → slice_get nodes 1 ≡ Some second → is_nearer place node second ≡ true → Some first ∷ Some node ∷ Some second ∷ [] ≡ first_three (insert_near place node nodes)
  before_second [] first second some nearer next is = absurd cc
  before_second (x ∷ []) first second some nearer next is = absurd cc
  before_second (x ∷ y ∷ xs) first second some nearer next is = grind arith

  -- the first two are nearer, and the third too
  pub behind_third : (nodes : List Mac) (first second third : Mac) → slice_get nodes 0 ≡ Some first → is_nearer place node first ≡ false → slice_get nodes 1 ≡ Some second → is_nearer place node second ≡ false → slice_get nodes 2 ≡ Some third → is_nearer place node third ≡ false → Some first ∷ Some second ∷ Some third ∷ [] ≡ first_three (insert_near place node nodes)
  behind_third [] first second third some nearer next is last far = absurd cc
  behind_third (x ∷ []) first second third some nearer next is last far = absurd cc
  behind_third (x ∷ y ∷ []) first second third some nearer next is last far = absurd cc
  behind_third (x ∷ y ∷ z ∷ xs) first second third some nearer next is last far = grind arith

  -- the first two are nearer, and there is no third
  pub at_end : (nodes : List Mac) (first second : Mac) → slice_get nodes 0 ≡ Some first → is_nearer place node first ≡ false → slice_get nodes 1 ≡ Some second → is_nearer place node second ≡ false → slice_get nodes 2 ≡ None → Some first ∷ Some second ∷ Some node ∷ [] ≡ first_three (insert_near place node nodes)
  at_end [] first second some nearer next is none = absurd cc
  at_end (x ∷ []) first second some nearer next is none = absurd cc
  at_end (x ∷ y ∷ []) first second some nearer next is none = grind arith
  at_end (x ∷ y ∷ z ∷ xs) first second some nearer next is none = absurd cc

  -- the first two are nearer, and the third isn't
  pub before_third : (nodes : List Mac) (first second third : Mac) → slice_get nodes 0 ≡ Some first → is_nearer place node first ≡ false → slice_get nodes 1 ≡ Some second → is_nearer place node second ≡ false → slice_get nodes 2 ≡ Some third → is_nearer place node third ≡ true → Some first ∷ Some second ∷ Some node ∷ [] ≡ first_three (insert_near place node nodes)
  before_third [] first second third some nearer next is last far = absurd cc
  before_third (x ∷ []) first second third some nearer next is last far = absurd cc
  before_third (x ∷ y ∷ []) first second third some nearer next is last far = absurd cc
  before_third (x ∷ y ∷ z ∷ xs) first second third some nearer next is last far = grind arith
