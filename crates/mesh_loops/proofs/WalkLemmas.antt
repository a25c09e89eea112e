-- Walks over next nodes: what a walk of so many steps finds, that it passes each node once, and that a loop is found
-- from each of its nodes.
use Rattle.std.proofs.Common.{◌≡◌, ◌<◌, ◌≤◌, ℕ, zero, suc, Bool, true, false, cond, ◌||◌, List, [], ◌∷◌, ◌++◌, length, Option, Some, None, option_map, refl, sym, ap, ap₂, ◌∙◌, subst, arith}
use Rattle.std.specs.List.{AllByRecursion, IsDistinct, list_any}
use Rattle.std.proofs.lemmas.Bool.{false≢true, true≢false}
use Rattle.std.proofs.lemmas.List.{append_assoc}
use Rattle.mesh_base.specs.declared.address.Mac.{Mac}
use Rattle.mesh_model.specs.Loops.Routes.{walk_to, walked_on}
use Rattle.mesh_model.specs.Routes.Addresses.{same_mac}
use Rattle.mesh_loops.specs.Walks.{Leads}
use Rattle.mesh_laws.proofs.MacLemmas.{same_exact, same_self}

-- a node is the same as itself alone
other : (a b : Mac) → a ≡ b → same_mac a b ≡ false → ⊥
other a b e not_same = false≢true (sym not_same ∙ ap (same_mac a) (sym e) ∙ same_self a)

module _ (next : Mac → Option Mac) (goal : Mac) where
  -- a walk of so many steps from a node found these nodes
  pub record Walked (steps : ℕ) (node : Mac) (nodes : List Mac) : Type 0 where
    pub rest : List Mac
    pub begins : nodes ≡ node ∷ rest
    pub leads : Leads next goal node rest
    pub within : length rest < steps

  -- what leads to the goal is found in enough steps
  pub is_walked : (steps : ℕ) (node : Mac) (rest : List Mac) → Leads next goal node rest → length rest < steps → walk_to next goal steps node ≡ Some (node ∷ rest)
  is_walked zero node rest leads within = absurd (omega arith)
  is_walked (suc steps) node [] leads within =
      ap (λ o. option_map (λ nodes. node ∷ nodes) (walked_on goal (walk_to next goal steps) o)) leads
      ∙ ap (λ b. option_map (λ nodes. node ∷ nodes) (cond b (Some []) (walk_to next goal steps goal))) (same_self goal)
  is_walked (suc steps) node (after ∷ rest) leads within =
      ap (λ o. option_map (λ nodes. node ∷ nodes) (walked_on goal (walk_to next goal steps) o)) leads.0
      ∙ ap (λ b. option_map (λ nodes. node ∷ nodes) (cond b (Some []) (walk_to next goal steps after))) leads.1
      ∙ ap (option_map (λ nodes. node ∷ nodes)) (is_walked steps after rest leads.2 (omega arith))

  -- and what is found leads there
  pub walked : (steps : ℕ) (node : Mac) (nodes : List Mac) → walk_to next goal steps node ≡ Some nodes → Walked steps node nodes
  walked zero node nodes found = absurd cc
  walked (suc steps) node nodes found = by_next (walked steps) (next node) refl found
    where
      Further : Type 0
      Further = (after : Mac) (more : List Mac) → walk_to next goal steps after ≡ Some more → Walked steps after more

      by_rest : Further → (after : Mac) → next node ≡ Some after → same_mac after goal ≡ false → (o : Option (List Mac)) → walk_to next goal steps after ≡ o → option_map (λ ns. node ∷ ns) o ≡ Some nodes → Walked (suc steps) node nodes
      by_rest recur after leads other_node None is found_then = absurd cc
      by_rest recur after leads other_node (Some more) is found_then =
          let further = recur after more is in
          let begins : nodes ≡ node ∷ more = cc in
          let shorter = further.within in
          record {
            rest = after ∷ further.rest;
            begins = begins ∙ ap (λ ns. node ∷ ns) further.begins;
            leads = (leads, other_node, further.leads);
            within = omega arith;
          }

      by_goal : Further → (after : Mac) → next node ≡ Some after → (b : Bool) → same_mac after goal ≡ b → option_map (λ ns. node ∷ ns) (cond b (Some []) (walk_to next goal steps after)) ≡ Some nodes → Walked (suc steps) node nodes
      by_goal recur after leads true is found_then =
          let begins : nodes ≡ node ∷ [] = cc in
          record { rest = []; begins = begins; leads = leads ∙ ap (λ n. Some n) (same_exact after goal is); within = omega arith }
      by_goal recur after leads false is found_then = by_rest recur after leads is (walk_to next goal steps after) refl found_then

      by_next : Further → (o : Option Mac) → next node ≡ o → option_map (λ ns. node ∷ ns) (walked_on goal (walk_to next goal steps) o) ≡ Some nodes → Walked (suc steps) node nodes
      by_next recur None is found_then = absurd cc
      by_next recur (Some after) is found_then = by_goal recur after is (same_mac after goal) refl found_then

  -- what leads from a node is told by the node
  pub same_walk : (node : Mac) (a b : List Mac) → Leads next goal node a → Leads next goal node b → a ≡ b
  same_walk node [] [] p q = refl
  same_walk node [] (y ∷ b) p q = let e : y ≡ goal = (let f = q.0 in cc) in absurd (other y goal e q.1)
  same_walk node (x ∷ a) [] p q = let e : x ≡ goal = (let f = p.0 in cc) in absurd (other x goal e p.1)
  same_walk node (x ∷ a) (y ∷ b) p q =
      let e : x ≡ y = (let f = p.0 in let g = q.0 in cc) in
      ap₂ (λ n ns. n ∷ ns) e (same_walk y a b (subst (λ z. Leads next goal z a) e p.2) q.2)

  -- what leads from a node that a walk passes, over no more nodes than the walk
  pub record Onward (node : Mac) (few : ℕ) : Type 0 where
    pub rest : List Mac
    pub leads : Leads next goal node rest
    pub within : length rest ≤ few

  pub leads_on : (node : Mac) (rest : List Mac) → Leads next goal node rest → (z : Mac) → list_any (same_mac z) (node ∷ rest) ≡ true → Onward z (length rest)
  leads_on node [] leads z has = go (same_mac z node) refl has
    where
      go : (b : Bool) → same_mac z node ≡ b → (b || false) ≡ true → Onward z 0
      go true is has = record { rest = []; leads = subst (λ n. Leads next goal n []) (sym (same_exact z node is)) leads; within = omega arith }
      go false is has = absurd (false≢true has)
  leads_on node (y ∷ more) leads z has = go (leads_on y more leads.2 z) (same_mac z node) refl has
    where
      go : (list_any (same_mac z) (y ∷ more) ≡ true → Onward z (length more)) → (b : Bool) → same_mac z node ≡ b → (b || list_any (same_mac z) (y ∷ more)) ≡ true
          → Onward z (length (y ∷ more))
      go further true is has = record { rest = y ∷ more; leads = subst (λ n. Leads next goal n (y ∷ more)) (sym (same_exact z node is)) leads; within = omega arith }
      go further false is has =
          let found = further has in
          let shorter = found.within in
          record { rest = found.rest; leads = found.leads; within = omega arith }

  -- a walk doesn't come to a node again
  pub not_again : (node : Mac) (rest : List Mac) → Leads next goal node rest → list_any (same_mac node) rest ≡ false
  not_again node [] leads = refl
  not_again node (y ∷ rest) leads = go (list_any (same_mac node) (y ∷ rest)) refl
    where
      go : (b : Bool) → list_any (same_mac node) (y ∷ rest) ≡ b → b ≡ false
      go false is = refl
      go true is =
          let again = leads_on y rest leads.2 node is in
          let same : again.rest ≡ y ∷ rest = same_walk node again.rest (y ∷ rest) again.leads leads in
          let long = ap length same in
          let short = again.within in
          absurd (omega arith)

  all_other : (node : Mac) (rest : List Mac) → list_any (same_mac node) rest ≡ false → AllByRecursion (λ y. same_mac node y ≡ false) rest
  all_other node [] none = tt
  all_other node (y ∷ rest) none = go (all_other node rest) (same_mac node y) refl none
    where
      go : (list_any (same_mac node) rest ≡ false → AllByRecursion (λ z. same_mac node z ≡ false) rest) → (b : Bool) → same_mac node y ≡ b → (b || list_any (same_mac node) rest) ≡ false
          → AllByRecursion (λ z. same_mac node z ≡ false) (y ∷ rest)
      go others true is none = absurd (true≢false none)
      go others false is none = (is, others none)

  -- so its nodes differ
  pub nodes_differ : (node : Mac) (rest : List Mac) → Leads next goal node rest → IsDistinct same_mac (node ∷ rest)
  unfolding IsDistinct
  nodes_differ node [] leads = (tt, tt)
  nodes_differ node (y ∷ rest) leads = (all_other node (y ∷ rest) (not_again node (y ∷ rest) leads), nodes_differ y rest leads.2)

  -- ---- a walk step by step
  module _ (found : Option (List Mac)) (nodes : List Mac) (more steps : ℕ) (node : Mac) (goes : more ≡ suc steps) (is : found ≡ option_map (λ rest. nodes ++ rest) (walk_to next goal more node)) where
    -- it goes on where another node than the goal is next
    pub goes_on : (after : Mac) → next node ≡ Some after → same_mac after goal ≡ false → found ≡ option_map (λ rest. (nodes ++ node ∷ []) ++ rest) (walk_to next goal steps after)
    goes_on after leads differ =
        is
        ∙ ap (λ n. option_map (λ rest. nodes ++ rest) (walk_to next goal n node)) goes
        ∙ ap (λ o. option_map (λ rest. nodes ++ rest) (option_map (λ ns. node ∷ ns) (walked_on goal (walk_to next goal steps) o))) leads
        ∙ ap (λ b. option_map (λ rest. nodes ++ rest) (option_map (λ ns. node ∷ ns) (cond b (Some []) (walk_to next goal steps after)))) differ
        ∙ behind (walk_to next goal steps after)
      where
        behind : (o : Option (List Mac)) → option_map (λ rest. nodes ++ rest) (option_map (λ ns. node ∷ ns) o) ≡ option_map (λ rest. (nodes ++ node ∷ []) ++ rest) o
        behind None = refl
        behind (Some ns) = ap (λ xs. Some xs) (sym (append_assoc nodes (node ∷ []) ns))
