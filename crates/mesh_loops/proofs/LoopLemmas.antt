-- The loops of lines: a walk needs no more steps than there are pairs, a loop is one of others where its nodes have the
-- next nodes of the others, and the loops that are none of others are those that are found from enough pairs.
use Rattle.std.proofs.Common.{◌≡◌, ◌<◌, ◌≤◌, ℕ, Bool, true, false, cond, ◌||◌, ◌&&◌, List, [], ◌∷◌, length, map, filter, filter_map, Option, Some, None, IsSome, option_and_then, refl, sym, ap, ap₂, ◌∙◌, subst, arith}
use Rattle.std.specs.Cmp.Lexicographic.{pointwise}
use Rattle.std.specs.List.{cons_option, list_any}
use Rattle.std.specs.Map.{keys_of, lookup}
use Rattle.std.specs.Option.{option_flatten, option_or}
use Rattle.std.proofs.lemmas.Bool.{false≢true, true≢false}
use Rattle.std.proofs.lemmas.Cmp.{lists_equiv}
use Rattle.std.proofs.lemmas.List.{length-map}
use Rattle.std.proofs.lemmas.Map.Entries.{option_filter}
use Rattle.std.proofs.lemmas.Map.Made.{is_some-lookup, length-le_from_is_member}
use Rattle.mesh_base.specs.declared.address.Mac.{Mac}
use Rattle.mesh_model.specs.declared.route_line.RouteLine.{RouteLine}
use Rattle.mesh_model.specs.declared.route_line.RoutePair.{RoutePair}
use Rattle.mesh_model.specs.declared.route_loop.Loop.{Loop}
use Rattle.mesh_model.specs.Loops.Reports.{has_loop, same_loop}
use Rattle.mesh_model.specs.Loops.Routes.{has_pair, if_least, is_least_of, loop_at, loop_from, next_of, pairs_of, same_pair}
use Rattle.mesh_model.specs.Routes.Addresses.{same_mac}
use Rattle.mesh_laws.proofs.MacLemmas.{same_equiv, same_exact, same_self}
use Rattle.mesh_loops.specs.declared.when.When.{When}
use Rattle.mesh_loops.specs.declared.when.When.TheVariants.{Before, Now}
use Rattle.mesh_loops.specs.Changed.{nexts_at, pair_of}
use Rattle.mesh_loops.specs.Watch.{AreKept, Kept, next_at}
use Rattle.mesh_loops.specs.Walks.{Leads}
use Rattle.mesh_loops.proofs.HeadLemmas.{both}
use Rattle.mesh_loops.proofs.PairLemmas.{any_of_pairs, has_next, pair_equiv, pairs_differ}
use Rattle.mesh_loops.proofs.WalkLemmas.{Walked, is_walked, leads_on, nodes_differ, walked}

-- ---- how many steps are enough
-- each loop is found in so many steps
abbrev pub HasRoom : (Mac → Option Mac) → ℕ → Type 0
HasRoom next steps = (node : Mac) (rest : List Mac) → Leads next node node rest → length rest < steps

-- as many as pairs are known, where each pair with a next node is
pub room : (orig : Mac) (next : Mac → Option Mac) (known : List RoutePair) → ((node after : Mac) → next node ≡ Some after → list_any (same_pair (pair_of orig node)) known ≡ true)
    → HasRoom next (length known)
room orig next known knows node rest leads =
    let few : length (map (pair_of orig) (node ∷ rest)) ≤ length known
    = length-le_from_is_member pair_equiv (map (pair_of orig) (node ∷ rest)) known (pairs_differ orig (node ∷ rest) (nodes_differ next node node rest leads)) is_known in
    let same = length-map rest (pair_of orig) in
    omega arith
  where
    leads_somewhere : (z : Mac) (more : List Mac) → Leads next node z more → (after : Mac) × (next z ≡ Some after)
    leads_somewhere z [] way = (node, way)
    leads_somewhere z (y ∷ more) way = (y, way.0)

    is_known : (q : RoutePair) → list_any (same_pair q) (map (pair_of orig) (node ∷ rest)) ≡ true → list_any (same_pair q) known ≡ true
    is_known q among =
        let parts = both (same_mac q.orig orig) (list_any (same_mac q.node) (node ∷ rest)) (sym (any_of_pairs orig q (node ∷ rest)) ∙ among) in
        let onward = leads_on next node node rest leads q.node parts.1 in
        let after = leads_somewhere q.node onward.rest onward.leads in
        let origs : orig ≡ q.orig = sym (same_exact q.orig orig parts.0) in
        subst (λ o. list_any (same_pair (pair_of o q.node)) known ≡ true) origs (knows q.node after.0 after.1)

-- so many as lines tell of pairs
pub room_of_lines : (lines : List RouteLine) (orig : Mac) → HasRoom (next_of lines orig) (length (pairs_of lines))
room_of_lines lines orig = room orig (next_of lines orig) (pairs_of lines) (λ node after is. has_next lines (pair_of orig node) after is)

-- ---- what is kept
module _ (kept : Kept) (are_kept : AreKept kept) where
  kept_known : (pair : RoutePair) (after : Mac) (o : Option (Option Mac)) → o ≡ lookup (same_pair pair) kept.routes → option_flatten o ≡ Some after → IsSome (lookup (same_pair pair) kept.routes)
  kept_known pair after None is leads = absurd cc
  kept_known pair after (Some next) is leads = subst IsSome is refl

  next_known : (when : When) (pair : RoutePair) (after : Mac) → next_at kept when pair ≡ Some after → IsSome (lookup (same_pair pair) kept.routes)
  next_known Now pair after leads = kept_known pair after (lookup (same_pair pair) kept.routes) refl leads
  next_known Before pair after leads = go (lookup (same_pair pair) kept.before) refl leads
    where
      go : (o : Option (Option Mac)) → lookup (same_pair pair) kept.before ≡ o → option_flatten (option_or o (lookup (same_pair pair) kept.routes)) ≡ Some after → IsSome (lookup (same_pair pair) kept.routes)
      go None is leads = kept_known pair after (lookup (same_pair pair) kept.routes) refl leads
      go (Some next) is leads = are_kept pair (subst IsSome (sym is) refl)

  -- so many as pairs are kept
  pub room_kept : (when : When) (orig : Mac) → HasRoom (nexts_at kept when orig) (length kept.routes)
  room_kept when orig =
      subst (HasRoom (nexts_at kept when orig)) (length-map kept.routes (λ (e : RoutePair × Option Mac). e.0))
      (room orig (nexts_at kept when orig) (keys_of kept.routes)
      (λ node after is. sym (is_some-lookup (same_pair (pair_of orig node)) kept.routes) ∙ next_known when (pair_of orig node) after is))

-- ---- a walk that was found
either_way : {X : Type 0} (a b : Option X) → ((x : X) → a ≡ Some x → b ≡ Some x) → ((x : X) → b ≡ Some x → a ≡ Some x) → a ≡ b
either_way None None there back = refl
either_way None (Some x) there back = back x refl
either_way (Some x) b there back = sym (there x refl)

-- a loop that was found is found with other room
more_room : (next : Mac → Option Mac) (n m : ℕ) → HasRoom next m → (node : Mac) (nodes : List Mac) → loop_from next n node ≡ Some nodes → loop_from next m node ≡ Some nodes
more_room next n m has node nodes found =
    let way = walked next node n node nodes found in
    is_walked next node m node way.rest way.leads (has node way.rest way.leads) ∙ ap (λ ns. Some ns) (sym way.begins)

pub same_room : (next : Mac → Option Mac) (n m : ℕ) → HasRoom next n → HasRoom next m → (node : Mac) → loop_from next n node ≡ loop_from next m node
same_room next n m has_n has_m node =
    either_way (loop_from next n node) (loop_from next m node) (more_room next n m has_m node) (more_room next m n has_n node)

-- ---- the loop of a pair
-- a loop of a pair's originator that begins with the pair's node, which is the least of it
pub record IsLoopAt (lines : List RouteLine) (pair : RoutePair) (l : Loop) : Type 0 where
  pub rest : List Mac
  pub is : l ≡ record { orig = pair.orig; nodes = pair.node ∷ rest }
  pub leads : Leads (next_of lines pair.orig) pair.node pair.node rest
  pub least : is_least_of (pair.node ∷ rest) pair.node ≡ true

pub is_at : (lines : List RouteLine) (pair : RoutePair) (l : Loop) → loop_at lines pair ≡ Some l → IsLoopAt lines pair l
is_at lines pair l found = by_nodes (loop_from next steps pair.node) refl found
  where
    next : Mac → Option Mac
    next = next_of lines pair.orig

    steps : ℕ
    steps = length (pairs_of lines)

    by_least : (nodes : List Mac) → Walked next pair.node steps pair.node nodes → (b : Bool) → is_least_of nodes pair.node ≡ b
        → cond b (Some (record { orig = pair.orig; nodes = nodes })) None ≡ Some l → IsLoopAt lines pair l
    by_least nodes way true least is =
        let made : record { orig = pair.orig; nodes = nodes } ≡ l = cc in
        record {
          rest = way.rest;
          is = sym made ∙ ap (λ ns. record { orig = pair.orig; nodes = ns }) way.begins;
          leads = way.leads;
          least = subst (λ ns. is_least_of ns pair.node ≡ true) way.begins least;
        }
    by_least nodes way false least is = absurd cc

    by_nodes : (o : Option (List Mac)) → loop_from next steps pair.node ≡ o → option_and_then (if_least pair) o ≡ Some l → IsLoopAt lines pair l
    by_nodes None is found = absurd cc
    by_nodes (Some nodes) is found = by_least nodes (walked next pair.node steps pair.node nodes is) (is_least_of nodes pair.node) refl found

pub at_is : (lines : List RouteLine) (pair : RoutePair) (rest : List Mac) → Leads (next_of lines pair.orig) pair.node pair.node rest → is_least_of (pair.node ∷ rest) pair.node ≡ true
    → loop_at lines pair ≡ Some (record { orig = pair.orig; nodes = pair.node ∷ rest })
at_is lines pair rest leads least =
    ap (option_and_then (if_least pair)) (is_walked (next_of lines pair.orig) pair.node (length (pairs_of lines)) pair.node rest leads (room_of_lines lines pair.orig pair.node rest leads))
    ∙ ap (λ b. cond b (Some (record { orig = pair.orig; nodes = pair.node ∷ rest })) None) least

-- its pair is one of those of which lines tell
pub at_known : (lines : List RouteLine) (pair : RoutePair) (rest : List Mac) → Leads (next_of lines pair.orig) pair.node pair.node rest → has_pair lines pair ≡ true
at_known lines pair [] leads = has_next lines pair pair.node leads
at_known lines pair (y ∷ rest) leads = has_next lines pair y leads.0

-- ---- two kinds of next nodes
module _ (f g : Mac → Option Mac) (changed : Mac → Bool) where
  -- what leads by the one leads by the other, where none of its nodes has changed
  pub leads_alike : ((z : Mac) → changed z ≡ false → f z ≡ g z) → (goal node : Mac) (rest : List Mac) → Leads f goal node rest → list_any changed (node ∷ rest) ≡ false → Leads g goal node rest
  leads_alike same goal node [] leads none = sym (same node (go (changed node) none)) ∙ leads
    where
      go : (b : Bool) → (b || false) ≡ false → b ≡ false
      go true e = e
      go false e = refl
  leads_alike same goal node (y ∷ rest) leads none =
      let parts = apart (changed node) (list_any changed (y ∷ rest)) none in
      (sym (same node parts.0) ∙ leads.0, leads.1, leads_alike same goal y rest leads.2 parts.1)
    where
      apart : (a b : Bool) → (a || b) ≡ false → (a ≡ false) × (b ≡ false)
      apart true b e = absurd (true≢false e)
      apart false b e = (refl, e)

  -- and none has where it leads by both
  pub none_changed : ((z : Mac) → f z ≡ g z → changed z ≡ false) → (goal node : Mac) (rest : List Mac) → Leads f goal node rest → Leads g goal node rest → list_any changed (node ∷ rest) ≡ false
  none_changed same goal node [] p q = ap (λ b. b || false) (same node (p ∙ sym q))
  none_changed same goal node (y ∷ rest) p q =
      ap₂ (λ a b. a || b) (same node (p.0 ∙ sym q.0)) (none_changed same goal y rest p.2 q.2)

-- ---- a loop among others
list_exact : {X : Type 0} (eq : X → X → Bool) → ((a b : X) → eq a b ≡ true → a ≡ b) → (xs ys : List X) → pointwise eq xs ys ≡ true → xs ≡ ys
list_exact eq exact [] [] same = refl
list_exact eq exact [] (y ∷ ys) same = absurd (false≢true same)
list_exact eq exact (x ∷ xs) [] same = absurd (false≢true same)
list_exact eq exact (x ∷ xs) (y ∷ ys) same =
    let parts = both (eq x y) (pointwise eq xs ys) same in
    ap₂ (λ a b. a ∷ b) (exact x y parts.0) (list_exact eq exact xs ys parts.1)

pub loop_exact : (a b : Loop) → same_loop a b ≡ true → a ≡ b
loop_exact a b same =
    let parts = both (same_mac a.orig b.orig) (pointwise same_mac a.nodes b.nodes) same in
    let origs = same_exact a.orig b.orig parts.0 in
    let nodes = list_exact same_mac same_exact a.nodes b.nodes parts.1 in
    λ i. record { orig = origs i; nodes = nodes i }

pub loop_itself : (a : Loop) → same_loop a a ≡ true
loop_itself a = ap₂ (λ p q. p && q) (same_self a.orig) ((lists_equiv same_equiv).refl a.nodes)

module _ (made : RoutePair → Option Loop) where
  -- what is made of a listed pair is among what is made of all
  pub is_made : (pairs : List RoutePair) (pair : RoutePair) (l : Loop) → list_any (same_pair pair) pairs ≡ true → ((a b : RoutePair) → same_pair a b ≡ true → a ≡ b) → made pair ≡ Some l
      → has_loop (filter_map made pairs) l ≡ true
  is_made [] pair l listed exact is = absurd (false≢true listed)
  is_made (first ∷ pairs) pair l listed exact is = go (is_made pairs pair l) (same_pair pair first) refl listed
    where
      behind : (o : Option Loop) → has_loop (filter_map made pairs) l ≡ true → has_loop (cons_option o (filter_map made pairs)) l ≡ true
      behind None h = h
      behind (Some other) h = here (same_loop l other) (has_loop (filter_map made pairs) l) h
        where
          here : (a b : Bool) → b ≡ true → (a || b) ≡ true
          here true b e = refl
          here false b e = e

      go : (list_any (same_pair pair) pairs ≡ true → ((a b : RoutePair) → same_pair a b ≡ true → a ≡ b) → made pair ≡ Some l → has_loop (filter_map made pairs) l ≡ true) → (b : Bool) → same_pair pair first ≡ b
          → (b || list_any (same_pair pair) pairs) ≡ true → has_loop (cons_option (made first) (filter_map made pairs)) l ≡ true
      go further true same listed =
          ap (λ o. has_loop (cons_option o (filter_map made pairs)) l) (ap made (sym (exact pair first same)) ∙ is)
          ∙ ap (λ b. b || has_loop (filter_map made pairs) l) (loop_itself l)
      go further false same listed = behind (made first) (further listed exact is)

  -- and what is among it was made of a pair
  pub record WasMade (l : Loop) : Type 0 where
    pub pair : RoutePair
    pub is : made pair ≡ Some l

  pub was_made : (pairs : List RoutePair) (l : Loop) → has_loop (filter_map made pairs) l ≡ true → WasMade l
  was_made [] l has = absurd (false≢true has)
  was_made (first ∷ pairs) l has = go (was_made pairs l) (made first) refl has
    where
      here : (has_loop (filter_map made pairs) l ≡ true → WasMade l) → (other : Loop) → made first ≡ Some other → (b : Bool) → same_loop l other ≡ b → (b || has_loop (filter_map made pairs) l) ≡ true → WasMade l
      here further other is true same has = record { pair = first; is = is ∙ ap (λ x. Some x) (sym (loop_exact l other same)) }
      here further other is false same has = further has

      go : (has_loop (filter_map made pairs) l ≡ true → WasMade l) → (o : Option Loop) → made first ≡ o → has_loop (cons_option o (filter_map made pairs)) l ≡ true → WasMade l
      go further None is has = further has
      go further (Some other) is has = here further other is (same_loop l other) refl has

-- what is left of what is made of each is what is left of each
pub filter_made : {X Y : Type 0} (p : Y → Bool) (made : X → Option Y) (xs : List X) → filter p (filter_map made xs) ≡ filter_map (λ x. option_filter p (made x)) xs
filter_made p made [] = refl
filter_made {X} {Y} p made (x ∷ xs) = go (made x) (filter_made p made xs)
  where
    go : (o : Option Y) → filter p (filter_map made xs) ≡ filter_map (λ z. option_filter p (made z)) xs
        → filter p (cons_option o (filter_map made xs)) ≡ cons_option (option_filter p o) (filter_map (λ z. option_filter p (made z)) xs)
    go None rest = rest
    go (Some y) rest =
        elim (p y) as (λ b. cond b (y ∷ filter p (filter_map made xs)) (filter p (filter_map made xs)) ≡ cons_option (cond b (Some y) None) (filter_map (λ z. option_filter p (made z)) xs)) [
          | true ↦ ap (λ ys. y ∷ ys) rest
          | false ↦ rest
        ]
