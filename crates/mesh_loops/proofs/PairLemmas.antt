-- Pairs of an originator and a node: their order, and which of them lines tell of.
use Rattle.std.proofs.Common.{◌≡◌, ◌+◌, Bool, true, false, cond, ◌||◌, ◌&&◌, List, [], ◌∷◌, get_or, map, find, Some, None, option_and_then, Ordering, Less, Equal, Greater, is_eq, is_lt, refl, sym, ap, ap₂, ◌∙◌, subst, arith}
use Rattle.std.proofs.Math.Path.{fun_ext}
use Rattle.std.specs.Cmp.{IsEquivalence, IsTotalOrder, both_tied}
use Rattle.std.specs.List.{AllByRecursion, IsDistinct, list_any}
use Rattle.std.specs.List.Sorted.{IsSorted, IsStrictlySortedBy}
use Rattle.std.specs.Ordering.{eq_by_cmp, ordering_reverse}
use Rattle.std.proofs.lemmas.Bool.{true≢false}
use Rattle.std.proofs.lemmas.Cmp.{eq_by_cmp_equiv, on_total, then_total}
use Rattle.std.proofs.lemmas.Map.Keys.{apart_from_distinct, sorted_from_all_adjacent}
use Rattle.std.proofs.lemmas.Map.Lookups.{CmpEqualImpliesEq, exact_pairs}
use Rattle.mesh_base.specs.declared.address.Mac.{Mac}
use Rattle.mesh_model.specs.declared.route_line.RouteLine.{RouteLine}
use Rattle.mesh_model.specs.declared.route_line.RoutePair.{RoutePair}
use Rattle.mesh_model.specs.Loops.Routes.{has_pair, next_of, pair_of_line, pair_order, pairs_of, same_pair, tells_of}
use Rattle.mesh_model.specs.Routes.Addresses.{mac_order, same_mac}
use Rattle.mesh_laws.proofs.ListedInOrder.{has_in_order}
use Rattle.mesh_laws.proofs.MacLemmas.{mac_exact, mac_total, same_by_order, same_equiv, same_exact}
use Rattle.mesh_loops.specs.Changed.{pair_of}
use Rattle.mesh_loops.proofs.HeadLemmas.{both}

-- ---- the order
pub pair_total : IsTotalOrder pair_order
pair_total = then_total (on_total (λ (p : RoutePair). p.orig) mac_total) (on_total (λ (p : RoutePair). p.node) mac_total)

pub pair_exact : CmpEqualImpliesEq pair_order
pair_exact a b e =
    let parts = exact_pairs mac_order mac_order mac_exact mac_exact (a.orig, a.node) (b.orig, b.node) e in
    λ i. record { orig = (parts i).0; node = (parts i).1 }

-- two pairs are one where neither is before the other
pub same_by_pair_order : same_pair ≡ eq_by_cmp pair_order
same_by_pair_order = fun_ext (λ a. fun_ext (λ b. both_tied (same_mac a.orig b.orig) (same_mac a.node b.node) (mac_order a.orig b.orig) (mac_order a.node b.node) (sym (same_by_order a.orig b.orig)) (sym (same_by_order a.node b.node))))

pub pair_equiv : IsEquivalence same_pair
pair_equiv = subst IsEquivalence (sym same_by_pair_order) (eq_by_cmp_equiv pair_total)

pub pair_same : (a b : RoutePair) → same_pair a b ≡ true → a ≡ b
pair_same a b same =
    let parts = both (same_mac a.orig b.orig) (same_mac a.node b.node) same in
    let origs = same_exact a.orig b.orig parts.0 in
    let nodes = same_exact a.node b.node parts.1 in
    λ i. record { orig = origs i; node = nodes i }

-- a pair that isn't below another, nor the same, is above it
below_next : (a b : RoutePair) (r : Ordering) → pair_order b a ≡ r → is_lt r ≡ false → same_pair a b ≡ false → pair_order a b ≡ Less
below_next a b Less is up apart = absurd (true≢false up)
below_next a b Equal is up apart =
    absurd (true≢false (sym (ap is_eq (pair_total.antisymm a b ∙ ap ordering_reverse is)) ∙ ap (λ same. same a b) (sym same_by_pair_order) ∙ apart))
below_next a b Greater is up apart = pair_total.antisymm a b ∙ ap ordering_reverse is

-- pairs that ascend and differ ascend strictly
pub strictly_sorted : (pairs : List RoutePair) → IsSorted pair_order pairs → IsDistinct same_pair pairs → IsStrictlySortedBy pair_order pairs
unfolding IsStrictlySortedBy
strictly_sorted [] up apart = tt
strictly_sorted (first ∷ pairs) up apart =
    sorted_from_all_adjacent pair_total (first ∷ pairs) first
    (λ k below. below_next (get_or (first ∷ pairs) k first) (get_or (first ∷ pairs) (k + 1) first) _ refl (up k first (omega arith) below) (apart_from_distinct same_pair (first ∷ pairs) k (k + 1) first apart (omega arith) below))

-- ---- pairs of one originator
never : (b : Bool) → (b && false) ≡ false
never true = refl
never false = refl

spread : (a b c : Bool) → ((a && b) || (a && c)) ≡ (a && (b || c))
spread true b c = refl
spread false b c = refl

-- which pairs are those of an originator and some nodes
pub any_of_pairs : (orig : Mac) (q : RoutePair) (nodes : List Mac) → list_any (same_pair q) (map (pair_of orig) nodes) ≡ (same_mac q.orig orig && list_any (same_mac q.node) nodes)
any_of_pairs orig q [] = sym (never (same_mac q.orig orig))
any_of_pairs orig q (x ∷ nodes) =
    ap (λ b. (same_mac q.orig orig && same_mac q.node x) || b) (any_of_pairs orig q nodes)
    ∙ spread (same_mac q.orig orig) (same_mac q.node x) (list_any (same_mac q.node) nodes)

others_differ : (orig x : Mac) (nodes : List Mac) → AllByRecursion (λ y. same_mac x y ≡ false) nodes → AllByRecursion (λ y. same_pair (pair_of orig x) y ≡ false) (map (pair_of orig) nodes)
others_differ orig x [] differ = tt
others_differ orig x (y ∷ nodes) differ = (ap (λ b. same_mac orig orig && b) differ.0 ∙ never (same_mac orig orig), others_differ orig x nodes differ.1)

pub pairs_differ : (orig : Mac) (nodes : List Mac) → IsDistinct same_mac nodes → IsDistinct same_pair (map (pair_of orig) nodes)
unfolding IsDistinct
pairs_differ orig [] differ = tt
pairs_differ orig (x ∷ nodes) differ = (others_differ orig x nodes differ.0, pairs_differ orig nodes differ.1)

-- ---- pairs of lines
-- lines tell of a pair where one is of it
pub has_line : (lines : List RouteLine) (pair : RoutePair) → has_pair lines pair ≡ list_any (same_pair pair) (map pair_of_line lines)
has_line lines pair =
    ap (λ same. list_any (same pair) (pairs_of lines)) same_by_pair_order
    ∙ has_in_order pair_total pair_exact pair (map pair_of_line lines)
    ∙ ap (λ same. list_any (same pair) (map pair_of_line lines)) (sym same_by_pair_order)

pub tells : (pair : RoutePair) (line : RouteLine) → tells_of pair.orig pair.node line ≡ same_pair pair (pair_of_line line)
tells pair line = ap₂ (λ a b. a && b) (same_equiv.symm line.orig pair.orig) (same_equiv.symm line.node pair.node)

none_told : (lines : List RouteLine) (pair : RoutePair) → list_any (same_pair pair) (map pair_of_line lines) ≡ false → next_of lines pair.orig pair.node ≡ None
none_told [] pair none = refl
none_told (line ∷ lines) pair none =
    ap (λ b. option_and_then (λ (l : RouteLine). l.next) (cond b (Some line) (find (tells_of pair.orig pair.node) lines))) (tells pair line)
    ∙ go (same_pair pair (pair_of_line line)) (none_told lines pair) none
  where
    go : (b : Bool) → (list_any (same_pair pair) (map pair_of_line lines) ≡ false → next_of lines pair.orig pair.node ≡ None) → (b || list_any (same_pair pair) (map pair_of_line lines)) ≡ false
        → option_and_then (λ (l : RouteLine). l.next) (cond b (Some line) (find (tells_of pair.orig pair.node) lines)) ≡ None
    go true further none = absurd (true≢false none)
    go false further none = further none

-- of a pair with a next node lines tell
pub has_next : (lines : List RouteLine) (pair : RoutePair) (after : Mac) → next_of lines pair.orig pair.node ≡ Some after → has_pair lines pair ≡ true
has_next lines pair after leads = has_line lines pair ∙ go (list_any (same_pair pair) (map pair_of_line lines)) refl
  where
    go : (b : Bool) → list_any (same_pair pair) (map pair_of_line lines) ≡ b → b ≡ true
    go true is = refl
    go false is = let none = none_told lines pair is in absurd cc
