-- Next nodes: when two are one, which originators have one, and what lines tell of them.
use Rattle.std.proofs.Common.{◌≡◌, Bool, true, false, cond, ◌||◌, ◌&&◌, List, [], ◌∷◌, map, filter, find, Option, Some, None, is_some, option_and_then, refl, sym, ap, ◌∙◌, subst}
use Rattle.std.proofs.Math.Path.{fun_ext}
use Rattle.std.specs.List.{list_any}
use Rattle.std.specs.Option.{option_eq}
use Rattle.std.specs.Ordering.{eq_by_cmp}
use Rattle.std.proofs.lemmas.Bool.{false≢true, true≢false}
use Rattle.mesh_base.specs.declared.address.Mac.{Mac}
use Rattle.mesh_model.specs.declared.route.OrigRow.{OrigRow}
use Rattle.mesh_model.specs.declared.route_line.RouteLine.{RouteLine}
use Rattle.mesh_model.specs.Loops.Routes.{next_of, tells_of}
use Rattle.mesh_model.specs.Net.Watching.{is_row_of, next_by, routed, same_next, told_of}
use Rattle.mesh_model.specs.Routes.Addresses.{mac_order, same_mac}
use Rattle.mesh_laws.proofs.MacLemmas.{same_by_order, same_equiv, same_exact}

pub same_by_mac_order : same_mac ≡ eq_by_cmp mac_order
same_by_mac_order = fun_ext (λ a. fun_ext (λ b. sym (same_by_order a b)))

-- ---- next nodes
pub same_next_is : (a b : Option Mac) → option_eq same_mac a b ≡ same_next a b
same_next_is None None = refl
same_next_is None (Some b) = refl
same_next_is (Some a) None = refl
same_next_is (Some a) (Some b) = refl

pub one_next : (a b : Option Mac) → same_next a b ≡ true → a ≡ b
one_next None None same = refl
one_next None (Some b) same = absurd (false≢true same)
one_next (Some a) None same = absurd (false≢true same)
one_next (Some a) (Some b) same = ap Some (same_exact a b same)

-- ---- originators with a route
swap : (a b : Mac) → same_mac a b ≡ same_mac b a
swap a b = same_equiv.symm a b

none_there : (a b : Bool) → (a || b) ≡ false → (a ≡ false) × (b ≡ false)
none_there true b e = absurd (true≢false e)
none_there false b e = (refl, e)

-- an originator that isn't among those with a route has none
pub unrouted : (orig : Mac) (rows : List OrigRow) → list_any (same_mac orig) (routed rows) ≡ false → next_by rows orig ≡ None
unrouted orig [] none = refl
unrouted orig (row ∷ rows) none = go (unrouted orig rows) row.next (same_mac row.orig orig) refl refl none
  where
    go : (list_any (same_mac orig) (routed rows) ≡ false → next_by rows orig ≡ None) → (next : Option Mac) (b : Bool) → row.next ≡ next → same_mac row.orig orig ≡ b
        → list_any (same_mac orig) (map (λ (r : OrigRow). r.orig) (cond (is_some row.next) (row ∷ filter (λ (r : OrigRow). is_some r.next) rows) (filter (λ (r : OrigRow). is_some r.next) rows))) ≡ false
        → option_and_then (λ (r : OrigRow). r.next) (cond b (Some row) (find (is_row_of orig) rows)) ≡ None
    go later None true n s none = n
    go later None false n s none =
        later (subst (λ (o : Option Mac). list_any (same_mac orig) (map (λ (r : OrigRow). r.orig) (cond (is_some o) (row ∷ filter (λ (r : OrigRow). is_some r.next) rows) (filter (λ (r : OrigRow). is_some r.next) rows))) ≡ false) n none)
    go later (Some next) b n s none =
        let here = subst (λ (o : Option Mac). list_any (same_mac orig) (map (λ (r : OrigRow). r.orig) (cond (is_some o) (row ∷ filter (λ (r : OrigRow). is_some r.next) rows) (filter (λ (r : OrigRow). is_some r.next) rows))) ≡ false) n none in
        let parts = none_there (same_mac orig row.orig) (list_any (same_mac orig) (routed rows)) here in
        let apart : b ≡ false = sym s ∙ swap row.orig orig ∙ parts.0 in
        ap (λ t. option_and_then (λ (r : OrigRow). r.next) (cond t (Some row) (find (is_row_of orig) rows))) apart ∙ later parts.1

-- one of which no line told at a node has none there
pub untold : (node orig : Mac) (told : List RouteLine) → list_any (same_mac orig) (told_of node told) ≡ false → next_of told orig node ≡ None
untold node orig [] none = refl
untold node orig (line ∷ told) none = go (untold node orig told) (same_mac line.node node) (same_mac line.orig orig) refl refl none
  where
    go : (list_any (same_mac orig) (told_of node told) ≡ false → next_of told orig node ≡ None) → (n o : Bool) → same_mac line.node node ≡ n → same_mac line.orig orig ≡ o
        → list_any (same_mac orig) (map (λ (l : RouteLine). l.orig) (cond n (line ∷ filter (λ (l : RouteLine). same_mac l.node node) told) (filter (λ (l : RouteLine). same_mac l.node node) told))) ≡ false
        → option_and_then (λ (l : RouteLine). l.next) (cond (o && n) (Some line) (find (tells_of orig node) told)) ≡ None
    go later true true a b none = absurd (true≢false (sym (swap orig line.orig ∙ b) ∙ (none_there (same_mac orig line.orig) _ none).0))
    go later true false a b none = later (none_there (same_mac orig line.orig) _ none).1
    go later false true a b none = later none
    go later false false a b none = later none
