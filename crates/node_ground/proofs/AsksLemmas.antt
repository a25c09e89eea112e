-- The pairs for which an answer is awaited, as they are asked for and told.
use Rattle.std.proofs.Common.{◌≡◌, ◌||◌, ◌&&◌, Bool, true, false, not, cond, List, [], ◌∷◌, refl, sym, ap, ap₂, ◌∙◌}
use Rattle.std.proofs.Math.Path.{fun_ext}
use Rattle.std.specs.Cmp.{both_tied, unsigned_ties}
use Rattle.std.specs.List.{list_any}
use Rattle.std.specs.Ordering.{eq_by_cmp}
use Rattle.mesh_model.specs.declared.service.Pair.{Pair}
use Rattle.mesh_model.specs.Services.ArpTable.{AskedFor, PairCall, ToldOf, is_awaited, pair_order, same_pair}
use Rattle.node_ground.specs.AsksStand.{AsksStand}

-- two pairs are one where neither comes before the other
same_by_order : (a b : Pair) → eq_by_cmp pair_order a b ≡ same_pair a.ip a.vid b.ip b.vid
same_by_order a b = sym (both_tied _ _ _ _ (unsigned_ties a.ip b.ip) (unsigned_ties a.vid.0 b.vid.0))

-- before any was asked for
pub nothing_asked : (kept : List Pair) → kept ≡ [] → AsksStand kept []
nothing_asked kept is = record { awaited = λ pair. ap (list_any (eq_by_cmp pair_order pair)) is }

one_more : (is was : Bool) → cond is true was ≡ (is || was)
one_more true was = refl
one_more false was = refl

one_less : (is was : Bool) → cond is false was ≡ (not is && was)
one_less true was = refl
one_less false was = refl

module _ (same : Pair → Pair → Bool) (is : (x y : Pair) → same x y ≡ eq_by_cmp pair_order x y) where
  -- a test by equality is one by the order
  any_same : (pair : Pair) (kept : List Pair) → list_any (same pair) kept ≡ list_any (eq_by_cmp pair_order pair) kept
  any_same pair kept = ap (λ test. list_any test kept) (fun_ext (λ other. is pair other))

  module _ (pair : Pair) (kept : List Pair) (calls : List PairCall) (stands : AsksStand kept calls) where
    -- whether a pair is kept, by what is awaited
    pub found : list_any (same pair) kept ≡ is_awaited calls pair.ip pair.vid
    found = any_same pair kept ∙ stands.awaited pair

    -- how one pair is kept once another was put or taken away
    kept_after : (after : List Pair) (b : Bool) → ((q : Pair) → list_any (same q) after ≡ cond (same pair q) b (list_any (same q) kept))
        → (q : Pair) → list_any (eq_by_cmp pair_order q) after ≡ cond (same_pair pair.ip pair.vid q.ip q.vid) b (is_awaited calls q.ip q.vid)
    kept_after after b updates q =
        sym (any_same q after) ∙ updates q
        ∙ ap₂ (λ one was. cond one b was) (is pair q ∙ same_by_order pair q) (any_same q kept ∙ stands.awaited q)

    -- it is asked for
    pub asked : (after : List Pair) → ((q : Pair) → list_any (same q) after ≡ cond (same pair q) true (list_any (same q) kept)) → AsksStand after (AskedFor pair.ip pair.vid ∷ calls)
    asked after updates = record {
      awaited = λ q. kept_after after true updates q ∙ one_more (same_pair pair.ip pair.vid q.ip q.vid) (is_awaited calls q.ip q.vid);
    }

    -- it is told
    pub told : (after : List Pair) → ((q : Pair) → list_any (same q) after ≡ cond (same pair q) false (list_any (same q) kept)) → AsksStand after (ToldOf pair.ip pair.vid ∷ calls)
    told after updates = record {
      awaited = λ q. kept_after after false updates q ∙ one_less (same_pair pair.ip pair.vid q.ip q.vid) (is_awaited calls q.ip q.vid);
    }
