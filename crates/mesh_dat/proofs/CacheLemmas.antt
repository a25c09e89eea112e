-- What is kept of pairs: what was learned of one last, and which pairs are known.
use Rattle.std.proofs.Common.{◌≡◌, ◌↔◌, ◌≤◌, ℕ, ◌-◌, nat_cmp, nat_lt, ◌||◌, Bool, true, false, cond, List, [], ◌∷◌, find, map, filter_map, length, slice_get, IfSome, IsNone, IsSome, Option, Some, None, is_some, option_map, option_and_then, refl, sym, ap, ap₂, ◌∙◌, subst, arith}
use Rattle.std.proofs.Math.Path.{fun_ext}
use Rattle.std.specs.Cmp.{IsTotalOrder, both_tied, unsigned_ties}
use Rattle.std.specs.List.{IsDistinct, list_any}
use Rattle.std.specs.List.Sorted.{IsSorted, IsStrictlySortedBy}
use Rattle.std.specs.Map.{keys_of, lookup}
use Rattle.std.specs.Ordering.{eq_by_cmp}
use Rattle.std.proofs.lemmas.Bool.{false≢true, true≢false}
use Rattle.std.proofs.lemmas.Cmp.{nat_cmp_total, on_total, then_total}
use Rattle.std.proofs.lemmas.Grind.{common_steps}
use Rattle.std.proofs.lemmas.Map.Lookups.{CmpEqualImpliesEq, exact_pairs, exact_unsigned}
use Rattle.std.proofs.lemmas.Option.{gets}
use Rattle.mesh_base.specs.Ordered.{in_order}
use Rattle.mesh_base.specs.declared.client.Vid.{Vid}
use Rattle.mesh_model.specs.declared.service.ArpRow.{ArpRow}
use Rattle.mesh_model.specs.declared.service.Pair.{Pair}
use Rattle.mesh_model.specs.Services.ArpTable.{Learned, if_known, is_pair, known_pair, pair_address, pair_age, pair_order, pairs_at, row_of_learned, row_of_pair}
use Rattle.mesh_laws.proofs.AscendingKeys.{ascend_inserted, inserted, sorted_from, swap_test}
use Rattle.mesh_laws.proofs.KeyLists.{tied}
use Rattle.mesh_laws.proofs.ListedInOrder.{table_rows}
use Rattle.mesh_dat.specs.Cache.{CacheStands, learned_of}
use Rattle.mesh_dat.specs.declared.kept.Kept.{Kept}

-- ---- the order of pairs
pub pair_total : IsTotalOrder pair_order
pair_total = then_total (on_total (λ (p : Pair). p.ip) nat_cmp_total) (on_total (λ (p : Pair). p.vid.0) nat_cmp_total)

pub pair_exact : CmpEqualImpliesEq pair_order
pair_exact a b e =
    let parts = exact_pairs nat_cmp nat_cmp exact_unsigned exact_unsigned (a.ip, a.vid.0) (b.ip, b.vid.0) e in
    λ i. record { ip = (parts i).0; vid = record { 0 = (parts i).1 } }

-- the pair of what was learned
abbrev pub pair_of : Learned → Pair
pair_of learned = record { ip = learned.ip; vid = learned.vid }

-- what was learned is of a pair where its pair is that one
same_pair : (pair : Pair) (learned : Learned) → is_pair pair.ip pair.vid learned ≡ eq_by_cmp pair_order (pair_of learned) pair
same_pair pair learned = both_tied _ _ _ _ (unsigned_ties learned.ip pair.ip) (unsigned_ties learned.vid.0 pair.vid.0)

-- ---- learning
-- nothing is kept before something was learned
pub nothing_stands : (kept : List (Pair × Kept)) → kept ≡ [] → CacheStands kept []
unfolding IsStrictlySortedBy
nothing_stands kept is = subst (λ k. CacheStands k []) (sym is) (record { last = λ pair. refl; ordered = tt })

-- what was learned, as it is kept
abbrev pub kept_of : Learned → Kept
kept_of learned = record { moment = learned.moment; mac = learned.mac }

-- what was learned last of a pair once this is kept, of the pair or of another
last_after : (new : Learned) (old : Option Kept) (learned : List Learned) (q : Pair) → option_map (learned_of q) old ≡ find (is_pair q.ip q.vid) learned
    → option_map (learned_of q) (cond (eq_by_cmp pair_order (pair_of new) q) (Some (kept_of new)) old) ≡ find (is_pair q.ip q.vid) (new ∷ learned)
last_after new old learned q was =
    go (eq_by_cmp pair_order (pair_of new) q) refl
    ∙ ap (λ b. cond b (Some new) (find (is_pair q.ip q.vid) learned)) (sym (same_pair q new))
  where
    go : (b : Bool) → eq_by_cmp pair_order (pair_of new) q ≡ b → option_map (learned_of q) (cond b (Some (kept_of new)) old) ≡ cond b (Some new) (find (is_pair q.ip q.vid) learned)
    go true t = ap (λ k. Some (learned_of k (kept_of new))) (sym (tied pair_order pair_exact (pair_of new) q _ refl t))
    go false t = was

-- a look-up by equality is one by the order
pub looked_up : {X : Type 0} (same : Pair → Pair → Bool) → ((x y : Pair) → same x y ≡ eq_by_cmp pair_order x y) → (pair : Pair) (entries : List (Pair × X)) → lookup (same pair) entries ≡ lookup (eq_by_cmp pair_order pair) entries
looked_up same is pair entries = ap (λ test. lookup test entries) (fun_ext (λ other. is pair other))

-- it is noted by what a sorted insertion leaves
pub noted : (same : Pair → Pair → Bool) → ((x y : Pair) → same x y ≡ eq_by_cmp pair_order x y) → (new : Learned) (kept after : List (Pair × Kept))
    → (IsSorted pair_order (keys_of kept) → IsSorted pair_order (keys_of after)) → IsDistinct same (keys_of after)
    → ((q : Pair) → lookup (same q) after ≡ cond (same (pair_of new) q) (Some (kept_of new)) (lookup (same q) kept))
    → (learned : List Learned) → CacheStands kept learned → CacheStands after (new ∷ learned)
noted same is new kept after sorted once updates learned stands = record {
  last = λ q.
      ap (option_map (learned_of q)) (sym (looked_up same is q after) ∙ updates q ∙ ap₂ (λ b o. cond b (Some (kept_of new)) o) (is (pair_of new) q) (looked_up same is q kept))
      ∙ last_after new (lookup (eq_by_cmp pair_order q) kept) learned q (stands.last q);
  ordered =
      subst (λ es. IsStrictlySortedBy pair_order (keys_of es))
      (sym (inserted pair_total pair_exact same is kept after (pair_of new) (kept_of new) stands.ordered (sorted (sorted_from pair_total pair_exact kept stands.ordered)) once updates))
      (ascend_inserted pair_total pair_exact kept (pair_of new) (kept_of new) stands.ordered);
}

-- of a pair that was learned something is kept
pub kept_there : (kept : List (Pair × Kept)) (learned : List Learned) (pair : Pair) → CacheStands kept learned → IsSome (find (is_pair pair.ip pair.vid) learned) → IsSome (lookup (eq_by_cmp pair_order pair) kept)
kept_there kept learned pair stands there = go (lookup (eq_by_cmp pair_order pair) kept) (subst IsSome (sym (stands.last pair)) there)
  where
    go : (o : Option Kept) → IsSome (option_map (learned_of pair) o) → IsSome o
    go None there = absurd (false≢true there)
    go (Some k) there = refl

-- ---- rows
-- the row of what is kept of a pair
abbrev pub kept_row : ℕ → Pair → Kept → Option ArpRow
kept_row now pair kept = option_map (row_of_learned now) (if_known now (learned_of pair kept))

row_of_kept : (now : ℕ) (pair : Pair) (o : Option Kept) → option_and_then (kept_row now pair) o ≡ option_map (row_of_learned now) (option_and_then (if_known now) (option_map (learned_of pair) o))
row_of_kept now pair None = refl
row_of_kept now pair (Some kept) = refl

-- what is kept of a pair gives its row
pub row_kept : (kept : List (Pair × Kept)) (learned : List Learned) (now : ℕ) → CacheStands kept learned → (pair : Pair) → option_and_then (kept_row now pair) (lookup (eq_by_cmp pair_order pair) kept) ≡ row_of_pair learned now pair
row_kept kept learned now stands pair = row_of_kept now pair (lookup (eq_by_cmp pair_order pair) kept) ∙ ap (λ o. option_map (row_of_learned now) (option_and_then (if_known now) o)) (stands.last pair)

none_learned : (learned : List Learned) (q : Pair) → list_any (eq_by_cmp pair_order q) (map pair_of learned) ≡ false → find (is_pair q.ip q.vid) learned ≡ None
none_learned [] q absent = refl
none_learned (one ∷ older) q absent =
    ap (λ b. cond b (Some one) (find (is_pair q.ip q.vid) older)) (same_pair q one ∙ swap_test pair_total pair_exact (pair_of one) q)
    ∙ elim (eq_by_cmp pair_order q (pair_of one)) as (λ b. (b || list_any (eq_by_cmp pair_order q) (map pair_of older)) ≡ false → cond b (Some one) (find (is_pair q.ip q.vid) older) ≡ None) [
      | true ↦ λ h. absurd (true≢false h)
      | false ↦ λ h. none_learned older q h
    ] absent

none_kept : (pair : Pair) (o : Option Kept) → option_map (learned_of pair) o ≡ None → o ≡ None
none_kept pair None is = refl
none_kept pair (Some kept) is = absurd (true≢false (ap is_some is))

row_of_pair_is : (now : ℕ) (pair : Pair) (kept : Kept) → IfSome (kept_row now pair kept) (λ (row : ArpRow). record { ip = row.ip; vid = row.vid } ≡ pair)
row_of_pair_is now pair kept =
    elim (nat_lt (now - kept.moment) pair_age) as (λ b. IfSome (option_map (row_of_learned now) (cond b (Some (learned_of pair kept)) None)) (λ (row : ArpRow). record { ip = row.ip; vid = row.vid } ≡ pair)) [ true ↦ refl | false ↦ tt ]

-- the rows of what is kept are the pairs that are known
pub rows_kept : (kept : List (Pair × Kept)) (learned : List Learned) (now : ℕ) → CacheStands kept learned → filter_map (λ (e : Pair × Kept). kept_row now e.0 e.1) kept ≡ pairs_at learned now
rows_kept kept learned now stands =
    table_rows pair_total pair_exact (λ (row : ArpRow). record { ip = row.ip; vid = row.vid }) (kept_row now) (row_of_pair_is now) (map pair_of learned) kept stands.ordered
    (λ q absent. none_kept q (lookup (eq_by_cmp pair_order q) kept) (stands.last q ∙ none_learned learned q absent))
    ∙ ap (λ row. filter_map row (in_order pair_order (map pair_of learned))) (fun_ext (λ q. row_kept kept learned now stands q))

-- the address of a pair is that of its row
pub row_address : (learned : List Learned) (now ip : ℕ) (vid : Vid) → option_map (λ (row : ArpRow). row.mac) (row_of_pair learned now (record { ip = ip; vid = vid })) ≡ pair_address learned now ip vid
row_address learned now ip vid = go (known_pair learned now ip vid)
  where
    go : (o : Option Learned) → option_map (λ (row : ArpRow). row.mac) (option_map (row_of_learned now) o) ≡ option_map (λ (pair : Learned). pair.mac) o
    go None = refl
    go (Some one) = refl

-- a place of a list has nothing exactly where it is past the end
pub none_past_end : {X : Type 0} (rows : List X) (i : ℕ) (row : Option X) → row ≡ slice_get rows i → IsNone row ↔ (length rows ≤ i)
none_past_end rows i row is = grind (arith, common_steps, gets)
