-- What is kept of facts: what a call leaves of each source and type, and which facts are live.
use Rattle.std.proofs.Common.{◌≡◌, ◌↔◌, ◌≤◌, ℕ, nat_cmp, ◌||◌, Bool, true, false, cond, List, [], ◌∷◌, map, filter, filter_map, length, slice_get, IfSome, IsNone, Option, Some, None, option_map, option_and_then, refl, sym, ap, ap₂, ◌∙◌, subst, arith}
use Rattle.std.proofs.Math.Path.{fun_ext}
use Rattle.std.specs.Cmp.{IsTotalOrder, both_tied, unsigned_ties}
use Rattle.std.specs.Cmp.Lexicographic.{slice_cmp}
use Rattle.std.specs.List.{IsDistinct, list_any}
use Rattle.std.specs.List.Sorted.{IsSorted, IsStrictlySortedBy}
use Rattle.std.specs.Map.{keys_of, lookup}
use Rattle.std.specs.List.{cons_option}
use Rattle.std.specs.Ordering.{eq_by_cmp}
use Rattle.std.proofs.lemmas.Bool.{true≢false}
use Rattle.std.proofs.lemmas.Cmp.{nat_cmp_total, nat_list_cmp_total, on_total, then_total}
use Rattle.std.proofs.lemmas.Grind.{common_steps}
use Rattle.std.proofs.lemmas.Map.Lookups.{CmpEqualImpliesEq, exact_bytes, exact_pairs, exact_unsigned}
use Rattle.std.proofs.lemmas.Option.{gets}
use Rattle.mesh_base.specs.Ordered.{in_order}
use Rattle.mesh_base.specs.declared.address.Mac.{Mac}
use Rattle.mesh_model.specs.declared.service.Fact.{Fact}
use Rattle.mesh_model.specs.declared.service.FactKey.{FactKey}
use Rattle.mesh_model.specs.declared.service.KeptFact.{KeptFact}
use Rattle.mesh_model.specs.declared.service.Mark.TheVariants.{Local}
use Rattle.mesh_model.specs.Services.Facts.{CameFrom, FactCall, WasPut, fact_of_call, fact_order, facts_at, if_live, is_fact_of, is_live_fact, kept_fact, key_of_fact, live_fact, mark_from, next_fact, stays_kept, taken_fact}
use Rattle.mesh_laws.proofs.AscendingKeys.{ascend_inserted, inserted, sorted_from, swap_test}
use Rattle.mesh_laws.proofs.KeyLists.{tied}
use Rattle.mesh_laws.proofs.ListedInOrder.{table_rows}
use Rattle.mesh_laws.proofs.MacLemmas.{same_by_order}
use Rattle.alfred_core.specs.Facts.{FactsStand, IsKeptBy, KeptFacts}

-- ---- the order of sources and types
pub fact_total : IsTotalOrder fact_order
fact_total = then_total (on_total (λ (k : FactKey). k.source.0) nat_list_cmp_total) (on_total (λ (k : FactKey). k.type_no) nat_cmp_total)

pub fact_exact : CmpEqualImpliesEq fact_order
fact_exact a b e =
    let parts = exact_pairs (slice_cmp nat_cmp) nat_cmp exact_bytes exact_unsigned (a.source.0, a.type_no) (b.source.0, b.type_no) e in
    λ i. record { source = record { 0 = (parts i).0 }; type_no = (parts i).1 }

-- a fact is of a source and a type where its key is that one
same_fact : (key : FactKey) (fact : Fact) → is_fact_of key.source key.type_no fact ≡ eq_by_cmp fact_order (key_of_fact fact) key
same_fact key fact = both_tied _ _ _ _ (sym (same_by_order fact.source key.source)) (unsigned_ties fact.type_no key.type_no)

-- ---- calls
-- nothing is kept before a call
pub nothing_stands : (me : Mac) (kept : List (FactKey × KeptFact)) → kept ≡ [] → FactsStand (record { me = me; kept = kept }) me []
unfolding IsStrictlySortedBy
nothing_stands me kept is = subst (λ k. FactsStand (record { me = me; kept = k }) me []) (sym is) (record { own = refl; left = λ key. refl; ordered = tt })

-- a look-up by equality is one by the order
pub looked_up : {X : Type 0} (same : FactKey → FactKey → Bool) → ((x y : FactKey) → same x y ≡ eq_by_cmp fact_order x y) → (key : FactKey) (entries : List (FactKey × X)) → lookup (same key) entries ≡ lookup (eq_by_cmp fact_order key) entries
looked_up same is key entries = ap (λ test. lookup test entries) (fun_ext (λ other. is key other))

-- a call is noted by what a sorted insertion leaves
pub noted : (same : FactKey → FactKey → Bool) → ((x y : FactKey) → same x y ≡ eq_by_cmp fact_order x y) → (facts : KeptFacts) (key : FactKey) (one : KeptFact) (after : List (FactKey × KeptFact)) → key ≡ key_of_fact one.fact
    → (IsSorted fact_order (keys_of facts.kept) → IsSorted fact_order (keys_of after)) → IsDistinct same (keys_of after)
    → ((q : FactKey) → lookup (same q) after ≡ cond (same key q) (Some one) (lookup (same q) facts.kept))
    → (me : Mac) (calls : List FactCall) (call : FactCall) → FactsStand facts me calls → IsKeptBy call calls one → FactsStand (record { me = facts.me; kept = after }) me (call ∷ calls)
noted same is facts key one after of_it sorted once updates me calls call stands by = record {
  own = stands.own;
  left = λ q.
      sym (looked_up same is q after) ∙ updates q
      ∙ ap₂ (λ b o. cond b (Some one) o) (is key q ∙ ap (λ k. eq_by_cmp fact_order k q) of_it) (looked_up same is q facts.kept ∙ stands.left q)
      ∙ sym (by q);
  ordered =
      subst (λ es. IsStrictlySortedBy fact_order (keys_of es))
      (sym (inserted fact_total fact_exact same is facts.kept after key one stands.ordered (sorted (sorted_from fact_total fact_exact facts.kept stands.ordered)) once updates))
      (ascend_inserted fact_total fact_exact facts.kept key one stands.ordered);
}

-- a fact that is put is kept
pub put_is_kept : (now : ℕ) (fact : Fact) (calls : List FactCall) → IsKeptBy (WasPut now fact) calls (record { moment = now; mark = Local; fact = fact })
put_is_kept now fact calls key = ap (λ b. cond b (Some (record { moment = now; mark = Local; fact = fact })) (kept_fact calls key.source key.type_no)) (same_fact key fact)

-- what a fact that comes leaves of a source and a type, by whether what is kept of its own stays
left_of : (now : ℕ) (sender : Mac) (fact : Fact) (calls : List FactCall) (key : FactKey)
    → kept_fact (CameFrom now sender fact ∷ calls) key.source key.type_no
    ≡ cond (eq_by_cmp fact_order (key_of_fact fact) key) (taken_fact now sender fact (kept_fact calls fact.source fact.type_no)) (kept_fact calls key.source key.type_no)
left_of now sender fact calls key =
    ap (λ b. cond b (taken_fact now sender fact (kept_fact calls key.source key.type_no)) (kept_fact calls key.source key.type_no)) (same_fact key fact)
    ∙ go (eq_by_cmp fact_order (key_of_fact fact) key) refl
  where
    go : (b : Bool) → eq_by_cmp fact_order (key_of_fact fact) key ≡ b → cond b (taken_fact now sender fact (kept_fact calls key.source key.type_no)) (kept_fact calls key.source key.type_no)
        ≡ cond b (taken_fact now sender fact (kept_fact calls fact.source fact.type_no)) (kept_fact calls key.source key.type_no)
    go true t = ap (λ (k : FactKey). taken_fact now sender fact (kept_fact calls k.source k.type_no)) (sym (tied fact_order fact_exact (key_of_fact fact) key _ refl t))
    go false t = refl

-- one that comes is kept, unless what is kept stays
pub taken_is_kept : (now : ℕ) (sender : Mac) (fact : Fact) (calls : List FactCall) → stays_kept now (mark_from sender fact) (kept_fact calls fact.source fact.type_no) ≡ false
    → IsKeptBy (CameFrom now sender fact) calls (record { moment = now; mark = mark_from sender fact; fact = fact })
taken_is_kept now sender fact calls goes key =
    left_of now sender fact calls key
    ∙ ap (λ b. cond (eq_by_cmp fact_order (key_of_fact fact) key) (cond b (kept_fact calls fact.source fact.type_no) (Some (record { moment = now; mark = mark_from sender fact; fact = fact }))) (kept_fact calls key.source key.type_no)) goes

-- and where it stays, all is as before
pub stays_as_before : (now : ℕ) (sender : Mac) (fact : Fact) (facts : KeptFacts) (me : Mac) (calls : List FactCall) → stays_kept now (mark_from sender fact) (kept_fact calls fact.source fact.type_no) ≡ true
    → FactsStand facts me calls → FactsStand facts me (CameFrom now sender fact ∷ calls)
stays_as_before now sender fact facts me calls stays stands = record {
  own = stands.own;
  left = λ key. stands.left key ∙ sym (as_before key);
  ordered = stands.ordered;
}
  where
    go : (key : FactKey) (b : Bool) → eq_by_cmp fact_order (key_of_fact fact) key ≡ b → cond b (kept_fact calls fact.source fact.type_no) (kept_fact calls key.source key.type_no) ≡ kept_fact calls key.source key.type_no
    go key true t = ap (λ (k : FactKey). kept_fact calls k.source k.type_no) (tied fact_order fact_exact (key_of_fact fact) key _ refl t)
    go key false t = refl

    as_before : (key : FactKey) → kept_fact (CameFrom now sender fact ∷ calls) key.source key.type_no ≡ kept_fact calls key.source key.type_no
    as_before key =
        left_of now sender fact calls key
        ∙ ap (λ b. cond (eq_by_cmp fact_order (key_of_fact fact) key) (cond b (kept_fact calls fact.source fact.type_no) (Some (record { moment = now; mark = mark_from sender fact; fact = fact }))) (kept_fact calls key.source key.type_no)) stays
        ∙ go key (eq_by_cmp fact_order (key_of_fact fact) key) refl

-- ---- rows
-- a live fact with its key
abbrev live_row : ℕ → FactKey → KeptFact → Option (FactKey × KeptFact)
live_row now key kept = option_map (λ (k : KeptFact). (key, k)) (if_live now kept)

none_called : (calls : List FactCall) (q : FactKey) → list_any (eq_by_cmp fact_order q) (map (λ call. key_of_fact (fact_of_call call)) calls) ≡ false → kept_fact calls q.source q.type_no ≡ None
none_called [] q absent = refl
none_called (call ∷ older) q absent =
    elim (eq_by_cmp fact_order q (key_of_fact (fact_of_call call))) as (λ b. eq_by_cmp fact_order q (key_of_fact (fact_of_call call)) ≡ b → (b || list_any (eq_by_cmp fact_order q) (map (λ c. key_of_fact (fact_of_call c)) older)) ≡ false → kept_fact (call ∷ older) q.source q.type_no ≡ None) [
      | true ↦ λ t h. absurd (true≢false h)
      | false ↦ λ t h. passed call (same_fact q (fact_of_call call) ∙ swap_test fact_total fact_exact (key_of_fact (fact_of_call call)) q ∙ t) (none_called older q h)
    ] refl absent
  where
    passed : (c : FactCall) → is_fact_of q.source q.type_no (fact_of_call c) ≡ false → kept_fact older q.source q.type_no ≡ None → next_fact q.source q.type_no c (kept_fact older q.source q.type_no) ≡ None
    passed (WasPut now fact) other none = ap (λ b. cond b (Some (record { moment = now; mark = Local; fact = fact })) (kept_fact older q.source q.type_no)) other ∙ none
    passed (CameFrom now sender fact) other none = ap (λ b. cond b (taken_fact now sender fact (kept_fact older q.source q.type_no)) (kept_fact older q.source q.type_no)) other ∙ none

row_has_key : (now : ℕ) (key : FactKey) (kept : KeptFact) → IfSome (live_row now key kept) (λ (row : FactKey × KeptFact). row.0 ≡ key)
row_has_key now key kept =
    elim (is_live_fact now kept) as (λ b. IfSome (option_map (λ (k : KeptFact). (key, k)) (cond b (Some kept) None)) (λ (row : FactKey × KeptFact). row.0 ≡ key)) [ true ↦ refl | false ↦ tt ]

without_key : (now : ℕ) (key : FactKey) (o : Option KeptFact) → option_map (λ (row : FactKey × KeptFact). row.1) (option_and_then (live_row now key) o) ≡ option_and_then (if_live now) o
without_key now key None = refl
without_key now key (Some kept) = elim (is_live_fact now kept) as (λ b. option_map (λ (row : FactKey × KeptFact). row.1) (option_map (λ (k : KeptFact). (key, k)) (cond b (Some kept) None)) ≡ cond b (Some kept) None) [ true ↦ refl | false ↦ refl ]

module _ (now : ℕ) where
  kept_values : (e : FactKey × KeptFact) (b : Bool) (values : List KeptFact) (rows : List (FactKey × KeptFact)) → values ≡ map (λ (row : FactKey × KeptFact). row.1) rows
      → cond b (e.1 ∷ values) values ≡ map (λ (row : FactKey × KeptFact). row.1) (cons_option (option_map (λ (k : KeptFact). (e.0, k)) (cond b (Some e.1) None)) rows)
  kept_values e true values rows is = ap (λ l. e.1 ∷ l) is
  kept_values e false values rows is = is

  -- the live ones among the kept are the rows without their keys
  live_values : (es : List (FactKey × KeptFact)) → filter (is_live_fact now) (map (λ (e : FactKey × KeptFact). e.1) es) ≡ map (λ (row : FactKey × KeptFact). row.1) (filter_map (λ (e : FactKey × KeptFact). live_row now e.0 e.1) es)
  live_values [] = refl
  live_values (e ∷ es) = kept_values e (is_live_fact now e.1) (filter (is_live_fact now) (map (λ (d : FactKey × KeptFact). d.1) es)) (filter_map (λ (d : FactKey × KeptFact). live_row now d.0 d.1) es) (live_values es)

  mapped : (o : Option (FactKey × KeptFact)) (rows : List (FactKey × KeptFact)) → map (λ (row : FactKey × KeptFact). row.1) (cons_option o rows) ≡ cons_option (option_map (λ (row : FactKey × KeptFact). row.1) o) (map (λ (row : FactKey × KeptFact). row.1) rows)
  mapped None rows = refl
  mapped (Some row) rows = refl

  unkeyed : (facts : KeptFacts) (me : Mac) (calls : List FactCall) → FactsStand facts me calls → (keys : List FactKey)
      → map (λ (row : FactKey × KeptFact). row.1) (filter_map (λ q. option_and_then (live_row now q) (lookup (eq_by_cmp fact_order q) facts.kept)) keys) ≡ filter_map (live_fact calls now) keys
  unkeyed facts me calls stands [] = refl
  unkeyed facts me calls stands (q ∷ keys) =
      mapped (option_and_then (live_row now q) (lookup (eq_by_cmp fact_order q) facts.kept)) (filter_map (λ k. option_and_then (live_row now k) (lookup (eq_by_cmp fact_order k) facts.kept)) keys)
      ∙ ap₂ cons_option (without_key now q (lookup (eq_by_cmp fact_order q) facts.kept) ∙ ap (option_and_then (if_live now)) (stands.left q)) (unkeyed facts me calls stands keys)

  -- the live facts are those that are kept and live
  pub rows_kept : (facts : KeptFacts) (me : Mac) (calls : List FactCall) → FactsStand facts me calls → filter (is_live_fact now) (map (λ (e : FactKey × KeptFact). e.1) facts.kept) ≡ facts_at calls now
  rows_kept facts me calls stands =
      live_values facts.kept
      ∙ ap (map (λ (row : FactKey × KeptFact). row.1))
      (table_rows fact_total fact_exact (λ (row : FactKey × KeptFact). row.0) (live_row now) (row_has_key now) (map (λ call. key_of_fact (fact_of_call call)) calls) facts.kept stands.ordered
      (λ q absent. stands.left q ∙ none_called calls q absent))
      ∙ unkeyed facts me calls stands (in_order fact_order (map (λ call. key_of_fact (fact_of_call call)) calls))

-- a place of a list has nothing exactly where it is past the end
pub none_past_end : {X Y : Type 0} (f : X → Y) (rows : List Y) (i : ℕ) (row : Option X) → option_map f row ≡ slice_get rows i → IsNone row ↔ (length rows ≤ i)
none_past_end f rows i None is = grind (arith, common_steps, gets)
none_past_end f rows i (Some x) is = grind (arith, common_steps, gets)
