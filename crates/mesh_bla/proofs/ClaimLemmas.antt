-- What is kept of claim frames: which frame of a key is the last one, and which claims stand.
use Rattle.std.proofs.Common.{◌≡◌, ◌↔◌, ◌≤◌, ℕ, ◌-◌, nat_lt, ◌&&◌, ◌||◌, Bool, true, false, cond, List, [], ◌∷◌, map, filter, filter_map, length, slice_get, IfSome, IsNone, IsSome, Option, Some, None, is_some, option_map, option_and_then, refl, sym, ap, ap₂, ◌∙◌, subst, arith}
use Rattle.std.proofs.Math.Path.{fun_ext}
use Rattle.std.specs.List.{list_any}
use Rattle.std.specs.List.Sorted.{IsSorted, IsStrictlySortedBy}
use Rattle.std.specs.List.{IsDistinct}
use Rattle.std.specs.Map.{keys_of, lookup}
use Rattle.std.specs.Ordering.{eq_by_cmp}
use Rattle.std.proofs.lemmas.Bool.{false≢true, true≢false}
use Rattle.std.proofs.lemmas.Grind.{common_steps}
use Rattle.std.proofs.lemmas.Option.{gets}
use Rattle.mesh_base.specs.KeyOrder.{key_order}
use Rattle.mesh_base.specs.declared.address.Mac.{Mac}
use Rattle.mesh_base.specs.declared.client.Key.{Key}
use Rattle.mesh_model.specs.declared.claim.ClaimRow.{ClaimRow}
use Rattle.mesh_model.specs.Bridges.Claims.{ClaimCall, ClaimCalls, claim_age, claim_holder, claim_row, claimed_keys, claims_at, claims_of, if_standing, last_claim, row_of_claim, standing_claim}
use Rattle.mesh_model.specs.Bridges.Verdicts.{Anothers, Hold, Nobodys, Ours, hold_by, hold_of}
use Rattle.mesh_model.specs.Routes.Addresses.{same_mac}
use Rattle.mesh_laws.proofs.AscendingKeys.{ascend_inserted, inserted, sorted_from, swap_test}
use Rattle.mesh_laws.proofs.ListedInOrder.{table_rows}
use Rattle.mesh_laws.proofs.PresentLemmas.{equal_from_same, key_exact, key_total}
use Rattle.mesh_bla.specs.Claims.{ClaimsStand, KeptClaims, call_of, kept_row}
use Rattle.mesh_bla.specs.declared.kept.Kept.{Kept}

-- ---- frames
-- nothing is kept before a frame came
pub nothing_stands : (me : Mac) (kept : List (Key × Kept)) → kept ≡ [] → ClaimsStand (record { me = me; kept = kept }) me []
unfolding IsStrictlySortedBy
nothing_stands me kept is = subst (λ k. ClaimsStand (record { me = me; kept = k }) me []) (sym is) (record { own = refl; last = λ key. refl; ordered = tt })

-- a frame as it is kept
abbrev pub kept_of : ClaimCall → Kept
kept_of call = record { moment = call.moment; sender = call.sender; claim = call.claim }

-- the last frame of a key once this one is kept, of the key or of another
last_after : (call : ClaimCall) (old : Option Kept) (calls : ClaimCalls) (q : Key) → option_map (call_of q) old ≡ last_claim calls q
    → option_map (call_of q) (cond (eq_by_cmp key_order call.key q) (Some (kept_of call)) old) ≡ last_claim (call ∷ calls) q
last_after call old calls q was =
    go (eq_by_cmp key_order call.key q) refl
    ∙ ap (λ b. cond b (Some call) (last_claim calls q)) (swap_test key_total key_exact call.key q)
  where
    go : (b : Bool) → eq_by_cmp key_order call.key q ≡ b → option_map (call_of q) (cond b (Some (kept_of call)) old) ≡ cond b (Some call) (last_claim calls q)
    go true t = ap (λ k. Some (call_of k (kept_of call))) (sym (equal_from_same call.key q t))
    go false t = was

-- a look-up by equality is one by the order
pub looked_up : {X : Type 0} (same : Key → Key → Bool) → ((x y : Key) → same x y ≡ eq_by_cmp key_order x y) → (key : Key) (entries : List (Key × X)) → lookup (same key) entries ≡ lookup (eq_by_cmp key_order key) entries
looked_up same is key entries = ap (λ test. lookup test entries) (fun_ext (λ other. is key other))

-- a frame is noted by what a sorted insertion leaves
pub noted : (same : Key → Key → Bool) → ((x y : Key) → same x y ≡ eq_by_cmp key_order x y) → (call : ClaimCall) (claims : KeptClaims) (new : List (Key × Kept))
    → (IsSorted key_order (keys_of claims.kept) → IsSorted key_order (keys_of new)) → IsDistinct same (keys_of new)
    → ((q : Key) → lookup (same q) new ≡ cond (same call.key q) (Some (kept_of call)) (lookup (same q) claims.kept))
    → (me : Mac) (calls : ClaimCalls) → ClaimsStand claims me calls → ClaimsStand (record { me = claims.me; kept = new }) me (call ∷ calls)
noted same is call claims new sorted once updates me calls stands = record {
  own = stands.own;
  last = λ q.
      ap (option_map (call_of q)) (sym (looked_up same is q new) ∙ updates q ∙ ap₂ (λ b o. cond b (Some (kept_of call)) o) (is call.key q) (looked_up same is q claims.kept))
      ∙ last_after call (lookup (eq_by_cmp key_order q) claims.kept) calls q (stands.last q);
  ordered =
      subst (λ es. IsStrictlySortedBy key_order (keys_of es))
      (sym (inserted key_total key_exact same is claims.kept new call.key (kept_of call) stands.ordered (sorted (sorted_from key_total key_exact claims.kept stands.ordered)) once updates))
      (ascend_inserted key_total key_exact claims.kept call.key (kept_of call) stands.ordered);
}

-- of a key whose frame came something is kept
pub kept_there : (claims : KeptClaims) (me : Mac) (calls : ClaimCalls) (key : Key) → ClaimsStand claims me calls → IsSome (last_claim calls key) → IsSome (lookup (eq_by_cmp key_order key) claims.kept)
kept_there claims me calls key stands there = go (lookup (eq_by_cmp key_order key) claims.kept) (subst IsSome (sym (stands.last key)) there)
  where
    go : (o : Option Kept) → IsSome (option_map (call_of key) o) → IsSome o
    go None there = absurd (false≢true there)
    go (Some kept) there = refl

-- ---- rows
row_of_kept : (now : ℕ) (key : Key) (o : Option Kept) → option_and_then (kept_row now key) o ≡ option_map (row_of_claim now) (option_and_then (if_standing now) (option_map (call_of key) o))
row_of_kept now key None = refl
row_of_kept now key (Some kept) = refl

-- what is kept of a key gives its row
pub row_kept : (claims : KeptClaims) (me : Mac) (calls : ClaimCalls) (now : ℕ) → ClaimsStand claims me calls → (key : Key) → option_and_then (kept_row now key) (lookup (eq_by_cmp key_order key) claims.kept) ≡ claim_row calls now key
row_kept claims me calls now stands key = row_of_kept now key (lookup (eq_by_cmp key_order key) claims.kept) ∙ ap (λ o. option_map (row_of_claim now) (option_and_then (if_standing now) o)) (stands.last key)

none_claimed : (calls : ClaimCalls) (q : Key) → list_any (eq_by_cmp key_order q) (map (λ (call : ClaimCall). call.key) calls) ≡ false → last_claim calls q ≡ None
none_claimed [] q absent = refl
none_claimed (call ∷ older) q absent =
    elim (eq_by_cmp key_order q call.key) as (λ b. (b || list_any (eq_by_cmp key_order q) (map (λ (c : ClaimCall). c.key) older)) ≡ false → cond b (Some call) (last_claim older q) ≡ None) [
      | true ↦ λ h. absurd (true≢false h)
      | false ↦ λ h. none_claimed older q h
    ] absent

none_kept : (key : Key) (o : Option Kept) → option_map (call_of key) o ≡ None → o ≡ None
none_kept key None is = refl
none_kept key (Some kept) is = absurd (true≢false (ap is_some is))

row_of_key : (now : ℕ) (key : Key) (kept : Kept) → IfSome (kept_row now key kept) (λ row. row.key ≡ key)
row_of_key now key kept =
    elim (kept.claim && nat_lt (now - kept.moment) claim_age) as (λ b. IfSome (option_map (row_of_claim now) (cond b (Some (call_of key kept)) None)) (λ (row : ClaimRow). row.key ≡ key)) [ true ↦ refl | false ↦ tt ]

-- the rows of what is kept are the claims that stand
pub rows_kept : (claims : KeptClaims) (me : Mac) (calls : ClaimCalls) (now : ℕ) → ClaimsStand claims me calls → filter_map (λ (e : Key × Kept). kept_row now e.0 e.1) claims.kept ≡ claims_at calls now
rows_kept claims me calls now stands =
    table_rows key_total key_exact (λ (row : ClaimRow). row.key) (kept_row now) (row_of_key now) (map (λ (call : ClaimCall). call.key) calls) claims.kept stands.ordered
    (λ q absent. none_kept q (lookup (eq_by_cmp key_order q) claims.kept) (stands.last q ∙ none_claimed calls q absent))
    ∙ ap (λ row. filter_map row (claimed_keys calls)) (fun_ext (λ q. row_kept claims me calls now stands q))

-- the gateway's own ones among them
pub own_rows : (claims : KeptClaims) (me : Mac) (calls : ClaimCalls) (now : ℕ) → ClaimsStand claims me calls
    → length (filter (λ row. same_mac row.holder claims.me) (filter_map (λ (e : Key × Kept). kept_row now e.0 e.1) claims.kept)) ≡ claims_of me calls now
own_rows claims me calls now stands =
    ap₂ (λ gateway rows. length (filter (λ (row : ClaimRow). same_mac row.holder gateway) rows)) stands.own (rows_kept claims me calls now stands)

-- who holds a key, by its row
abbrev pub hold_by_row : Mac → Option ClaimRow → Hold
hold_by_row me None = Nobodys
hold_by_row me (Some row) = cond (same_mac row.holder me) (Ours row.age) Anothers

pub hold_of_row : (claims : KeptClaims) (me : Mac) (calls : ClaimCalls) (now : ℕ) → ClaimsStand claims me calls → (key : Key) (row : Option ClaimRow) → row ≡ claim_row calls now key → hold_by_row claims.me row ≡ hold_of me calls now key
hold_of_row claims me calls now stands key row is = ap₂ hold_by_row stands.own is ∙ go (standing_claim calls now key)
  where
    go : (o : Option ClaimCall) → hold_by_row me (option_map (row_of_claim now) o) ≡ hold_by me now o
    go None = refl
    go (Some call) = refl

-- the holder of a key is that of its row
pub row_holder : (calls : ClaimCalls) (now : ℕ) (key : Key) → option_map (λ (row : ClaimRow). row.holder) (claim_row calls now key) ≡ claim_holder calls now key
row_holder calls now key = go (standing_claim calls now key)
  where
    go : (o : Option ClaimCall) → option_map (λ (row : ClaimRow). row.holder) (option_map (row_of_claim now) o) ≡ option_map (λ (call : ClaimCall). call.sender) o
    go None = refl
    go (Some call) = refl

-- a place of a list has nothing exactly where it is past the end
pub none_past_end : {X : Type 0} (rows : List X) (i : ℕ) (row : Option X) → row ≡ slice_get rows i → IsNone row ↔ (length rows ≤ i)
none_past_end rows i row is = grind (arith, common_steps, gets)
