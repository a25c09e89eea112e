-- What the laws on present clients rest on.
use Rattle.std.proofs.Common.{ap₂, IsSome, ◌++◌, ◌≡◌, ℕ, ◌-◌, Bool, true, false, cond, not, ◌&&◌, ◌||◌, List, [], ◌∷◌, map, find, filter_map, IfSome, Option, Some, None, option_and_then, is_eq, nat_cmp, nat_lt, refl, sym, ap, ◌∙◌, subst, map-id}
use Rattle.std.specs.Cmp.Lexicographic.{slice_cmp}
use Rattle.std.specs.Cmp.{IsTotalOrder}
use Rattle.std.specs.List.Sorted.{IsStrictlySortedBy}
use Rattle.std.specs.List.{list_any}
use Rattle.std.specs.Option.{option_or}
use Rattle.std.specs.Ordering.{match_ordering}
use Rattle.std.proofs.lemmas.Bool.{false≢true, and_parts, true≢false}
use Rattle.std.proofs.lemmas.Cmp.{nat_cmp_total, nat_list_cmp_total, on_total, then_total, tied_itself}
use Rattle.std.proofs.lemmas.List.Folds.{find-append}
use Rattle.std.proofs.lemmas.Map.Lookups.{CmpEqualImpliesEq, exact_bytes, exact_unsigned, exact_pairs}
use Rattle.mesh_base.specs.KeyOrder.{key_order}
use Rattle.mesh_base.specs.Ordered.{in_order, placed}
use Rattle.mesh_base.specs.declared.client.Key.{Key}
use Rattle.mesh_model.specs.Clients.Mentions.{Mention, News, Sighted, Departed, Roamed, Joined, Left}
use Rattle.mesh_model.specs.Clients.Present.{same_key, sighting_age, is_membership, last_mention, last_membership, row_after, row_by, present_row, insert_key, mentioned_keys, present_clients}
use Rattle.mesh_laws.specs.PresentLaws.{HasTheRowOfEachKey, IsInKeyOrder, KeepsLastMembership, KeepsLastMention, KeepsRow}
use Rattle.mesh_model.specs.declared.table_row.LocalRow.{LocalRow}
use Rattle.mesh_laws.proofs.KeyLists.{found_passes, tied, same_items, sorted_filter}
use Rattle.mesh_laws.proofs.ListedInOrder.{row_at_value, sorted_in_order}

-- ---- the order of keys
pub key_total : IsTotalOrder key_order
key_total = then_total (on_total (λ (k : Key). k.mac.0) nat_list_cmp_total) (on_total (λ (k : Key). k.vid.0) nat_cmp_total)

pub key_exact : CmpEqualImpliesEq key_order
key_exact a b e =
    let parts = exact_pairs (slice_cmp nat_cmp) nat_cmp exact_bytes exact_unsigned (a.mac.0, a.vid.0) (b.mac.0, b.vid.0) e in
    λ i. record { mac = record { 0 = (parts i).0 }; vid = record { 0 = (parts i).1 } }

-- two keys that are one are equal
pub equal_from_same : (a b : Key) → same_key a b ≡ true → a ≡ b
equal_from_same a b t = tied key_order key_exact a b _ refl t

pub same_itself : (a : Key) → same_key a a ≡ true
same_itself a = ap is_eq (tied_itself key_total a)

-- ---- the mentioned keys
key_placed : (key : Key) (keys : List Key) → insert_key key keys ≡ placed key_order key keys
key_placed key [] = refl
key_placed key (first ∷ rest) = ap (λ later. match_ordering (key_order key first) (key ∷ first ∷ rest) (first ∷ rest) (first ∷ later)) (key_placed key rest)

mention_keys : List Mention → List Key
mention_keys mentions = map (λ m. m.key) mentions

mentioned_in_order : (mentions : List Mention) → mentioned_keys mentions ≡ in_order key_order (mention_keys mentions)
unfolding mention_keys
mentioned_in_order [] = refl
mentioned_in_order (m ∷ older) = key_placed m.key (mentioned_keys older) ∙ ap (placed key_order m.key) (mentioned_in_order older)

pub sorted_mentioned : (mentions : List Mention) → IsStrictlySortedBy key_order (mentioned_keys mentions)
sorted_mentioned mentions = subst (IsStrictlySortedBy key_order) (sym (mentioned_in_order mentions)) (sorted_in_order key_total key_exact (mention_keys mentions))

-- ---- a key's row
none_unmentioned : (q : Key) (p : Mention → Bool) (mentions : List Mention) → list_any (same_key q) (mention_keys mentions) ≡ false → find (λ m. same_key q m.key && p m) mentions ≡ None
unfolding mention_keys
none_unmentioned q p [] e = refl
none_unmentioned q p (m ∷ older) e =
    elim (same_key q m.key) as (λ b. (b || list_any (same_key q) (mention_keys older)) ≡ false → cond (b && p m) (Some m) (find (λ n. same_key q n.key && p n) older) ≡ None) [
      | true ↦ λ h. absurd (true≢false h)
      | false ↦ λ h. none_unmentioned q p older h
    ] e

pub row_of_news : (key : Key) (age : ℕ) (news : News) → IfSome (row_after key age news) (λ row. row.entry.key ≡ key)
row_of_news key age (Sighted flags) =
    elim (nat_lt age sighting_age) as (λ b. IfSome (cond b (Some (record { entry = record { key = key; flags = flags }; age = Some age })) None) (λ (row : LocalRow). row.entry.key ≡ key)) [ true ↦ refl | false ↦ tt ]
row_of_news key age Departed = tt
row_of_news key age Roamed = tt
row_of_news key age Joined = refl
row_of_news key age Left = tt

row_of_mention : (now : ℕ) (q : Key) (p : Mention → Bool) (o : Option Mention) → IfSome o (λ m. (same_key q m.key && p m) ≡ true) → IfSome (option_and_then (row_by now) o) (λ row. row.entry.key ≡ q)
row_of_mention now q p None h = tt
row_of_mention now q p (Some m) h = subst (λ k. IfSome (row_by now m) (λ row. row.entry.key ≡ k)) (sym (equal_from_same q m.key (and_parts _ _ h).0)) (row_of_news m.key (now - m.moment) m.news)

either_some : (P : LocalRow → Type 0) (o p : Option LocalRow) → IfSome o P → IfSome p P → IfSome (option_or o p) P
either_some P None p h k = k
either_some P (Some x) p h k = h

-- a key's row is of the key
pub row_of_key : (now : ℕ) (mentions : List Mention) (q : Key) → IfSome (present_row mentions now q) (λ row. row.entry.key ≡ q)
row_of_key now mentions q = either_some (λ (row : LocalRow). row.entry.key ≡ q)
    (option_and_then (row_by now) (last_membership mentions q)) (option_and_then (row_by now) (last_mention mentions q))
    (row_of_mention now q (λ m. is_membership m.news) _ (found_passes _ mentions))
    (row_of_mention now q (λ m. not (is_membership m.news)) _ (found_passes _ mentions))

no_row_unmentioned : (now : ℕ) (mentions : List Mention) (q : Key) → list_any (same_key q) (mention_keys mentions) ≡ false → present_row mentions now q ≡ None
no_row_unmentioned now mentions q e =
    ap (λ o. option_or (option_and_then (row_by now) o) (option_and_then (row_by now) (last_mention mentions q))) (none_unmentioned q (λ m. is_membership m.news) mentions e)
    ∙ ap (option_and_then (row_by now)) (none_unmentioned q (λ m. not (is_membership m.news)) mentions e)

-- ---- the list of them
pub present_at : HasTheRowOfEachKey
present_at now mentions q =
    ap (λ keys. find (λ row. same_key q row.entry.key) (filter_map (present_row mentions now) keys)) (mentioned_in_order mentions)
    ∙ row_at_value key_total key_exact (λ (row : LocalRow). row.entry.key) (present_row mentions now) (row_of_key now mentions) (mention_keys mentions) (no_row_unmentioned now mentions) q

pub sorted_present : IsInKeyOrder
sorted_present now mentions = sorted_filter key_order (λ (k : Key). k) (λ (row : LocalRow). row.entry.key) (present_row mentions now) (row_of_key now mentions) (mentioned_keys mentions) (subst (IsStrictlySortedBy key_order) (sym (map-id _)) (sorted_mentioned mentions))

-- rows in key order that give each key's row are the present clients
pub present_from_rows : (now : ℕ) (mentions : List Mention) (rows : List LocalRow) → IsStrictlySortedBy key_order (map (λ row. row.entry.key) rows) → ((q : Key) → find (λ row. same_key q row.entry.key) rows ≡ present_row mentions now q) → rows ≡ present_clients mentions now
present_from_rows now mentions rows sorted same = same_items key_order (λ (row : LocalRow). row.entry.key) key_total key_exact rows (present_clients mentions now) sorted (sorted_present now mentions) (λ q. same q ∙ sym (present_at now mentions q))

-- ---- older mentions
found_kept : (p : Mention → Bool) (newer older : List Mention) → IsSome (find p newer) → find p (newer ++ older) ≡ find p newer
found_kept p newer older told = find-append p newer older ∙ kept (find p newer) told
  where
    kept : (o : Option Mention) → IsSome o → option_or o (find p older) ≡ o
    kept None h = absurd (false≢true h)
    kept (Some m) h = refl

pub last_mention_kept : KeepsLastMention
last_mention_kept newer older key told = found_kept (λ m. same_key key m.key && not (is_membership m.news)) newer older told

pub last_membership_kept : KeepsLastMembership
last_membership_kept newer older key told = found_kept (λ m. same_key key m.key && is_membership m.news) newer older told

pub row_kept : KeepsRow
row_kept now newer older key mentioned joined =
    ap₂ (λ a b. option_or (option_and_then (row_by now) a) (option_and_then (row_by now) b))
    (last_membership_kept newer older key joined) (last_mention_kept newer older key mentioned)
