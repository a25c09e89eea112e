-- The changes that the pending keys alone make are those of the whole tables.
use Rattle.std.proofs.Common.{◌≡◌, ℕ, ◌==◌, ◌&&◌, ◌||◌, ◌++◌, Bool, true, false, not, cond, List, [], ◌∷◌, map, filter, find, filter_map, IfSome, Option, Some, None, option_and_then, option_map, refl, sym, ap, ap₂, ◌∙◌, subst, map-id}
use Rattle.std.specs.Bool.{Decides}
use Rattle.std.specs.List.{cons_option}
use Rattle.std.specs.List.Sorted.{IsStrictlySortedBy}
use Rattle.std.proofs.lemmas.Bool.{eq-eqb}
use Rattle.std.proofs.lemmas.Map.Made.{find_same}
use Rattle.mesh_base.specs.KeyOrder.{key_order}
use Rattle.mesh_base.specs.declared.client.Entry.{Entry}
use Rattle.mesh_base.specs.declared.client.Key.{Key}
use Rattle.mesh_model.specs.declared.table_row.LocalRow.{LocalRow}
use Rattle.mesh_model.specs.Clients.Present.{same_key, entry_with}
use Rattle.mesh_model.specs.Tables.Changes.{IsInKeyOrder, flags_at, has_entry, missing_from, deletion, addition, changeset}
use Rattle.mesh_laws.proofs.KeyLists.{found_passes, item_at, item_at_filter, same_items, sorted_filter}
use Rattle.mesh_laws.proofs.KeyTables.{none_below, ordered_filter, IsBelow}
use Rattle.mesh_laws.proofs.PresentLemmas.{key_total, key_exact, equal_from_same, same_itself}
use Rattle.tt_local.specs.Clients.{AreInOrder, present_entries}
use Rattle.tt_local.specs.Roster.{AreSorted, IsRenewed, IsTracked, RosterView, are_flags, differing_entry, gone_entry, has_key, new_entry, present_flags}
use Rattle.tt_local.specs.declared.client.Client.{Client}
use Rattle.tt_local.proofs.ClientsLemmas.{client_rows, row_in_rows, rows_sorted}

-- ---- an entry of a table by its key
-- whether a table has an entry is told by the flags of its key
pub has_by_flags : (table : List Entry) (e : Entry) → IsInKeyOrder table → has_entry table e ≡ are_flags e.flags (flags_at table e.key)
unfolding IsStrictlySortedBy
has_by_flags [] e sorted = refl
has_by_flags (f ∷ t) e sorted = go (same_key e.key f.key) refl (has_by_flags t e sorted.1)
  where
    or_none : (b : Bool) → (b || false) ≡ b
    or_none true = refl
    or_none false = refl

    go : (b : Bool) → same_key e.key f.key ≡ b → has_entry t e ≡ are_flags e.flags (flags_at t e.key) → ((same_key e.key f.key && (e.flags == f.flags)) || has_entry t e) ≡ are_flags e.flags (option_map (λ entry. entry.flags) (cond b (Some f) (find (λ entry. same_key e.key entry.key) t)))
    go true s rest =
        ap₂ (λ b c. (b && (e.flags == f.flags)) || c) s (none_below t e (subst (λ k. IsBelow k t) (sym (equal_from_same e.key f.key s)) sorted.0))
        ∙ or_none (e.flags == f.flags)
    go false s rest = ap (λ b. (b && (e.flags == f.flags)) || has_entry t e) s ∙ rest

-- ---- what is missing
as_filter_map : {X : Type 0} (p : X → Bool) (xs : List X) → filter p xs ≡ filter_map (λ x. cond (p x) (Some x) None) xs
as_filter_map p [] = refl
as_filter_map p (x ∷ xs) = go (p x) (as_filter_map p xs)
  where
    go : (b : Bool) → filter p xs ≡ filter_map (λ y. cond (p y) (Some y) None) xs → cond b (x ∷ filter p xs) (filter p xs) ≡ cons_option (cond b (Some x) None) (filter_map (λ y. cond (p y) (Some y) None) xs)
    go true rest = ap (λ ys. x ∷ ys) rest
    go false rest = rest

keeps_entry : (b : Bool) (e : Entry) → IfSome (cond b (Some e) None) (λ f. f.key ≡ e.key)
keeps_entry true e = refl
keeps_entry false e = tt

keeps_key : (key : Key) (flags others : Option ℕ) → IfSome (differing_entry key flags others) (λ e. e.key ≡ key)
keeps_key key None others = tt
keeps_key key (Some flags) others = go (are_flags flags others)
  where
    go : (b : Bool) → IfSome (cond b None (Some (entry_with key flags))) (λ e. e.key ≡ key)
    go true = tt
    go false = refl

same_decides : (a b : Key) → Decides (same_key a b) (a ≡ b)
same_decides a b = (equal_from_same a b, λ e. subst (λ k. same_key a k ≡ true) e (same_itself a))

module _ (one other : List Entry) (keys : List Key) (ordered : IsInKeyOrder one) (others : IsInKeyOrder other) (sorted : AreSorted keys) (same : (q : Key) → has_key keys q ≡ false → flags_at one q ≡ flags_at other q) where
  -- the entry of a key that one table has and the other doesn't
  abbrev differs : Key → Option Entry
  differs key = differing_entry key (flags_at one key) (flags_at other key)

  abbrev stays : Entry → Option Entry
  stays e = cond (not (has_entry other e)) (Some e) None

  differing_is : (q : Key) (e : Entry) (b : Bool) → has_entry other e ≡ b → are_flags e.flags (flags_at other q) ≡ b → e.key ≡ q → cond (not (has_entry other e)) (Some e) None ≡ cond (are_flags e.flags (flags_at other q)) None (Some (entry_with q e.flags))
  differing_is q e true has flags is = ap (λ b. cond (not b) (Some e) None) has ∙ sym (ap (λ b. cond b None (Some (entry_with q e.flags))) flags)
  differing_is q e false has flags is = ap (λ b. cond (not b) (Some e) None) has ∙ ap (λ k. Some (entry_with k e.flags)) is ∙ sym (ap (λ b. cond b None (Some (entry_with q e.flags))) flags)

  own_flags : (flags : ℕ) (o : Option ℕ) → Some flags ≡ o → are_flags flags o ≡ true
  own_flags flags o is = subst (λ p. are_flags flags p ≡ true) is (eq-eqb flags flags refl)

  at_key : (q : Key) (o : Option Entry) → item_at key_order (λ (e : Entry). e.key) q one ≡ o → IfSome o (λ e. same_key q e.key ≡ true) → (b : Bool) → has_key keys q ≡ b → option_and_then stays o ≡ option_and_then differs (cond b (Some q) None)
  at_key q None is found true there = sym (ap (λ f. differing_entry q f (flags_at other q)) (ap (option_map (λ (e : Entry). e.flags)) is))
  at_key q None is found false there = refl
  at_key q (Some e) is found true there =
      let key : e.key ≡ q = sym (equal_from_same q e.key found) in
      let has : has_entry other e ≡ are_flags e.flags (flags_at other q) = has_by_flags other e others ∙ ap (λ k. are_flags e.flags (flags_at other k)) key in
      differing_is q e (are_flags e.flags (flags_at other q)) has refl key
      ∙ sym (ap (λ f. differing_entry q f (flags_at other q)) (ap (option_map (λ (e : Entry). e.flags)) is))
  at_key q (Some e) is found false there =
      let key : e.key ≡ q = sym (equal_from_same q e.key found) in
      let flags : Some e.flags ≡ flags_at other q = sym (ap (option_map (λ (e : Entry). e.flags)) is) ∙ same q there in
      let has : has_entry other e ≡ true = has_by_flags other e others ∙ ap (λ k. are_flags e.flags (flags_at other k)) key ∙ own_flags e.flags (flags_at other q) flags in
      ap (λ b. cond (not b) (Some e) None) has

  -- what one table has and the other doesn't is told by the pending keys
  pub missing_is : missing_from other one ≡ filter_map differs keys
  missing_is = same_items key_order (λ (e : Entry). e.key) key_total key_exact (missing_from other one) (filter_map differs keys)
      (ordered_filter (λ e. not (has_entry other e)) one ordered)
      (sorted_filter key_order (λ (k : Key). k) (λ (e : Entry). e.key) differs (λ k. keeps_key k (flags_at one k) (flags_at other k)) keys (subst (IsStrictlySortedBy key_order) (sym (map-id _)) sorted))
      (λ q.
      ap (item_at key_order (λ (e : Entry). e.key) q) (as_filter_map (λ e. not (has_entry other e)) one)
      ∙ item_at_filter key_order (λ (e : Entry). e.key) (λ (e : Entry). e.key) stays (λ e. keeps_entry (not (has_entry other e)) e) key_exact q one ordered
      ∙ at_key q (item_at key_order (λ (e : Entry). e.key) q one) refl (found_passes (λ e. same_key q e.key) one) (has_key keys q) refl
      ∙ sym (ap (option_and_then differs) (find_same same_decides q keys))
      ∙ sym (item_at_filter key_order (λ (k : Key). k) (λ (e : Entry). e.key) differs (λ k. keeps_key k (flags_at one k) (flags_at other k)) key_exact q keys (subst (IsStrictlySortedBy key_order) (sym (map-id _)) sorted)))

-- ---- the table of the present clients
entries_of_rows : (q : Key) (rows : List LocalRow) → flags_at (map (λ row. row.entry) rows) q ≡ option_map (λ row. row.entry.flags) (find (λ row. same_key q row.entry.key) rows)
entries_of_rows q [] = refl
entries_of_rows q (row ∷ rows) = go (same_key q row.entry.key) (entries_of_rows q rows)
  where
    go : (b : Bool) → flags_at (map (λ r. r.entry) rows) q ≡ option_map (λ r. r.entry.flags) (find (λ r. same_key q r.entry.key) rows) → option_map (λ e. e.flags) (cond b (Some row.entry) (find (λ e. same_key q e.key) (map (λ r. r.entry) rows))) ≡ option_map (λ r. r.entry.flags) (cond b (Some row) (find (λ r. same_key q r.entry.key) rows))
    go true rest = refl
    go false rest = rest

-- a key's flags in the table of the present clients
pub flags_of_present : (now : ℕ) (clients : List (Key × Client)) → AreInOrder clients → (q : Key) → flags_at (present_entries now clients) q ≡ present_flags now clients q
flags_of_present now clients ordered q =
    entries_of_rows q (client_rows now clients)
    ∙ ap (option_map (λ (row : LocalRow). row.entry.flags)) (row_in_rows now clients ordered q)

keys_of_rows : (rows : List LocalRow) → map (λ (e : Entry). e.key) (map (λ (row : LocalRow). row.entry) rows) ≡ map (λ row. row.entry.key) rows
keys_of_rows [] = refl
keys_of_rows (row ∷ rows) = ap (λ ks. row.entry.key ∷ ks) (keys_of_rows rows)

-- the table of the present clients is in key order
pub present_ordered : (now : ℕ) (clients : List (Key × Client)) → AreInOrder clients → IsInKeyOrder (present_entries now clients)
present_ordered now clients ordered = subst (IsStrictlySortedBy key_order) (sym (keys_of_rows (client_rows now clients))) (rows_sorted now clients ordered)

-- the changes of the pending keys are those to the table of the present clients
pub changes_are : (now : ℕ) (roster : RosterView) (table : List Entry) → IsRenewed now roster → IsTracked roster table → IsInKeyOrder table → AreInOrder roster.clients → AreSorted roster.pending
    → map deletion (filter_map (gone_entry now roster.clients table) roster.pending) ++ map addition (filter_map (new_entry now roster.clients table) roster.pending) ≡ changeset table (present_entries now roster.clients)
changes_are now roster table renewed tracked ordered clients sorted =
    let present = present_entries now roster.clients in
    let told = flags_of_present now roster.clients clients in
    let same : (q : Key) → has_key roster.pending q ≡ false → flags_at table q ≡ flags_at present q = λ q absent. tracked q absent ∙ sym (renewed q absent) ∙ sym (told q) in
    let gone : missing_from present table ≡ filter_map (gone_entry now roster.clients table) roster.pending =
    missing_is table present roster.pending ordered (present_ordered now roster.clients clients) sorted same
    ∙ ap (λ f. filter_map f roster.pending) (λ i q. differing_entry q (flags_at table q) (told q i)) in
    let came : missing_from table present ≡ filter_map (new_entry now roster.clients table) roster.pending =
    missing_is present table roster.pending (present_ordered now roster.clients clients) ordered sorted (λ q absent. sym (same q absent))
    ∙ ap (λ f. filter_map f roster.pending) (λ i q. differing_entry q (told q i) (flags_at table q)) in
    sym (ap₂ (λ a b. map deletion a ++ map addition b) gone came)
