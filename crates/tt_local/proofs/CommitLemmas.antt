-- How a commit leaves clients, pending keys and journal.
use Rattle.std.proofs.Common.{◌≡◌, ℕ, ◌-◌, ◌≤◌, ◌++◌, nat_lt, Bool, true, false, not, cond, List, [], ◌∷◌, length, map, Option, Some, None, Ok, is_none, option_and_then, option_map, refl, sym, ap, ap₂, ◌∙◌, subst, arith}
use Rattle.std.proofs.lemmas.Bool.{false≢true, true≢false, and_parts, and_from}
use Rattle.std.proofs.lemmas.Bool.Decides.{nat_tests}
use Rattle.mesh_base.specs.declared.client.Entry.{Entry}
use Rattle.mesh_base.specs.declared.client.Key.{Key}
use Rattle.mesh_model.specs.declared.table_change.Change.{Change}
use Rattle.mesh_model.specs.declared.table_row.LocalRow.{LocalRow}
use Rattle.mesh_model.specs.Clients.Mentions.{Mention}
use Rattle.mesh_model.specs.Clients.Present.{sighting_age, entry_with}
use Rattle.mesh_model.specs.Commits.History.{committed, History, present_table, with_commit}
use Rattle.mesh_model.specs.Commits.Versions.{last_commit, same_table}
use Rattle.mesh_model.specs.Tables.Changes.{IsInKeyOrder, changeset, missing_from, same_entry, deletion, addition}
use Rattle.mesh_model.specs.Tables.Strict.{apply_strictly}
use Rattle.mesh_laws.proofs.KeyTables.{equal_entries, entry_itself}
use Rattle.mesh_laws.proofs.TableChanges.{changeset_leads}
use Rattle.tt_local.specs.Clients.{AreInOrder, ClientsStand, client_at, client_row, group_row, present_entries, sighted_row, sighting_row, with_sighting}
use Rattle.tt_local.specs.Journal.{new_number}
use Rattle.tt_local.specs.Roster.{IsRenewed, IsSettled, IsTracked, RosterView, counting, has_key, is_aged, is_aged_sighting, kept_flags, present_flags, settled_client}
use Rattle.tt_local.specs.declared.client.Client.{Client}
use Rattle.tt_local.specs.declared.sighting.Sighting.{Sighting}
use Rattle.tt_local.proofs.ChangesLemmas.{flags_of_present, missing_is}
use Rattle.tt_local.proofs.ClientsLemmas.{rows_kept}
use Rattle.tt_local.proofs.RosterLemmas.{none_sorted}

-- ---- clients that aren't present
older_counts_not : (now then moment : ℕ) → now ≤ then → nat_lt (now - moment) sighting_age ≡ false → nat_lt (then - moment) sighting_age ≡ false
older_counts_not now then moment late aged = grind (arith, nat_tests, late, aged)

aged_sighting : (now then : ℕ) (q : Key) (o : Option Sighting) → is_none (option_and_then (sighting_row now q) o) ≡ true → now ≤ then → option_and_then (sighting_row then q) o ≡ None
aged_sighting now then q None absent late = refl
aged_sighting now then q (Some s) absent late = go (nat_lt (now - s.moment) sighting_age) refl absent
  where
    go : (b : Bool) → nat_lt (now - s.moment) sighting_age ≡ b → is_none {T = LocalRow} (cond b (Some (record { entry = entry_with q s.flags; age = Some (now - s.moment) })) None) ≡ true → cond {A = Option LocalRow} (nat_lt (then - s.moment) sighting_age) (Some (record { entry = entry_with q s.flags; age = Some (then - s.moment) })) None ≡ None
    go true t h = absurd (false≢true h)
    go false t h = ap (λ b. cond b (Some (record { entry = entry_with q s.flags; age = Some (then - s.moment) })) None) (older_counts_not now then s.moment late t)

absent_client : (now then : ℕ) (q : Key) (o : Option Sighting) (joined : Bool) → is_none (client_row now q (record { sighting = o; joined = joined })) ≡ true → now ≤ then → (sighted_row then q (record { sighting = o; joined = joined }) ≡ None) × (group_row q (record { sighting = o; joined = joined }) ≡ None)
absent_client now then q o true absent late = absurd (false≢true absent)
absent_client now then q o false absent late = (aged_sighting now then q o absent late, refl)

absent_rows : (now then : ℕ) (q : Key) (o : Option Client) → is_none (option_and_then (client_row now q) o) ≡ true → now ≤ then → (option_and_then (sighted_row then q) o ≡ None) × (option_and_then (group_row q) o ≡ None)
absent_rows now then q None absent late = (refl, refl)
absent_rows now then q (Some client) absent late = absent_client now then q client.sighting client.joined absent late

-- a sighting that counts no longer doesn't count later
aged_then : (now then : ℕ) (q : Key) (o : Option Sighting) → is_aged_sighting now o ≡ true → now ≤ then → option_and_then (sighting_row then q) o ≡ None
aged_then now then q None aged late = refl
aged_then now then q (Some s) aged late = go (nat_lt (now - s.moment) sighting_age) refl aged
  where
    go : (b : Bool) → nat_lt (now - s.moment) sighting_age ≡ b → not b ≡ true → cond {A = Option LocalRow} (nat_lt (then - s.moment) sighting_age) (Some (record { entry = entry_with q s.flags; age = Some (then - s.moment) })) None ≡ None
    go true t h = absurd (false≢true h)
    go false t h = ap (λ b. cond b (Some (record { entry = entry_with q s.flags; age = Some (then - s.moment) })) None) (older_counts_not now then s.moment late t)

-- a client has the same row by its sighting later without one that counts no longer
counting_row : (now then : ℕ) (q : Key) (client : Client) → now ≤ then → sighted_row then q (counting now client) ≡ sighted_row then q client
counting_row now then q client late = go (is_aged now client) refl
  where
    go : (b : Bool) → is_aged now client ≡ b → sighted_row then q (cond b (with_sighting None client) client) ≡ sighted_row then q client
    go true t = sym (aged_then now then q client.sighting t late)
    go false t = refl

counting_group : (now : ℕ) (q : Key) (client : Client) → group_row q (counting now client) ≡ group_row q client
counting_group now q client = go (is_aged now client)
  where
    go : (b : Bool) → group_row q (cond b (with_sighting None client) client) ≡ group_row q client
    go true = refl
    go false = refl

-- what is settled has the rows by sightings that it had, from then on
settled_sighting : (now then : ℕ) (q : Key) (o : Option Client) → now ≤ then → option_and_then (sighted_row then q) (settled_client now q o) ≡ option_and_then (sighted_row then q) o
settled_sighting now then q o late = go o (is_none (option_and_then (client_row now q) o)) refl
  where
    go : (p : Option Client) (b : Bool) → is_none (option_and_then (client_row now q) p) ≡ b → option_and_then (sighted_row then q) (cond b None (option_map (counting now) p)) ≡ option_and_then (sighted_row then q) p
    go p true t = sym (absent_rows now then q p t late).0
    go None false t = refl
    go (Some client) false t = counting_row now then q client late

-- what is settled has the rows of groups that it had
settled_group : (now : ℕ) (q : Key) (o : Option Client) → option_and_then (group_row q) (settled_client now q o) ≡ option_and_then (group_row q) o
settled_group now q o = go o (is_none (option_and_then (client_row now q) o)) refl
  where
    go : (p : Option Client) (b : Bool) → is_none (option_and_then (client_row now q) p) ≡ b → option_and_then (group_row q) (cond b None (option_map (counting now) p)) ≡ option_and_then (group_row q) p
    go p true t = sym (absent_rows now now q p t (omega arith)).1
    go None false t = refl
    go (Some client) false t = counting_group now q client

-- what is settled stands from then on
pub settled_stands : (now : ℕ) (keys : List Key) (old new : List (Key × Client)) (mentions : List Mention) (since : ℕ) → IsSettled now keys old new → AreInOrder new → ClientsStand old mentions since → since ≤ now → ClientsStand new mentions now
settled_stands now keys old new mentions since settled ordered stands late = record {
  sighted = λ q then after. ap (option_and_then (sighted_row then q)) (settled q) ∙ by_sighting q then after (has_key keys q) ∙ stands.sighted q then (omega (arith, after, late));
  joined = λ q then. ap (option_and_then (group_row q)) (settled q) ∙ by_group q (has_key keys q) ∙ stands.joined q then;
  ordered = ordered;
}
  where
    by_sighting : (q : Key) (then : ℕ) → now ≤ then → (b : Bool) → option_and_then (sighted_row then q) (cond b (settled_client now q (client_at old q)) (client_at old q)) ≡ option_and_then (sighted_row then q) (client_at old q)
    by_sighting q then after true = settled_sighting now then q (client_at old q) after
    by_sighting q then after false = refl

    by_group : (q : Key) (b : Bool) → option_and_then (group_row q) (cond b (settled_client now q (client_at old q)) (client_at old q)) ≡ option_and_then (group_row q) (client_at old q)
    by_group q true = settled_group now q (client_at old q)
    by_group q false = refl

-- ---- the table after a commit
counting_sighting : (now : ℕ) (q : Key) (o : Option Sighting) → is_none (option_and_then (sighting_row now q) o) ≡ false → option_map (λ (row : LocalRow). row.entry.flags) (option_and_then (sighting_row now q) o) ≡ option_map (λ (s : Sighting). s.flags) o
counting_sighting now q None there = refl
counting_sighting now q (Some s) there = go (nat_lt (now - s.moment) sighting_age) there
  where
    go : (b : Bool) → is_none {T = LocalRow} (cond b (Some (record { entry = entry_with q s.flags; age = Some (now - s.moment) })) None) ≡ false → option_map (λ (row : LocalRow). row.entry.flags) (cond b (Some (record { entry = entry_with q s.flags; age = Some (now - s.moment) })) None) ≡ Some s.flags
    go true h = refl
    go false h = absurd (true≢false h)

there_client : (now : ℕ) (q : Key) (o : Option Sighting) (joined : Bool) → is_none (client_row now q (record { sighting = o; joined = joined })) ≡ false → option_map (λ (row : LocalRow). row.entry.flags) (client_row now q (record { sighting = o; joined = joined })) ≡ kept_flags (record { sighting = o; joined = joined })
there_client now q o true there = refl
there_client now q o false there = counting_sighting now q o there

flags_there : (now : ℕ) (q : Key) (o : Option Client) (b : Bool) → is_none (option_and_then (client_row now q) o) ≡ b → option_map (λ (row : LocalRow). row.entry.flags) (option_and_then (client_row now q) o) ≡ option_and_then kept_flags (cond b None o)
flags_there now q None true there = refl
flags_there now q None false there = refl
flags_there now q (Some client) true there = gone (client_row now q client) there
  where
    gone : (r : Option LocalRow) → is_none r ≡ true → option_map (λ (row : LocalRow). row.entry.flags) r ≡ None
    gone None h = refl
    gone (Some r) h = absurd (false≢true h)
flags_there now q (Some client) false there = there_client now q client.sighting client.joined there

counting_flags : (now : ℕ) (q : Key) (o : Option Sighting) (joined : Bool) → is_none (client_row now q (record { sighting = o; joined = joined })) ≡ false → kept_flags (record { sighting = o; joined = joined }) ≡ kept_flags (counting now (record { sighting = o; joined = joined }))
counting_flags now q o true there = go (is_aged_sighting now o)
  where
    go : (b : Bool) → Some 0 ≡ kept_flags (cond b (record { sighting = None; joined = true }) (record { sighting = o; joined = true }))
    go true = refl
    go false = refl
counting_flags now q None false there = absurd (true≢false there)
counting_flags now q (Some s) false there = go (nat_lt (now - s.moment) sighting_age) there
  where
    go : (b : Bool) → is_none {T = LocalRow} (cond b (Some (record { entry = entry_with q s.flags; age = Some (now - s.moment) })) None) ≡ false → Some s.flags ≡ kept_flags (cond (not b) (record { sighting = None; joined = false }) (record { sighting = Some s; joined = false }))
    go true h = refl
    go false h = absurd (true≢false h)

-- what is settled has the flags that are present
flags_settled : (now : ℕ) (q : Key) (o : Option Client) → option_map (λ (row : LocalRow). row.entry.flags) (option_and_then (client_row now q) o) ≡ option_and_then kept_flags (settled_client now q o)
flags_settled now q o = flags_there now q o (is_none (option_and_then (client_row now q) o)) refl ∙ go o (is_none (option_and_then (client_row now q) o)) refl
  where
    go : (p : Option Client) (b : Bool) → is_none (option_and_then (client_row now q) p) ≡ b → option_and_then kept_flags (cond b None p) ≡ option_and_then kept_flags (cond b None (option_map (counting now) p))
    go p true t = refl
    go None false t = refl
    go (Some client) false t = counting_flags now q client.sighting client.joined t

-- the table of the present clients is tracked where all is settled
pub settled_tracked : (now : ℕ) (old new : RosterView) → AreInOrder old.clients → IsRenewed now old → IsSettled now old.pending old.clients new.clients → IsTracked new (present_entries now old.clients)
settled_tracked now old new ordered renewed settled q absent =
    flags_of_present now old.clients ordered q ∙ go (has_key old.pending q) refl ∙ sym (ap (option_and_then kept_flags) (settled q))
  where
    go : (b : Bool) → has_key old.pending q ≡ b → present_flags now old.clients q ≡ option_and_then kept_flags (cond b (settled_client now q (client_at old.clients q)) (client_at old.clients q))
    go true t = flags_settled now q (client_at old.clients q)
    go false t = renewed q t

-- ---- whether a table differs
same_table_itself : (t : List Entry) → same_table t t ≡ true
same_table_itself [] = refl
same_table_itself (e ∷ t) = and_from _ _ (entry_itself e) (same_table_itself t)

pub from_same_table : (a b : List Entry) → same_table a b ≡ true → a ≡ b
from_same_table [] [] same = refl
from_same_table [] (f ∷ u) same = absurd (false≢true same)
from_same_table (e ∷ t) [] same = absurd (false≢true same)
from_same_table (e ∷ t) (f ∷ u) same =
    let parts = and_parts (same_entry e f) (same_table t u) same in
    ap₂ (λ x xs. x ∷ xs) (equal_entries e f parts.0) (from_same_table t u parts.1)

-- without changes the table is the same
pub no_changes : (a b : List Entry) → IsInKeyOrder a → IsInKeyOrder b → changeset a b ≡ [] → a ≡ b
no_changes a b ordered others none =
    let stays : apply_strictly a [] ≡ Ok b = ap (apply_strictly a) (sym none) ∙ changeset_leads a b ordered others in
    cc

none_missing : (t : List Entry) → IsInKeyOrder t → missing_from t t ≡ []
none_missing t ordered = missing_is t t [] ordered ordered none_sorted (λ q absent. refl)

-- with changes the table differs
pub some_changes : (a b : List Entry) → IsInKeyOrder a → (length (changeset a b) ≡ 0 → ⊥) → same_table a b ≡ false
some_changes a b ordered some = go (same_table a b) refl
  where
    go : (s : Bool) → same_table a b ≡ s → s ≡ false
    go true e =
        let is : a ≡ b = from_same_table a b e in
        absurd (some (ap (λ t. length (changeset a t)) (sym is) ∙ ap₂ (λ x y. length (map deletion x ++ map addition y)) (none_missing a ordered) (none_missing a ordered)))
    go false e = refl

-- no table differs from itself
pub same_from_equal : (a b : List Entry) → a ≡ b → same_table a b ≡ true
same_from_equal a b is = subst (λ t. same_table a t ≡ true) is (same_table_itself a)

-- ---- what is committed
-- the table of the present clients is that of the node
pub present_is : (clients : List (Key × Client)) (mentions : List Mention) (since now : ℕ) → ClientsStand clients mentions since → since ≤ now → present_entries now clients ≡ present_table mentions now
present_is clients mentions since now stands late = ap (map (λ (row : LocalRow). row.entry)) (rows_kept clients mentions since now stands late)

empty_from_length : (changes : List Change) → length changes ≡ 0 → changes ≡ []
empty_from_length [] e = refl
empty_from_length (x ∷ xs) e = absurd (omega (arith, e))

-- a table that has no changes to another is that
pub same_without : (a b : List Entry) (changes : List Change) → IsInKeyOrder a → IsInKeyOrder b → changes ≡ changeset a b → length changes ≡ 0 → a ≡ b
same_without a b changes ordered others are none = no_changes a b ordered others (sym are ∙ empty_from_length changes none)

-- what is committed where the last commit's table is present
pub committed_same : (history : History) (table : List Entry) → (last_commit history.commits).table ≡ table → committed table history ≡ history
committed_same history table is = ap (λ b. cond b history (with_commit table history)) (same_from_equal (last_commit history.commits).table table is)

-- no commit has a number there
pub number_same : (history : History) (table : List Entry) → (last_commit history.commits).table ≡ table → new_number table history ≡ None
number_same history table is = ap (λ b. cond b None (Some (length history.commits))) (same_from_equal (last_commit history.commits).table table is)

-- a table with changes is the next commit
pub committed_new : (history : History) (table : List Entry) → IsInKeyOrder (last_commit history.commits).table → (length (changeset (last_commit history.commits).table table) ≡ 0 → ⊥) → committed table history ≡ with_commit table history
committed_new history table ordered some = ap (λ b. cond b history (with_commit table history)) (some_changes (last_commit history.commits).table table ordered some)

-- it has the next number
pub number_new : (history : History) (table : List Entry) → IsInKeyOrder (last_commit history.commits).table → (length (changeset (last_commit history.commits).table table) ≡ 0 → ⊥) → new_number table history ≡ Some (length history.commits)
number_new history table ordered some = ap (λ b. cond b None (Some (length history.commits))) (some_changes (last_commit history.commits).table table ordered some)
