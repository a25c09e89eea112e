-- What a journal keeps of the commit of a number.
use Rattle.std.proofs.Common.{◌≡◌, ◌⊎◌, inl, inr, ⊎_elim, ℕ, zero, suc, ◌+◌, ◌*◌, ◌/◌, ◌%◌, ◌≤◌, ◌<◌, ◌==◌, ◌++◌, Bool, true, false, cond, List, [], ◌∷◌, drop, length, map, slice_get, Option, Some, None, Ok, option_map, refl, sym, ap, ◌∙◌, subst, arith}
use Rattle.std.proofs.lemmas.Bool.{eqb-true, eq-eqb, ne_eqb, true≢false}
use Rattle.std.proofs.lemmas.Bool.Decides.{nat_tests}
use Rattle.std.proofs.lemmas.List.{length-append, length-map, map-append}
use Rattle.std.proofs.lemmas.Option.{slice_get_within}
use Rattle.mesh_base.specs.declared.client.Entry.{Entry}
use Rattle.mesh_model.specs.Commits.History.{History}
use Rattle.mesh_model.specs.Commits.Versions.{changes_from, commit_numbered, last_commit}
use Rattle.mesh_model.specs.Tables.Changes.{IsInKeyOrder, changeset}
use Rattle.mesh_model.specs.Tables.Strict.{apply_strictly}
use Rattle.mesh_model.specs.Tables.Sums.{sums_of}
use Rattle.mesh_model.specs.Tables.Versions.{Version}
use Rattle.mesh_laws.proofs.MachineInvariant.{number_below}
use Rattle.mesh_laws.proofs.TableChanges.{changeset_leads}
use Rattle.tt_local.specs.Journal.{AreInKeyOrder, AreSnapshots, HasSums, HasTable, JournalStands, JournalView, PastCommit, past_of, snapshots_of, with_snapshot}
use Rattle.tt_local.specs.declared.journal.Past.{Past}
use Rattle.tt_table.specs.Sums.{named_sums}

-- ---- lists with one more at the end
-- an element is the last one, or was there without it
pub from_end : {A : Type 0} (xs : List A) (y x : A) (n : ℕ) → slice_get (xs ++ y ∷ []) n ≡ Some x → ((n ≡ length xs) × (x ≡ y)) ⊎ (slice_get xs n ≡ Some x)
from_end [] y x zero h = inl (refl, cc)
from_end [] y x (suc n) h = cc
from_end (z ∷ xs) y x zero h = inr h
from_end (z ∷ xs) y x (suc n) h = ⊎_elim (λ p. inl (ap suc p.0, p.1)) inr (from_end xs y x n h)

-- ---- commits by their numbers
-- a commit that isn't the newest
pub older_number : (c : Version) (n : ℕ) (older : List Version) → n < length older → commit_numbered n (c ∷ older) ≡ commit_numbered n older
older_number c n older below = ap (λ b. cond b (Some c) (commit_numbered n older)) (ne_eqb n (length older) (λ e. omega (arith, below, e)))

-- the newest commit
pub newest_number : (c : Version) (n : ℕ) (older : List Version) → n ≡ length older → commit_numbered n (c ∷ older) ≡ Some c
newest_number c n older is = ap (λ b. cond b (Some c) (commit_numbered n older)) (eq-eqb n (length older) is)

-- a commit is the newest, or an older one
pub newest_or_not : (c v : Version) (n : ℕ) (older : List Version) → commit_numbered n (c ∷ older) ≡ Some v → ((n ≡ length older) × (v ≡ c)) ⊎ ((n < length older) × (commit_numbered n older ≡ Some v))
newest_or_not c v n older h = go (n == length older) refl h
  where
    go : (b : Bool) → (n == length older) ≡ b → cond b (Some c) (commit_numbered n older) ≡ Some v → ((n ≡ length older) × (v ≡ c)) ⊎ ((n < length older) × (commit_numbered n older ≡ Some v))
    go true p h = inl (eqb-true n (length older) p, cc)
    go false p h = inr (number_below n older v h, h)

-- the commit that has a table
table_version : (o : Option Version) (t : List Entry) → option_map (λ (v : Version). v.table) o ≡ Some t → (v : Version) × (o ≡ Some v) × (v.table ≡ t)
table_version None t h = cc
table_version (Some v) t h = (v, refl, cc)

pub version_at : (n : ℕ) (t : List Entry) (cs : List Version) → HasTable n t cs → (v : Version) × (commit_numbered n cs ≡ Some v) × (v.table ≡ t)
version_at n t cs has = table_version (commit_numbered n cs) t has

table_below : (n : ℕ) (t : List Entry) (cs : List Version) → HasTable n t cs → n < length cs
table_below n t cs has = let at = version_at n t cs has in number_below n cs at.0 at.1

-- a table stays that of its number as commits are added
pub table_kept : (c : Version) (n : ℕ) (t : List Entry) (older : List Version) → HasTable n t older → HasTable n t (c ∷ older)
table_kept c n t older has = ap (option_map (λ (v : Version). v.table)) (older_number c n older (table_below n t older has)) ∙ has

pub table_before : (c : Version) (n : ℕ) (t : List Entry) (older : List Version) → n < length older → HasTable n t (c ∷ older) → HasTable n t older
table_before c n t older below has = ap (option_map (λ (v : Version). v.table)) (sym (older_number c n older below)) ∙ has

newest_table : (c : Version) (n : ℕ) (older : List Version) → n ≡ length older → HasTable n c.table (c ∷ older)
newest_table c n older is = ap (option_map (λ (v : Version). v.table)) (newest_number c n older is)

-- ---- what is kept of each commit
pub past_length : (cs : List Version) → length (past_of cs) ≡ length cs
past_length [] = refl
past_length (c ∷ older) =
    let rest : length (past_of older) ≡ length older = past_length older in
    let all = length-append (past_of older) (record { changes = changes_from older c.table; sums = sums_of c.table } ∷ []) in
    omega (arith, rest, all)

-- the checksums
pub past_sums : (cs : List Version) (n : ℕ) (p : PastCommit) → slice_get (past_of cs) n ≡ Some p → HasSums n p.sums cs
past_sums [] n p h = cc
past_sums (c ∷ older) n p h = go (past_sums older n p) (from_end (past_of older) (record { changes = changes_from older c.table; sums = sums_of c.table }) p n h)
  where
    go : (slice_get (past_of older) n ≡ Some p → HasSums n p.sums older) → ((n ≡ length (past_of older)) × (p ≡ record { changes = changes_from older c.table; sums = sums_of c.table })) ⊎ (slice_get (past_of older) n ≡ Some p) → HasSums n p.sums (c ∷ older)
    go rest (inl last) = ap (option_map (λ (v : Version). sums_of v.table)) (newest_number c n older (last.0 ∙ past_length older)) ∙ ap (λ (q : PastCommit). Some q.sums) (sym last.1)
    go rest (inr before) =
        let within = slice_get_within (past_of older) n p before in
        let long = past_length older in
        ap (option_map (λ (v : Version). sums_of v.table)) (older_number c n older (omega (arith, within, long))) ∙ rest before

-- the changes of the newest commit lead to it
newest_leads : (c : Version) (older : List Version) (n : ℕ) (t : List Entry) → IsInKeyOrder c.table → AreInKeyOrder older → suc n ≡ length older → HasTable n t older → apply_strictly t (changes_from older c.table) ≡ Ok c.table
newest_leads c [] n t ordered others is has = absurd (omega (arith, is))
newest_leads c (b ∷ rest) n t ordered others is has =
    let at : n ≡ length rest = omega (arith, is) in
    let same : Some b.table ≡ Some t = sym (newest_table b n rest at) ∙ has in
    let table : t ≡ b.table = cc in
    ap (λ u. apply_strictly u (changeset b.table c.table)) table ∙ changeset_leads b.table c.table others.0 ordered

-- the changes of each commit lead to it
past_leads : (cs : List Version) → AreInKeyOrder cs → (n : ℕ) (p : PastCommit) → slice_get (past_of cs) (suc n) ≡ Some p → (t : List Entry) → HasTable n t cs → (u : List Entry) × HasTable (suc n) u cs × (apply_strictly t p.changes ≡ Ok u)
past_leads [] ordered n p h t has = cc
past_leads (c ∷ older) ordered n p h t has = go (λ kept. past_leads older ordered.1 n p kept t) (from_end (past_of older) (record { changes = changes_from older c.table; sums = sums_of c.table }) p (suc n) h)
  where
    go : (slice_get (past_of older) (suc n) ≡ Some p → HasTable n t older → (u : List Entry) × HasTable (suc n) u older × (apply_strictly t p.changes ≡ Ok u)) → ((suc n ≡ length (past_of older)) × (p ≡ record { changes = changes_from older c.table; sums = sums_of c.table })) ⊎ (slice_get (past_of older) (suc n) ≡ Some p) → (u : List Entry) × HasTable (suc n) u (c ∷ older) × (apply_strictly t p.changes ≡ Ok u)
    go rest (inl last) =
        let at : suc n ≡ length older = last.0 ∙ past_length older in
        let before : HasTable n t older = table_before c n t older (omega (arith, at)) has in
        (c.table, newest_table c (suc n) older at, ap (λ (q : PastCommit). apply_strictly t q.changes) last.1 ∙ newest_leads c older n t ordered.0 ordered.1 at before)
    go rest (inr kept) =
        let within = slice_get_within (past_of older) (suc n) p kept in
        let long = past_length older in
        let led = rest kept (table_before c n t older (omega (arith, within, long)) has) in
        (led.0, table_kept c (suc n) led.0 older led.1, led.2)

-- ---- the tables that are kept whole
snapshots_go : (b : Bool) (n : ℕ) (table : List Entry) (rest : List (List Entry)) → (n % 32 == 0) ≡ b → length rest ≡ (n + 31) / 32 → length (cond b (rest ++ table ∷ []) rest) ≡ (suc n + 31) / 32
snapshots_go true n table rest is count =
    let at : n % 32 ≡ 0 = eqb-true (n % 32) 0 is in
    let all = length-append rest (table ∷ []) in
    omega (arith, at, count, all)
snapshots_go false n table rest is count =
    let off : n % 32 ≡ 0 → ⊥ = λ e. absurd (true≢false (sym (eq-eqb (n % 32) 0 e) ∙ is)) in
    omega (arith, off, count)

pub snapshots_length : (cs : List Version) → length (snapshots_of cs) ≡ (length cs + 31) / 32
snapshots_length [] = refl
snapshots_length (c ∷ older) = snapshots_go (length older % 32 == 0) (length older) c.table (snapshots_of older) refl (snapshots_length older)

pub snapshot_table : (cs : List Version) (i : ℕ) (t : List Entry) → slice_get (snapshots_of cs) i ≡ Some t → HasTable (32 * i) t cs
snapshot_table [] i t h = cc
snapshot_table (c ∷ older) i t h = go (λ there. table_kept c (32 * i) t older (snapshot_table older i t there)) (length older % 32 == 0) refl h
  where
    last : length older % 32 ≡ 0 → (i ≡ length (snapshots_of older)) × (t ≡ c.table) → HasTable (32 * i) t (c ∷ older)
    last whole p =
        let count = snapshots_length older in
        let i_is = p.0 in
        let at : 32 * i ≡ length older = omega (arith, whole, count, i_is) in
        subst (λ u. HasTable (32 * i) u (c ∷ older)) (sym p.1) (newest_table c (32 * i) older at)

    go : (slice_get (snapshots_of older) i ≡ Some t → HasTable (32 * i) t (c ∷ older)) → (b : Bool) → (length older % 32 == 0) ≡ b → slice_get (cond b (snapshots_of older ++ c.table ∷ []) (snapshots_of older)) i ≡ Some t → HasTable (32 * i) t (c ∷ older)
    go kept true is h = ⊎_elim (last (eqb-true (length older % 32) 0 is)) kept (from_end (snapshots_of older) c.table t i h)
    go kept false is h = kept h

-- ---- a journal
-- the commits of a history are a newest one and those that it followed
pub a_newest : (view : JournalView) (history : History) → JournalStands view history → (c : Version) × (older : List Version) × (history.commits ≡ c ∷ older) × (length view.past ≡ length older)
a_newest view history stands = go history.commits refl stands.count
  where
    go : (cs : List Version) → history.commits ≡ cs → length cs ≡ length view.past + 1 → (c : Version) × (older : List Version) × (history.commits ≡ c ∷ older) × (length view.past ≡ length older)
    go [] is count = absurd (omega (arith, count))
    go (c ∷ older) is count = (c, older, is, omega (arith, count))

pub kept_sums : (view : JournalView) (history : History) → JournalStands view history → (n : ℕ) (p : PastCommit) → slice_get view.past n ≡ Some p → HasSums n p.sums history.commits
kept_sums view history stands n p h =
    let (c, older, is, long) = a_newest view history stands in
    let there : slice_get (past_of older) n ≡ Some p = ap (λ ps. slice_get ps n) (sym (stands.past ∙ ap (λ cs. past_of (drop 1 cs)) is)) ∙ h in
    let within = slice_get_within view.past n p h in
    subst (HasSums n p.sums) (sym is)
    (ap (option_map (λ (v : Version). sums_of v.table)) (older_number c n older (omega (arith, within, long))) ∙ past_sums older n p there)

pub last_table_at : (view : JournalView) (history : History) → JournalStands view history → (n : ℕ) → n ≡ length view.past → HasTable n view.table history.commits
last_table_at view history stands n at =
    let (c, older, is, long) = a_newest view history stands in
    subst (HasTable n view.table) (sym is)
    (newest_table c n older (at ∙ long) ∙ ap Some (sym (stands.table ∙ ap (λ cs. (last_commit cs).table) is)))

pub last_sums_at : (view : JournalView) (history : History) → JournalStands view history → (n : ℕ) → n ≡ length view.past → HasSums n (sums_of view.table) history.commits
last_sums_at view history stands n at =
    let found = version_at n view.table history.commits (last_table_at view history stands n at) in
    ap (option_map (λ (v : Version). sums_of v.table)) found.1 ∙ ap (λ t. Some (sums_of t)) found.2

pub kept_leads : (view : JournalView) (history : History) → JournalStands view history → (n m : ℕ) → m ≡ suc n → (p : PastCommit) → slice_get view.past m ≡ Some p → (t : List Entry) → HasTable n t history.commits → (u : List Entry) × HasTable m u history.commits × (apply_strictly t p.changes ≡ Ok u)
kept_leads view history stands n m next p found t has =
    let h : slice_get view.past (suc n) ≡ Some p = ap (slice_get view.past) (sym next) ∙ found in
    let (c, older, is, long) = a_newest view history stands in
    let there : slice_get (past_of older) (suc n) ≡ Some p = ap (λ ps. slice_get ps (suc n)) (sym (stands.past ∙ ap (λ cs. past_of (drop 1 cs)) is)) ∙ h in
    let within = slice_get_within view.past (suc n) p h in
    let ordered : AreInKeyOrder (c ∷ older) = subst AreInKeyOrder is stands.ordered in
    let before : HasTable n t older = table_before c n t older (omega (arith, within, long)) (subst (HasTable n t) is has) in
    let led = past_leads older ordered.1 n p there t before in
    (led.0, subst (λ k. HasTable k led.0 history.commits) (sym next) (subst (HasTable (suc n) led.0) (sym is) (table_kept c (suc n) led.0 older led.1)), led.2)

pub kept_snapshot : (view : JournalView) (history : History) → JournalStands view history → (i : ℕ) (t : List Entry) → slice_get view.snapshots i ≡ Some t → HasTable (32 * i) t history.commits
kept_snapshot view history stands i t h =
    let (c, older, is, long) = a_newest view history stands in
    let there : slice_get (snapshots_of older) i ≡ Some t = ap (λ ss. slice_get ss i) (sym (stands.snapshots ∙ ap (λ cs. snapshots_of (drop 1 cs)) is)) ∙ h in
    subst (HasTable (32 * i) t) (sym is) (table_kept c (32 * i) t older (snapshot_table older i t there))

-- what is kept whole of one more commit
pub snapshots_kept : (snapshots new : List (List Entry)) (table : List Entry) (n m : ℕ) → AreSnapshots snapshots n → IsInKeyOrder table → new ≡ with_snapshot n table snapshots → m ≡ n + 1 → AreSnapshots new m
snapshots_kept snapshots new table n m kept ordered is more =
    subst (λ k. AreSnapshots new k) (sym more) (subst (λ ss. AreSnapshots ss (n + 1)) (sym is) (go (n % 32 == 0) refl))
  where
    count : (b : Bool) → (n % 32 == 0) ≡ b → length (cond b (snapshots ++ table ∷ []) snapshots) ≡ (n + 1 + 31) / 32
    count b t = snapshots_go b n table snapshots t kept.count ∙ ap (λ k. k / 32) (omega arith)

    go : (b : Bool) → (n % 32 == 0) ≡ b → AreSnapshots (cond b (snapshots ++ table ∷ []) snapshots) (n + 1)
    go true t = record {
      ordered = λ place u h. ⊎_elim (λ p. subst IsInKeyOrder (sym p.1) ordered) (λ there. kept.ordered place u there) (from_end snapshots table u place h);
      count = count true t;
    }
    go false t = record { ordered = kept.ordered; count = count false t }

-- the table up to a commit is among those that are kept whole
pub snapshot_within : (n last past count kept : ℕ) → n < last → last ≡ past → kept ≡ count → kept ≡ (past + 31) / 32 → n / 32 < count
snapshot_within n last past count kept made is same all = omega (arith, made, is, same, all)

-- each number up to the last is that of a commit
pub number_made : (view : JournalView) (history : History) → JournalStands view history → (n : ℕ) → n ≤ length view.past → (v : Version) × (commit_numbered n history.commits ≡ Some v)
number_made view history stands n made = there history.commits n (subst (λ m. n < m) (sym stands.count) (omega (arith, made)))
  where
    there : (cs : List Version) (m : ℕ) → m < length cs → (v : Version) × (commit_numbered m cs ≡ Some v)
    there [] m below = absurd (omega (arith, below))
    there (c ∷ older) m below = go (m == length older) refl (there older m)
      where
        go : (b : Bool) → (m == length older) ≡ b → (m < length older → (v : Version) × (commit_numbered m older ≡ Some v)) → (v : Version) × (cond b (Some c) (commit_numbered m older) ≡ Some v)
        go true e rest = (c, refl)
        go false e rest = rest (grind (arith, nat_tests, below, e))

-- a list with one more that may be there
abbrev pub with_option : {X : Type 0} → Option X → List X → List X
with_option None xs = xs
with_option (Some x) xs = xs ++ x ∷ []

seen_with : {X Y : Type 0} (view : X → Y) (o : Option X) (xs : List X) → map view (with_option o xs) ≡ with_option (option_map view o) (map view xs)
seen_with view None xs = refl
seen_with view (Some x) xs = map-append view xs (x ∷ [])

chosen : {X : Type 0} (b : Bool) (x : X) (xs : List X) → with_option (cond b (Some x) None) xs ≡ cond b (xs ++ x ∷ []) xs
chosen true x xs = refl
chosen false x xs = refl

-- what is kept whole once the table of one more commit was pushed, where that is kept
pub snapshots_pushed : {X : Type 0} (view : X → List Entry) (o : Option X) (before after : List X) (number : ℕ) (table : List Entry) → after ≡ with_option o before → option_map view o ≡ cond (number % 32 == 0) (Some table) None
    → map view after ≡ with_snapshot number table (map view before)
snapshots_pushed view o before after number table is kept =
    ap (map view) is ∙ seen_with view o before ∙ ap (λ p. with_option p (map view before)) kept ∙ chosen (number % 32 == 0) table (map view before)

-- and then those are kept that are to be
pub snapshots_stay : {X : Type 0} (view : X → List Entry) (o : Option X) (before after : List X) (number n m : ℕ) (table : List Entry) → AreSnapshots (map view before) n → n ≡ number → m ≡ n + 1 → IsInKeyOrder table
    → after ≡ with_option o before → option_map view o ≡ cond (number % 32 == 0) (Some table) None → AreSnapshots (map view after) m
snapshots_stay view o before after number n m table stood counted more ordered is kept =
    snapshots_kept (map view before) (map view after) table number m (subst (AreSnapshots (map view before)) counted stood) ordered (snapshots_pushed view o before after number table is kept) (more ∙ ap (λ k. k + 1) counted)

-- ---- commits that others followed
-- what is seen of one
abbrev pub past_view : Past → PastCommit
past_view past = record { changes = past.changes; sums = named_sums past.sums }

pub past_counted : (past : List Past) (view : JournalView) → map past_view past ≡ view.past → length past ≡ length view.past
past_counted past view is = sym (length-map past past_view) ∙ ap length is
