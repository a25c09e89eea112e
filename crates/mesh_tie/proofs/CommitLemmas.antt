-- The commits of a log: how they follow one another, and which one a root's messages announce.
use Rattle.std.proofs.Common.{◌≡◌, ◌≢◌, ◌⊎◌, inl, inr, ◌<◌, ◌≤◌, ◌&&◌, ℕ, suc, Bool, true, false, cond, nat_eq, nat_lt, nat_le, List, [], ◌∷◌, length, map, Some, None, refl, sym, ap, subst, ◌∙◌, arith}
use Rattle.std.specs.List.{AllByRecursion}
use Rattle.std.specs.List.Sorted.{IsStrictlySortedBy}
use Rattle.std.proofs.lemmas.Bool.{eq-eqb, ne_eqb, leb-true}
use Rattle.mesh_base.specs.KeyOrder.{key_order}
use Rattle.mesh_base.specs.declared.address.Mac.{Mac}
use Rattle.mesh_base.specs.declared.client.Entry.{Entry}
use Rattle.mesh_model.specs.declared.table_change.Change.{Change}
use Rattle.mesh_model.specs.declared.table_row.LocalRow.{LocalRow}
use Rattle.mesh_model.specs.Acts.Packing.{table_told}
use Rattle.mesh_model.specs.Clients.Log.{Given, Tick, LinkFrame, Log, LogEntry, LanFrame, Line, line_reboots}
use Rattle.mesh_model.specs.Clients.Mentions.{Mention, mentions}
use Rattle.mesh_model.specs.Clients.Present.{present_clients}
use Rattle.mesh_model.specs.Commits.Announcements.{announced_changes, announcement, commit_at_root, if_few, is_tick, log_until, told_changes}
use Rattle.mesh_model.specs.Commits.History.{History, with_message, commits, committed, history, is_commit_tick, is_first, last_changes, next_history, present_table, restarted, with_commit}
use Rattle.mesh_model.specs.Commits.Versions.{changes_to_last, first_commit, last_commit, same_table, commit_numbered}
use Rattle.mesh_model.specs.Net.Due.{ticks_in}
use Rattle.mesh_model.specs.Packets.Numbers.{ogm_diff_flag}
use Rattle.mesh_model.specs.Tables.Changes.{IsInKeyOrder}
use Rattle.mesh_model.specs.Tables.Versions.{Version, next_byte}
use Rattle.mesh_laws.specs.Machine.Moves.{AreLastChanges}
use Rattle.mesh_laws.proofs.MachineInvariant.{last_numbered, newest_or_older, numbered_kept}
use Rattle.mesh_laws.proofs.PresentLemmas.{sorted_present}
use Rattle.mesh_tie.specs.Originators.{last_number, number_at_root}
use Rattle.mesh_laws.specs.HeldLaws.{stamp_of_commit}

-- ---- how commits follow one another
-- a commit has the byte after that of the one before
abbrev IsNext : Version → List Version → Type 0
IsNext last [] = ⊥
IsNext last (before ∷ older) = last.byte ≡ next_byte before.byte

-- commits of which the last is the first commit at `start`, or comes behind it and is the next one
abbrev IsLinked : ℕ → List Version → Type 0
IsLinked start [] = ⊥
IsLinked start (last ∷ older) = (start ≤ length older) × (start < length older → IsNext last older)

-- the commits of a history are so, and each of them is in key order
pub record Chain (h : History) : Type 0 where
  pub linked : IsLinked h.start h.commits
  pub order : AllByRecursion (λ (v : Version). IsInKeyOrder v.table) h.commits

-- the empty table is in key order
pub none_in_order : IsInKeyOrder []
unfolding IsStrictlySortedBy
none_in_order = tt

keys_of_rows : (rows : List LocalRow) → map (λ (e : Entry). e.key) (map (λ (row : LocalRow). row.entry) rows) ≡ map (λ (row : LocalRow). row.entry.key) rows
keys_of_rows [] = refl
keys_of_rows (row ∷ rows) = ap (λ ks. row.entry.key ∷ ks) (keys_of_rows rows)

pub present_in_order : (ms : List Mention) (now : ℕ) → IsInKeyOrder (present_table ms now)
present_in_order ms now = subst (IsStrictlySortedBy key_order) (sym (keys_of_rows (present_clients ms now))) (sorted_present now ms)

-- the history after a commit: as it was, or with one more
pub data Committed (before after : History) : Type 0 where
  as_before : after ≡ before → Committed before after
  one_more : (version : Version) → version.byte ≡ next_byte (last_commit before.commits).byte → IsInKeyOrder version.table
      → after ≡ record { commits = version ∷ before.commits; start = before.start; sent = 0 } → Committed before after

pub committed_is : (ms : List Mention) (now : ℕ) (before : History) → Committed before (committed (present_table ms now) before)
committed_is ms now before = go (same_table (last_commit before.commits).table (present_table ms now))
  where
    go : (b : Bool) → Committed before (cond b before (with_commit (present_table ms now) before))
    go true = as_before refl
    go false = one_more (record { byte = next_byte (last_commit before.commits).byte; table = present_table ms now }) refl (present_in_order ms now) refl

linked_more : (start : ℕ) (cs : List Version) (version : Version) → IsLinked start cs → version.byte ≡ next_byte (last_commit cs).byte → IsLinked start (version ∷ cs)
linked_more start [] version linked byte = absurd linked
linked_more start (last ∷ older) version linked byte = let since = linked.0 in (omega (arith, since), λ behind. byte)

pub chain_committed : (before after : History) → Committed before after → Chain before → Chain after
chain_committed before after (as_before is) c = subst Chain (sym is) c
chain_committed before after (one_more version byte order is) c =
    subst Chain (sym is) (record { linked = linked_more before.start before.commits version c.linked byte; order = (order, c.order) })

-- a first commit comes behind no other
chain_restarted : (before : History) → Chain before → Chain (restarted before)
chain_restarted before c = record { linked = (omega arith, λ behind. absurd (omega (arith, behind))); order = (none_in_order, c.order) }

chain_next : (ms : List Mention) (before : History) (now : ℕ) (given : Given) → Chain before → Chain (next_history ms before now given)
chain_next ms before now (Tick index) c = go (is_commit_tick index)
  where
    announced : Chain (committed (present_table ms now) before) → Chain (with_message (committed (present_table ms now) before))
    announced more = record { linked = more.linked; order = more.order }

    go : (b : Bool) → Chain (cond b (with_message (committed (present_table ms now) before)) before)
    go true = announced (chain_committed before (committed (present_table ms now) before) (committed_is ms now before) c)
    go false = c
chain_next ms before now (LinkFrame number from throughput bytes) c = c
chain_next ms before now (LanFrame bytes) c = c
chain_next ms before now (Line line) c = go (line_reboots line)
  where
    go : (b : Bool) → Chain (cond b (restarted before) before)
    go true = chain_restarted before c
    go false = c

pub chain : (me : Mac) (log : Log) → Chain (history me log)
chain me [] = record { linked = (omega arith, λ behind. absurd (omega (arith, behind))); order = (none_in_order, tt) }
chain me (entry ∷ older) = chain_next (mentions me older) (history me older) entry.moment entry.given (chain me older)

-- ---- the last changes
-- those of a commit that isn't a first one lead to it from the one before
later_last : (start : ℕ) (cs : List Version) → IsLinked start cs → nat_eq (length cs) (suc start) ≡ false → AreLastChanges cs (changes_to_last cs)
later_last start [] linked later = absurd linked
later_last start (last ∷ older) linked later = go older (linked.1 (let since = linked.0 in let other : length older ≢ start = λ same. no_later same in omega (arith, since, other)))
  where
    no_later : length older ≡ start → ⊥
    no_later same = let never : true ≡ false = sym (eq-eqb (length (last ∷ older)) (suc start) (ap suc same)) ∙ later in cc

    go : (older : List Version) → IsNext last older → AreLastChanges (last ∷ older) (changes_to_last (last ∷ older))
    go [] next = absurd next
    go (before ∷ more) next = (next, refl)

are_last : (h : History) → Chain h → (last_changes h ≡ []) ⊎ AreLastChanges h.commits (last_changes h)
are_last h c = go (is_first h) refl
  where
    go : (b : Bool) → is_first h ≡ b → (cond b [] (changes_to_last h.commits) ≡ []) ⊎ AreLastChanges h.commits (cond b [] (changes_to_last h.commits))
    go true is = inl refl
    go false is = inr (later_last h.start h.commits c.linked is)

-- changes that are told: those of the last commit, and few
pub record AreTold (cs : List Version) (changes : List Change) : Type 0 where
  pub last : AreLastChanges cs changes
  pub few : length changes ≤ 120

pub told_are : (h : History) (changes : List Change) → Chain h → told_changes h ≡ Some changes → AreTold h.commits changes
told_are h changes c is = by (is_first h) refl is
  where
    to_last : List Change
    to_last = changes_to_last h.commits

    go : (few : Bool) → nat_le (length to_last) 120 ≡ few → AreLastChanges h.commits to_last → cond few (Some to_last) None ≡ Some changes → AreTold h.commits changes
    go true t are is =
        let same : to_last ≡ changes = cc in
        record { last = subst (AreLastChanges h.commits) same are; few = subst (λ (cs : List Change). length cs ≤ 120) same (leb-true (length to_last) 120 t) }
    go false t are is = cc

    by : (b : Bool) → is_first h ≡ b → cond b None (if_few (cond b [] to_last)) ≡ Some changes → AreTold h.commits changes
    by true first is = cc
    by false later is = go (nat_le (length to_last) 120) refl (later_last h.start h.commits c.linked later) is

pub announced_are : (h : History) → Chain h → ((announced_changes h ≡ []) ⊎ AreLastChanges h.commits (announced_changes h)) × (length (announced_changes h) ≤ 120)
announced_are h c = go (nat_lt h.sent 3) (nat_le (length (last_changes h)) 120) refl
  where
    go : (b few : Bool) → nat_le (length (last_changes h)) 120 ≡ few
        → ((cond (b && few) (last_changes h) [] ≡ []) ⊎ AreLastChanges h.commits (cond (b && few) (last_changes h) [])) × (length (cond (b && few) (last_changes h) []) ≤ 120)
    go true true t = (are_last h c, leb-true (length (last_changes h)) 120 t)
    go true false t = (inl refl, omega arith)
    go false few t = (inl refl, omega arith)

-- what is announced is told of the last commit
pub announcement_is : (h : History) → announcement h ≡ table_told ogm_diff_flag (stamp_of_commit (last_commit h.commits)) (announced_changes h)
announcement_is h = refl

-- ---- the last of some
some_last : (start : ℕ) (cs : List Version) → IsLinked start cs → (older : List Version) × (cs ≡ last_commit cs ∷ older) × (last_number cs ≡ length older)
some_last start [] linked = absurd linked
some_last start (last ∷ older) linked = (older, refl, refl)

pub last_and_older : (h : History) → Chain h → (older : List Version) × (h.commits ≡ last_commit h.commits ∷ older) × (last_number h.commits ≡ length older)
last_and_older h c = some_last h.start h.commits c.linked

-- ---- the commit of a root
-- what follows a log: a tick has the next index
abbrev pub Follows : Log → Given → Type 0
Follows log (Tick index) = index ≡ suc (ticks_in log)
Follows log (LinkFrame number from throughput bytes) = Unit {0}
Follows log (LanFrame bytes) = Unit {0}
Follows log (Line line) = Unit {0}

no_tick : (root : ℕ) (log : Log) (given : Given) → root ≤ ticks_in log → Follows log given → is_tick root given ≡ false
no_tick root log (Tick index) past next = ne_eqb index root (λ same. omega (arith, past, next, same))
no_tick root log (LinkFrame number from throughput bytes) past next = refl
no_tick root log (LanFrame bytes) past next = refl
no_tick root log (Line line) past next = refl

-- a root that is past has its commit for good
pub number_stays : (me : Mac) (log : Log) (entry : LogEntry) (root : ℕ) → root ≤ ticks_in log → Follows log entry.given → number_at_root me (entry ∷ log) root ≡ number_at_root me log root
number_stays me log entry root past next = ap (λ b. last_number (commits me (cond b (entry ∷ log) (log_until root log)))) (no_tick root log entry.given past next)

pub commit_stays : (me : Mac) (log : Log) (entry : LogEntry) (root : ℕ) → root ≤ ticks_in log → Follows log entry.given → commit_at_root me (entry ∷ log) root ≡ commit_at_root me log root
commit_stays me log entry root past next = ap (λ b. last_commit (commits me (cond b (entry ∷ log) (log_until root log)))) (no_tick root log entry.given past next)

-- the root of a tick has the commits up to it
pub number_now : (me : Mac) (log : Log) (moment index : ℕ) (acts : List Rattle.mesh_model.specs.declared.act.Act.Act)
    → number_at_root me (record { moment = moment; given = Tick index; acts = acts } ∷ log) index ≡ last_number (commits me (record { moment = moment; given = Tick index; acts = acts } ∷ log))
number_now me log moment index acts = ap (λ b. last_number (commits me (cond b (record { moment = moment; given = Tick index; acts = acts } ∷ log) (log_until index log)))) (eq-eqb index index refl)

last_found : (start : ℕ) (cs : List Version) → IsLinked start cs → commit_numbered (last_number cs) cs ≡ Some (last_commit cs)
last_found start [] linked = absurd linked
last_found start (last ∷ older) linked = last_numbered last older

pub last_at : (h : History) → Chain h → commit_numbered (last_number h.commits) h.commits ≡ Some (last_commit h.commits)
last_at h c = last_found h.start h.commits c.linked

-- each commit is in key order
each_in_order : (cs : List Version) → AllByRecursion (λ (v : Version). IsInKeyOrder v.table) cs → (n : ℕ) (version : Version) → commit_numbered n cs ≡ Some version → IsInKeyOrder version.table
each_in_order [] order = λ n version found. cc
each_in_order (last ∷ older) order = newest_or_older (λ v. IsInKeyOrder v.table) last older order.0 (each_in_order older order.1)

pub ordered : (h : History) → Chain h → (n : ℕ) (version : Version) → commit_numbered n h.commits ≡ Some version → IsInKeyOrder version.table
ordered h c = each_in_order h.commits c.order

numbered_committed : (before after : History) (n : ℕ) (v : Version) → Committed before after → commit_numbered n before.commits ≡ Some v → commit_numbered n after.commits ≡ Some v
numbered_committed before after n v (as_before is) found = ap (λ (h : History). commit_numbered n h.commits) is ∙ found
numbered_committed before after n v (one_more version byte order is) found = ap (λ (h : History). commit_numbered n h.commits) is ∙ numbered_kept version n before.commits v found

pub numbered_next : (ms : List Mention) (before : History) (now : ℕ) (given : Given) (n : ℕ) (v : Version) → commit_numbered n before.commits ≡ Some v → commit_numbered n (next_history ms before now given).commits ≡ Some v
numbered_next ms before now (Tick index) n v found = go (is_commit_tick index)
  where
    go : (b : Bool) → commit_numbered n (cond b (with_message (committed (present_table ms now) before)) before).commits ≡ Some v
    go true = numbered_committed before (committed (present_table ms now) before) n v (committed_is ms now before) found
    go false = found
numbered_next ms before now (LinkFrame number from throughput bytes) n v found = found
numbered_next ms before now (LanFrame bytes) n v found = found
numbered_next ms before now (Line line) n v found = go (line_reboots line)
  where
    go : (b : Bool) → commit_numbered n (cond b (restarted before) before).commits ≡ Some v
    go true = numbered_kept first_commit n before.commits v found
    go false = found

-- the commit of a root is the one of its number
pub at_root : (me : Mac) (log : Log) (root : ℕ) → commit_numbered (number_at_root me log root) (commits me log) ≡ Some (commit_at_root me log root)
at_root me [] root = refl
at_root me (entry ∷ older) root = go (is_tick root entry.given) (at_root me older root)
  where
    go : (b : Bool) → commit_numbered (number_at_root me older root) (commits me older) ≡ Some (commit_at_root me older root)
        → commit_numbered (last_number (commits me (cond b (entry ∷ older) (log_until root older)))) (commits me (entry ∷ older)) ≡ Some (last_commit (commits me (cond b (entry ∷ older) (log_until root older))))
    go true before = last_at (history me (entry ∷ older)) (chain me (entry ∷ older))
    go false before = numbered_next (mentions me older) (history me older) entry.moment entry.given (number_at_root me older root) (commit_at_root me older root) before
