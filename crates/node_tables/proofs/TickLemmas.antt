-- What a tick, and a reboot, tells of its commit: an alias, if the commit is new and has one, and an
-- announcement that fits a packet.
use Rattle.std.proofs.Common.{◌≡◌, ◌≤◌, ◌+◌, ◌*◌, ◌%◌, ℕ, suc, Bool, true, false, List, [], ◌∷◌, ◌++◌, length, map, refl, sym, ap, subst, ◌∙◌, arith, append_assoc, Option, Some, None, Result}
use Rattle.std.specs.Prelude.{◌==◌, ◌&&◌, nat_lt, nat_le, if◌then◌else◌}
use Rattle.std.proofs.lemmas.Bool.{and_parts, leb-true}
use Rattle.std.proofs.lemmas.Bool.Decides.{nat_tests}
use Rattle.std.proofs.lemmas.List.{length-map}
use Rattle.mesh_base.specs.declared.address.Mac.{Mac}
use Rattle.mesh_base.specs.declared.client.Entry.{Entry}
use Rattle.mesh_model.specs.declared.ending.LimitName.{LimitName}
use Rattle.mesh_model.specs.declared.route.Beats.{Beats}
use Rattle.mesh_model.specs.Acts.OwnContainers.{own_containers}
use Rattle.mesh_model.specs.Acts.Packing.{table_told}
use Rattle.mesh_model.specs.declared.table_row.LocalRow.{LocalRow}
use Rattle.mesh_model.specs.Acts.BridgeRows.{round_acts}
use Rattle.mesh_model.specs.declared.act.Act.{Act}
use Rattle.mesh_model.specs.Clients.Lans.{Bridge}
use Rattle.mesh_model.specs.Acts.Rows.{alias_acts, alias_event, commit_acts, elp_acts, message_acts, reboot_acts, tick_acts}
use Rattle.mesh_model.specs.Clients.Limits.{clients_limit}
use Rattle.mesh_model.specs.Clients.Mentions.{Mention}
use Rattle.mesh_model.specs.Clients.Settings.{Settings}
use Rattle.mesh_model.specs.Clients.Present.{present_clients}
use Rattle.mesh_model.specs.Commits.Aliases.{last_alias}
use Rattle.mesh_model.specs.Commits.Announcements.{announced_changes, announcement, carried_changes, carrying_messages, record_of_change}
use Rattle.mesh_model.specs.Commits.History.{History, after_tick, with_message, committed, is_commit_tick, last_changes, present_table, restarted, with_commit}
use Rattle.mesh_model.specs.Commits.Versions.{last_commit, same_table}
use Rattle.mesh_model.specs.Knowledge.Known.{Knowledge}
use Rattle.mesh_model.specs.Knowledge.Offers.{choice_by}
use Rattle.mesh_model.specs.Knowledge.Steps as steps
use Rattle.mesh_model.specs.Packets.Containers.{containers_spelling}
use Rattle.mesh_model.specs.Packets.Numbers.{ogm_diff_flag}
use Rattle.mesh_model.specs.Routes.Queries.{Queries}
use Rattle.mesh_model.specs.Routes.RouteLog.{RouteLog, OwnTick}
use Rattle.node_tables.proofs.WayLemmas.{entry_sums_few}
use Rattle.node_ground.specs.declared.knowledge.NodeKnowledge.{NodeKnowledge}
use Rattle.node_ground.specs.declared.failure.NodeErr.{NodeErr}
use Rattle.node_ground.specs.KnowledgeStands.{KnowledgeStands}
use Rattle.node_ground.specs.Puts.{Puts, TakesAll}
use Rattle.node_ground.proofs.PutsLemmas.{puts_behind}
use Rattle.node_ground.proofs.StandsLemmas.{with_algo}
use Rattle.tt_global.specs.Kept.{stamp_in}
use Rattle.tt_local.specs.Announcing.{IsAnnouncement}
use Rattle.tt_local.specs.Journal.{new_number}
use Rattle.tt_local.specs.Locals.{LocalsStand, LocalsView}
use Rattle.tt_table.specs.Sums.{named_sums}
use Rattle.tt_table.specs.declared.announcement.Announcement.{Announcement}

-- ---- the alias of a commit

one_number : (a b : ℕ) → Some a ≡ Some b → a ≡ b
one_number a b is = cc

same_length : (n : ℕ) → (n == n) ≡ true
same_length n = grind (arith, nat_tests)

longer : (n : ℕ) → (suc n == n) ≡ false
longer n = grind (arith, nat_tests)

-- where nothing is committed, no alias is told
pub no_alias : (me : Mac) (table : List Entry) (history : History) → None ≡ new_number table history → alias_acts me history.commits (committed table history).commits ≡ []
no_alias me table history none = by_table (same_table (last_commit history.commits).table table) (sym none)
  where
    by_table : (same : Bool) → (if same then None else Some (length history.commits)) ≡ None → alias_acts me history.commits (if same then history else with_commit table history).commits ≡ []
    by_table true is = ap (λ b. if b then [] else alias_event me (length history.commits) (last_alias history.commits)) (same_length (length history.commits))
    by_table false is = absurd cc

-- where a commit is new, its alias is told
pub alias_told : (me : Mac) (table : List Entry) (history : History) (number : ℕ) → Some number ≡ new_number table history
    → alias_event me number (last_alias (committed table history).commits) ≡ alias_acts me history.commits (committed table history).commits
alias_told me table history number some = by_table (same_table (last_commit history.commits).table table) (sym some)
  where
    by_table : (same : Bool) → (if same then None else Some (length history.commits)) ≡ Some number
        → alias_event me number (last_alias (if same then history else with_commit table history).commits) ≡ alias_acts me history.commits (if same then history else with_commit table history).commits
    by_table true is = absurd cc
    by_table false is =
        let all : number ≡ length history.commits = sym (one_number (length history.commits) number is) in
        ap (λ n. alias_event me n (last_alias (with_commit table history).commits)) all
        ∙ sym (ap (λ b. if b then [] else alias_event me (length history.commits) (last_alias (with_commit table history).commits)) (longer (length history.commits)))

-- it is the last commit
pub is_last : (table : List Entry) (history : History) (number : ℕ) → Some number ≡ new_number table history → number + 1 ≡ length (committed table history).commits
is_last table history number some = by_table (same_table (last_commit history.commits).table table) (sym some)
  where
    by_table : (same : Bool) → (if same then None else Some (length history.commits)) ≡ Some number → number + 1 ≡ length (if same then history else with_commit table history).commits
    by_table true is = absurd cc
    by_table false is =
        let all : number ≡ length history.commits = sym (one_number (length history.commits) number is) in
        omega (arith, all)

-- so is the first commit of a reboot, whose alias is told
pub reboot_told : (me : Mac) (history : History) (number : ℕ) → number ≡ length history.commits → alias_event me number (last_alias (restarted history).commits) ≡ reboot_acts me history
reboot_told me history number all =
    ap (λ n. alias_event me n (last_alias (restarted history).commits)) all
    ∙ sym (ap (λ b. if b then [] else alias_event me (length history.commits) (last_alias (restarted history).commits)) (longer (length history.commits)))

-- ---- an announcement

-- what is announced is what the history tells
pub announced_is : (history : History) (told : Announcement) → IsAnnouncement history told → table_told ogm_diff_flag (stamp_in told) told.changes ≡ announcement history
announced_is history told is = λ i. record { flags = ogm_diff_flag; ttvn = is.byte i; vlans = is.sums i; changes = map record_of_change (is.changes i) }

few_carried : (history : History) → length (announced_changes history) ≤ carried_changes
few_carried history = by_tests (nat_lt history.sent carrying_messages && nat_le (length (last_changes history)) carried_changes) refl
  where
    by_tests : (b : Bool) → (nat_lt history.sent carrying_messages && nat_le (length (last_changes history)) carried_changes) ≡ b
        → length (if b then last_changes history else []) ≤ carried_changes
    by_tests true is = leb-true (length (last_changes history)) carried_changes (and_parts _ _ is).1
    by_tests false is = omega arith

-- what is announced of few clients fits a packet
pub announced_fits : (history : History) (told : Announcement) → IsAnnouncement history told → length (last_commit history.commits).table ≤ clients_limit
    → 32 + 8 * length (named_sums told.sums) + 12 * length told.changes ≤ 65535
announced_fits history told is few =
    let sums : length (named_sums told.sums) ≤ length (last_commit history.commits).table = subst (λ sums. length sums ≤ length (last_commit history.commits).table) (sym is.sums) (entry_sums_few (last_commit history.commits).table) in
    let changes : length told.changes ≤ carried_changes = subst (λ changes. length changes ≤ carried_changes) (sym is.changes) (few_carried history) in
    omega (arith, few, sums, changes)

-- ---- the acts of a tick

-- an index of which 2 leaves nothing is that of an even tick
pub is_even : (index : ℕ) → index % 2 ≡ 0 → is_commit_tick index ≡ true
is_even index even = ap (λ n. n == 0) even

-- another is that of an odd one
pub is_odd : (index : ℕ) → (index % 2 ≡ 0 → ⊥) → is_commit_tick index ≡ false
is_odd index odd = grind (arith, nat_tests)

-- what each node puts at a tick
abbrev pub beat_acts : Queries → Mac → Settings → RouteLog → List Mention → History → ℕ → ℕ → List Act
beat_acts q me settings routes mentions history now index =
    elp_acts q routes index ++ (if is_commit_tick index then commit_acts q me settings routes index history (committed (present_table mentions now) history) else [])

-- a tick puts what each node puts, and then what a gateway does
pub tick_is : (q : Queries) (me : Mac) (settings : Settings) (routes : RouteLog) (mentions : List Mention) (history : History) (bridge : Bridge) (now index : ℕ)
    → beat_acts q me settings routes mentions history now index ++ round_acts (record { me = me; now = now }) bridge index ≡ tick_acts q me settings routes mentions history bridge now index
unfolding tick_acts
tick_is q me settings routes mentions history bridge now index =
    append_assoc (elp_acts q routes index) (if is_commit_tick index then commit_acts q me settings routes index history (committed (present_table mentions now) history) else []) (round_acts (record { me = me; now = now }) bridge index)

-- a tick whose index is that of an even one, or of an odd one
tick_by : (q : Queries) (me : Mac) (settings : Settings) (routes : RouteLog) (mentions : List Mention) (history : History) (now index : ℕ) (even : Bool) → is_commit_tick index ≡ even
    → elp_acts q routes index ++ (if even then commit_acts q me settings routes index history (committed (present_table mentions now) history) else []) ≡ beat_acts q me settings routes mentions history now index
tick_by q me settings routes mentions history now index even is =
    sym (ap (λ b. elp_acts q routes index ++ (if b then commit_acts q me settings routes index history (committed (present_table mentions now) history) else [])) is)

-- an even tick tells of its commit's alias behind its ELP, and then announces
even_acts : (q : Queries) (me : Mac) (settings : Settings) (routes : RouteLog) (mentions : List Mention) (history : History) (now index : ℕ) → index % 2 ≡ 0
    → elp_acts q routes index ++ commit_acts q me settings routes index history (committed (present_table mentions now) history) ≡ beat_acts q me settings routes mentions history now index
even_acts q me settings routes mentions history now index even = tick_by q me settings routes mentions history now index true (is_even index even)

-- an odd tick puts its ELP alone
pub odd_acts : (q : Queries) (me : Mac) (settings : Settings) (routes : RouteLog) (mentions : List Mention) (history : History) (now index : ℕ) → (index % 2 ≡ 0 → ⊥)
    → elp_acts q routes index ++ [] ≡ beat_acts q me settings routes mentions history now index
odd_acts q me settings routes mentions history now index odd = tick_by q me settings routes mentions history now index false (is_odd index odd)

-- the table that is present at a moment is no longer than the clients that are present
pub committed_few : (mentions : List Mention) (history : History) (now : ℕ) → length (present_clients mentions now) ≤ clients_limit → length (last_commit history.commits).table ≤ clients_limit
    → length (last_commit (committed (present_table mentions now) history).commits).table ≤ clients_limit
committed_few mentions history now few before = by_table (same_table (last_commit history.commits).table (present_table mentions now))
  where
    by_table : (same : Bool) → length (last_commit (if same then history else with_commit (present_table mentions now) history).commits).table ≤ clients_limit
    by_table true = before
    by_table false =
        let long : length (present_table mentions now) ≡ length (present_clients mentions now) = length-map (present_clients mentions now) (λ (row : LocalRow). row.entry) in
        omega (arith, few, long)

-- ---- what is known after a tick

-- once the algorithm was given a tick
pub ticked : {A : Type 0} (stands : A → Mac → RouteLog → Type 0) (kept : NodeKnowledge A) (algo : A) (me : Mac) (now index : ℕ) (known : Knowledge) → KnowledgeStands stands kept me known
    → stands algo me (OwnTick now index ∷ known.routes) → KnowledgeStands stands (record kept { algo = algo }) me (record known { routes = OwnTick now index ∷ known.routes })
ticked stands kept algo me now index known is noted = with_algo stands kept me known is algo (OwnTick now index ∷ known.routes) noted

-- what is known after a tick whose index is that of an even one, or of an odd one
abbrev known_by : Queries → ℕ → ℕ → Knowledge → Bool → Knowledge
known_by q now index known even =
    let heard : Knowledge = record known { routes = OwnTick now index ∷ known.routes } in
    if even then record heard { services = record heard.services { choice = choice_by heard.services.settings.gateway q heard now } } else heard

-- an odd tick chooses no gateway
pub odd_known : {A : Type 0} (stands : A → Mac → RouteLog → Type 0) (kept : NodeKnowledge A) (q : Queries) (me : Mac) (now index : ℕ) (known : Knowledge)
    → KnowledgeStands stands kept me (record known { routes = OwnTick now index ∷ known.routes }) → (index % 2 ≡ 0 → ⊥) → KnowledgeStands stands kept me (steps.before_round q now index known)
odd_known stands kept q me now index known is odd = subst (λ even. KnowledgeStands stands kept me (known_by q now index known even)) (sym (is_odd index odd)) is

-- an even one chooses by what is then known
pub even_known : {A : Type 0} (stands : A → Mac → RouteLog → Type 0) (kept : NodeKnowledge A) (q : Queries) (me : Mac) (now index : ℕ) (known : Knowledge)
    → KnowledgeStands stands kept me (known_by q now index known true) → index % 2 ≡ 0 → KnowledgeStands stands kept me (steps.before_round q now index known)
even_known stands kept q me now index known is even = subst (λ b. KnowledgeStands stands kept me (known_by q now index known b)) (sym (is_even index even)) is

-- ---- clients at a later moment

-- what stands from a moment on stands from each later one on
pub stands_later : (view : LocalsView) (mentions : List Mention) (history : History) (since now : ℕ) → LocalsStand view mentions history since → since ≤ now
    → LocalsStand view mentions history now
stands_later view mentions history since now stands late = record {
  clients = record {
    sighted = λ key at later. stands.clients.sighted key at (omega (arith, late, later));
    joined = stands.clients.joined;
    ordered = stands.clients.ordered;
  };
  journal = stands.journal;
}

-- an odd tick commits nothing
pub odd_stands : (view : LocalsView) (mentions : List Mention) (history : History) (since now index : ℕ) → LocalsStand view mentions history since → since ≤ now
    → (index % 2 ≡ 0 → ⊥) → LocalsStand view mentions (after_tick index (present_table mentions now) history) now
odd_stands view mentions history since now index stands late odd =
    subst (λ even. LocalsStand view mentions (if even then with_message (committed (present_table mentions now) history) else history) now) (sym (is_odd index odd))
    (stands_later view mentions history since now stands late)

module _ {P : Type 0} (takes : P → Act → P → Type 0) (same : P → P → Type 0) (over : P → Act → Option LimitName) where
  -- an even tick puts its ELP, and then what its commit tells by the settings that are seen
  pub even_puts : (q : Queries) (me : Mac) (seen settings : Settings) (routes : RouteLog) (mentions : List Mention) (history : History) (now index : ℕ) (beats : Beats) (old mid new : P) (result : Result Unit NodeErr)
      → seen ≡ settings → beats ≡ q.beats routes index → index % 2 ≡ 0 → TakesAll takes over old (message_acts beats.elp []) mid
      → (let after : History = committed (present_table mentions now) history in
      Puts takes same over mid (alias_acts me history.commits after.commits ++ message_acts beats.ogm (containers_spelling (own_containers seen (announcement after)))) result new)
      → Puts takes same over old (beat_acts q me settings routes mentions history now index) result new
  even_puts q me seen settings routes mentions history now index beats old mid new result seen_is beats_are even all puts =
      let after : History = committed (present_table mentions now) history in
      let elp = subst (λ (b : Beats). TakesAll takes over old (message_acts b.elp []) mid) beats_are all in
      let own = subst (λ s. Puts takes same over mid (commit_acts q me s routes index history after) result new) seen_is
      (subst (λ (b : Beats). Puts takes same over mid (alias_acts me history.commits after.commits ++ message_acts b.ogm (containers_spelling (own_containers seen (announcement after)))) result new) beats_are puts) in
      subst (λ acts. Puts takes same over old acts result new) (even_acts q me settings routes mentions history now index even)
      (puts_behind takes same over old mid new (elp_acts q routes index) (commit_acts q me settings routes index history after) result elp own)
