-- The byte of a commit is one, and its table is short.
use Rattle.std.proofs.Common.{◌≡◌, ◌⊎◌, inl, inr, ◌≤◌, ◌<◌, ◌^◌, ℕ, Bool, true, false, cond, List, [], ◌∷◌, length, Option, Some, None, sym, subst, arith}
use Rattle.std.specs.Prelude.{◌==◌}
use Rattle.std.specs.List.{AllByRecursion}
use Rattle.mesh_base.specs.declared.address.Mac.{Mac}
use Rattle.mesh_base.specs.declared.client.Entry.{Entry}
use Rattle.mesh_model.specs.declared.line_form.Algorithm.{Algorithm}
use Rattle.mesh_model.specs.Clients.Log.{Given, Log, is_reboot, tick_of}
use Rattle.mesh_model.specs.Clients.Mentions.{Mention, mentions}
use Rattle.mesh_model.specs.Commits.History.{History, after_tick, after_ticking, commits, committed, history, is_commit_tick, next_history, present_table, restarted, with_commit, with_message}
use Rattle.mesh_model.specs.Commits.Versions.{commit_numbered, first_commit, last_commit, same_table}
use Rattle.mesh_model.specs.Net.Mesh.{Mesh}
use Rattle.mesh_model.specs.Routes.Algorithms.{queries_of}
use Rattle.mesh_model.specs.Tables.Versions.{Version}
use Rattle.mesh_laws.specs.Machine.World.{IsCommit}
use Rattle.mesh_tie.specs.Originators.{commits_of, log_of}
use Rattle.mesh_tie.specs.Steps.{IsReachable}
use Rattle.mesh_tie.proofs.FitLemmas.{commits_always_fit}
use Rattle.mesh_tie.proofs.LogLemmas.{log_found}
use Rattle.mesh_tie.proofs.ReachLemmas.{reached}
use Rattle.mesh_tie.proofs.VLemmas.{algorithms_keep}
use Rattle.mesh_lines.proofs.NodeNames.{IsAmong, among_or_none}

-- ---- bytes
abbrev AreSmall : List Version → Type 0
AreSmall = AllByRecursion (λ (version : Version). version.byte < 2 ^ 8)

committed_small : (table : List Entry) (h : History) → AreSmall h.commits → AreSmall (committed table h).commits
committed_small table h small = go (same_table (last_commit h.commits).table table)
  where
    go : (b : Bool) → AreSmall (cond b h (with_commit table h)).commits
    go true = small
    go false = (omega arith, small)

tick_small : (index : ℕ) (table : List Entry) (h : History) → AreSmall h.commits → AreSmall (after_tick index table h).commits
tick_small index table h small = go (is_commit_tick index)
  where
    go : (b : Bool) → AreSmall (cond b (with_message (committed table h)) h).commits
    go true = committed_small table h small
    go false = small

ticking_small : (older : List Mention) (h : History) (moment : ℕ) (o : Option ℕ) → AreSmall h.commits → AreSmall (after_ticking older h moment o).commits
ticking_small older h moment None small = small
ticking_small older h moment (Some index) small = tick_small index (present_table older moment) h small

next_small : (older : List Mention) (h : History) (moment : ℕ) (given : Given) → AreSmall h.commits → AreSmall (next_history older h moment given).commits
next_small older h moment given small = go (is_reboot given)
  where
    go : (b : Bool) → AreSmall (cond b (restarted h) (after_ticking older h moment (tick_of given))).commits
    go true = (omega arith, small)
    go false = ticking_small older h moment (tick_of given) small

commits_small : (me : Mac) (log : Log) → AreSmall (commits me log)
commits_small me [] = (omega arith, tt)
commits_small me (entry ∷ older) = next_small (mentions me older) (history me older) entry.moment entry.given (commits_small me older)

small_one : (all : List Version) (number : ℕ) (version : Version) → AreSmall all → commit_numbered number all ≡ Some version → version.byte < 2 ^ 8
small_one [] number version small is = cc
small_one (newest ∷ older) number version small is = go (number == length older) is (small_one older number version small.1)
  where
    go : (b : Bool) → cond b (Some newest) (commit_numbered number older) ≡ Some version → (commit_numbered number older ≡ Some version → version.byte < 2 ^ 8) → version.byte < 2 ^ 8
    go true e later = let same : newest ≡ version = cc in subst (λ (v : Version). v.byte < 2 ^ 8) same small.0
    go false e later = later e

pub byte_small : (orig : Mac) (mesh : Mesh) (version : Version) → IsCommit (commits_of orig mesh) version → version.byte < 2 ^ 8
byte_small orig mesh version is = small_one (commits_of orig mesh) is.0 version (commits_small orig (log_of orig mesh.nodes)) is.1

-- ---- tables
first_short : (number : ℕ) (version : Version) → commit_numbered number (first_commit ∷ []) ≡ Some version → length version.table ≤ 4096
first_short number version is = go (number == 0) is
  where
    go : (b : Bool) → cond b (Some first_commit) None ≡ Some version → length version.table ≤ 4096
    go true e = let same : first_commit ≡ version = cc in subst (λ (v : Version). length v.table ≤ 4096) same (omega arith)
    go false e = cc

pub table_short : (algorithm : Algorithm) (mesh : Mesh) → IsReachable (queries_of algorithm) mesh → (orig : Mac) (version : Version) → IsCommit (commits_of orig mesh) version → length version.table ≤ 4096
table_short algorithm mesh r orig version is = go (among_or_none orig mesh.nodes)
  where
    go : IsAmong mesh.nodes orig ⊎ (log_of orig mesh.nodes ≡ []) → length version.table ≤ 4096
    go (inl a) =
        let q = queries_of algorithm in
        let all = reached q (algorithms_keep algorithm) mesh r in
        let log_is = log_found orig mesh.nodes a.place a.node all.holds.orderly.distinct a.found a.mac_is in
        (commits_always_fit q (algorithms_keep algorithm) mesh r a.place a.node a.found version
        (subst (λ m. IsCommit (commits m a.node.log) version) (sym a.mac_is) (subst (λ log. IsCommit (commits orig log) version) log_is is))).few
    go (inr none) = let first = subst (λ log. IsCommit (commits orig log) version) none is in first_short first.0 version first.1
