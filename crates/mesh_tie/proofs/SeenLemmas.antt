-- An event tells of an alias exactly where a commit has it, so while none told of one, there is none.
use Rattle.std.proofs.Common.{◌≡◌, ◌≢◌, ◌-◌, ◌⊎◌, ◌↔◌, inl, inr, ◌&&◌, ◌==◌, nat_lt, drop, ℕ, suc, Bool, true, false, cond, not, List, [], ◌∷◌, ◌++◌, length, slice_get, Option, Some, None, is_none, Ok, refl, sym, ap, subst, ◌∙◌, arith, map}
use Rattle.std.specs.Option.{option_or}
use Rattle.std.proofs.lemmas.Bool.{and_parts, eq-eqb, false≢true, ltb-false, ltb-true, true≢false}
use Rattle.mesh_base.specs.declared.address.Mac.{Mac}
use Rattle.mesh_base.specs.declared.client.Entry.{Entry}
use Rattle.mesh_base.specs.declared.event.Event.{Event}
use Rattle.mesh_base.specs.declared.event.Event.TheVariants.{Alias}
use Rattle.mesh_model.specs.declared.act.Act.{Act}
use Rattle.mesh_model.specs.declared.act.Act.TheVariants.{Print}
use Rattle.mesh_model.specs.Acts.Choosing.{cutter_by, whole_acts}
use Rattle.mesh_model.specs.Clients.Lans.{bridge}
use Rattle.mesh_model.specs.Knowledge.Steps.{before_telling, knowledge, table_behind}
use Rattle.mesh_model.specs.Net.Sending.{put_event}
use Rattle.mesh_model.specs.Clients.Log.{Given, Tick, LinkFrame, Log, LogEntry, LanFrame, Line, line_reboots}
use Rattle.mesh_model.specs.Clients.Mentions.{mentions}
use Rattle.mesh_model.specs.Commits.Aliases.{alias_before, are_aliases, last_alias}
use Rattle.mesh_model.specs.Commits.History.{commits, history, next_history, restarted}
use Rattle.mesh_model.specs.Commits.Versions.{commit_numbered, first_commit, same_table}
use Rattle.mesh_model.specs.Net.Due.{ticks_in}
use Rattle.mesh_model.specs.Net.Inputs.{entry_of, given_to, noted_at}
use Rattle.mesh_model.specs.Net.Limits.{scenario_setup}
use Rattle.mesh_model.specs.Net.Mesh.{NodeLog, Mesh, begun_mesh}
use Rattle.mesh_model.specs.Net.Next.{Has}
use Rattle.mesh_model.specs.Routes.Queries.{Queries}
use Rattle.mesh_model.specs.Tables.Changes.{same_entry}
use Rattle.mesh_model.specs.Tables.Differences.{first_difference}
use Rattle.mesh_model.specs.Tables.Sums.{checksums, sum_at, sums_of}
use Rattle.mesh_model.specs.Tables.Versions.{Version}
use Rattle.mesh_laws.specs.Machine.Agreement.{HasNoAlias}
use Rattle.mesh_laws.specs.Machine.World.{IsCommit}
use Rattle.mesh_laws.proofs.AnnouncedSums.{announces_checksums}
use Rattle.mesh_laws.proofs.DifferenceLemmas.{finds_each_difference}
use Rattle.mesh_laws.proofs.KeyTables.{equal_entries}
use Rattle.mesh_laws.proofs.MachineInvariant.{newest_or_older}
use Rattle.mesh_laws.proofs.Schedule.Members.{has_either, has_left}
use Rattle.mesh_tie.specs.AliasesSeen.{AliasesAreSeen, AliasesAreTold, HasAlias}
use Rattle.mesh_tie.specs.Originators.{commits_of, log_of}
use Rattle.mesh_tie.specs.Steps.{IsReachable, Steps, begins, frame_comes, goes_on, lan_comes, lan_joins, line_gives, link_joins, node_joins, node_ticks, put_comes, put_reaches, time_passes, bridged_event, with_lan_frame, routes_told}
use Rattle.mesh_tie.proofs.AliasRows.{AreQuiet, Gains, frame_quiet, gains_cut, gains_none, gains_one, lan_quiet, line_gains, quiet_none, ticks_gain}
use Rattle.mesh_tie.proofs.CutActs.{none_passed}
use Rattle.mesh_tie.proofs.LogLemmas.{AreDistinct, log_found, log_itself, log_other}
use Rattle.mesh_tie.proofs.MeshSteps.{log_joined}
use Rattle.mesh_tie.proofs.NodeLists.{Renewed, another, got_front, itself, no_length, renewed}
use Rattle.mesh_tie.proofs.Sayable.{one_or_two}
use Rattle.mesh_tie.proofs.SentLemmas.{HasGiven, IsOfActs, given_is}
use Rattle.mesh_tie.proofs.RouteEvents.{no_route_event}
use Rattle.mesh_model.specs.Net.Watching.{route_event}
use Rattle.mesh_model.specs.declared.route_line.RouteLine.{RouteLine}

-- ---- commits that can be taken for one another
from_same_table : (a b : List Entry) → same_table a b ≡ true → a ≡ b
from_same_table [] [] is = refl
from_same_table [] (second ∷ others) is = absurd (false≢true is)
from_same_table (first ∷ rest) [] is = absurd (false≢true is)
from_same_table (first ∷ rest) (second ∷ others) is =
    let parts = and_parts (same_entry first second) (same_table rest others) is in
    ap (λ e. e ∷ rest) (equal_entries first second parts.0) ∙ ap (λ es. second ∷ es) (from_same_table rest others parts.1)

no_aliases : (one other : Version) → are_aliases one other ≡ false → one.byte ≡ other.byte → checksums one.table ≡ checksums other.table → one.table ≡ other.table
no_aliases one other none bytes sums = go (same_table one.table other.table) refl
  where
    sums_same : sum_at (sums_of one.table) ≡ sum_at (sums_of other.table)
    sums_same = announces_checksums one.table ∙ sums ∙ sym (announces_checksums other.table)

    no_difference : is_none (first_difference (sums_of one.table) (sums_of other.table)) ≡ true
    no_difference = ap is_none ((finds_each_difference (sums_of one.table) (sums_of other.table)).1 sums_same)

    go : (b : Bool) → same_table one.table other.table ≡ b → one.table ≡ other.table
    go true is = from_same_table one.table other.table is
    go false is =
        let all : are_aliases one other ≡ true =
        ap (λ b. b && (is_none (first_difference (sums_of one.table) (sums_of other.table)) && not (same_table one.table other.table))) (eq-eqb one.byte other.byte bytes)
        ∙ ap (λ b. b && not (same_table one.table other.table)) no_difference ∙ ap not is in
        absurd (true≢false (sym all ∙ none))

or_none : (o p : Option ℕ) → option_or o p ≡ None → (o ≡ None) × (p ≡ None)
or_none None p is = (refl, is)
or_none (Some n) p is = cc

if_none : (b : Bool) (n : ℕ) → cond b (Some n) None ≡ None → b ≡ false
if_none true n is = cc
if_none false n is = refl

none_before : (w : Version) (older : List Version) → alias_before w older ≡ None → (n : ℕ) (c : Version) → commit_numbered n older ≡ Some c → are_aliases w c ≡ false
none_before w [] none = λ n c is. cc
none_before w (before ∷ older) none =
    let parts = or_none (alias_before w older) (cond (are_aliases w before) (Some (length older)) None) none in
    newest_or_older (λ c. are_aliases w c ≡ false) before older (if_none (are_aliases w before) (length older) parts.1) (none_before w older parts.0)

-- a commit is the newest or an older one
split_commit : (w : Version) (older : List Version) (one : Version) → IsCommit (w ∷ older) one → (w ≡ one) ⊎ IsCommit older one
split_commit w older one is = go (is.0 == length older) is.1
  where
    go : (b : Bool) → cond b (Some w) (commit_numbered is.0 older) ≡ Some one → (w ≡ one) ⊎ IsCommit older one
    go true e = inl (let same : w ≡ one = cc in same)
    go false e = inr (is.0, e)

none_more : (w : Version) (older : List Version) → HasNoAlias older → ((n : ℕ) (c : Version) → commit_numbered n older ≡ Some c → are_aliases w c ≡ false) → HasNoAlias (w ∷ older)
none_more w older none new one other a b bytes sums = go (split_commit w older one a) (split_commit w older other b)
  where
    go : (w ≡ one) ⊎ IsCommit older one → (w ≡ other) ⊎ IsCommit older other → one.table ≡ other.table
    go (inl p) (inl q) = ap (λ (v : Version). v.table) (sym p ∙ q)
    go (inl p) (inr q) = no_aliases one other (subst (λ v. are_aliases v other ≡ false) p (new q.0 other q.1)) bytes sums
    go (inr p) (inl q) = sym (no_aliases other one (subst (λ v. are_aliases v one ≡ false) q (new p.0 one p.1)) (sym bytes) (sym sums))
    go (inr p) (inr q) = none one other p q bytes sums

-- ---- meshes
-- what is no tick and no reboot
abbrev pub CommitsNothing : Given → Type 0
CommitsNothing (Tick index) = ⊥
CommitsNothing (LinkFrame number from throughput bytes) = Unit {0}
CommitsNothing (LanFrame bytes) = Unit {0}
CommitsNothing (Line line) = line_reboots line ≡ false

-- such an input commits nothing
pub calm_commits : (me : Mac) (log : Log) (entry : LogEntry) → CommitsNothing entry.given → commits me (entry ∷ log) ≡ commits me log
calm_commits me log entry calm = go entry.given calm
  where
    go : (given : Given) → CommitsNothing given → (next_history (mentions me log) (history me log) entry.moment given).commits ≡ commits me log
    go (Tick index) calm = absurd calm
    go (LinkFrame number from throughput bytes) calm = refl
    go (LanFrame bytes) calm = refl
    go (Line line) calm = ap (λ b. (cond b (restarted (history me log)) (history me log)).commits) calm

-- ---- events tell of them
-- an event tells of an alias exactly where these commits have it
abbrev pub AreTold : Mac → Mesh → List Version → Type 0
AreTold orig mesh made = (number earlier : ℕ) → Has mesh.events (Alias orig number earlier) ↔ HasAlias made number earlier

has_old : (version : Version) (older : List Version) (number earlier : ℕ) → HasAlias older number earlier → HasAlias (version ∷ older) number earlier
has_old version older number earlier h = (let low = h.0 in omega (arith, low), ap (λ n. last_alias (drop n (version ∷ older))) (let low = h.0 in let same : suc (length older) - suc number ≡ suc (length older - suc number) = omega (arith, low) in same) ∙ h.1)

has_new : (version : Version) (older : List Version) (earlier : ℕ) → alias_before version older ≡ Some earlier → HasAlias (version ∷ older) (length older) earlier
has_new version older earlier is = (omega arith, ap (λ n. last_alias (drop n (version ∷ older))) (let none : suc (length older) - suc (length older) ≡ 0 = omega arith in none) ∙ is)

-- one that has more commits has the alias of the newest, or had it before
data OldOrNew (version : Version) (older : List Version) (number earlier : ℕ) : Type 0 where
  was_old : HasAlias older number earlier → OldOrNew version older number earlier
  is_new : number ≡ length older → alias_before version older ≡ Some earlier → OldOrNew version older number earlier

old_or_new : (version : Version) (older : List Version) (number earlier : ℕ) → HasAlias (version ∷ older) number earlier → OldOrNew version older number earlier
old_or_new version older number earlier h = go (nat_lt number (length older)) refl
  where
    go : (b : Bool) → nat_lt number (length older) ≡ b → OldOrNew version older number earlier
    go true is =
        let low = ltb-true number (length older) is in
        was_old (low, ap (λ n. last_alias (drop n (version ∷ older))) (let same : suc (length older - suc number) ≡ suc (length older) - suc number = omega (arith, low) in same) ∙ h.1)
    go false is =
        let high = ltb-false number (length older) is in
        let there = h.0 in
        let last : number ≡ length older = omega (arith, high, there) in
        is_new last (ap (λ n. last_alias (drop n (version ∷ older))) (let none : 0 ≡ suc (length older) - suc number = omega (arith, last) in none) ∙ h.1)

-- what acts tell of is of their node
own_alias : (me orig : Mac) (before made : List Version) (acts : List Act) (number earlier : ℕ) → Gains me before made acts → Has acts (Print (Alias orig number earlier)) → orig ≡ me
own_alias me orig before _ _ number earlier (gains_none acts quiet) printed = absurd (quiet_none acts orig number earlier quiet printed)
own_alias me orig before _ _ number earlier (gains_one version acts only each) printed = (only orig number earlier printed).0

-- what an input leaves, by what its node commits and its acts tell
given_told : (queries : Mac → Queries) (orig : Mac) (mesh after : Mesh) (place now root : ℕ) (node : NodeLog) (given : Given) → AreDistinct mesh.nodes → slice_get mesh.nodes place ≡ Some node
    → given_to (scenario_setup queries) place now root given mesh ≡ Ok after
    → Gains node.mac (commits node.mac node.log) (commits node.mac (entry_of (scenario_setup queries) node now given ∷ node.log)) (entry_of (scenario_setup queries) node now given).acts
    → AreTold orig mesh (commits_of orig mesh) → AreTold orig after (commits_of orig after)
given_told queries orig mesh after place now root node given distinct found is gains told = go (one_or_two node.mac orig)
  where
    entry : LogEntry
    entry = entry_of (scenario_setup queries) node now given

    has : HasGiven (scenario_setup queries) place now root node given mesh after
    has = given_is (scenario_setup queries) place now root node given mesh after found is

    -- an alias that was told of was told before, or by these acts
    came : (number earlier : ℕ) → Has after.events (Alias orig number earlier) → Has mesh.events (Alias orig number earlier) ⊎ Has (entry_of (scenario_setup queries) node now given).acts (Print (Alias orig number earlier))
    came number earlier is = new (has_either mesh.events has.more_events (Alias orig number earlier) (subst (λ es. Has es (Alias orig number earlier)) has.events is))
      where
        new : Has mesh.events (Alias orig number earlier) ⊎ Has has.more_events (Alias orig number earlier) → Has mesh.events (Alias orig number earlier) ⊎ Has (entry_of (scenario_setup queries) node now given).acts (Print (Alias orig number earlier))
        new (inl old) = inl old
        new (inr more) = by_act (has.came (Alias orig number earlier) more)
          where
            by_act : IsOfActs (entry_of (scenario_setup queries) node now given).acts node.mac now (Alias orig number earlier)
                → Has mesh.events (Alias orig number earlier) ⊎ Has (entry_of (scenario_setup queries) node now given).acts (Print (Alias orig number earlier))
            by_act (inl printed) = inr printed
            by_act (inr (inl sent)) = absurd (let e = sent.is in cc)
            by_act (inr (inr put)) = absurd (let e = put.is in cc)

    -- the commits of another are as before, and nothing of it was told
    other_told : (made : List Version) → Gains node.mac (commits node.mac node.log) made (entry_of (scenario_setup queries) node now given).acts → node.mac ≢ orig → AreTold orig after (commits_of orig mesh)
    other_told made g other number earlier = (
      λ is. old (came number earlier is),
      λ is. has.kept (Alias orig number earlier) ((told number earlier).1 is),
    )
      where
        old : Has mesh.events (Alias orig number earlier) ⊎ Has (entry_of (scenario_setup queries) node now given).acts (Print (Alias orig number earlier)) → HasAlias (commits_of orig mesh) number earlier
        old (inl was) = (told number earlier).0 was
        old (inr printed) = absurd (other (sym (own_alias node.mac orig (commits node.mac node.log) made (entry_of (scenario_setup queries) node now given).acts number earlier g printed)))

    -- its own commits gained those that were told
    own_told : (before made : List Version) (acts : List Act) → acts ≡ (entry_of (scenario_setup queries) node now given).acts → Gains orig before made acts → AreTold orig mesh before → AreTold orig after made
    own_told before _ acts same (gains_none _ quiet) told number earlier = (λ is. old (came number earlier is), λ is. has.kept (Alias orig number earlier) ((told number earlier).1 is))
      where
        old : Has mesh.events (Alias orig number earlier) ⊎ Has (entry_of (scenario_setup queries) node now given).acts (Print (Alias orig number earlier)) → HasAlias before number earlier
        old (inl was) = (told number earlier).0 was
        old (inr printed) = absurd (quiet_none acts orig number earlier quiet (subst (λ list. Has list (Print (Alias orig number earlier))) (sym same) printed))
    own_told before _ acts same (gains_one version _ only each) told number earlier = (λ is. either (came number earlier is), λ is. tells (old_or_new version before number earlier is))
      where
        either : Has mesh.events (Alias orig number earlier) ⊎ Has (entry_of (scenario_setup queries) node now given).acts (Print (Alias orig number earlier)) → HasAlias (version ∷ before) number earlier
        either (inl was) = has_old version before number earlier ((told number earlier).0 was)
        either (inr printed) =
            let new = only orig number earlier (subst (λ list. Has list (Print (Alias orig number earlier))) (sym same) printed) in
            subst (λ n. HasAlias (version ∷ before) n earlier) (sym new.1) (has_new version before earlier new.2)

        tells : OldOrNew version before number earlier → Has after.events (Alias orig number earlier)
        tells (was_old old) = has.kept (Alias orig number earlier) ((told number earlier).1 old)
        tells (is_new last alias) = has.printed (Alias orig number earlier)
            (subst (λ n. Has (entry_of (scenario_setup queries) node now given).acts (Print (Alias orig n earlier))) (sym last) (subst (λ list. Has list (Print (Alias orig (length before) earlier))) same (each earlier alias)))

    go : (node.mac ≡ orig) ⊎ (node.mac ≢ orig) → AreTold orig after (commits_of orig after)
    go (inl same) = subst (λ ns. AreTold orig after (commits orig (log_of orig ns))) (sym has.nodes) (subst (λ l. AreTold orig after (commits orig l)) (sym (log_itself orig mesh.nodes place node entry distinct found same))
        (own_told (commits orig node.log) (commits orig (entry ∷ node.log)) entry.acts refl (subst (λ m. Gains m (commits m node.log) (commits m (entry ∷ node.log)) entry.acts) same gains)
        (subst (λ l. AreTold orig mesh (commits orig l)) (log_found orig mesh.nodes place node distinct found same) told)))
    go (inr other) = subst (λ ns. AreTold orig after (commits orig (log_of orig ns))) (sym has.nodes) (subst (λ l. AreTold orig after (commits orig l)) (sym (log_other orig mesh.nodes place node entry found other))
        (other_told (commits node.mac (entry ∷ node.log)) gains other))

calm_gains : (queries : Mac → Queries) (node : NodeLog) (now : ℕ) (given : Given) → CommitsNothing given → AreQuiet (entry_of (scenario_setup queries) node now given).acts
    → Gains node.mac (commits node.mac node.log) (commits node.mac (entry_of (scenario_setup queries) node now given ∷ node.log)) (entry_of (scenario_setup queries) node now given).acts
calm_gains queries node now given calm quiet =
    let entry = entry_of (scenario_setup queries) node now given in
    subst (λ made. Gains node.mac (commits node.mac node.log) made entry.acts) (sym (calm_commits node.mac node.log entry calm)) (gains_none entry.acts quiet)

-- an event beside that tells of no alias
told_beside : (orig : Mac) (mesh : Mesh) (event : Event) (events : List Event) (made : List Version) → events ≡ mesh.events ++ event ∷ [] → ((number earlier : ℕ) → Alias orig number earlier ≡ event → ⊥) → AreTold orig mesh made
    → (number earlier : ℕ) → Has events (Alias orig number earlier) ↔ HasAlias made number earlier
told_beside orig mesh event events made same other told number earlier = (
  λ has. go (has_either mesh.events (event ∷ []) (Alias orig number earlier) (subst (λ es. Has es (Alias orig number earlier)) same has)),
  λ is. subst (λ es. Has es (Alias orig number earlier)) (sym same) (has_left mesh.events (event ∷ []) (Alias orig number earlier) ((told number earlier).1 is)),
)
  where
    go : Has mesh.events (Alias orig number earlier) ⊎ Has (event ∷ []) (Alias orig number earlier) → HasAlias made number earlier
    go (inl old) = (told number earlier).0 old
    go (inr (inl is)) = absurd (other number earlier is)
    go (inr (inr none)) = absurd none

-- events of lines of routes tell of no alias
routes_beside : (orig : Mac) (mesh : Mesh) (lines : List RouteLine) (made : List Version) → AreTold orig mesh made
    → (number earlier : ℕ) → Has (mesh.events ++ map route_event lines) (Alias orig number earlier) ↔ HasAlias made number earlier
routes_beside orig mesh lines made told number earlier = (
  λ has. go (has_either mesh.events (map route_event lines) (Alias orig number earlier) has),
  λ is. has_left mesh.events (map route_event lines) (Alias orig number earlier) ((told number earlier).1 is),
)
  where
    go : Has mesh.events (Alias orig number earlier) ⊎ Has (map route_event lines) (Alias orig number earlier) → HasAlias made number earlier
    go (inl old) = (told number earlier).0 old
    go (inr new) = absurd (no_route_event lines (Alias orig number earlier) (λ line e. cc) new)

step_told : (queries : Mac → Queries) (mesh after : Mesh) → AreDistinct mesh.nodes → Steps queries mesh after → (orig : Mac) → AreTold orig mesh (commits_of orig mesh) → AreTold orig after (commits_of orig after)
step_told queries mesh _ distinct (node_joins _ node empty whole fresh) orig told = subst (λ l. AreTold orig mesh (commits orig l)) (sym (log_joined orig mesh.nodes node empty)) told
step_told queries mesh _ distinct (link_joins _ link) orig told = told
step_told queries mesh after distinct (line_gives _ _ place now node line found may of is) orig told =
    let whole = whole_acts (queries node.mac) node.mac node.log now (Line line) in
    given_told queries orig mesh after place now 0 node (Line line) distinct found is
    (gains_cut node.mac (commits node.mac node.log) (commits node.mac (entry_of (scenario_setup queries) node now (Line line) ∷ node.log)) (cutter_by (queries node.mac) node.mac node.log) whole
    (none_passed queries place now 0 node (Line line) mesh after found is) (line_gains (queries node.mac) node.mac node.log now line whole refl)) told
step_told queries mesh after distinct (node_ticks _ _ place now node found may is) orig told =
    let index = suc (ticks_in node.log) in
    let known = knowledge (queries node.mac) node.mac node.log in
    given_told queries orig mesh after place now index node (Tick index) distinct found is
    (gains_cut node.mac (commits node.mac node.log) (commits node.mac (entry_of (scenario_setup queries) node now (Tick index) ∷ node.log)) (cutter_by (queries node.mac) node.mac node.log)
    (whole_acts (queries node.mac) node.mac node.log now (Tick index)) (none_passed queries place now index node (Tick index) mesh after found is) (ticks_gain (queries node.mac) node.mac known.services.settings known.routes (mentions node.mac node.log) (history node.mac node.log) (bridge node.log) now index (before_telling (queries node.mac) node.mac now index (table_behind node.mac node.log now index) known))) told
step_told queries mesh after distinct (frame_comes _ _ place now number throughput from node frame found may sent whole is) orig told =
    let given = LinkFrame (suc number) from throughput frame.bytes in
    given_told queries orig mesh after place now frame.root node given distinct found is
    (calm_gains queries node now given tt (frame_quiet (queries node.mac) node.mac node.log now (suc number) from throughput frame.bytes)) told
step_told queries mesh _ distinct (lan_joins _ lan) orig told = told
step_told queries mesh _ distinct (put_comes _ put frame by is tells) orig told = told_beside orig mesh (put_event mesh put) (with_lan_frame put mesh).events (commits_of orig mesh) refl (λ number earlier e. cc) told
step_told queries mesh _ distinct (put_reaches _ number now put frame found carries) orig told = told_beside orig mesh (bridged_event now put frame) (mesh.events ++ bridged_event now put frame ∷ []) (commits_of orig mesh) refl (λ number earlier e. cc) told
step_told queries mesh after distinct (lan_comes _ _ place now number node put found may among is) orig told =
    given_told queries orig mesh after place now 0 node (LanFrame put.bytes) distinct found is
    (calm_gains queries node now (LanFrame put.bytes) tt (lan_quiet (queries node.mac) node.mac node.log now put.bytes)) told
step_told queries mesh _ distinct (time_passes _ happening) orig told = told
step_told queries mesh _ distinct (routes_told _ lines watch) orig told = routes_beside orig mesh lines (commits_of orig mesh) told

-- ---- nodes have distinct addresses
given_distinct : (queries : Mac → Queries) (mesh after : Mesh) (place now root : ℕ) (node : NodeLog) (given : Given) → AreDistinct mesh.nodes → slice_get mesh.nodes place ≡ Some node → given_to (scenario_setup queries) place now root given mesh ≡ Ok after → AreDistinct after.nodes
given_distinct queries mesh after place now root node given d found is at other n second got more same =
    let p = was at n (renewed place (entry_of (scenario_setup queries) node now given) mesh.nodes at n (at_after at n got)) in
    let r = was other second (renewed place (entry_of (scenario_setup queries) node now given) mesh.nodes other second (at_after other second more)) in
    d at other p.0 r.0 p.1 r.1 (sym p.2 ∙ same ∙ r.2)
  where
    at_after : (at : ℕ) (n : NodeLog) → slice_get after.nodes at ≡ Some n → slice_get (noted_at place (entry_of (scenario_setup queries) node now given) mesh.nodes) at ≡ Some n
    at_after at n got = subst (λ ns. slice_get ns at ≡ Some n) (given_is (scenario_setup queries) place now root node given mesh after found is).nodes got

    was : (at : ℕ) (n : NodeLog) → Renewed place (entry_of (scenario_setup queries) node now given) mesh.nodes at n → (before : NodeLog) × (slice_get mesh.nodes at ≡ Some before) × (n.mac ≡ before.mac)
    was at n (another d got) = (n, got, refl)
    was at n (itself before same got noted) = (before, got, ap (λ (x : NodeLog). x.mac) noted)

step_distinct : (queries : Mac → Queries) (mesh after : Mesh) → AreDistinct mesh.nodes → Steps queries mesh after → AreDistinct after.nodes
step_distinct queries mesh _ d (node_joins _ new empty whole fresh) = λ place other n second got more same. go place other n second got more same (got_front mesh.nodes new place n got) (got_front mesh.nodes new other second more)
  where
    go : (place other : ℕ) (n second : NodeLog) → slice_get (mesh.nodes ++ new ∷ []) place ≡ Some n → slice_get (mesh.nodes ++ new ∷ []) other ≡ Some second → n.mac ≡ second.mac
        → (slice_get mesh.nodes place ≡ Some n) ⊎ ((n ≡ new) × (slice_get mesh.nodes place ≡ None)) → (slice_get mesh.nodes other ≡ Some second) ⊎ ((second ≡ new) × (slice_get mesh.nodes other ≡ None)) → place ≡ other
    go place other n second got more same (inl old) (inl older) = d place other n second old older same
    go place other n second got more same (inl old) (inr is) = absurd (fresh place n old (same ∙ ap (λ (x : NodeLog). x.mac) is.0))
    go place other n second got more same (inr is) (inl old) = absurd (fresh other second old (sym same ∙ ap (λ (x : NodeLog). x.mac) is.0))
    go place other n second got more same (inr is) (inr also) = no_length mesh.nodes place other new (got ∙ ap Some is.0) is.1 (more ∙ ap Some also.0) also.1
step_distinct queries mesh _ d (link_joins _ link) = d
step_distinct queries mesh after d (line_gives _ _ place now node line found may of is) = given_distinct queries mesh after place now 0 node (Line line) d found is
step_distinct queries mesh after d (node_ticks _ _ place now node found may is) = given_distinct queries mesh after place now (suc (ticks_in node.log)) node (Tick (suc (ticks_in node.log))) d found is
step_distinct queries mesh after d (frame_comes _ _ place now number throughput from node frame found may sent whole is) =
    given_distinct queries mesh after place now frame.root node (LinkFrame (suc number) from throughput frame.bytes) d found is
step_distinct queries mesh _ d (lan_joins _ lan) = d
step_distinct queries mesh _ d (put_comes _ put frame by is tells) = d
step_distinct queries mesh _ d (put_reaches _ number now put frame found carries) = d
step_distinct queries mesh after d (lan_comes _ _ place now number node put found may among is) = given_distinct queries mesh after place now 0 node (LanFrame put.bytes) d found is
step_distinct queries mesh _ d (time_passes _ happening) = d
step_distinct queries mesh _ d (routes_told _ lines watch) = d

-- what holds of every mesh that is reached
pub record Tells (mesh : Mesh) : Type 0 where
  pub distinct : AreDistinct mesh.nodes
  pub told : (orig : Mac) → AreTold orig mesh (commits_of orig mesh)

first_told : (watch : Option (List RouteLine)) (orig : Mac) → AreTold orig (begun_mesh watch) (first_commit ∷ [])
first_told watch orig number earlier = (λ has. absurd has, λ is. absurd (none is))
  where
    none : HasAlias (first_commit ∷ []) number earlier → ⊥
    none h =
        let low = h.0 in
        let first : number ≡ 0 = omega (arith, low) in
        let alias : last_alias (first_commit ∷ []) ≡ Some earlier = ap (λ n. last_alias (drop n (first_commit ∷ []))) (let same : 0 ≡ 1 - suc number = omega (arith, first) in same) ∙ h.1 in
        cc

pub all_tell : (queries : Mac → Queries) (mesh : Mesh) → IsReachable queries mesh → Tells mesh
all_tell queries _ (begins watch) = record { distinct = λ place other n second got more same. cc; told = first_told watch }
all_tell queries _ (goes_on mesh after r s) =
    let before = all_tell queries mesh r in
    record { distinct = step_distinct queries mesh after before.distinct s; told = λ orig. step_told queries mesh after before.distinct s orig (before.told orig) }

pub aliases_are_told : AliasesAreTold
aliases_are_told queries mesh r orig = (all_tell queries mesh r).told orig

-- commits of which none has an alias have none
none_have : (made : List Version) → ((number earlier : ℕ) → HasAlias made number earlier → ⊥) → HasNoAlias made
none_have [] none = λ one other a b. absurd (let found = a.1 in cc)
none_have (version ∷ older) none = none_more version older (none_have older (λ number earlier h. none number earlier (has_old version older number earlier h))) (none_before version older (is_none_of (alias_before version older) (λ earlier is. none (length older) earlier (has_new version older earlier is))))
  where
    is_none_of : (o : Option ℕ) → ((n : ℕ) → o ≡ Some n → ⊥) → o ≡ None
    is_none_of None never = refl
    is_none_of (Some n) never = absurd (never n refl)

pub aliases_are_seen : AliasesAreSeen
aliases_are_seen queries mesh r orig none = none_have (commits_of orig mesh) (λ number earlier h. none number earlier ((aliases_are_told queries mesh r orig number earlier).1 h))
