-- The events of frames that were sent by table.
use Rattle.std.proofs.Common.{◌≡◌, ◌≢◌, ◌⊎◌, inl, inr, ℕ, zero, suc, Bool, true, false, nat_eq, List, [], ◌∷◌, ◌++◌, slice_get, Some, Ok, refl, sym, ap, subst, ◌∙◌, append-nil, map}
use Rattle.std.proofs.lemmas.Bool.{eq-eqb, eqb-true, true≢false}
use Rattle.mesh_base.specs.declared.address.Mac.{Mac}
use Rattle.mesh_base.specs.declared.event.Event.{Event}
use Rattle.mesh_base.specs.declared.event.Event.TheVariants.{Alias, FrameSent}
use Rattle.mesh_base.specs.declared.event.Reason.TheVariants.{Table}
use Rattle.mesh_model.specs.declared.act.Act.{Act}
use Rattle.mesh_model.specs.declared.act.Act.TheVariants.{Link, Print}
use Rattle.mesh_model.specs.declared.happening.Happening.{Happening}
use Rattle.mesh_model.specs.Clients.Log.{Given, Tick, LinkFrame, LanFrame, Log, LogEntry, Line, line_reboots}
use Rattle.mesh_model.specs.Commits.History.{commits}
use Rattle.mesh_model.specs.Net.Due.{ticks_in}
use Rattle.mesh_model.specs.Net.Inputs.{entry_of, given_to, noted_at, noting}
use Rattle.mesh_model.specs.Net.Lans.{with_events, with_lan}
use Rattle.mesh_model.specs.Net.Limits.{scenario_setup}
use Rattle.mesh_model.specs.Net.Mesh.{NodeLog, NetLink, Mesh}
use Rattle.mesh_model.specs.Net.Next.{Has}
use Rattle.mesh_model.specs.Net.Sending.{put_event}
use Rattle.mesh_model.specs.Routes.Queries.{Queries}
use Rattle.mesh_model.specs.Tables.Known.{TableCalls}
use Rattle.mesh_laws.specs.Machine.Agreement.{HasNoAlias}
use Rattle.mesh_laws.proofs.Schedule.Members.{has_left, has_right, one_some}
use Rattle.mesh_laws.proofs.Schedule.Steps.{get_front}
use Rattle.mesh_tie.specs.ByTable.{HadCome, IsSentByTable, IsSentInStep}
use Rattle.mesh_tie.specs.LinesByTable.{EventsByTableAreRight, SentRightly, ToldNoneOf}
use Rattle.mesh_tie.specs.Originators.{commits_of, log_of}
use Rattle.mesh_tie.specs.Steps.{IsReachable, Steps, begins, frame_comes, goes_on, lan_comes, lan_joins, line_gives, link_joins, node_joins, node_ticks, put_comes, put_reaches, time_passes, bridged_event, with_lan_frame, routes_told, with_told}
use Rattle.mesh_tie.specs.Tie.{CommitsFit}
use Rattle.mesh_tie.specs.TieLaws.{AllKeep}
use Rattle.mesh_tie.proofs.CommitLemmas.{Follows}
use Rattle.mesh_tie.proofs.FitLemmas.{commits_always_fit}
use Rattle.mesh_tie.proofs.LogLemmas.{Grows, grows_same}
use Rattle.mesh_tie.proofs.MeshSteps.{LogAfter, Reached, grows_after, log_after, log_joined}
use Rattle.mesh_tie.proofs.NodeLists.{got_noted}
use Rattle.mesh_tie.proofs.ReachLemmas.{reached}
use Rattle.mesh_tie.proofs.NameSteps.{AllName, EntryNames, act_of, frame_acts_name, lan_acts_name, line_acts_name, reboot_names, sent_grows, tick_names}
use Rattle.mesh_tie.proofs.NamesRows.{ActNames}
use Rattle.mesh_tie.proofs.Sayable.{one_or_two}
use Rattle.mesh_tie.proofs.SeenLemmas.{CommitsNothing, aliases_are_seen, calm_commits}
use Rattle.mesh_tie.proofs.SentLemmas.{HasGiven, IsOfActs, given_is}
use Rattle.mesh_tie.proofs.RouteEvents.{no_route_event}
use Rattle.mesh_model.specs.Net.Watching.{route_event}

-- ---- lists that are split
-- an item between two parts of a list of two lists is in the first or in the second
pub data Split {X : Type 0} (xs ys front : List X) (e : X) : Type 0 where
  in_first : (back : List X) → xs ≡ front ++ e ∷ back → Split xs ys front e
  in_second : (more back : List X) → front ≡ xs ++ more → ys ≡ more ++ e ∷ back → Split xs ys front e

head_is : {X : Type 0} (a b : X) (as_tail bs : List X) → a ∷ as_tail ≡ b ∷ bs → (a ≡ b) × (as_tail ≡ bs)
head_is a b xs ys e = (cc, cc)

pub split : {X : Type 0} (xs ys front : List X) (e : X) (back : List X) → xs ++ ys ≡ front ++ e ∷ back → Split xs ys front e
split [] ys front e back is = in_second front back refl is
split (x ∷ xs) ys [] e back is = in_first xs (ap (λ y. y ∷ xs) (head_is x e (xs ++ ys) back is).0)
split (x ∷ xs) ys (f ∷ front) e back is = go (split xs ys front e back (head_is x f (xs ++ ys) (front ++ e ∷ back) is).1)
  where
    same : x ≡ f
    same = (head_is x f (xs ++ ys) (front ++ e ∷ back) is).0

    go : Split xs ys front e → Split (x ∷ xs) ys (f ∷ front) e
    go (in_first rest p) = in_first rest (ap (λ y. y ∷ xs) same ∙ ap (λ zs. f ∷ zs) p)
    go (in_second more rest p q) = in_second more rest (ap (λ y. y ∷ front) (sym same) ∙ ap (λ zs. x ∷ zs) p) q

-- it is in the list
pub split_has : {X : Type 0} (ys front : List X) (e : X) (back : List X) → ys ≡ front ++ e ∷ back → Has ys e
split_has ys front e back is = subst (λ zs. Has zs e) (sym is) (has_right front (e ∷ back) e (inl refl))

-- ---- nodes
pub got_other : (at : ℕ) (entry : LogEntry) (nodes : List NodeLog) (place : ℕ) → at ≢ place → slice_get (noted_at at entry nodes) place ≡ slice_get nodes place
got_other at entry [] place other = refl
got_other zero entry (node ∷ rest) zero other = absurd (other refl)
got_other zero entry (node ∷ rest) (suc place) other = refl
got_other (suc at) entry (node ∷ rest) zero other = refl
got_other (suc at) entry (node ∷ rest) (suc place) other = got_other at entry rest place (λ same. other (ap suc same))

pub same_place : (a b : ℕ) → (a ≡ b) ⊎ (a ≢ b)
same_place a b = go (nat_eq a b) refl
  where
    go : (t : Bool) → nat_eq a b ≡ t → (a ≡ b) ⊎ (a ≢ b)
    go true is = inl (eqb-true a b is)
    go false is = inr (λ same. true≢false (sym (eq-eqb a b same) ∙ is))

-- what was sent rightly is so in a mesh where its node stands, which names by table what it sent
rightly_still : (queries : Mac → Queries) (orig : Mac) (mesh after : Mesh) (moment : ℕ) (me : Mac) (bytes : List ℕ) (s : SentRightly queries orig mesh moment me bytes) → slice_get after.nodes s.place ≡ Some s.node
    → IsSentInStep queries orig after me s.entry s.older s.to bytes → SentRightly queries orig after moment me bytes
rightly_still queries orig mesh after moment me bytes s found by_table = record {
  place = s.place;
  node = s.node;
  found = found;
  mac_is = s.mac_is;
  newer = s.newer;
  older = s.older;
  entry = s.entry;
  log_is = s.log_is;
  moment_is = s.moment_is;
  to = s.to;
  sent = s.sent;
  by_table = by_table;
}

-- each event of a frame that was sent by table, before which none told of an alias
abbrev AllRight : (Mac → Queries) → Mac → Mesh → Type 0
AllRight queries orig mesh = (before after : List Event) (number moment : ℕ) (me next : Mac) (bytes : List ℕ) → mesh.events ≡ before ++ FrameSent number moment me next (Some Table) bytes ∷ after → ToldNoneOf orig before → SentRightly queries orig mesh moment me bytes

-- the acts of an input name rightly, where no event before told of an alias
abbrev NamesNow : (Mac → Queries) → Mac → Mesh → ℕ → ℕ → NodeLog → Given → Type 0
NamesNow queries orig mesh place now node given = ToldNoneOf orig mesh.events
    → EntryNames queries orig node.mac (log_of orig (noted_at place (entry_of (scenario_setup queries) node now given) mesh.nodes)) mesh.frames node.log (entry_of (scenario_setup queries) node now given)

-- ---- one input
module _ (queries : Mac → Queries) (orig : Mac) (mesh after : Mesh) (place now root : ℕ) (node : NodeLog) (given : Given) (found : slice_get mesh.nodes place ≡ Some node) (is : given_to (scenario_setup queries) place now root given mesh ≡ Ok after) where
  abbrev now_entry : LogEntry
  now_entry = entry_of (scenario_setup queries) node now given

  abbrev now_log : Log
  now_log = log_of orig (noted_at place now_entry mesh.nodes)

  abbrev gave : HasGiven (scenario_setup queries) place now root node given mesh after
  gave = given_is (scenario_setup queries) place now root node given mesh after found is

  -- what was sent rightly stays so
  rightly_later : (moment : ℕ) (me : Mac) (bytes : List ℕ) → Follows node.log given → LogAfter orig node now_entry (log_of orig mesh.nodes) now_log → SentRightly queries orig mesh moment me bytes → SentRightly queries orig after moment me bytes
  rightly_later moment me bytes next l s = go (same_place place s.place)
    where
      grows : Grows orig (log_of orig mesh.nodes) now_log
      grows = grows_after orig node now_entry (log_of orig mesh.nodes) now_log l next

      Looks : TableCalls → Type 0
      Looks = HadCome (queries me) me s.older s.entry.moment s.entry.given (Link s.to (Some Table) bytes)

      by_table : IsSentInStep queries orig after me s.entry s.older s.to bytes
      by_table = subst (λ log. IsSentByTable Looks orig log after.frames bytes) (ap (log_of orig) (sym gave.nodes))
          (subst (λ fs. IsSentByTable (HadCome (queries me) me s.older s.entry.moment s.entry.given (Link s.to (Some Table) bytes)) orig now_log fs bytes) (sym gave.frames)
          (sent_grows (HadCome (queries me) me s.older s.entry.moment s.entry.given (Link s.to (Some Table) bytes)) orig (log_of orig mesh.nodes) now_log mesh.frames gave.more bytes grows s.by_table))

      go : (place ≡ s.place) ⊎ (place ≢ s.place) → SentRightly queries orig after moment me bytes
      go (inr other) = rightly_still queries orig mesh after moment me bytes s (ap (λ ns. slice_get ns s.place) gave.nodes ∙ got_other place now_entry mesh.nodes s.place other ∙ s.found) by_table
      go (inl same) =
          let one : node ≡ s.node = one_some node s.node (sym found ∙ ap (slice_get mesh.nodes) same ∙ s.found) in
          record {
            place = place;
            node = noting now_entry node;
            found = ap (λ ns. slice_get ns place) gave.nodes ∙ got_noted mesh.nodes place node now_entry found;
            mac_is = ap (λ (n : NodeLog). n.mac) one ∙ s.mac_is;
            newer = now_entry ∷ s.newer;
            older = s.older;
            entry = s.entry;
            log_is = ap (λ log. now_entry ∷ log) (ap (λ (n : NodeLog). n.log) one ∙ s.log_is);
            moment_is = s.moment_is;
            to = s.to;
            sent = s.sent;
            by_table = by_table;
          }

  -- what the acts of an input send by table
  rightly_now : (number moment : ℕ) (me next : Mac) (bytes : List ℕ) → EntryNames queries orig node.mac now_log mesh.frames node.log now_entry → Has gave.more_events (FrameSent number moment me next (Some Table) bytes) → SentRightly queries orig after moment me bytes
  rightly_now number moment me next bytes names sent = go (gave.came (FrameSent number moment me next (Some Table) bytes) sent)
    where
      Looks : Act → TableCalls → Type 0
      Looks = HadCome (queries node.mac) node.mac node.log now given

      no_print : (acts : List Act) → AllName Looks orig now_log mesh.frames acts → Has acts (Print (FrameSent number moment me next (Some Table) bytes)) → ⊥
      no_print [] each has = has
      no_print (act ∷ rest) each (inl same) = subst (ActNames Looks orig now_log mesh.frames) (sym same) each.0 number moment me next (Some Table) bytes refl
      no_print (act ∷ rest) each (inr has) = no_print rest each.1 has

      go : IsOfActs now_entry.acts node.mac now (FrameSent number moment me next (Some Table) bytes) → SentRightly queries orig after moment me bytes
      go (inl printed) = absurd (no_print now_entry.acts names printed)
      go (inr (inr put)) = absurd (let e = put.is in cc)
      go (inr (inl s)) =
          let mac : me ≡ node.mac = let e = s.is in cc in
          let when : moment ≡ now = let e = s.is in cc in
          let why : Some Table ≡ s.reason = let e = s.is in cc in
          let what : bytes ≡ s.bytes = let e = s.is in cc in
          let act : Has now_entry.acts (Link s.to (Some Table) bytes) = subst (λ b. Has now_entry.acts (Link s.to (Some Table) b)) (sym what) (subst (λ r. Has now_entry.acts (Link s.to r s.bytes)) (sym why) s.act) in
          record {
            place = place;
            node = noting now_entry node;
            found = ap (λ ns. slice_get ns place) gave.nodes ∙ got_noted mesh.nodes place node now_entry found;
            mac_is = sym mac;
            newer = [];
            older = node.log;
            entry = now_entry;
            log_is = refl;
            moment_is = sym when;
            to = s.to;
            sent = act;
            by_table = subst (λ m. IsSentInStep queries orig after m now_entry node.log s.to bytes) (sym mac)
                (subst (λ log. IsSentByTable (Looks (Link s.to (Some Table) bytes)) orig log after.frames bytes) (ap (log_of orig) (sym gave.nodes))
                (subst (λ fs. IsSentByTable (Looks (Link s.to (Some Table) bytes)) orig now_log fs bytes) (sym gave.frames)
                (sent_grows (Looks (Link s.to (Some Table) bytes)) orig now_log now_log mesh.frames gave.more bytes (grows_same orig now_log now_log refl) (act_of Looks orig now_log mesh.frames s.to bytes now_entry.acts names act))));
          }

  -- each event stays right where it stands, and those that the input adds are so
  given_right : Follows node.log given → LogAfter orig node now_entry (log_of orig mesh.nodes) now_log → NamesNow queries orig mesh place now node given → AllRight queries orig mesh → AllRight queries orig after
  given_right next l names right before back number moment me to bytes events none =
      go (split mesh.events gave.more_events before (FrameSent number moment me to (Some Table) bytes) back (sym gave.events ∙ events))
    where
      go : Split mesh.events gave.more_events before (FrameSent number moment me to (Some Table) bytes) → SentRightly queries orig after moment me bytes
      go (in_first rest p) = rightly_later moment me bytes next l (right before rest number moment me to bytes p none)
      go (in_second more rest p q) = rightly_now number moment me to bytes
          (names (λ n e told. none n e (subst (λ es. Has es (Alias orig n e)) (sym p) (has_left mesh.events more (Alias orig n e) told))))
          (split_has gave.more_events more (FrameSent number moment me to (Some Table) bytes) rest q)

-- ---- all steps
-- an input that is no tick and no reboot leaves the commits without an alias
calm_clear : (queries : Mac → Queries) (orig : Mac) (mesh : Mesh) (place now : ℕ) (node : NodeLog) (given : Given) → IsReachable queries mesh
    → LogAfter orig node (entry_of (scenario_setup queries) node now given) (log_of orig mesh.nodes) (log_of orig (noted_at place (entry_of (scenario_setup queries) node now given) mesh.nodes))
    → CommitsNothing given → ToldNoneOf orig mesh.events → HasNoAlias (commits orig (log_of orig (noted_at place (entry_of (scenario_setup queries) node now given) mesh.nodes)))
calm_clear queries orig mesh place now node given r l calm none = go (one_or_two node.mac orig)
  where
    entry : LogEntry
    entry = entry_of (scenario_setup queries) node now given

    clear : HasNoAlias (commits_of orig mesh)
    clear = aliases_are_seen queries mesh r orig none

    go : (node.mac ≡ orig) ⊎ (node.mac ≢ orig) → HasNoAlias (commits orig (log_of orig (noted_at place (entry_of (scenario_setup queries) node now given) mesh.nodes)))
    go (inl same) =
        let parts = l.itself same in
        subst (λ log. HasNoAlias (commits orig log)) (sym parts.1) (subst HasNoAlias (sym (calm_commits orig node.log entry calm)) (subst (λ log. HasNoAlias (commits orig log)) parts.0 clear))
    go (inr other) = subst (λ log. HasNoAlias (commits orig log)) (sym (l.other other)) clear

joined_right : (queries : Mac → Queries) (orig : Mac) (mesh : Mesh) (new : NodeLog) → new.log ≡ [] → AllRight queries orig mesh → AllRight queries orig (record mesh { nodes = mesh.nodes ++ new ∷ [] })
joined_right queries orig mesh new empty right before back number moment me to bytes events none =
    let s = right before back number moment me to bytes events none in
    rightly_still queries orig mesh (record mesh { nodes = mesh.nodes ++ new ∷ [] }) moment me bytes s (get_front mesh.nodes (new ∷ []) s.place s.node s.found)
    (subst (λ log. IsSentByTable (HadCome (queries me) me s.older s.entry.moment s.entry.given (Link s.to (Some Table) bytes)) orig log mesh.frames bytes) (sym (log_joined orig mesh.nodes new empty)) s.by_table)

-- links and the last happening are no matter
unlinked_right : (queries : Mac → Queries) (orig : Mac) (mesh : Mesh) (links : List NetLink) (last : Happening) → AllRight queries orig mesh → AllRight queries orig (record mesh { links = links; last = last })
unlinked_right queries orig mesh links last right before back number moment me to bytes events none =
    let s = right before back number moment me to bytes events none in
    rightly_still queries orig mesh (record mesh { links = links; last = last }) moment me bytes s s.found
    s.by_table

-- nor is what a LAN brings
beside_right : (queries : Mac → Queries) (orig : Mac) (mesh after : Mesh) (more : List Event) → after.nodes ≡ mesh.nodes → after.frames ≡ mesh.frames → after.events ≡ mesh.events ++ more
    → ((number moment : ℕ) (me to : Mac) (bytes : List ℕ) → Has more (FrameSent number moment me to (Some Table) bytes) → ⊥) → AllRight queries orig mesh → AllRight queries orig after
beside_right queries orig mesh after more nodes frames events none_sent right before back number moment me to bytes split_is none =
    go (split mesh.events more before (FrameSent number moment me to (Some Table) bytes) back (sym events ∙ split_is))
  where
    go : Split mesh.events more before (FrameSent number moment me to (Some Table) bytes) → SentRightly queries orig after moment me bytes
    go (in_second front rest p q) = absurd (none_sent number moment me to bytes (split_has more front (FrameSent number moment me to (Some Table) bytes) rest q))
    go (in_first rest p) =
        let s = right before rest number moment me to bytes p none in
        rightly_still queries orig mesh after moment me bytes s (ap (λ ns. slice_get ns s.place) nodes ∙ s.found)
        (subst (λ ns. IsSentByTable (HadCome (queries me) me s.older s.entry.moment s.entry.given (Link s.to (Some Table) bytes)) orig (log_of orig ns) after.frames bytes) (sym nodes)
        (subst (λ fs. IsSentByTable (HadCome (queries me) me s.older s.entry.moment s.entry.given (Link s.to (Some Table) bytes)) orig (log_of orig mesh.nodes) fs bytes) (sym frames) s.by_table))

step_right : (queries : Mac → Queries) (mesh after : Mesh) → AllKeep queries → IsReachable queries mesh → Reached queries mesh → CommitsFit after → Steps queries mesh after → (orig : Mac) → AllRight queries orig mesh → AllRight queries orig after
step_right queries mesh _ keep r h fit (node_joins _ node empty whole fresh) orig right = joined_right queries orig mesh node empty right
step_right queries mesh _ keep r h fit (link_joins _ link) orig right = unlinked_right queries orig mesh (mesh.links ++ link ∷ []) mesh.last right
step_right queries mesh after keep r h fit (line_gives _ _ place now node line found may of is) orig right =
    let l = log_after queries orig mesh place node (entry_of (scenario_setup queries) node now (Line line)) h.holds.orderly found in
    given_right queries orig mesh after place now 0 node (Line line) found is tt l
    (λ none. by (line_reboots line) refl (λ calm. line_acts_name queries mesh place now node line orig of h found (calm_clear queries orig mesh place now node (Line line) r l calm none))) right
  where
    log : Log
    log = log_of orig (noted_at place (entry_of (scenario_setup queries) node now (Line line)) mesh.nodes)

    Right : Type 0
    Right = EntryNames queries orig node.mac log mesh.frames node.log (entry_of (scenario_setup queries) node now (Line line))

    by : (b : Bool) → line_reboots line ≡ b → (line_reboots line ≡ false → Right) → Right
    by true reboots calm = reboot_names queries mesh place now node line orig log reboots
    by false is calm = calm is
step_right queries mesh after keep r h fit (node_ticks _ _ place now node found may is) orig right =
    let index = suc (ticks_in node.log) in
    let entry = entry_of (scenario_setup queries) node now (Tick index) in
    let l = log_after queries orig mesh place node entry h.holds.orderly found in
    given_right queries orig mesh after place now index node (Tick index) found is refl l (λ none. tick_names queries mesh place now node orig (log_of orig (noted_at place entry mesh.nodes))) right
step_right queries mesh after keep r h fit (frame_comes _ _ place now number throughput from node frame found may sent whole is) orig right =
    let given = LinkFrame (suc number) from throughput frame.bytes in
    let l = log_after queries orig mesh place node (entry_of (scenario_setup queries) node now given) h.holds.orderly found in
    given_right queries orig mesh after place now frame.root node given found is tt l
    (λ none. frame_acts_name queries mesh after place now number throughput from node frame orig keep h fit found sent whole is (calm_clear queries orig mesh place now node given r l tt none)) right
step_right queries mesh _ keep r h fit (lan_joins _ lan) orig right = beside_right queries orig mesh (with_lan lan mesh) [] refl refl (sym (append-nil mesh.events)) (λ number moment me to bytes has. absurd has) right
step_right queries mesh _ keep r h fit (put_comes _ put frame by is tells) orig right =
    beside_right queries orig mesh (with_lan_frame put mesh) (put_event mesh put ∷ []) refl refl refl (λ number moment me to bytes has. no_put number moment me to bytes has) right
  where
    no_put : (number moment : ℕ) (me to : Mac) (bytes : List ℕ) → Has (put_event mesh put ∷ []) (FrameSent number moment me to (Some Table) bytes) → ⊥
    no_put number moment me to bytes (inl e) = cc
    no_put number moment me to bytes (inr none) = none
step_right queries mesh _ keep r h fit (put_reaches _ at now put frame found carries) orig right =
    beside_right queries orig mesh (with_events (bridged_event now put frame ∷ []) mesh) (bridged_event now put frame ∷ []) refl refl refl (λ number moment me to bytes has. no_reach number moment me to bytes has) right
  where
    no_reach : (number moment : ℕ) (me to : Mac) (bytes : List ℕ) → Has (bridged_event now put frame ∷ []) (FrameSent number moment me to (Some Table) bytes) → ⊥
    no_reach number moment me to bytes (inl e) = cc
    no_reach number moment me to bytes (inr none) = none
step_right queries mesh after keep r h fit (lan_comes _ _ place now number node put found may among is) orig right =
    let given = LanFrame put.bytes in
    let l = log_after queries orig mesh place node (entry_of (scenario_setup queries) node now given) h.holds.orderly found in
    given_right queries orig mesh after place now 0 node given found is tt l
    (λ none. lan_acts_name queries mesh place now node put.bytes orig h found (calm_clear queries orig mesh place now node given r l tt none)) right
step_right queries mesh _ keep r h fit (time_passes _ happening) orig right = unlinked_right queries orig mesh mesh.links happening right
step_right queries mesh _ keep r h fit (routes_told _ lines watch) orig right =
    beside_right queries orig mesh (with_told lines watch mesh) (map route_event lines) refl refl refl (λ number moment me to bytes has. no_route_event lines (FrameSent number moment me to (Some Table) bytes) (λ line e. cc) has) right

no_events : (before : List Event) (e : Event) (after : List Event) → [] ≡ before ++ e ∷ after → ⊥
no_events [] e after is = cc
no_events (first ∷ before) e after is = cc

all_right : (queries : Mac → Queries) → AllKeep queries → (mesh : Mesh) → IsReachable queries mesh → (orig : Mac) → AllRight queries orig mesh
all_right queries keep _ (begins watch) orig = λ before back number moment me to bytes events none. absurd (no_events before (FrameSent number moment me to (Some Table) bytes) back events)
all_right queries keep _ (goes_on mesh after r s) orig =
    step_right queries mesh after keep r (reached queries keep mesh r) (commits_always_fit queries keep after (goes_on mesh after r s)) s orig (all_right queries keep mesh r orig)

pub events_by_table_are_right : EventsByTableAreRight
events_by_table_are_right queries keep mesh r orig before after number moment me next bytes events none = all_right queries keep mesh r orig before after number moment me next bytes events none
