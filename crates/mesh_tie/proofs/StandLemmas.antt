-- Where an alias stands among the events of a mesh: in the step of the tick, or of the reboot, that
-- made its commit.
use Rattle.std.specs.List.{AllByRecursion}
use Rattle.std.proofs.Common.{◌≡◌, ◌⊎◌, inl, inr, ℕ, suc, Bool, true, false, cond, List, [], ◌∷◌, ◌++◌, length, slice_get, Option, Some, None, Ok, refl, sym, ap, subst, ◌∙◌, append-nil, arith, map}
use Rattle.std.proofs.lemmas.Bool.{eq-eqb, ne_eqb, true≢false}
use Rattle.mesh_base.specs.declared.address.Mac.{Mac}
use Rattle.mesh_base.specs.declared.event.Event.{Event}
use Rattle.mesh_base.specs.declared.event.Event.TheVariants.{Alias}
use Rattle.mesh_model.specs.declared.act.Act.{Act}
use Rattle.mesh_model.specs.declared.act.Act.TheVariants.{Print}
use Rattle.mesh_model.specs.Acts.BridgeRows.{Place, round_acts}
use Rattle.mesh_model.specs.Acts.Choosing.{cutter_by}
use Rattle.mesh_model.specs.Acts.Cuts.{Cutter, cut_acts}
use Rattle.mesh_model.specs.Acts.FactRows.{fact_round_acts}
use Rattle.mesh_model.specs.Acts.OwnContainers.{own_containers}
use Rattle.mesh_model.specs.Acts.Rows.{alias_acts, alias_event, commit_acts, reboot_acts, tick_acts}
use Rattle.mesh_model.specs.Clients.Lans.{bridge}
use Rattle.mesh_model.specs.Clients.Log.{Given, Tick, LinkFrame, LanFrame, Line, LineGiven, Log, Reboot, line_reboots}
use Rattle.mesh_model.specs.Clients.Mentions.{mentions}
use Rattle.mesh_model.specs.Commits.Aliases.{alias_before, last_alias}
use Rattle.mesh_model.specs.Commits.Announcements.{announcement}
use Rattle.mesh_model.specs.Commits.History.{History, history, is_commit_tick, restarted}
use Rattle.mesh_model.specs.Commits.Versions.{first_commit}
use Rattle.mesh_model.specs.Knowledge.Known.{Knowledge}
use Rattle.mesh_model.specs.Knowledge.Steps.{before_telling, knowledge, table_behind}
use Rattle.mesh_model.specs.Net.Inputs.{entry_of, given_to}
use Rattle.mesh_model.specs.Net.Lans.{with_events}
use Rattle.mesh_model.specs.Net.Limits.{scenario_setup}
use Rattle.mesh_model.specs.Net.Mesh.{NodeLog, Mesh, Setup}
use Rattle.mesh_model.specs.Net.Next.{Has}
use Rattle.mesh_model.specs.Net.Sending.{Actor, after_acts, put_event}
use Rattle.mesh_model.specs.Packets.Containers.{containers_spelling}
use Rattle.mesh_model.specs.Routes.Queries.{Queries}
use Rattle.mesh_model.specs.Tables.Versions.{Version}
use Rattle.mesh_laws.proofs.LastLogLemmas.{reboot_line}
use Rattle.mesh_laws.proofs.Schedule.Members.{has_either}
use Rattle.mesh_laws.proofs.Schedule.Sends.{ok_one}
use Rattle.mesh_tie.specs.AliasesStand.{AliasesStandInSteps, LeadsTo, StandsInStep, elp_in_tick, history_in_tick, is_of_reboot, message_in_tick, next_tick, ticking}
use Rattle.mesh_tie.specs.Originators.{log_of}
use Rattle.mesh_tie.specs.Sources.{KeepsOriginators}
use Rattle.mesh_tie.specs.Steps.{IsReachable, Steps, begins, frame_comes, goes_on, lan_comes, lan_joins, line_gives, link_joins, node_joins, node_ticks, put_comes, put_reaches, time_passes, bridged_event, routes_told}
use Rattle.mesh_tie.proofs.AliasRows.{AreQuiet, cut_quiet, frame_quiet, lan_quiet, line_quiet, plain_quiet}
use Rattle.mesh_tie.proofs.CommitLemmas.{Committed, as_before, committed_is, one_more}
use Rattle.mesh_tie.proofs.CutActs.{GoesWhole, aliases_whole, elps_whole, front_whole, messages_whole, round_whole}
use Rattle.mesh_tie.proofs.EntryLemmas.{each_appended}
use Rattle.mesh_tie.proofs.FactActs.{round_stores}
use Rattle.mesh_tie.proofs.MeshSteps.{log_joined}
use Rattle.mesh_tie.specs.TieLaws.{AllKeep}
use Rattle.mesh_tie.proofs.OrderSteps.{orderly}
use Rattle.mesh_tie.proofs.NamesRows.{plain_message, plain_round, plain_store}
use Rattle.mesh_tie.proofs.SeenLemmas.{all_tell}
use Rattle.mesh_tie.proofs.SentLemmas.{HasSent, acts_sent, given_is}
use Rattle.mesh_tie.proofs.StandParts.{CarriesActs, StandsBefore, acts_apart, carries_acts, no_place, one_or_older, peeled, quiet_events}
use Rattle.mesh_tie.proofs.StandSteps.{AllStand, WasMade, calm_stand, none_before, now_made, quiet_follow, stand_on, was_made, with_more}
use Rattle.mesh_tie.proofs.RouteEvents.{no_route_event}
use Rattle.mesh_model.specs.Net.Watching.{route_event}

-- ---- ticks
-- what a tick tells between its ELP and its rounds: nothing, or of an alias and then its message
data Tells (me : Mac) (before after : List Version) (message : List Act) : List Act → Type 0 where
  tells_none : (acts : List Act) → AreQuiet acts → Tells me before after message acts
  tells_one : (commit : Version) (earlier : ℕ) → after ≡ commit ∷ before → alias_before commit before ≡ Some earlier → Tells me before after message (Print (Alias me (length before) earlier) ∷ message)

same_length : (me : Mac) (before : List Version) → alias_acts me before before ≡ []
same_length me before = ap (λ b. cond b [] (alias_event me (length before) (last_alias before))) (eq-eqb (length before) (length before) refl)

more_length : (me : Mac) (before : List Version) (commit : Version) → alias_acts me before (commit ∷ before) ≡ alias_event me (length before) (alias_before commit before)
more_length me before commit = ap (λ b. cond b [] (alias_event me (length before) (alias_before commit before))) (ne_eqb (suc (length before)) (length before) (λ e. omega (arith, e)))

-- one commit more
tells_more : (me : Mac) (before : List Version) (commit : Version) (message : List Act) → AreQuiet message → Tells me before (commit ∷ before) message (alias_acts me before (commit ∷ before) ++ message)
tells_more me before commit message quiet = subst (λ acts. Tells me before (commit ∷ before) message (acts ++ message)) (sym (more_length me before commit)) (go (alias_before commit before) refl)
  where
    go : (o : Option ℕ) → alias_before commit before ≡ o → Tells me before (commit ∷ before) message (alias_event me (length before) o ++ message)
    go None is = tells_none message quiet
    go (Some earlier) is = tells_one commit earlier refl is

tells : (me : Mac) (before after : History) (message : List Act) → AreQuiet message → Committed before after → Tells me before.commits after.commits message (alias_acts me before.commits after.commits ++ message)
tells me before after message quiet (as_before same) = tells_none (alias_acts me before.commits after.commits ++ message)
    (subst (λ acts. AreQuiet (acts ++ message)) (sym (ap (λ (h : History). alias_acts me before.commits h.commits) same ∙ same_length me before.commits)) quiet)
tells me before after message quiet (one_more commit byte order same) = subst (λ (h : History). Tells me before.commits h.commits message (alias_acts me before.commits h.commits ++ message)) (sym same) (tells_more me before.commits commit message quiet)

same_alias : (m k : Mac) (a b c d : ℕ) → Alias m a c ≡ Alias k b d → (m ≡ k) × (a ≡ b) × (c ≡ d)
same_alias m k a b c d is = (cc, cc, cc)

tick_stand : (queries : Mac → Queries) (mesh after : Mesh) (place now : ℕ) (node : NodeLog) → KeepsOriginators node.mac (queries node.mac) → IsReachable queries mesh → slice_get mesh.nodes place ≡ Some node → given_to (scenario_setup queries) place now (next_tick node) (Tick (next_tick node)) mesh ≡ Ok after
    → AllStand queries after.nodes mesh.events → AllStand queries after.nodes after.events
unfolding tick_acts
tick_stand queries mesh after place now node keeps r found is all before back orig number earlier at =
    with_more queries log before orig number earlier f.rest s_facts.more_events back f.back_is (with_more queries log before orig number earlier b.rest s_round.more_events f.rest b.back_is (in_part part told p3.1 b.rest b.list_is))
  where
    setup : Setup
    setup = scenario_setup queries

    actor : Actor
    actor = ticking place node now

    q : Queries
    q = queries node.mac

    known : Knowledge
    known = knowledge q node.mac node.log

    index : ℕ
    index = next_tick node

    here : Place
    here = record { me = node.mac; now = now }

    old : History
    old = history node.mac node.log

    new : History
    new = history_in_tick node now

    elp : List Act
    elp = elp_in_tick q node

    message : List Act
    message = message_in_tick q node now

    part : List Act
    part = cond (is_commit_tick index) (commit_acts q node.mac known.services.settings known.routes index old new) []

    round : List Act
    round = round_acts here (bridge node.log) index

    later : Knowledge
    later = before_telling q node.mac now index (table_behind node.mac node.log now index) known

    facts : List Act
    facts = fact_round_acts q later here index

    cutter : Cutter
    cutter = cutter_by q node.mac node.log

    put : List Act
    put = cut_acts cutter facts

    part_whole : (b : Bool) → AllByRecursion (GoesWhole cutter.most) (cond b (commit_acts q node.mac known.services.settings known.routes index old new) [])
    part_whole true =
        let tail = containers_spelling (own_containers known.services.settings (announcement new)) in
        each_appended (GoesWhole cutter.most) (alias_acts node.mac old.commits new.commits) message (aliases_whole cutter.most node.mac old.commits new.commits)
        (messages_whole cutter.most node.mac (q.beats known.routes index).ogm tail (λ head is. keeps.own known.routes index head ((orderly queries mesh r).whole place node found) is))
    part_whole false = tt

    -- what comes before the round of the fact store goes whole
    all_whole : AllByRecursion (GoesWhole cutter.most) (elp ++ (part ++ round))
    all_whole = each_appended (GoesWhole cutter.most) elp (part ++ round) (elps_whole cutter.most (q.beats known.routes index).elp (λ head is. keeps.elps known.routes index head is))
        (each_appended (GoesWhole cutter.most) part round (part_whole (is_commit_tick index)) (round_whole cutter.most here (bridge node.log) index))

    alias : Event
    alias = Alias orig number earlier

    log : Log
    log = log_of orig after.nodes

    quiet_message : AreQuiet message
    quiet_message = plain_quiet message (plain_message (q.beats known.routes index).ogm (containers_spelling (own_containers known.services.settings (announcement new))))

    told : Tells node.mac old.commits new.commits message part
    told = go (is_commit_tick index)
      where
        go : (b : Bool) → Tells node.mac old.commits new.commits message (cond b (commit_acts q node.mac known.services.settings known.routes index old new) [])
        go true = tells node.mac old new message quiet_message (committed_is (mentions node.mac node.log) now old)
        go false = tells_none [] tt

    c : CarriesActs setup place now index node (Tick index) mesh after
    c = carries_acts setup place now index node (Tick index) mesh after found is

    p1 : (mid : Mesh) × (after_acts setup actor (elp ++ (part ++ round)) mesh ≡ Ok mid) × (after_acts setup actor put mid ≡ Ok c.mid)
    p1 = acts_apart setup actor (elp ++ (part ++ round)) put mesh c.mid (subst (λ acts. after_acts setup actor acts mesh ≡ Ok c.mid) (front_whole cutter (elp ++ (part ++ round)) facts all_whole) c.carried)

    p2 : (mid : Mesh) × (after_acts setup actor elp mesh ≡ Ok mid) × (after_acts setup actor (part ++ round) mid ≡ Ok p1.0)
    p2 = acts_apart setup actor elp (part ++ round) mesh p1.0 p1.1

    p3 : (mid : Mesh) × (after_acts setup actor part p2.0 ≡ Ok mid) × (after_acts setup actor round mid ≡ Ok p1.0)
    p3 = acts_apart setup actor part round p2.0 p1.0 p2.2

    s_elp : HasSent elp node.mac now index mesh p2.0
    s_elp = acts_sent setup actor elp mesh p2.0 p2.1

    s_round : HasSent round node.mac now index p3.0 p1.0
    s_round = acts_sent setup actor round p3.0 p1.0 p3.2

    s_facts : HasSent put node.mac now index p1.0 c.mid
    s_facts = acts_sent setup actor put p1.0 c.mid p1.2

    none_elp : (me : Mac) (n e : ℕ) → Has s_elp.more_events (Alias me n e) → ⊥
    none_elp = quiet_events elp node.mac now s_elp.more_events (plain_quiet elp (plain_message (q.beats known.routes index).elp [])) s_elp.came

    none_round : Has s_round.more_events alias → ⊥
    none_round = quiet_events round node.mac now s_round.more_events (plain_quiet round (plain_round here (bridge node.log) index)) s_round.came orig number earlier

    none_facts : Has s_facts.more_events alias → ⊥
    none_facts = quiet_events put node.mac now s_facts.more_events (cut_quiet cutter facts (plain_quiet facts (plain_store node.mac facts (round_stores q later here index)))) s_facts.came orig number earlier

    f : StandsBefore p1.0.events s_facts.more_events before alias back
    f = peeled p1.0.events s_facts.more_events before alias back none_facts (sym (c.events ∙ s_facts.events) ∙ at)

    b : StandsBefore p3.0.events s_round.more_events before alias f.rest
    b = peeled p3.0.events s_round.more_events before alias f.rest none_round (sym s_round.events ∙ f.list_is)

    -- the alias stood before the tick
    stood : (rest : List Event) → p2.0.events ≡ before ++ alias ∷ rest → StandsInStep queries log before orig number earlier rest
    stood rest e = quiet_follow queries after.nodes mesh.events p2.0.events s_elp.more_events none_elp s_elp.events all before rest orig number earlier e

    -- no event told of the commit before
    none_first : node.mac ≡ orig → number ≡ length old.commits → (other : ℕ) → Has (mesh.events ++ s_elp.more_events) (Alias orig number other) → ⊥
    none_first same number_is other has = go (has_either mesh.events s_elp.more_events (Alias orig number other) has)
      where
        go : Has mesh.events (Alias orig number other) ⊎ Has s_elp.more_events (Alias orig number other) → ⊥
        go (inl past) = none_before queries mesh place node orig number other r found same number_is past
        go (inr now_told) = none_elp orig number other now_told

    -- no reboot made the commit
    ticked : node.mac ≡ orig → number ≡ length old.commits → is_of_reboot orig number log ≡ false
    ticked same number_is = ap (λ ns. is_of_reboot orig number (log_of orig ns)) (given_is setup place now index node (Tick index) mesh after found is).nodes ∙ now_made mesh.nodes place node (entry_of setup node now (Tick index)) orig number (all_tell queries mesh r).distinct found same number_is

    in_part : (acts : List Act) → Tells node.mac old.commits new.commits message acts → after_acts setup actor acts p2.0 ≡ Ok p3.0 → (rest : List Event) → p3.0.events ≡ before ++ alias ∷ rest → StandsInStep queries log before orig number earlier rest
    in_part _ (tells_none acts quiet) sent rest e =
        let s = acts_sent setup actor acts p2.0 p3.0 sent in
        let p = peeled p2.0.events s.more_events before alias rest (quiet_events acts node.mac now s.more_events quiet s.came orig number earlier) (sym s.events ∙ e) in
        with_more queries log before orig number earlier p.rest s.more_events rest p.back_is (stood p.rest p.list_is)
    in_part _ (tells_one commit least made found_alias) sent rest e = go (one_or_older p2.0.events one before alias m.rest m.list_is)
      where
        one : Event
        one = Alias node.mac (length old.commits) least

        s : HasSent message node.mac now index (with_events (one ∷ []) p2.0) p3.0
        s = acts_sent setup actor message (with_events (one ∷ []) p2.0) p3.0 sent

        m : StandsBefore (p2.0.events ++ one ∷ []) s.more_events before alias rest
        m = peeled (p2.0.events ++ one ∷ []) s.more_events before alias rest (quiet_events message node.mac now s.more_events quiet_message s.came orig number earlier) (sym s.events ∙ e)

        go : StandsBefore p2.0.events (one ∷ []) before alias m.rest ⊎ ((before ≡ p2.0.events) × (one ≡ alias) × (m.rest ≡ [])) → StandsInStep queries log before orig number earlier rest
        go (inl older) = with_more queries log before orig number earlier m.rest s.more_events rest m.back_is (with_more queries log before orig number earlier older.rest (one ∷ []) m.rest older.back_is (stood older.rest older.list_is))
        go (inr last) =
            let fields = same_alias node.mac orig (length old.commits) number least earlier last.1 in
            let number_is = sym fields.1 in
            record {
              in_tick = λ none. record {
                mesh = mesh;
                reachable = r;
                place = place;
                node = node;
                found = found;
                mac_is = fields.0;
                now = now;
                commit = commit;
                made = made;
                number_is = number_is;
                alias = found_alias ∙ ap Some fields.2;
                elp = s_elp.more_events;
                elp_sent = p2.0;
                sends_elp = record { carried = p2.1; gained = s_elp.events };
                message = s.more_events;
                message_sent = p3.0;
                sends_message = subst (λ event. LeadsTo setup actor message (with_events (event ∷ []) p2.0) p3.0 s.more_events) last.1 (record { carried = sent; gained = s.events });
                later = [];
                before_is = last.0 ∙ s_elp.events;
                after_is = m.back_is ∙ ap (λ l. l ++ s.more_events) last.2 ∙ sym (append-nil s.more_events);
                first = λ other has. none_first fields.0 number_is other (subst (λ es. Has es (Alias orig number other)) (last.0 ∙ s_elp.events) has);
              };
              at_reboot = λ made. absurd (true≢false (sym made ∙ ticked fields.0 number_is));
            }

-- ---- reboots
reboot_stand : (queries : Mac → Queries) (mesh after : Mesh) (place now : ℕ) (node : NodeLog) → IsReachable queries mesh → slice_get mesh.nodes place ≡ Some node → given_to (scenario_setup queries) place now 0 (Line Reboot) mesh ≡ Ok after
    → AllStand queries after.nodes mesh.events → AllStand queries after.nodes after.events
reboot_stand queries mesh after place now node r found is all before back orig number earlier at =
    in_acts (reboot_acts node.mac old) (subst (Tells node.mac old.commits (first_commit ∷ old.commits) []) (append-nil (reboot_acts node.mac old)) (tells_more node.mac old.commits first_commit [] tt)) sent
  where
    setup : Setup
    setup = scenario_setup queries

    actor : Actor
    actor = record { place = place; mac = node.mac; now = now; root = 0 }

    old : History
    old = history node.mac node.log

    alias : Event
    alias = Alias orig number earlier

    log : Log
    log = log_of orig after.nodes

    cutter : Cutter
    cutter = cutter_by (queries node.mac) node.mac node.log

    c : CarriesActs setup place now 0 node (Line Reboot) mesh after
    c = carries_acts setup place now 0 node (Line Reboot) mesh after found is

    -- its acts go whole
    acts_whole : cut_acts cutter (reboot_acts node.mac old) ≡ reboot_acts node.mac old
    acts_whole =
        let acts = reboot_acts node.mac old in
        ap (cut_acts cutter) (sym (append-nil acts)) ∙ front_whole cutter acts [] (aliases_whole cutter.most node.mac old.commits (restarted old).commits) ∙ append-nil acts

    sent : after_acts setup actor (reboot_acts node.mac old) mesh ≡ Ok c.mid
    sent = subst (λ acts. after_acts setup actor acts mesh ≡ Ok c.mid) acts_whole c.carried

    rebooted : node.mac ≡ orig → number ≡ length old.commits → is_of_reboot orig number log ≡ true
    rebooted same number_is = ap (λ ns. is_of_reboot orig number (log_of orig ns)) (given_is setup place now 0 node (Line Reboot) mesh after found is).nodes ∙ now_made mesh.nodes place node (entry_of setup node now (Line Reboot)) orig number (all_tell queries mesh r).distinct found same number_is

    in_acts : (acts : List Act) → Tells node.mac old.commits (first_commit ∷ old.commits) [] acts → after_acts setup actor acts mesh ≡ Ok c.mid → StandsInStep queries log before orig number earlier back
    in_acts _ (tells_none acts quiet) sent =
        let s = acts_sent setup actor acts mesh c.mid sent in
        quiet_follow queries after.nodes mesh.events after.events s.more_events (quiet_events acts node.mac now s.more_events quiet s.came) (c.events ∙ s.events) all before back orig number earlier at
    in_acts _ (tells_one commit least made found_alias) sent = go (one_or_older mesh.events one before alias back (sym gained ∙ at))
      where
        one : Event
        one = Alias node.mac (length old.commits) least

        gained : after.events ≡ mesh.events ++ one ∷ []
        gained = c.events ∙ ap (λ (m : Mesh). m.events) (sym (ok_one (with_events (one ∷ []) mesh) c.mid sent))

        is_first : commit ≡ first_commit
        is_first = cc

        go : StandsBefore mesh.events (one ∷ []) before alias back ⊎ ((before ≡ mesh.events) × (one ≡ alias) × (back ≡ [])) → StandsInStep queries log before orig number earlier back
        go (inl older) = with_more queries log before orig number earlier older.rest (one ∷ []) back older.back_is (all before older.rest orig number earlier older.list_is)
        go (inr last) =
            let fields = same_alias node.mac orig (length old.commits) number least earlier last.1 in
            let number_is = sym fields.1 in
            record {
              in_tick = λ none. absurd (true≢false (sym (rebooted fields.0 number_is) ∙ none));
              at_reboot = λ made. record {
                mesh = mesh;
                reachable = r;
                place = place;
                node = node;
                found = found;
                mac_is = fields.0;
                now = now;
                made = refl;
                number_is = number_is;
                alias = subst (λ v. alias_before v old.commits ≡ Some earlier) is_first (found_alias ∙ ap Some fields.2);
                rebooted = after;
                reboots = is;
                only = subst (λ event. after.events ≡ mesh.events ++ event ∷ []) last.1 gained;
                before_is = last.0;
                first = λ other has. none_before queries mesh place node orig number other r found fields.0 number_is (subst (λ es. Has es (Alias orig number other)) last.0 has);
              };
            }

-- a line, which may reboot its node
line_stand : (queries : Mac → Queries) (mesh after : Mesh) (place now : ℕ) (node : NodeLog) (line : LineGiven) → IsReachable queries mesh → slice_get mesh.nodes place ≡ Some node → given_to (scenario_setup queries) place now 0 (Line line) mesh ≡ Ok after
    → AllStand queries after.nodes mesh.events → AllStand queries after.nodes after.events
line_stand queries mesh after place now node line r found is all = go (line_reboots line) refl
  where
    go : (b : Bool) → line_reboots line ≡ b → AllStand queries after.nodes after.events
    go true reboots = reboot_stand queries mesh after place now node r found (subst (λ l. given_to (scenario_setup queries) place now 0 (Line l) mesh ≡ Ok after) (reboot_line line reboots) is) all
    go false calm = calm_stand queries mesh after place now 0 node (Line line) found is (line_quiet (queries node.mac) node.mac node.log now line calm) all

-- ---- meshes
-- an event beside that tells of no alias
beside_stand : (queries : Mac → Queries) (mesh : Mesh) (event : Event) → ((orig : Mac) (number earlier : ℕ) → Alias orig number earlier ≡ event → ⊥) → AllStand queries mesh.nodes mesh.events → AllStand queries mesh.nodes (mesh.events ++ event ∷ [])
beside_stand queries mesh event other all = quiet_follow queries mesh.nodes mesh.events (mesh.events ++ event ∷ []) (event ∷ []) none refl all
  where
    none : (orig : Mac) (number earlier : ℕ) → Has (event ∷ []) (Alias orig number earlier) → ⊥
    none orig number earlier (inl e) = other orig number earlier e
    none orig number earlier (inr nothing) = nothing

-- what stood stands by the logs behind an input
given_on : (queries : Mac → Queries) (mesh after : Mesh) (place now root : ℕ) (node : NodeLog) (given : Given) → IsReachable queries mesh → slice_get mesh.nodes place ≡ Some node → given_to (scenario_setup queries) place now root given mesh ≡ Ok after
    → AllStand queries mesh.nodes mesh.events → AllStand queries after.nodes mesh.events
given_on queries mesh after place now root node given r found is =
    let entry = entry_of (scenario_setup queries) node now given in
    stand_on queries mesh after.nodes r (subst (WasMade mesh.nodes) (sym (given_is (scenario_setup queries) place now root node given mesh after found is).nodes) (was_made mesh.nodes place node entry (all_tell queries mesh r).distinct found))

step_stand : (queries : Mac → Queries) → AllKeep queries → (mesh after : Mesh) → IsReachable queries mesh → Steps queries mesh after → AllStand queries mesh.nodes mesh.events → AllStand queries after.nodes after.events
step_stand queries keep mesh _ r (node_joins _ node empty whole fresh) all = stand_on queries mesh (mesh.nodes ++ node ∷ []) r (λ orig number there. ap (is_of_reboot orig number) (log_joined orig mesh.nodes node empty)) all
step_stand queries keep mesh _ r (link_joins _ link) all = all
step_stand queries keep mesh after r (line_gives _ _ place now node line found may of is) all = line_stand queries mesh after place now node line r found is (given_on queries mesh after place now 0 node (Line line) r found is all)
step_stand queries keep mesh after r (node_ticks _ _ place now node found may is) all = tick_stand queries mesh after place now node (keep node.mac) r found is (given_on queries mesh after place now (next_tick node) node (Tick (next_tick node)) r found is all)
step_stand queries keep mesh after r (frame_comes _ _ place now number throughput from node frame found may sent whole is) all =
    let given = LinkFrame (suc number) from throughput frame.bytes in
    calm_stand queries mesh after place now frame.root node given found is (frame_quiet (queries node.mac) node.mac node.log now (suc number) from throughput frame.bytes) (given_on queries mesh after place now frame.root node given r found is all)
step_stand queries keep mesh _ r (lan_joins _ lan) all = all
step_stand queries keep mesh _ r (put_comes _ put frame by is tells) all = beside_stand queries mesh (put_event mesh put) (λ orig number earlier e. cc) all
step_stand queries keep mesh _ r (put_reaches _ number now put frame found carries) all = beside_stand queries mesh (bridged_event now put frame) (λ orig number earlier e. cc) all
step_stand queries keep mesh after r (lan_comes _ _ place now number node put found may among is) all =
    calm_stand queries mesh after place now 0 node (LanFrame put.bytes) found is (lan_quiet (queries node.mac) node.mac node.log now put.bytes) (given_on queries mesh after place now 0 node (LanFrame put.bytes) r found is all)
step_stand queries keep mesh _ r (time_passes _ happening) all = all
step_stand queries keep mesh _ r (routes_told _ lines watch) all =
    quiet_follow queries mesh.nodes mesh.events (mesh.events ++ map route_event lines) (map route_event lines) (λ orig number earlier has. no_route_event lines (Alias orig number earlier) (λ line e. cc) has) refl all

pub aliases_stand_in_steps : AliasesStandInSteps
aliases_stand_in_steps queries keep _ (begins watch) = λ before back orig number earlier is. absurd (no_place before (Alias orig number earlier) back is)
aliases_stand_in_steps queries keep _ (goes_on mesh after r s) = step_stand queries keep mesh after r s (aliases_stand_in_steps queries keep mesh r)
