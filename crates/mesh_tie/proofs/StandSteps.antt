-- Aliases that stand in the steps that made their commits go on to, whatever follows: by what is in
-- logs, which input made a commit, and by events that tell of no alias.
use Rattle.std.proofs.Common.{◌≡◌, ◌≢◌, ◌⊎◌, ◌<◌, ◌≤◌, nat_lt, inl, inr, ℕ, Bool, true, false, cond, List, ◌∷◌, ◌++◌, length, slice_get, Some, Ok, refl, sym, ap, subst, ◌∙◌, append_assoc, arith}
use Rattle.std.proofs.lemmas.Bool.{lt-ltb, ltb-true}
use Rattle.mesh_base.specs.declared.address.Mac.{Mac}
use Rattle.mesh_base.specs.declared.event.Event.{Event}
use Rattle.mesh_base.specs.declared.event.Event.TheVariants.{Alias}
use Rattle.mesh_model.specs.Clients.Log.{Given, Log, LogEntry, is_reboot}
use Rattle.mesh_model.specs.Commits.History.{commits}
use Rattle.mesh_model.specs.Net.Inputs.{entry_of, given_to, noted_at}
use Rattle.mesh_model.specs.Net.Limits.{scenario_setup}
use Rattle.mesh_model.specs.Net.Mesh.{NodeLog, Mesh}
use Rattle.mesh_model.specs.Net.Next.{Has}
use Rattle.mesh_model.specs.Routes.Queries.{Queries}
use Rattle.mesh_laws.proofs.Schedule.Members.{has_right}
use Rattle.mesh_tie.specs.AliasesSeen.{HasAlias}
use Rattle.mesh_tie.specs.AliasesStand.{StandsInStep, StandsInTick, is_of_reboot}
use Rattle.mesh_tie.specs.Originators.{commits_of, log_of}
use Rattle.mesh_tie.specs.Steps.{IsReachable}
use Rattle.mesh_tie.proofs.AliasRows.{AreQuiet}
use Rattle.mesh_tie.proofs.LogLemmas.{AreDistinct, log_found, log_itself, log_other}
use Rattle.mesh_tie.proofs.Sayable.{one_or_two}
use Rattle.mesh_tie.proofs.SeenLemmas.{all_tell}
use Rattle.mesh_tie.proofs.SentLemmas.{given_is}
use Rattle.mesh_tie.proofs.StandParts.{peeled, quiet_events}

-- ---- which input made a commit
-- of a commit that was there before, it stays the same
abbrev pub WasMade : List NodeLog → List NodeLog → Type 0
WasMade old nodes = (orig : Mac) (number : ℕ) → number < length (commits orig (log_of orig old)) → is_of_reboot orig number (log_of orig nodes) ≡ is_of_reboot orig number (log_of orig old)

pub was_made : (nodes : List NodeLog) (place : ℕ) (node : NodeLog) (entry : LogEntry) → AreDistinct nodes → slice_get nodes place ≡ Some node → WasMade nodes (noted_at place entry nodes)
was_made nodes place node entry d found orig number there = go (one_or_two node.mac orig)
  where
    go : (node.mac ≡ orig) ⊎ (node.mac ≢ orig) → is_of_reboot orig number (log_of orig (noted_at place entry nodes)) ≡ is_of_reboot orig number (log_of orig nodes)
    go (inl same) =
        let is = log_found orig nodes place node d found same in
        let low : number < length (commits orig node.log) = subst (λ log. number < length (commits orig log)) is there in
        ap (is_of_reboot orig number) (log_itself orig nodes place node entry d found same) ∙ ap (λ b. cond b (is_of_reboot orig number node.log) (is_reboot entry.given)) (lt-ltb number (length (commits orig node.log)) low) ∙ sym (ap (is_of_reboot orig number) is)
    go (inr other) = ap (is_of_reboot orig number) (log_other orig nodes place node entry found other)

-- of a new one it is the newest entry
pub now_made : (nodes : List NodeLog) (place : ℕ) (node : NodeLog) (entry : LogEntry) (orig : Mac) (number : ℕ) → AreDistinct nodes → slice_get nodes place ≡ Some node → node.mac ≡ orig → number ≡ length (commits node.mac node.log)
    → is_of_reboot orig number (log_of orig (noted_at place entry nodes)) ≡ is_reboot entry.given
now_made nodes place node entry orig number d found same new =
    let high : length (commits orig node.log) ≤ number = subst (λ m. length (commits m node.log) ≤ number) same (omega (arith, new)) in
    ap (is_of_reboot orig number) (log_itself orig nodes place node entry d found same) ∙ ap (λ b. cond b (is_of_reboot orig number node.log) (is_reboot entry.given)) (not_low (nat_lt number (length (commits orig node.log))) refl high)
  where
    not_low : (b : Bool) → nat_lt number (length (commits orig node.log)) ≡ b → length (commits orig node.log) ≤ number → b ≡ false
    not_low true is high = let low = ltb-true number (length (commits orig node.log)) is in absurd (omega (arith, low, high))
    not_low false is high = refl

-- ---- steps
-- each alias among events stands so, by the logs of these nodes
abbrev pub AllStand : (Mac → Queries) → List NodeLog → List Event → Type 0
AllStand queries nodes events = (before back : List Event) (orig : Mac) (number earlier : ℕ) → events ≡ before ++ Alias orig number earlier ∷ back → StandsInStep queries (log_of orig nodes) before orig number earlier back

-- what stands in a tick does so too where more follows
tick_with_more : (queries : Mac → Queries) (before : List Event) (orig : Mac) (number earlier : ℕ) (rest more back : List Event) → back ≡ rest ++ more → StandsInTick queries before orig number earlier rest → StandsInTick queries before orig number earlier back
tick_with_more queries before orig number earlier rest more back is s = record {
  mesh = s.mesh;
  reachable = s.reachable;
  place = s.place;
  node = s.node;
  found = s.found;
  mac_is = s.mac_is;
  now = s.now;
  commit = s.commit;
  made = s.made;
  number_is = s.number_is;
  alias = s.alias;
  elp = s.elp;
  elp_sent = s.elp_sent;
  sends_elp = s.sends_elp;
  message = s.message;
  message_sent = s.message_sent;
  sends_message = s.sends_message;
  later = s.later ++ more;
  before_is = s.before_is;
  after_is = is ∙ ap (λ l. l ++ more) s.after_is ∙ append_assoc s.message s.later more;
  first = s.first;
}

pub with_more : (queries : Mac → Queries) (log : Log) (before : List Event) (orig : Mac) (number earlier : ℕ) (rest more back : List Event) → back ≡ rest ++ more → StandsInStep queries log before orig number earlier rest → StandsInStep queries log before orig number earlier back
with_more queries log before orig number earlier rest more back is s = record {
  in_tick = λ none. tick_with_more queries before orig number earlier rest more back is (s.in_tick none);
  at_reboot = s.at_reboot;
}

-- logs that go on with what is new leave what stood
pub stand_on : (queries : Mac → Queries) (mesh : Mesh) (nodes : List NodeLog) → IsReachable queries mesh → WasMade mesh.nodes nodes → AllStand queries mesh.nodes mesh.events → AllStand queries nodes mesh.events
stand_on queries mesh nodes r was all before back orig number earlier is =
    let told : Has mesh.events (Alias orig number earlier) = subst (λ es. Has es (Alias orig number earlier)) (sym is) (has_right before (Alias orig number earlier ∷ back) (Alias orig number earlier) (inl refl)) in
    let same = was orig number (((all_tell queries mesh r).told orig number earlier).0 told).0 in
    let s = all before back orig number earlier is in
    record { in_tick = λ none. s.in_tick (sym same ∙ none); at_reboot = λ made. s.at_reboot (sym same ∙ made) }

-- events that tell of no alias follow
pub quiet_follow : (queries : Mac → Queries) (nodes : List NodeLog) (past events more : List Event) → ((orig : Mac) (number earlier : ℕ) → Has more (Alias orig number earlier) → ⊥) → events ≡ past ++ more → AllStand queries nodes past → AllStand queries nodes events
quiet_follow queries nodes past events more none same all before back orig number earlier is =
    let p = peeled past more before (Alias orig number earlier) back (none orig number earlier) (sym same ∙ is) in
    with_more queries (log_of orig nodes) before orig number earlier p.rest more back p.back_is (all before p.rest orig number earlier p.list_is)

-- an input whose acts tell of none
pub calm_stand : (queries : Mac → Queries) (mesh after : Mesh) (place now root : ℕ) (node : NodeLog) (given : Given) → slice_get mesh.nodes place ≡ Some node → given_to (scenario_setup queries) place now root given mesh ≡ Ok after
    → AreQuiet (entry_of (scenario_setup queries) node now given).acts → AllStand queries after.nodes mesh.events → AllStand queries after.nodes after.events
calm_stand queries mesh after place now root node given found is quiet all =
    let has = given_is (scenario_setup queries) place now root node given mesh after found is in
    quiet_follow queries after.nodes mesh.events after.events has.more_events (quiet_events (entry_of (scenario_setup queries) node now given).acts node.mac now has.more_events quiet has.came) has.events all

-- no event tells of a commit before it is made
pub none_before : (queries : Mac → Queries) (mesh : Mesh) (place : ℕ) (node : NodeLog) (orig : Mac) (number other : ℕ) → IsReachable queries mesh → slice_get mesh.nodes place ≡ Some node → node.mac ≡ orig → number ≡ length (commits node.mac node.log)
    → Has mesh.events (Alias orig number other) → ⊥
none_before queries mesh place node orig number other r found same number_is has =
    let tell = all_tell queries mesh r in
    let had : HasAlias (commits_of orig mesh) number other = (tell.told orig number other).0 has in
    let made : HasAlias (commits orig node.log) number other = subst (λ log. HasAlias (commits orig log) number other) (log_found orig mesh.nodes place node tell.distinct found same) had in
    let low : number < length (commits node.mac node.log) = subst (λ m. number < length (commits m node.log)) (sym same) made.0 in
    omega (arith, low, number_is)
