-- What is shown `ok` is of a commit, unless an alias was printed.
use Rattle.std.proofs.Common.{◌≡◌, ◌⊎◌, inl, inr, ◌+◌, ℕ, Bool, true, false, cond, List, [], ◌∷◌, ◌++◌, map, filter_map, Option, Some, None, option_map, is_some, Ok, Err, refl, sym, ap, subst, ◌∙◌}
use Rattle.std.specs.List.{cons_option}
use Rattle.std.proofs.lemmas.Bool.{false≢true}
use Rattle.mesh_base.specs.declared.address.Mac.{Mac}
use Rattle.mesh_base.specs.declared.event.Event.{Event}
use Rattle.mesh_base.specs.declared.event.Event.TheVariants.{Alias}
use Rattle.mesh_base.specs.Names.{NamesGiven}
use Rattle.mesh_model.specs.declared.ending.LimitName.TheVariants.{Input, Line}
use Rattle.mesh_model.specs.declared.ending.Stop.TheVariants.{Limit}
use Rattle.mesh_model.specs.declared.line_form.Command.{Command}
use Rattle.mesh_model.specs.Clients.Log.{Line as LineGives}
use Rattle.mesh_model.specs.Net.Mesh.{Mesh, Setup}
use Rattle.mesh_model.specs.Net.Next.{Has}
use Rattle.mesh_model.specs.Net.Runs.{Course, PassedLimit, begin, run_to}
use Rattle.mesh_model.specs.Routes.Algorithms.{queries_of}
use Rattle.mesh_model.specs.Run.KnownTables.{part_of}
use Rattle.mesh_model.specs.Run.Outcome.{Outcome, Ends, Goes, reached}
use Rattle.mesh_model.specs.Run.Passing.{course_outcome, events_since, gone_on}
use Rattle.mesh_model.specs.Run.PlainRun.{Run, after_line, after_lines, after_outcome, after_reading, line_outcome, passes_input, passes_line, start}
use Rattle.mesh_model.specs.Run.Rules.{carried_out, setup_of}
use Rattle.mesh_model.specs.Run.Shown.{known_to}
use Rattle.mesh_model.specs.Run.State.{Printed, Happened, State, names_of}
use Rattle.mesh_model.specs.Scenario.Commands.{command_of_line}
use Rattle.mesh_model.specs.Scenario.Halt.{Halt}
use Rattle.mesh_model.specs.Scenario.Lines.{content}
use Rattle.mesh_model.specs.Scenario.Readings.{Reading}
use Rattle.mesh_model.specs.Tables.Gathered.{Gathered}
use Rattle.mesh_model.specs.Tables.Known.{Known, LastTold, agrees, is_agreed, known_by, nothing, originators_by}
use Rattle.mesh_model.specs.Tables.Versions.{Version}
use Rattle.mesh_model.specs.Text.GlobalTables.{GlobalPart}
use Rattle.mesh_laws.proofs.DifferenceLemmas.{agrees_by_checksums}
use Rattle.mesh_laws.proofs.Lines.Courses.{going_follows}
use Rattle.mesh_laws.proofs.Lines.Ways.{Led, again, given_all, lanned, put_there, chose, ended, given, led, linked, noded, passed, printed, stayed}
use Rattle.mesh_laws.proofs.Schedule.Members.{has_either, has_left, has_map, has_right}
use Rattle.mesh_laws.proofs.Schedule.Steps.{tickless}
use Rattle.mesh_tie.specs.Originators.{commits_of, log_of}
use Rattle.mesh_tie.specs.ShownTables.{IsOfCommit, ShowsCommits, ShownTablesAreCommitted}
use Rattle.mesh_tie.specs.Tie.{known_at_node}
use Rattle.mesh_tie.specs.TieLaws.{HoldsTheTold, IsWithoutAlias}
use Rattle.mesh_tie.proofs.LawLemmas.{agreed_are_told, held_are_committed}
use Rattle.mesh_tie.proofs.GainLemmas.{GainsEvents, again_gains, all_gains, course_gains, effect_gains, gained_is, lan_gains, put_gains}
use Rattle.mesh_tie.proofs.LineReach.{RunHolds, first_holds, lines_hold}
use Rattle.mesh_tie.proofs.SeenLemmas.{aliases_are_seen}
use Rattle.mesh_tie.proofs.VLemmas.{algorithms_keep}

-- ---- events are printed
-- every event of a state is printed
abbrev EventsPrinted : State → Type 0
EventsPrinted state = (event : Event) → Has state.mesh.events event → (names : NamesGiven) × Has state.printed (Happened names event)

gone_prints : (state : State) (now : ℕ) (mesh : Mesh) → GainsEvents state.mesh mesh → EventsPrinted state → EventsPrinted (gone_on state now mesh)
gone_prints state now mesh f all event has = go (has_either state.mesh.events f.more event (subst (λ es. Has es event) f.events has))
  where
    names : NamesGiven
    names = names_of mesh

    new : List Printed
    new = map (Happened (names_of mesh)) (events_since state.mesh mesh)

    go : Has state.mesh.events event ⊎ Has f.more event → (names : NamesGiven) × Has (state.printed ++ new) (Happened names event)
    go (inl old) = let p = all event old in (p.0, has_left state.printed new (Happened p.0 event) p.1)
    go (inr more) = (
      names,
      has_right state.printed new (Happened names event)
          (has_map (Happened (names_of mesh)) (events_since state.mesh mesh) event (subst (λ es. Has es event) (sym (gained_is state.mesh mesh f)) more)),
    )

course_prints : (state : State) (t : ℕ) (o : Course) (stop : Option PassedLimit) → GainsEvents state.mesh o.mesh → EventsPrinted state → EventsPrinted (reached (course_outcome state t o.mesh stop))
course_prints state t o None f all = gone_prints state t o.mesh f all
course_prints state t o (Some p) f all = gone_prints state p.moment o.mesh f all

led_prints : (setup : Setup) (state : State) (command : Command) (outcome : Outcome) → Led setup state command outcome → EventsPrinted state → EventsPrinted (reached outcome)
led_prints setup state command outcome (ended stop e) all = subst (λ o. EventsPrinted (reached o)) (sym e) all
led_prints setup state command outcome (printed more e) all = subst (λ o. EventsPrinted (reached o)) (sym e) (λ event has. let p = all event has in (p.0, has_left state.printed (more ∷ []) (Happened p.0 event) p.1))
led_prints setup state command outcome (stayed e) all = subst (λ o. EventsPrinted (reached o)) (sym e) all
led_prints setup state command outcome (chose algorithm is e) all = subst (λ o. EventsPrinted (reached o)) (sym e) all
led_prints setup state command outcome (noded node new made few e) all = subst (λ o. EventsPrinted (reached o)) (sym e) all
led_prints setup state command outcome (linked link delay e) all = subst (λ o. EventsPrinted (reached o)) (sym e) all
led_prints setup state command outcome (given place line after of g e) all = subst (λ o. EventsPrinted (reached o)) (sym e)
    (gone_prints state state.clock after (effect_gains setup state.clock state.mesh after (tickless setup state.mesh place state.clock 0 (LineGives line) after refl tt g)) all)
led_prints setup state command outcome (again place after g e) all = subst (λ o. EventsPrinted (reached o)) (sym e)
    (gone_prints state state.clock after (again_gains setup place state.clock state.mesh after g) all)
led_prints setup state command outcome (given_all places line after plain calm g e) all = subst (λ o. EventsPrinted (reached o)) (sym e) (gone_prints state state.clock after (all_gains setup places state.clock line state.mesh after g) all)
led_prints setup state command outcome (lanned name gateways after g e) all = subst (λ o. EventsPrinted (reached o)) (sym e) (gone_prints state state.clock after (lan_gains setup name gateways state.clock state.mesh after g) all)
led_prints setup state command outcome (put_there put after at low g e) all = subst (λ o. EventsPrinted (reached o)) (sym e) (gone_prints state state.clock after (put_gains setup put state.mesh after g) all)
led_prints setup state command outcome (passed time run low e) all = subst (λ o. EventsPrinted (reached o)) (sym e)
    (course_prints state (state.clock + time) (run_to setup (state.clock + time) state.mesh) (run_to setup (state.clock + time) state.mesh).stop (course_gains state.mesh (run_to setup (state.clock + time) state.mesh).mesh (going_follows setup (state.clock + time) (begin state.mesh))) all)

reading_prints : (state : State) (r : Reading) → EventsPrinted state → EventsPrinted (reached (after_reading state r))
reading_prints state (Ok command) all = led_prints (setup_of state.algorithm) state command (carried_out (setup_of state.algorithm) state command) (led (setup_of state.algorithm) state command) all
reading_prints state (Err stop) all = all

line_prints : (state : State) (before : ℕ) (line : List ℕ) → EventsPrinted state → EventsPrinted (reached (line_outcome state before line))
unfolding line_outcome
line_prints state before line all = go (passes_line before line) (passes_input before line)
  where
    go : (l i : Bool) → EventsPrinted (reached (cond l (Ends state (Limit Line)) (cond i (Ends state (Limit Input)) (after_reading state (command_of_line (content line))))))
    go true i = all
    go false true = all
    go false false = reading_prints state (command_of_line (content line)) all

outcome_prints : (run : Run) (line : List ℕ) (o : Outcome) → EventsPrinted (reached o) → EventsPrinted (after_outcome run line o).state
outcome_prints run line (Goes state) all = all
outcome_prints run line (Ends state stop) all = all

after_prints : (run : Run) (line : List ℕ) → EventsPrinted run.state → EventsPrinted (after_line run line).state
after_prints run line all = go run.halt
  where
    go : (o : Option Halt) → EventsPrinted (cond (is_some o) run (after_outcome run line (line_outcome run.state run.bytes line))).state
    go None = outcome_prints run line (line_outcome run.state run.bytes line) (line_prints run.state run.bytes line all)
    go (Some halt) = all

lines_print : (run : Run) (lines : List (List ℕ)) → EventsPrinted run.state → EventsPrinted (after_lines run lines).state
lines_print run [] all = all
lines_print run (line ∷ lines) all = lines_print (after_line run line) lines (after_prints run line all)

-- ---- what a part says
some_one : {X : Type 0} (x y : X) → Some x ≡ Some y → x ≡ y
some_one x y e = cc

-- a part that agrees has what is held and told
record PartSays (orig : Mac) (known : Known) (part : GlobalPart) : Type 0 where
  last : LastTold
  held : Version
  told_is : known.told ≡ Some last
  held_is : known.held ≡ Some held
  orig_is : part.row.orig ≡ orig
  row_held : part.row.held ≡ Some held.byte
  row_told : part.row.told ≡ last.stamp.byte
  entries : part.entries ≡ held.table
  agreed : is_agreed known ≡ true

part_from : (orig : Mac) (told : Option LastTold) (held : Option Version) (gathered : Gathered) (part : GlobalPart) → part_of orig (record { told = told; held = held; gathered = gathered }) ≡ Some part → part.row.ok ≡ true → PartSays orig (record { told = told; held = held; gathered = gathered }) part
part_from orig None held gathered part is ok = cc
part_from orig (Some last) None gathered part is ok = absurd (false≢true (ap (λ (p : GlobalPart). p.row.ok) (some_one (record { row = record { orig = orig; held = None; told = last.stamp.byte; ok = false }; entries = [] }) part is) ∙ ok))
part_from orig (Some last) (Some held) gathered part is ok =
    let same = some_one (record { row = record { orig = orig; held = Some held.byte; told = last.stamp.byte; ok = agrees (Some last.stamp) (Some held) }; entries = held.table }) part is in
    record {
      last = last;
      held = held;
      told_is = refl;
      held_is = refl;
      orig_is = ap (λ (p : GlobalPart). p.row.orig) (sym same);
      row_held = ap (λ (p : GlobalPart). p.row.held) (sym same);
      row_told = ap (λ (p : GlobalPart). p.row.told) (sym same);
      entries = ap (λ (p : GlobalPart). p.entries) (sym same);
      agreed = ap (λ (p : GlobalPart). p.row.ok) same ∙ ok;
    }

part_live : (live : Bool) (orig : Mac) (known : Known) (part : GlobalPart) → part_of orig (cond live known nothing) ≡ Some part → part.row.ok ≡ true → PartSays orig known part
part_live true orig known part is ok = part_from orig known.told known.held known.gathered part is ok
part_live false orig known part is ok = cc

-- something that a function gave
abbrev Gave : {X Y : Type 0} → (X → Option Y) → Y → Type 0
Gave {X} f y = (x : X) × (f x ≡ Some y)

mapped_step : {X Y : Type 0} (f : X → Option Y) (x : X) (rest : List Y) (y : Y) (o : Option Y) → f x ≡ o → Has (cons_option o rest) y → (Has rest y → Gave f y) → Gave f y
mapped_step f x rest y None is has more = more has
mapped_step f x rest y (Some v) is (inl same) more = (x, is ∙ ap Some (sym same))
mapped_step f x rest y (Some v) is (inr has) more = more has

has_mapped : {X Y : Type 0} (f : X → Option Y) (xs : List X) (y : Y) → Has (filter_map f xs) y → Gave f y
has_mapped f [] y has = absurd has
has_mapped f (x ∷ xs) y has = mapped_step f x (filter_map f xs) y (f x) refl has (has_mapped f xs y)

-- ---- the law
run_shows : (run : Run) → RunHolds run → EventsPrinted run.state → ShowsCommits run
run_shows run h events place node part found has ok none =
    let q = queries_of run.state.algorithm node.mac in
    let known = known_to run.state.algorithm node in
    let from = has_mapped (λ orig. part_of orig (Rattle.mesh_model.specs.Knowledge.Known.known_at q known run.state.clock orig)) (originators_by known.tables) part has in
    let p = part_live (q.live known.routes run.state.clock from.0) from.0 (known_by known.tables from.0) part from.1 ok in
    of_part from.0 p
  where
    of_part : (orig : Mac) → PartSays orig (known_by (known_at_node (queries_of run.state.algorithm) node).tables orig) part → IsOfCommit run.state node part
    of_part orig p =
        let clear : IsWithoutAlias (queries_of run.state.algorithm) orig run.state.mesh = record {
          keep = algorithms_keep run.state.algorithm;
          reachable = h.reachable;
          none = aliases_are_seen (queries_of run.state.algorithm) run.state.mesh h.reachable orig (λ number earlier told. let e = events (Alias orig number earlier) told in
              none e.0 number earlier (subst (λ o. Has run.state.printed (Happened e.0 (Alias o number earlier))) (sym p.orig_is) e.1));
        } in
        let told = agreed_are_told (queries_of run.state.algorithm) orig run.state.mesh clear place node p.last p.held found p.told_is p.held_is p.agreed in
        let bytes = ((agrees_by_checksums p.last.stamp p.held).0 (subst (λ o. agrees o (Some p.held) ≡ true) (ap (option_map (λ (t : LastTold). t.stamp)) p.told_is)
        (subst (λ o. agrees (option_map (λ (t : LastTold). t.stamp) (known_by (known_at_node (queries_of run.state.algorithm) node).tables orig).told) o ≡ true) p.held_is p.agreed))).0 in
        subst_orig orig p told bytes (held_are_committed (queries_of run.state.algorithm) orig run.state.mesh clear place node p.held found p.held_is)
      where
        subst_orig : (orig : Mac) (p : PartSays orig (known_by (known_at_node (queries_of run.state.algorithm) node).tables orig) part) → HoldsTheTold orig run.state.mesh p.last p.held → p.held.byte ≡ p.last.stamp.byte
            → Rattle.mesh_laws.specs.Machine.World.IsCommit (commits_of orig run.state.mesh) p.held → IsOfCommit run.state node part
        subst_orig orig p told bytes commit = record {
          commit = p.held;
          is_commit = subst (λ o. Rattle.mesh_laws.specs.Machine.World.IsCommit (commits_of o run.state.mesh) p.held) (sym p.orig_is) commit;
          held = p.row_held;
          told = p.row_told ∙ sym bytes;
          entries = p.entries;
          frame = told.frame;
          last = p.last;
          accepted = subst (λ o. (known_by (known_at_node (queries_of run.state.algorithm) node).tables o).told ≡ Some p.last) (sym p.orig_is) p.told_is;
          sent = told.sent;
          at_root = told.table ∙ ap (λ o. (Rattle.mesh_model.specs.Commits.Announcements.commit_at_root o (log_of o run.state.mesh.nodes) told.frame.root).table) (sym p.orig_is);
        }

pub shown_tables_are_committed : ShownTablesAreCommitted
shown_tables_are_committed choice lines = run_shows (after_lines (start choice) lines) (lines_hold (start choice) lines (first_holds choice))
    (lines_print (start choice) lines (λ event has. absurd has))
