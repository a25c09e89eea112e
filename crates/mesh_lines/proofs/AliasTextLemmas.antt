-- What the text of a run says of aliases.
use Rattle.std.proofs.Common.{◌≡◌, ◌⊎◌, inl, inr, ℕ, zero, suc, Bool, true, false, cond, List, [], ◌∷◌, ◌++◌, slice_get, Some, option_map, refl, sym, ap, subst, ◌∙◌, append-nil, arith}
use Rattle.std.specs.Prelude.{bytes_eq, filter, find, flat_map}
use Rattle.std.specs.Option.{unwrap_or}
use Rattle.std.proofs.lemmas.List.{append_cancel_left}
use Rattle.mesh_base.specs.Address.{mac_text}
use Rattle.mesh_base.specs.Names.{NamesGiven, node_name}
use Rattle.mesh_base.specs.declared.address.Mac.{Mac}
use Rattle.mesh_base.specs.declared.event.Event.{Event}
use Rattle.mesh_base.specs.declared.event.Event.TheVariants.{FrameSent, Received, LanSent, Bridged, Lost, Alias, Pinged, Traced, Arp, Alfred, Route}
use Rattle.mesh_base.specs.declared.names.NodeName.{NodeName}
use Rattle.mesh_model.specs.declared.frame_choice.FrameChoice.{FrameChoice}
use Rattle.mesh_model.specs.Commits.History.{commits}
use Rattle.mesh_model.specs.Net.Mesh.{Mesh, NodeLog}
use Rattle.mesh_model.specs.Net.Next.{Has}
use Rattle.mesh_model.specs.Routes.Addresses.{same_mac}
use Rattle.mesh_model.specs.Routes.Algorithms.{queries_of}
use Rattle.mesh_model.specs.Run.PlainRun.{Run, after_lines, output, start}
use Rattle.mesh_model.specs.Run.State.{Happened, Printed, node_names, printed_text}
use Rattle.mesh_model.specs.Scenario.Lines.{complete_lines, is_complete, lines_of}
use Rattle.mesh_model.specs.Text.Events.{event_line}
use Rattle.mesh_laws.specs.Cuts.{AreLines}
use Rattle.mesh_laws.proofs.CutLemmas.{is_complete-IsLine}
use Rattle.mesh_laws.proofs.MacLemmas.{same_exact, same_self}
use Rattle.mesh_laws.proofs.Schedule.Members.{has_either}
use Rattle.mesh_tie.specs.AliasesSeen.{HasAlias}
use Rattle.mesh_tie.specs.AliasesStand.{StandsInStep, events_in}
use Rattle.mesh_tie.specs.Originators.{commits_of, log_of}
use Rattle.mesh_tie.specs.Steps.{IsReachable}
use Rattle.mesh_tie.proofs.LineReach.{first_holds, lines_hold}
use Rattle.mesh_tie.proofs.LogLemmas.{AreDistinct, log_found}
use Rattle.mesh_tie.proofs.PrintLemmas.{events_are_printed, events_parted, printed_has}
use Rattle.mesh_tie.proofs.SeenLemmas.{all_tell, aliases_are_told}
use Rattle.mesh_tie.proofs.StandLemmas.{aliases_stand_in_steps}
use Rattle.mesh_tie.proofs.VLemmas.{algorithms_keep}
use Rattle.mesh_lines.specs.AliasText.{AliasLinesAreRight, IsAliasIn, StandsOrFollows, TellsOfAlias, alias_line, follows, stands}
use Rattle.mesh_lines.specs.ItemLines.{lines_printed}
use Rattle.mesh_lines.specs.LineSources.{IsOfEvent}
use Rattle.mesh_lines.specs.LineWords.{event_kind, kind_of, of_alias}
use Rattle.mesh_lines.specs.PlainLines.{PlainContents}
use Rattle.mesh_lines.specs.TableText.{names_behind}
use Rattle.mesh_lines.specs.TextLaws.{IsFrontOf}
use Rattle.mesh_lines.proofs.Found.{has_at}
use Rattle.mesh_lines.proofs.ItemLemmas.{lines_of_text, printed_are_lines}
use Rattle.mesh_lines.proofs.NodeNames.{alias_among}
use Rattle.mesh_lines.proofs.SourceLemmas.{aliases_have_one_source}
use Rattle.mesh_lines.proofs.TableTextLemmas.{IsPlainFront, alias_line_is, choice_stays, line_among, line_printed, plain_front}

-- ---- names
-- a node is called by its own name
own_name : (nodes : List NodeLog) (place : ℕ) (node : NodeLog) → AreDistinct nodes → slice_get nodes place ≡ Some node → node_name (node_names nodes) node.mac ≡ Some node.name
own_name [] place node d got = cc
own_name (first ∷ rest) zero node d got =
    let is : first ≡ node = cc in
    ap (λ b. option_map (λ (n : NodeName). n.name) (cond b (Some (record { mac = first.mac; name = first.name })) (find (λ n. bytes_eq n.mac.0 node.mac.0) (node_names rest))))
    (subst (λ (n : NodeLog). same_mac first.mac n.mac ≡ true) is (same_self first.mac)) ∙ ap (λ (n : NodeLog). Some n.name) is
own_name (first ∷ rest) (suc place) node d got = go (same_mac first.mac node.mac) refl (own_name rest place node (λ a b n s f g e. let apart = d (suc a) (suc b) n s f g e in omega (arith, apart)) got)
  where
    go : (b : Bool) → same_mac first.mac node.mac ≡ b → node_name (node_names rest) node.mac ≡ Some node.name → option_map (λ (n : NodeName). n.name) (cond b (Some (record { mac = first.mac; name = first.name })) (find (λ n. bytes_eq n.mac.0 node.mac.0) (node_names rest))) ≡ Some node.name
    go true same later = absurd (let apart = d 0 (suc place) first node refl got (same_exact first.mac node.mac same) in omega (arith, apart))
    go false same later = later

alias_line_of : (names : NamesGiven) (mac : Mac) (name : List ℕ) (number earlier : ℕ) → node_name names.nodes mac ≡ Some name → event_line names (Alias mac number earlier) ≡ alias_line name number earlier
unfolding event_line
alias_line_of names mac name number earlier is = ap (λ o. alias_line (unwrap_or o (mac_text mac)) number earlier) is

-- ---- the lines of the whole
filter_all : (lines : List (List ℕ)) → AreLines lines → filter is_complete lines ≡ lines
filter_all [] are = refl
filter_all (line ∷ lines) are = ap (λ b. cond b (line ∷ filter is_complete lines) (filter is_complete lines)) (is_complete-IsLine line are.0) ∙ ap (λ ls. line ∷ ls) (filter_all lines are.1)

-- ---- the text
pub alias_lines_are_right : (choice : FrameChoice) (lines : List (List ℕ)) (text : List ℕ) → PlainContents lines → IsFrontOf (after_lines (start choice) lines) text → AliasLinesAreRight choice lines text
alias_lines_are_right choice lines text plain f = record { told = told; each = each }
  where
    run : Run
    run = after_lines (start choice) lines

    mesh : Mesh
    mesh = run.state.mesh

    printed : List Printed
    printed = run.state.printed

    front : IsPlainFront choice lines text
    front = plain_front choice lines text plain f

    reachable : IsReachable (queries_of run.state.algorithm) mesh
    reachable = (lines_hold (start choice) lines (first_holds choice)).reachable

    distinct : AreDistinct mesh.nodes
    distinct = (all_tell (queries_of run.state.algorithm) mesh reachable).distinct

    -- the line of an alias that was printed
    line_is : (names : NamesGiven) (mac : Mac) (number earlier : ℕ) (place : ℕ) (node : NodeLog) → Has printed (Happened names (Alias mac number earlier)) → slice_get mesh.nodes place ≡ Some node → node.mac ≡ mac
        → event_line names (Alias mac number earlier) ≡ alias_line node.name number earlier
    line_is names mac number earlier place node has found same =
        let h = front.named.printed (Happened names (Alias mac number earlier)) has in
        alias_line_is names (names_behind choice lines) mac number earlier h.0 h.1
        ∙ alias_line_of (names_behind choice lines) mac node.name number earlier (subst (λ m. node_name (node_names mesh.nodes) m ≡ Some node.name) same (own_name mesh.nodes place node distinct found))

    told : (before : List (List ℕ)) (line : List ℕ) (after : List (List ℕ)) → complete_lines text ≡ before ++ line ∷ after → kind_of line ≡ of_alias → TellsOfAlias choice lines before line after
    told before line after is kind = go source.event source.printed_is source.line_is (source.kind_is ∙ kind)
      where
        source : IsOfEvent choice printed before line (after ++ front.later)
        source = aliases_have_one_source choice printed front.plain before line (after ++ front.later) (line_printed choice lines text front before line after is) kind

        go : (event : Event) → printed ≡ source.earlier ++ Happened source.names event ∷ source.later → line ≡ event_line source.names event → event_kind event ≡ of_alias → TellsOfAlias choice lines before line after
        go (FrameSent k m a b reason sent) at same kind = cc
        go (Received m node vid src dst words) at same kind = cc
        go (LanSent k m lan sent) at same kind = cc
        go (Bridged m lan vid src dst words) at same kind = cc
        go (Lost m node vid src dst reason) at same kind = cc
        go (Alias mac number earlier) at same kind =
            let event : Event = Alias mac number earlier in
            let has : Has printed (Happened source.names event) = subst (λ ps. Has ps (Happened source.names event)) (sym at) (has_at source.earlier (Happened source.names event) source.later) in
            let events : mesh.events ≡ events_in source.earlier ++ event ∷ events_in source.later = events_parted choice lines source.earlier source.later source.names event at in
            let told_of : Has mesh.events event = subst (λ es. Has es event) (sym events) (has_at (events_in source.earlier) event (events_in source.later)) in
            let a = alias_among run.state.algorithm mesh reachable mac number earlier told_of in
            let had : HasAlias (commits_of mac mesh) number earlier = (aliases_are_told (queries_of run.state.algorithm) mesh reachable mac number earlier).0 told_of in
            let log_is : log_of mac mesh.nodes ≡ a.node.log = log_found mac mesh.nodes a.place a.node distinct a.found a.mac_is in
            let stands_in : StandsInStep (queries_of run.state.algorithm) (log_of mac mesh.nodes) (events_in source.earlier) mac number earlier (events_in source.later) =
            aliases_stand_in_steps (queries_of run.state.algorithm) (algorithms_keep run.state.algorithm) mesh reachable (events_in source.earlier) (events_in source.later) mac number earlier events in
            record {
              node = a.node;
              number = number;
              earlier = earlier;
              line_is = same ∙ line_is source.names mac number earlier a.place a.node has a.found a.mac_is;
              is_alias = record {
                place = a.place;
                found = a.found;
                has = subst (λ m. HasAlias (commits m a.node.log) number earlier) (sym a.mac_is) (subst (λ log. HasAlias (commits mac log) number earlier) log_is had);
              };
              printed_before = source.earlier;
              before_is = source.before_is;
              printed_behind = source.later;
              later = front.later;
              after_is = sym source.after_is;
              in_step = subst (λ m. StandsInStep (queries_of run.state.algorithm) a.node.log (events_in source.earlier) m number earlier (events_in source.later)) (sym a.mac_is)
                  (subst (λ log. StandsInStep (queries_of run.state.algorithm) log (events_in source.earlier) mac number earlier (events_in source.later)) log_is stands_in);
            }
        go (Pinged node target seq result) at same kind = cc
        go (Traced node target result) at same kind = cc
        go (Arp node ip result) at same kind = cc
        go (Alfred node type_no result) at same kind = cc
        go (Route now node orig next) at same kind = cc

    -- the lines of the output are those of what was printed, and all of them are complete
    whole : lines_of (output run) ≡ lines_printed choice printed
    whole = ap lines_of (ap (λ c. flat_map (printed_text c) printed) (choice_stays choice lines)) ∙ lines_of_text choice printed front.plain

    each : (node : NodeLog) (number earlier : ℕ) → IsAliasIn run.state node number earlier → StandsOrFollows run text (alias_line node.name number earlier)
    each node number earlier is = go (has_either (complete_lines text) front.later (alias_line node.name number earlier) among)
      where
        had : HasAlias (commits_of node.mac mesh) number earlier
        had = subst (λ log. HasAlias (commits node.mac log) number earlier) (sym (log_found node.mac mesh.nodes is.place node distinct is.found refl)) is.has

        told_of : Has mesh.events (Alias node.mac number earlier)
        told_of = (aliases_are_told (queries_of run.state.algorithm) mesh reachable node.mac number earlier).1 had

        item : (names : NamesGiven) × Has printed (Happened names (Alias node.mac number earlier))
        item = printed_has printed (Alias node.mac number earlier) (subst (λ es. Has es (Alias node.mac number earlier)) (sym (events_are_printed choice lines)) told_of)

        among : Has (complete_lines text ++ front.later) (alias_line node.name number earlier)
        among = subst (λ ls. Has ls (alias_line node.name number earlier)) front.printed_is
            (line_among choice printed (Happened item.0 (Alias node.mac number earlier)) (alias_line node.name number earlier) item.1 (inl (sym (line_is item.0 node.mac number earlier is.place node item.1 is.found refl))))

        none_later : text ≡ output run → front.later ≡ []
        none_later same = append_cancel_left (complete_lines text) front.later []
            (sym front.printed_is ∙ sym (filter_all (lines_printed choice printed) (printed_are_lines choice printed front.plain)) ∙ ap (filter is_complete) (sym whole ∙ ap lines_of (sym same)) ∙ sym (append-nil (complete_lines text)))

        go : Has (complete_lines text) (alias_line node.name number earlier) ⊎ Has front.later (alias_line node.name number earlier) → StandsOrFollows run text (alias_line node.name number earlier)
        go (inl here) = stands here
        go (inr there) = follows (λ same. subst (λ ls. Has ls (alias_line node.name number earlier)) (none_later same) there) front.later (whole ∙ front.printed_is) there
