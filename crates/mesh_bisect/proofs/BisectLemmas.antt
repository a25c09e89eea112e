-- What a call leaves of what was read, and what is printed of a moment.
use Rattle.std.proofs.Common.{◌≡◌, ℕ, List, [], ◌∷◌, ◌++◌, Some, None, flat_map, refl, sym, ap, ◌∙◌}
use Rattle.std.specs.Option.{option_map_or}
use Rattle.mesh_model.specs.declared.route_line.RouteLine.{RouteLine}
use Rattle.mesh_model.specs.Loops.Bisecting.{Bisecting, all_lines, ended, moment_text, newest_moment, with_route}
use Rattle.mesh_model.specs.Loops.Reports.{clear_line, loop_line, report_text}
use Rattle.mesh_model.specs.Loops.Routes.{loops_of}
use Rattle.mesh_loops.specs.declared.report.LoopReport.{LoopReport}
use Rattle.mesh_loops.specs.Watch.{WasSet, WasSettled, WatchStands, lines_set, report_of}
use Rattle.mesh_bisect.specs.declared.bisect.Bisect.{Bisect}
use Rattle.mesh_bisect.specs.Bisect.{BisectStands}

module _ (old : Bisect) (lines : Bisecting) (stands : BisectStands old lines) where
  -- where no moment is under way nothing ends
  pub none_ended : old.moment ≡ None → BisectStands old (ended lines)
  none_ended none = go lines.under_way refl
    where
      go : (under_way : List RouteLine) → lines.under_way ≡ under_way → BisectStands old (ended lines)
      go [] is = record {
        calls = stands.calls;
        watch = stands.watch;
        set = stands.set;
        settled = stands.settled ∙ ap (λ newer. newer ++ lines.before) (sym is);
        moment = none;
      }
      go (line ∷ older) is = let there : None ≡ Some line.moment = sym none ∙ stands.moment ∙ ap newest_moment is in absurd cc

  pub none_told : old.moment ≡ None → moment_text lines ≡ []
  none_told none =
      ap (λ moment. option_map_or (λ m. report_text m (loops_of lines.before) (loops_of (all_lines lines))) moment []) (sym stands.moment ∙ none)

  -- the moment under way has ended once loops were looked at
  pub has_ended : (new : Bisect) → WatchStands new.watch (WasSettled ∷ stands.calls) → new.moment ≡ None → BisectStands new (ended lines)
  has_ended new watch none = record { calls = WasSettled ∷ stands.calls; watch = watch; set = stands.set; settled = stands.set; moment = none }

  -- and this is told of it
  pub is_told : (moment : ℕ) → old.moment ≡ Some moment → (report : LoopReport) → report ≡ report_of stands.calls
      → flat_map (clear_line moment) report.gone ++ flat_map (loop_line moment) report.fresh ≡ moment_text lines
  is_told moment under_way report told =
      ap (λ (r : LoopReport). flat_map (clear_line moment) r.gone ++ flat_map (loop_line moment) r.fresh) told
      ∙ ap (λ before. report_text moment (loops_of before) (loops_of (lines_set stands.calls))) stands.settled
      ∙ ap (λ all. report_text moment (loops_of lines.before) (loops_of all)) stands.set
      ∙ ap (λ m. option_map_or (λ n. report_text n (loops_of lines.before) (loops_of (all_lines lines))) m []) (sym under_way ∙ stands.moment)

  -- a line that was set is of the moment under way
  pub is_added : (new : Bisect) (line : RouteLine) → WatchStands new.watch (WasSet line ∷ stands.calls) → new.moment ≡ Some line.moment → BisectStands new (with_route lines line)
  is_added new line watch moment = record {
    calls = WasSet line ∷ stands.calls;
    watch = watch;
    set = ap (λ older. line ∷ older) stands.set;
    settled = stands.settled;
    moment = moment;
  }
