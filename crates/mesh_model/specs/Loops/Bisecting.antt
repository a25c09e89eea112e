-- Lines of routes, moment by moment. A line is of the moment that it tells. The first line of a later
-- moment ends the one under way, and so does the end of the input; a moment that ends is reported, by
-- the loops of all lines before it and those of all lines up to it. A line of an earlier moment than
-- the one under way is late. At most 65,536 different pairs may be named. The main words are
-- `after_route` and `told_at`.
use Rattle.std.specs.Prelude.{ℕ, ◌&&◌, nat_le, nat_lt, not, Bool, false, List, [], ◌∷◌, ◌++◌, length, Option, None, Some, if◌then◌else◌}
use Rattle.std.specs.Option.{option_map_or}
use Rattle.mesh_model.specs.declared.route_line.RouteLine.{RouteLine}
use Rattle.mesh_model.specs.declared.route_line.RoutePair.{RoutePair}
use Rattle.mesh_model.specs.Loops.Reports.{report_text}
use Rattle.mesh_model.specs.Loops.Routes.{has_pair, loops_of, pairs_of}

-- the lines of the moments that ended, and those of the moment under way, newest first
pub record Bisecting : Type 0 where
  pub before : List RouteLine
  pub under_way : List RouteLine

-- no line came
abbrev pub no_lines : Bisecting
no_lines = record { before = []; under_way = [] }

-- all lines
abbrev pub all_lines : Bisecting → List RouteLine
all_lines lines = lines.under_way ++ lines.before

-- the moment of the newest of some lines
abbrev pub newest_moment : List RouteLine → Option ℕ
newest_moment [] = None
newest_moment (line ∷ older) = Some line.moment

-- the moment under way, if one is
abbrev pub moment_of_lines : Bisecting → Option ℕ
moment_of_lines lines = newest_moment lines.under_way

-- whether a line is of an earlier moment than the one under way
abbrev pub is_late : Bisecting → RouteLine → Bool
is_late lines line = option_map_or (λ moment. nat_lt line.moment moment) (moment_of_lines lines) false

-- how many pairs may be named
abbrev pub pairs_limit : ℕ
pairs_limit = 65536

-- whether a pair is new to lines, and one too many
abbrev pub passes_pairs : List RouteLine → RoutePair → Bool
passes_pairs lines pair =
    not (has_pair lines pair) && nat_le pairs_limit (length (pairs_of lines))

-- whether a line ends the moment under way
abbrev pub ends_moment : Bisecting → RouteLine → Bool
ends_moment lines line =
    option_map_or (λ moment. nat_lt moment line.moment) (moment_of_lines lines) false

-- the lines once the moment under way has ended
abbrev pub ended : Bisecting → Bisecting
ended lines = record { before = all_lines lines; under_way = [] }

-- the report of the moment under way
abbrev pub moment_text : Bisecting → List ℕ
moment_text lines = option_map_or
    (λ moment. report_text moment (loops_of lines.before) (loops_of (all_lines lines)))
    (moment_of_lines lines) []

-- the lines with one more of the moment under way
abbrev pub with_route : Bisecting → RouteLine → Bisecting
with_route lines line = record { before = lines.before; under_way = line ∷ lines.under_way }

-- the lines after one more, which may end a moment
abbrev pub after_route : Bisecting → RouteLine → Bisecting
after_route lines line = with_route (if ends_moment lines line then ended lines else lines) line

-- what is printed at a line: the report of the moment that it ends
abbrev pub told_at : Bisecting → RouteLine → List ℕ
told_at lines line = if ends_moment lines line then moment_text lines else []
