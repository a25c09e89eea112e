-- Where a node sends what is for a client: to the target of the client's mark, where a mark stands
-- and a route leads to its target; else, of the live originators with a route whose held tables
-- name the client, to the one of greatest metric, in a tie to the smaller address; else nowhere.
-- The reason is that a mark says so, or that the table agrees with what was announced, or that it
-- is an old one. The main word is `addressee`.
use Rattle.std.specs.Prelude.{ℕ, filter, Option, option_and_then, option_map, if◌then◌else◌}
use Rattle.std.specs.Option.{option_or}
use Rattle.mesh_base.specs.declared.address.Mac.{Mac}
use Rattle.mesh_base.specs.declared.client.Key.{Key}
use Rattle.mesh_base.specs.declared.event.Reason.{Reason}
use Rattle.mesh_base.specs.declared.event.Reason.TheVariants.{Roam, Table, Old}
use Rattle.mesh_model.specs.Knowledge.Known.{Knowledge, known_at}
use Rattle.mesh_model.specs.Marks.RoamingMarks.{mark_of}
use Rattle.mesh_model.specs.Routes.BestRoute.{best}
use Rattle.mesh_model.specs.Routes.Queries.{Queries}
use Rattle.mesh_model.specs.Tables.Known.{holders_by, is_agreed}

-- an originator to which something is sent, the neighbour to it, and why
pub record Way : Type 0 where
  pub orig : Mac
  pub next : Mac
  pub reason : Reason

-- the way to an originator for a reason, where a route leads to it
abbrev pub way_to : Queries → Knowledge → ℕ → Reason → Mac → Option Way
way_to q known now reason orig =
    option_map (λ next. record { orig = orig; next = next; reason = reason })
    (q.route known.routes now orig)

-- the originator of greatest metric of those that are live and whose held tables name a client
abbrev pub best_holder : Queries → Knowledge → ℕ → Key → Option Mac
best_holder q known now key = best (q.metric known.routes now)
    (filter (q.live known.routes now) (holders_by known.tables key))

-- why something is sent to an originator whose table names its client
abbrev pub table_reason : Queries → Knowledge → ℕ → Mac → Reason
table_reason q known now orig = if is_agreed (known_at q known now orig) then Table else Old

-- the way to the target of a client's mark
abbrev pub marked_way : Queries → Knowledge → ℕ → Key → Option Way
marked_way q known now key =
    option_and_then (way_to q known now Roam) (mark_of now known.marks key)

-- the way by the tables
abbrev pub table_way : Queries → Knowledge → ℕ → Key → Option Way
table_way q known now key = option_and_then
    (λ orig. way_to q known now (table_reason q known now orig) orig)
    (best_holder q known now key)

-- where a node sends what is for a client, if anywhere
abbrev pub addressee : Queries → Knowledge → ℕ → Key → Option Way
addressee q known now key =
    option_or (marked_way q known now key) (table_way q known now key)
