-- The watch of routes: what a net keeps of the lines that were told is that of the lines of its
-- mesh, and further lines are told. The main words are `WatchStands` and `HasWatched`.
use Rattle.std.specs.Prelude.{◌≡◌, ◌++◌, List, map, Option, Some, None, option_map, ⊤}
use Rattle.mesh_base.specs.declared.event.Event.{Event}
use Rattle.mesh_model.specs.declared.route_line.RouteLine.{RouteLine}
use Rattle.mesh_model.specs.Net.Watching.{route_event, told_with}
use Rattle.mesh_net.specs.declared.net.Net.{Net}
use Rattle.mesh_told.specs.Told.{ToldStands}
use Rattle.mesh_told.specs.declared.told_routes.ToldRoutes.{ToldRoutes}

-- what is kept of routes that were told is that of the lines of a mesh, where these are watched
abbrev pub WatchStands : Option ToldRoutes → Option (List RouteLine) → Type 0
WatchStands None None = ⊤
WatchStands None (Some told) = ⊥
WatchStands (Some kept) None = ⊥
WatchStands (Some kept) (Some told) = ToldStands kept told

-- lines were told behind others
pub record HasTold (lines before : List RouteLine) (kept : ToldRoutes) (old new : List Event)
    : Type 0 where
  pub stands : ToldStands kept (told_with before lines)
  pub logged : new ≡ old ++ map route_event lines

-- these are the lines that were told behind those of a mesh: none where routes aren't watched
pub record HasWatched (lines : List RouteLine) (kept : Option ToldRoutes)
    (watch : Option (List RouteLine)) (old new : List Event) : Type 0 where
  pub stands : WatchStands kept (option_map (λ told. told_with told lines) watch)
  pub logged : new ≡ old ++ map route_event lines

-- all but what is kept of routes that were told is as it was
abbrev pub KeepsAllBut : {A : Type 0} → Net A → Net A → Type 0
KeepsAllBut old new = new ≡ record old { watch = new.watch }
