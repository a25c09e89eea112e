-- Named under a signature by `unfolding routes_on_literals`, it lets the definitions of the room of routes compute on a
-- log that is written out.
use Rattle.std.specs.Prelude.{⊤}
use Rattle.std.specs.Fmt.{digits}
use Rattle.mesh_model.specs.Routes.BestRoute.{best_route}
use Rattle.mesh_model.specs.Routes.HearingsV.{path_throughput}
use Rattle.mesh_model.specs.Routes.Life.{meeting}
use Rattle.mesh_model.specs.Routes.Numbers.{among, window}
use Rattle.mesh_model.specs.Routes.Quality.{average_quality, transmit_quality}
use Rattle.mesh_model.specs.Text.Tables.{neighbor_line, orig_line, route_header}

unfoldable pub routes_on_literals : ⊤
unfolding among window meeting best_route average_quality transmit_quality path_throughput digits route_header orig_line neighbor_line
routes_on_literals = tt
