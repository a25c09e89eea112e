-- Named under a signature by `unfolding loops_on_literals`, it lets the room of loops, and the run of lines of routes,
-- compute on routes that are written out.
use Rattle.std.specs.Prelude.{⊤}
use lib.Utf8.{encode}
use Rattle.std.specs.Fmt.{digits}
use Rattle.hex.specs.Hex.{encode_with}
use Rattle.mesh_model.specs.Loops.Reports.{clear_line, loop_line}
use Rattle.mesh_model.specs.Run.LoopRun.{loop_run, route_line_outcome}
use Rattle.mesh_model.specs.Text.Messages.{halt_text}
use Rattle.mesh_model.specs.Text.Routes.{route_text}

unfoldable pub loops_on_literals : ⊤
unfolding encode digits encode_with clear_line loop_line route_text loop_run route_line_outcome halt_text
loops_on_literals = tt
