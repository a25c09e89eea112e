-- Named under a signature by `unfolding generated_on_literals`, it lets the generator's definitions compute on numbers and
-- texts that are written out.
use Rattle.std.specs.Prelude.{⊤}
use lib.Utf8.{encode}
use Rattle.std.specs.Fmt.{digits}
use Rattle.mesh_model.specs.Run.Generated.{draw, drawn_after, frame_line, generated_input, link_line, next_drawn, node_line, node_lines, received_lines, ring_lines, second_lines, summary_line, traffic_lines}

unfoldable pub generated_on_literals : ⊤
unfolding encode digits draw drawn_after frame_line generated_input link_line next_drawn node_line node_lines received_lines ring_lines second_lines
    summary_line traffic_lines
generated_on_literals = tt
