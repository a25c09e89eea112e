use Rattle.mesh_model.specs.Run.Generated.{frame_line}
use Rattle.mesh_generate.proofs.LineLemmas.{line_of_5}
use Rattle.mesh_generate.proofs.lines.put_frame_line.Goals as goal

pub returns : goal.returns
unfolding frame_line
returns c =
    line_of_5 c.args.out.now.items c.extend_from_slice.new.self.items c.put_name.new.out.items c.extend_from_slice-2.new.self.items c.put_hex.new.out.items
    c.put_named_number.new.out.items _ _ _ _ _ _ c.in_ok-extend_from_slice.ensures.items c.in_ok-put_name.ensures c.in_ok-extend_from_slice-2.ensures.items c.in_ok-put_hex.ensures
    (rw c.from.ensures at c.in_ok-put_named_number.ensures) c.in_ok-extend_from_slice-3.ensures.items
