use Rattle.mesh_laws.proofs.FrameLemmas.{link_frame-first}
use Rattle.mesh_laws.proofs.packet_laws.frames_go_on.Goals as goal

pub returns : goal.returns
returns c = link_frame-first
