-- In every run of lines what is put together was cut.
use Rattle.mesh_model.specs.Routes.Algorithms.{queries_of}
use Rattle.mesh_model.specs.Run.PlainRun.{after_lines, start}
use Rattle.mesh_tie.specs.CutPackets.{RunsPutCutsTogether}
use Rattle.mesh_tie.proofs.CutPut.{put_together_was_cut}
use Rattle.mesh_tie.proofs.LineReach.{first_holds, lines_hold}
use Rattle.mesh_tie.proofs.VLemmas.{algorithms_keep}

pub runs_put_cuts_together : RunsPutCutsTogether
runs_put_cuts_together choice lines =
    let state = (after_lines (start choice) lines).state in
    put_together_was_cut (queries_of state.algorithm) (algorithms_keep state.algorithm) state.mesh (lines_hold (start choice) lines (first_holds choice)).reachable
