use Rattle.mesh_frag.proofs.PartLemmas.{FirstPlaces}
use Rattle.mesh_frag.proofs.parts.Parts.count_of.Given as goal

abbrev pub invariant-loop-place : goal.invariant-loop-place
invariant-loop-place l = FirstPlaces l.self-inside.tails.entries l.total l.place-counter l.left
