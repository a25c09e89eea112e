use Rattle.std.proofs.Common.{◌≡◌, ◌∙◌, [], ap, subst}
use Rattle.mesh_iv.specs.Origs.{bests_of, lives_of}
use Rattle.mesh_iv.specs.Tables.{StandsFor, Tables}
use Rattle.mesh_iv.proofs.StandLemmas.{new_stands}
use Rattle.mesh_iv.proofs.answers.IvAlgo.restart.Goals as goal

pub returns : goal.returns
returns c = λ me log stands.
    let after : Tables = record { me = c.self.inside.me; sent = 0; lives = lives_of c.clear.new.self.entries; paths = c.clear-2.new.self.entries; bests = bests_of c.clear.new.self.entries } in
    let my : c.self.inside.me ≡ me = ap (λ (t : Tables). t.me) c.self.view_is ∙ stands.me_is in
    subst (λ m. StandsFor m after []) my (new_stands c.self.inside.me after.lives after.paths after.bests (ap lives_of c.clear.ensures.empty) c.clear-2.ensures.empty (ap bests_of c.clear.ensures.empty))
