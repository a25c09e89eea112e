use Rattle.std.proofs.Common.{subst, sym}
use Rattle.mesh_base.specs.Names.{NamesGiven}
use Rattle.mesh_scene.specs.SceneStands.{AreApart}
use Rattle.mesh_scene.proofs.PlaceLemmas.{apart_none}
use Rattle.mesh_scene.proofs.scene.Scene.begin.Goals as goal

pub returns : goal.returns
returns g c = λ state empty clock algorithm choice. record {
  algorithm_is = algorithm;
  net_is = rw (empty, clock, choice) c.begun_net.ensures;
  names_are = rw empty c.new.ensures;
  apart = subst (λ (names : NamesGiven). AreApart names.nodes) (sym c.new.ensures) apart_none;
  ends_are = rw empty c.new-2.ensures.items;
}
