use Rattle.mesh_scene.proofs.scene.Scene.reboot.Goals as goal

pub returns : goal.returns
returns g c = c.give_apart.ensures
