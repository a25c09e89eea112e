-- A way as the definitions see it. The main word is `way`.
use Rattle.mesh_model.specs.Knowledge.Addressee.{Way}
use Rattle.node_ground.specs.declared.addressee.Way as here

-- the way to an originator
abbrev pub way : here.Way → Way
way to = record { orig = to.orig; next = to.next; reason = to.reason }
