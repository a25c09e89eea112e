-- What the tables of algorithm V stand for at a node: what was heard there. The main word is
-- `v_stands`.
use Rattle.mesh_base.specs.declared.address.Mac.{Mac}
use Rattle.mesh_model.specs.Routes.RouteLog.{RouteLog}
use Rattle.mesh_v.specs.Tables.{StandsFor, Tables}

-- the tables of algorithm V at the node of an address stand for a log
abbrev pub v_stands : Tables → Mac → RouteLog → Type 0
v_stands tables me log = StandsFor me tables log
