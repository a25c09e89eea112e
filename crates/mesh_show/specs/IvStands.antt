-- What the tables of algorithm IV stand for at a node: what was heard there. The main word is
-- `iv_stands`.
use Rattle.mesh_base.specs.declared.address.Mac.{Mac}
use Rattle.mesh_iv.specs.Tables.{StandsFor, Tables}
use Rattle.mesh_model.specs.Routes.RouteLog.{RouteLog}

-- the tables of algorithm IV at the node of an address stand for a log
abbrev pub iv_stands : Tables → Mac → RouteLog → Type 0
iv_stands tables me log = StandsFor me tables log
