-- The answers of the two algorithms, by which one a scenario chose. The main word is `queries_of`.
use Rattle.mesh_base.specs.declared.address.Mac.{Mac}
use Rattle.mesh_model.specs.declared.line_form.Algorithm.{Algorithm}
use Rattle.mesh_model.specs.declared.line_form.Algorithm.TheVariants.{Iv, V}
use Rattle.mesh_model.specs.Routes.AlgorithmIv.{iv_queries}
use Rattle.mesh_model.specs.Routes.AlgorithmV.{v_queries}
use Rattle.mesh_model.specs.Routes.Queries.{Queries}

-- the answers under an algorithm at the node of an address
abbrev pub queries_of : Algorithm → Mac → Queries
queries_of Iv = iv_queries
queries_of V = v_queries
