-- Acts of which the first were put: where the port stands before the rest.
use Rattle.std.proofs.Common.{List, [], ◌∷◌, refl, Option, Result, Ok, Err}
use Rattle.mesh_model.specs.declared.act.Act.{Act}
use Rattle.mesh_model.specs.declared.ending.LimitName.{LimitName}
use Rattle.node_ground.specs.declared.failure.NodeErr.{NodeErr}
use Rattle.node_ground.specs.Puts.{Puts, StopsAt, TakesAll}
use Rattle.node_ground.proofs.PutsLemmas.{puts_behind, stops_among}

module _ {P : Type 0} (takes : P → Act → P → Type 0) (same : P → P → Type 0) (over : P → Act → Option LimitName) where
  -- what the rest leaves is what the whole leaves
  pub record IsUnderway (old mid : P) (whole rest : List Act) : Type 0 where
    pub puts : (result : Result Unit NodeErr) (new : P) → Puts takes same over mid rest result new → Puts takes same over old whole result new

  -- before the first
  pub begins : (port : P) (whole : List Act) → IsUnderway port port whole whole
  begins port whole = record { puts = λ result new puts. puts }

  -- behind one more
  pub goes_on : (old mid new : P) (whole rest : List Act) (act : Act) → IsUnderway old mid whole (act ∷ rest) → TakesAll takes over mid (act ∷ []) new → IsUnderway old new whole rest
  goes_on old mid new whole rest act way all = record { puts = λ result end puts. way.puts result end (puts_behind takes same over mid new end (act ∷ []) rest result all puts) }

  -- it stops at one
  pub stops : (old mid new : P) (whole rest : List Act) (act : Act) (error : NodeErr) → IsUnderway old mid whole (act ∷ rest) → StopsAt takes same over error mid (act ∷ []) new
      → StopsAt takes same over error old whole new
  stops old mid new whole rest act error way stop = way.puts (Err error) new (stops_among takes same over error mid new (act ∷ []) rest stop)

  -- behind the last
  pub ends : (old mid : P) (whole : List Act) → IsUnderway old mid whole [] → TakesAll takes over old whole mid
  ends old mid whole way = way.puts (Ok tt) mid refl
