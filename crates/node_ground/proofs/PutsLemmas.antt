-- How acts that are put one list after another are put as one list.
use Rattle.std.proofs.Common.{inl, inr, List, [], ◌∷◌, ◌++◌, sym, subst, Option, None, Result, Ok, Err}
use Rattle.mesh_model.specs.declared.act.Act.{Act}
use Rattle.mesh_model.specs.declared.ending.LimitName.{LimitName}
use Rattle.node_ground.specs.declared.failure.NodeErr.{NodeErr}
use Rattle.node_ground.specs.declared.failure.NodeErr.TheVariants.{Memory, Clients, Vlans, Frames, FrameBytes, Cuts, Dead}
use Rattle.node_ground.specs.Errors.{HasCause}
use Rattle.node_ground.specs.Puts.{TakesAll, StopsAt, Puts}

module _ {P : Type 0} (takes : P → Act → P → Type 0) (same : P → P → Type 0) (over : P → Act → Option LimitName) where
  -- want of memory may stop before any act
  pub stops_free : (port : P) (acts : List Act) → same port port → StopsAt takes same over Memory port acts port
  stops_free port [] is = (is, tt)
  stops_free port (act ∷ acts) is = inl (is, tt)

  free_only : (error : NodeErr) (limit : Option LimitName) → HasCause None error → HasCause limit error
  free_only Memory limit cause = tt
  free_only Clients limit cause = absurd cause
  free_only Vlans limit cause = absurd cause
  free_only Frames limit cause = absurd cc
  free_only FrameBytes limit cause = absurd cc
  free_only Cuts limit cause = absurd cause
  free_only Dead limit cause = absurd cause

  stops_early : (error : NodeErr) (old new : P) (acts : List Act) → same old new → HasCause None error → StopsAt takes same over error old acts new
  stops_early error old new [] is cause = (is, cause)
  stops_early error old new (act ∷ acts) is cause = inl (is, free_only error (over old act) cause)

  -- where it stops among the first acts, it stops
  pub stops_among : (error : NodeErr) (old new : P) (first rest : List Act) → StopsAt takes same over error old first new → StopsAt takes same over error old (first ++ rest) new
  stops_among error old new [] rest stop = stops_early error old new rest stop.0 stop.1
  stops_among error old new (act ∷ first) rest (inl at) = inl at
  stops_among error old new (act ∷ first) rest (inr later) =
      inr (later.0, later.1, later.2, stops_among error later.0 new first rest later.3)

  -- behind the first acts the rest is put
  pub puts_behind : (old mid new : P) (first rest : List Act) (result : Result Unit NodeErr) → TakesAll takes over old first mid → Puts takes same over mid rest result new → Puts takes same over old (first ++ rest) result new
  puts_behind old mid new [] rest result all puts = rw all puts
  puts_behind old mid new (act ∷ first) rest (Ok done) all puts =
      (all.0, all.1, all.2, puts_behind all.0 mid new first rest (Ok done) all.3 puts)
  puts_behind old mid new (act ∷ first) rest (Err error) all puts =
      inr (all.0, all.1, all.2, puts_behind all.0 mid new first rest (Err error) all.3 puts)

  -- want of memory may stop behind the last act
  pub stops_last : (old new : P) (acts : List Act) → TakesAll takes over old acts new → same new new → StopsAt takes same over Memory old acts new
  stops_last old new [] all is = (subst (λ port. same port new) (sym all) is, tt)
  stops_last old new (act ∷ acts) all is = inr (all.0, all.1, all.2, stops_last all.0 new acts all.3 is)
