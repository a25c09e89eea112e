-- What was collected, and is then put.
use Rattle.std.proofs.Common.{◌≡◌, ◌⊎◌, ◌≤◌, ◌&&◌, ◌+◌, inl, inr, suc, Bool, true, false, cond, nat_lt, nat_le, filter, length, List, [], ◌∷◌, ◌++◌, Option, Some, None, Result, Ok, Err, refl, sym, ap, ◌∙◌, subst, append-nil, append_assoc, arith}
use Rattle.std.specs.Option.{option_or}
use Rattle.std.proofs.lemmas.Bool.{false≢true, ltb-true}
use Rattle.mesh_model.specs.declared.act.Act.{Act}
use Rattle.mesh_model.specs.declared.ending.LimitName.{LimitName}
use Rattle.mesh_model.specs.declared.ending.LimitName.TheVariants as limits
use Rattle.mesh_model.specs.Acts.Cuts.{Cutter, cut_acts, fragment_acts, is_cut, passes_cuts}
use Rattle.mesh_model.specs.Acts.NodeLimits.{NodeLimit, cut_limit}
use Rattle.node_cuts.specs.Collected.{AreUncut, Collected, Collects, is_memory}
use Rattle.node_ground.specs.Errors.{HasCause, HasOwnCause}
use Rattle.node_ground.specs.declared.failure.NodeErr.{NodeErr}
use Rattle.node_ground.specs.declared.failure.NodeErr.TheVariants.{Memory, Clients, Vlans, Frames, FrameBytes, Cuts, Dead}
use Rattle.node_ground.specs.Puts.{Leaves, StopsAt, StopsBehind, TakesAll}

-- ---- the list that collects
abbrev Same : List Act → List Act → Type 0
Same old new = old ≡ new

abbrev NoLimit : List Act → Act → Option LimitName
NoLimit list act = None

by_memory : (error : NodeErr) → HasCause None error → error ≡ Memory
by_memory Memory cause = refl
by_memory Clients cause = absurd cause
by_memory Vlans cause = absurd cause
by_memory Frames cause = absurd cc
by_memory FrameBytes cause = absurd cc
by_memory Cuts cause = absurd cause
by_memory Dead cause = absurd cause

behind_one : (old mid new : List Act) (act : Act) (acts : List Act) → mid ≡ old ++ act ∷ [] → new ≡ mid ++ acts → new ≡ old ++ act ∷ acts
behind_one old mid new act acts took rest = rest ∙ ap (λ list. list ++ acts) took ∙ append_assoc old (act ∷ []) acts

all_collected : (old new acts : List Act) → TakesAll Collects NoLimit old acts new → new ≡ old ++ acts
all_collected old new [] all = sym all ∙ sym (append-nil old)
all_collected old new (act ∷ acts) all = behind_one old all.0 new act acts all.1 (all_collected all.0 new acts all.3)

stops_by_memory : (error : NodeErr) (old new acts : List Act) → StopsAt Collects Same NoLimit error old acts new → error ≡ Memory
stops_by_memory error old new [] stop = by_memory error stop.1
stops_by_memory error old new (act ∷ acts) (inl at) = by_memory error at.1
stops_by_memory error old new (act ∷ acts) (inr later) = stops_by_memory error later.0 new acts later.3

never_done : (limit : LimitName) (done : Unit) (old new acts : List Act) → StopsBehind Collects Same NoLimit limit old acts (Ok done) new → ⊥
never_done limit done old new [] stop = absurd cc
never_done limit done old new (act ∷ acts) (inl at) = at.1
never_done limit done old new (act ∷ acts) (inr later) = never_done limit done later.0 new acts later.3

stops_behind_all : (limit : LimitName) (error : NodeErr) (old new acts : List Act) → StopsBehind Collects Same NoLimit limit old acts (Err error) new
    → (error ≡ Memory) ⊎ ((new ≡ old ++ acts) × HasOwnCause (Some limit) error)
stops_behind_all limit error old new [] stop = inr (sym stop.0 ∙ sym (append-nil old), stop.1)
stops_behind_all limit error old new (act ∷ acts) (inl at) = inl (by_memory error at.1)
stops_behind_all limit error old new (act ∷ acts) (inr later) = go (stops_behind_all limit error later.0 new acts later.3)
  where
    go : (error ≡ Memory) ⊎ ((new ≡ later.0 ++ acts) × HasOwnCause (Some limit) error) → (error ≡ Memory) ⊎ ((new ≡ old ++ act ∷ acts) × HasOwnCause (Some limit) error)
    go (inl memory) = inl memory
    go (inr all) = inr (behind_one old later.0 new act acts later.1 all.0, all.1)

-- ---- acts that go whole
uncut_go : (cutter : Cutter) (acts : List Act) → filter (is_cut cutter.most) acts ≡ [] → cut_acts cutter acts ≡ acts
uncut_go cutter [] none = refl
uncut_go cutter (act ∷ acts) none = go (is_cut cutter.most act) none (λ others. uncut_go cutter acts others)
  where
    go : (cuts : Bool) → cond cuts (act ∷ filter (is_cut cutter.most) acts) (filter (is_cut cutter.most) acts) ≡ [] → (filter (is_cut cutter.most) acts ≡ [] → cut_acts cutter acts ≡ acts)
        → cond (cuts && nat_le 65535 cutter.cuts) [] (cond cuts (fragment_acts cutter act) (act ∷ []) ++ cut_acts (cond cuts (record cutter { cuts = suc cutter.cuts }) cutter) acts) ≡ act ∷ acts
    go true some rest_goes = absurd cc
    go false none rest_goes = ap (λ rest. act ∷ rest) (rest_goes none)

few_pass : (cutter : Cutter) (acts : List Act) → filter (is_cut cutter.most) acts ≡ [] → cutter.cuts ≤ 65535 → passes_cuts cutter acts ≡ false
few_pass cutter acts none few = ap (λ (cut : List Act). nat_lt 0 cutter.most && nat_lt 65535 (cutter.cuts + length cut)) none ∙ go (nat_lt 0 cutter.most) (nat_lt 65535 (cutter.cuts + 0)) refl
  where
    go : (some many : Bool) → nat_lt 65535 (cutter.cuts + 0) ≡ many → (some && many) ≡ false
    go true true is = let lt = ltb-true 65535 (cutter.cuts + 0) is in absurd (omega (arith, lt, few))
    go true false is = refl
    go false many is = refl

-- a row that is done collected all its acts
pub collected_whole : (own : Option NodeLimit) (whole list : List Act) (done : Unit) → Collected own whole (Ok done) list → list ≡ whole
collected_whole None whole list done collected = all_collected [] list whole collected
collected_whole (Some passed) whole list done collected = absurd (never_done passed.limit done [] list passed.acts collected)

module _ {P : Type 0} (takes : P → Act → P → Type 0) (same : P → P → Type 0) (over : P → Act → Option LimitName) where
  free_behind : (limit : LimitName) (port : P) (acts : List Act) → same port port → StopsBehind takes same over limit port acts (Err Memory) port
  free_behind limit port [] is = (is, tt)
  free_behind limit port (act ∷ acts) is = inl (is, tt)

  free_at : (port : P) (acts : List Act) → same port port → StopsAt takes same over Memory port acts port
  free_at port [] is = (is, tt)
  free_at port (act ∷ acts) is = inl (is, tt)

  -- want of memory may stop before all acts
  pub free_leaves : (limit : Option NodeLimit) (port : P) (acts : List Act) → same port port → Leaves takes same over limit port acts (Err Memory) port
  free_leaves None port acts is = free_at port acts is
  free_leaves (Some passed) port acts is = free_behind passed.limit port passed.acts is

  -- behind all acts it stops by the limit
  all_then : (limit : LimitName) (error : NodeErr) (old new : P) (acts : List Act) → TakesAll takes over old acts new → same new new → HasOwnCause (Some limit) error → StopsBehind takes same over limit old acts (Err error) new
  all_then limit error old new [] all is cause = (subst (λ port. same port new) (sym all) is, cause)
  all_then limit error old new (act ∷ acts) all is cause = inr (all.0, all.1, all.2, all_then limit error all.0 new acts all.3 is cause)

  own_cause : (limit : LimitName) (error : NodeErr) → HasCause None error → HasOwnCause (Some limit) error
  own_cause limit error cause = subst (HasOwnCause (Some limit)) (sym (by_memory error cause)) tt

  -- or at one of them
  at_one : (limit : LimitName) (error : NodeErr) (old new : P) (acts : List Act) → StopsAt takes same over error old acts new → StopsBehind takes same over limit old acts (Err error) new
  at_one limit error old new [] stop = (stop.0, own_cause limit error stop.1)
  at_one limit error old new (act ∷ acts) (inl at) = inl at
  at_one limit error old new (act ∷ acts) (inr later) = inr (later.0, later.1, later.2, at_one limit error later.0 new acts later.3)

  abbrev pub Put : Cutter → P → List Act → Result Unit NodeErr → P → Type 0
  Put cutter old acts result new = Leaves takes same over (cut_limit cutter acts) old (cut_acts cutter acts) result new

  abbrev pub Goal : Cutter → Option NodeLimit → List Act → P → Result Unit NodeErr → P → Type 0
  Goal cutter own whole old result new = Leaves takes same over (option_or own (cut_limit cutter whole)) old (cut_acts cutter whole) result new

  -- the row put all it had to
  pub done_then : (cutter : Cutter) (own : Option NodeLimit) (whole list : List Act) (done : Unit) (old new : P) (result : Result Unit NodeErr) → Collected own whole (Ok done) list → Put cutter old list result new → Goal cutter own whole old result new
  done_then cutter None whole list done old new result collected put = subst (λ acts. Put cutter old acts result new) (collected_whole None whole list done collected) put
  done_then cutter (Some passed) whole list done old new result collected put = absurd (never_done passed.limit done [] list passed.acts collected)

  plain : (cutter : Cutter) (acts : List Act) (old new : P) (result : Result Unit NodeErr) → filter (is_cut cutter.most) acts ≡ [] → cutter.cuts ≤ 65535 → Put cutter old acts result new → Leaves takes same over None old acts result new
  plain cutter acts old new result none few put =
      subst (λ o. Leaves takes same over o old acts result new) (ap (λ b. cond b (Some (record { acts = acts; limit = limits.Cuts })) None) (few_pass cutter acts none few))
      (subst (λ others. Leaves takes same over (cond (passes_cuts cutter acts) (Some (record { acts = others; limit = limits.Cuts })) None) old others result new) (uncut_go cutter acts none) put)

  -- the row stopped, not by want of memory
  pub stopped_then : (cutter : Cutter) (own : Option NodeLimit) (whole list : List Act) (error : NodeErr) (old new : P) (done : Unit) → (error ≡ Memory → ⊥) → AreUncut cutter.most own → cutter.cuts ≤ 65535 → same new new
      → Collected own whole (Err error) list → Put cutter old list (Ok done) new → Goal cutter own whole old (Err error) new
  stopped_then cutter None whole list error old new done other uncut few is collected put = absurd (other (stops_by_memory error [] list whole collected))
  stopped_then cutter (Some passed) whole list error old new done other uncut few is collected put = go (stops_behind_all passed.limit error [] list passed.acts collected)
    where
      go : (error ≡ Memory) ⊎ ((list ≡ passed.acts) × HasOwnCause (Some passed.limit) error) → StopsBehind takes same over passed.limit old passed.acts (Err error) new
      go (inl memory) = absurd (other memory)
      go (inr all) = all_then passed.limit error old new passed.acts (plain cutter passed.acts old new (Ok done) uncut few (subst (λ acts. Put cutter old acts (Ok done) new) all.0 put)) is all.1

  -- and then the port stopped
  pub stopped_at : (cutter : Cutter) (own : Option NodeLimit) (whole list : List Act) (answer : NodeErr) (error : NodeErr) (old new : P) → (answer ≡ Memory → ⊥) → AreUncut cutter.most own → cutter.cuts ≤ 65535
      → Collected own whole (Err answer) list → Put cutter old list (Err error) new → Goal cutter own whole old (Err error) new
  stopped_at cutter None whole list answer error old new other uncut few collected put = absurd (other (stops_by_memory answer [] list whole collected))
  stopped_at cutter (Some passed) whole list answer error old new other uncut few collected put = go (stops_behind_all passed.limit answer [] list passed.acts collected)
    where
      go : (answer ≡ Memory) ⊎ ((list ≡ passed.acts) × HasOwnCause (Some passed.limit) answer) → StopsBehind takes same over passed.limit old passed.acts (Err error) new
      go (inl memory) = absurd (other memory)
      go (inr all) = at_one passed.limit error old new passed.acts (plain cutter passed.acts old new (Err error) uncut few (subst (λ acts. Put cutter old acts (Err error) new) all.0 put))

  -- want of memory stops before all acts
  pub memory_then : (cutter : Cutter) (own : Option NodeLimit) (whole : List Act) (error : NodeErr) (port : P) → is_memory error ≡ true → same port port → Goal cutter own whole port (Err error) port
  memory_then cutter own whole Memory port is as_is = free_leaves (option_or own (cut_limit cutter whole)) port (cut_acts cutter whole) as_is
  memory_then cutter own whole Clients port is as_is = absurd (false≢true is)
  memory_then cutter own whole Vlans port is as_is = absurd (false≢true is)
  memory_then cutter own whole Frames port is as_is = absurd (false≢true is)
  memory_then cutter own whole FrameBytes port is as_is = absurd (false≢true is)
  memory_then cutter own whole Cuts port is as_is = absurd (false≢true is)
  memory_then cutter own whole Dead port is as_is = absurd (false≢true is)
