-- What a call leaves of a port. Its acts are put in order: all of them, or those before the act at
-- which it stops, for a cause that holds of the port as it then stands. An input that passes a
-- limit of the node's own, of its clients or of its cuts, puts what comes before, and no more.
-- `takes`, `same` and `over` are the port's own words. The main words are `Puts` and `Leaves`.
use Rattle.std.specs.Prelude.{◌≡◌, ◌⊎◌, List, [], ◌∷◌, Option, Some, None, option_map, Result, Ok, Err}
use Rattle.mesh_model.specs.declared.act.Act.{Act}
use Rattle.mesh_model.specs.declared.ending.LimitName.{LimitName}
use Rattle.mesh_model.specs.Acts.NodeLimits.{NodeLimit}
use Rattle.node_ground.specs.declared.failure.NodeErr.{NodeErr}
use Rattle.node_ground.specs.Errors.{HasCause, HasOwnCause}

-- all of the acts are taken, one after another, and none passes a limit
abbrev pub TakesAll : {P : Type 0} → (P → Act → P → Type 0) → (P → Act → Option LimitName)
    → P → List Act → P → Type 0
TakesAll takes over old [] new = old ≡ new
TakesAll {P} takes over old (act ∷ acts) new =
    (mid : P) × takes old act mid × (over old act ≡ None) × TakesAll takes over mid acts new

-- acts are taken up to one at which it stops for this error, or up to the last
abbrev pub StopsAt : {P : Type 0} → (P → Act → P → Type 0) → (P → P → Type 0)
    → (P → Act → Option LimitName) → NodeErr → P → List Act → P → Type 0
StopsAt takes same over error old [] new = same old new × HasCause None error
StopsAt {P} takes same over error old (act ∷ acts) new =
    (same old new × HasCause (over old act) error)
    ⊎ ((mid : P) × takes old act mid × (over old act ≡ None)
    × StopsAt takes same over error mid acts new)

-- what a call with this answer leaves of a port by these acts
abbrev pub Puts : {P : Type 0} → (P → Act → P → Type 0) → (P → P → Type 0)
    → (P → Act → Option LimitName) → P → List Act → Result Unit NodeErr → P → Type 0
Puts takes same over old acts (Ok done) new = TakesAll takes over old acts new
Puts takes same over old acts (Err error) new = StopsAt takes same over error old acts new

-- how an input is answered that passes this limit of the node's own, or none
abbrev pub Answers : Option LimitName → Result Unit NodeErr → Type 0
Answers limit (Ok done) = limit ≡ None
Answers limit (Err error) = HasOwnCause limit error

-- whether a call stops before an act whose frames would pass this limit
abbrev pub StopsBefore : Option LimitName → Result Unit NodeErr → Type 0
StopsBefore over (Ok done) = ⊥
StopsBefore over (Err error) = HasCause over error

-- acts are taken up to one at which it stops, or up to the last, and then a limit is passed
abbrev pub StopsBehind : {P : Type 0} → (P → Act → P → Type 0) → (P → P → Type 0)
    → (P → Act → Option LimitName)
    → LimitName → P → List Act → Result Unit NodeErr → P → Type 0
StopsBehind takes same over limit old [] result new = same old new × Answers (Some limit) result
StopsBehind {P} takes same over limit old (act ∷ acts) result new =
    (same old new × StopsBefore (over old act) result)
    ⊎ ((mid : P) × takes old act mid × (over old act ≡ None)
    × StopsBehind takes same over limit mid acts result new)

-- a limit that is passed behind acts, where one is passed
abbrev pub behind : List Act → Option LimitName → Option NodeLimit
behind acts limit = option_map (λ limit. record { acts = acts; limit = limit }) limit

-- what a call leaves by these acts, where it passes a limit of the node's own, or none
abbrev pub Leaves : {P : Type 0} → (P → Act → P → Type 0) → (P → P → Type 0)
    → (P → Act → Option LimitName)
    → Option NodeLimit → P → List Act → Result Unit NodeErr → P → Type 0
Leaves takes same over None old acts result new = Puts takes same over old acts result new
Leaves takes same over (Some passed) old acts result new =
    StopsBehind takes same over passed.limit old passed.acts result new
