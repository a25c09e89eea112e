-- The premise of the laws is seen: an event tells of an alias of an originator exactly where one of
-- its commits has it. So while no event told of one, there is none. The main words are
-- `AliasesAreTold` and `AliasesAreSeen`.
use Rattle.std.specs.Prelude.{◌≡◌, ◌<◌, ◌↔◌, ℕ, List, length, Some}
use Rattle.mesh_base.specs.declared.address.Mac.{Mac}
use Rattle.mesh_base.specs.declared.event.Event.TheVariants.{Alias}
use Rattle.mesh_model.specs.Commits.Aliases.{alias_of}
use Rattle.mesh_model.specs.Net.Mesh.{Mesh}
use Rattle.mesh_model.specs.Net.Next.{Has}
use Rattle.mesh_model.specs.Routes.Queries.{Queries}
use Rattle.mesh_model.specs.Tables.Versions.{Version}
use Rattle.mesh_laws.specs.Machine.Agreement.{HasNoAlias}
use Rattle.mesh_tie.specs.Originators.{commits_of}
use Rattle.mesh_tie.specs.Steps.{IsReachable}

-- the commit of a number is there and has this alias
abbrev pub HasAlias : List Version → ℕ → ℕ → Type 0
HasAlias made number earlier = (number < length made) × (alias_of number made ≡ Some earlier)

-- an event tells of an alias exactly where a commit has it
abbrev pub AliasesAreTold : Type 0
AliasesAreTold = (queries : Mac → Queries) (mesh : Mesh) → IsReachable queries mesh →
    (orig : Mac) (number earlier : ℕ) →
    Has mesh.events (Alias orig number earlier) ↔ HasAlias (commits_of orig mesh) number earlier

-- no event told of an alias of an originator
abbrev pub ToldNone : Mac → Mesh → Type 0
ToldNone orig mesh = (number earlier : ℕ) → Has mesh.events (Alias orig number earlier) → ⊥

-- where no event told of one, there is none
abbrev pub AliasesAreSeen : Type 0
AliasesAreSeen = (queries : Mac → Queries) (mesh : Mesh) → IsReachable queries mesh →
    (orig : Mac) → ToldNone orig mesh → HasNoAlias (commits_of orig mesh)
