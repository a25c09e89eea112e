-- How marks, moments of asking and moments of advertising stand for the calls that were made. The
-- marks are all of them in key order; of a client's advertisements the five last are kept. The main
-- word is `StandsFor`.
use Rattle.std.specs.Prelude.{◌≡◌, ℕ, List, [], ◌∷◌, slice_get, Option, Some, None}
use Rattle.std.specs.Map.{lookup}
use Rattle.mesh_base.specs.declared.address.Mac.{Mac}
use Rattle.mesh_base.specs.declared.client.Key.{Key}
use Rattle.mesh_model.specs.declared.roaming_mark.RoamingMark.{RoamingMark}
use Rattle.mesh_model.specs.Clients.Present.{same_key}
use Rattle.mesh_model.specs.Marks.Calls.{Calls}
use Rattle.mesh_model.specs.Routes.Addresses.{same_mac}
use Rattle.mesh_model.specs.Marks.RoamingMarks.{marks_by}
use Rattle.mesh_model.specs.Marks.Requests.{asked_by}
use Rattle.mesh_model.specs.Marks.Advertisements.{sent_by}
use Rattle.tt_sync.specs.declared.failure.AdviseErr.{AdviseErr}
use Rattle.tt_sync.specs.declared.failure.AdviseErr.TheVariants.{TooMany, Memory as NoRoom}
use Rattle.tt_sync.specs.declared.failure.AskErr.{AskErr}
use Rattle.tt_sync.specs.declared.failure.AskErr.TheVariants.{TooSoon, Memory}

-- what is kept: marks by client, the last asking by originator, the last advertisements by client
pub record Kept : Type 0 where
  pub marks : List (Key × RoamingMark)
  pub asked : List (Mac × ℕ)
  pub sent : List (Key × List (Option ℕ))

-- the five first of moments
abbrev pub last_five : List ℕ → List (Option ℕ)
last_five sent = slice_get sent 0 ∷ slice_get sent 1 ∷ slice_get sent 2 ∷ slice_get sent 3
    ∷ slice_get sent 4 ∷ []

-- the moments that are kept of a client, where none are as of one that was never advertised
abbrev pub moments_of : Option (List (Option ℕ)) → List (Option ℕ)
moments_of None = last_five []
moments_of (Some moments) = moments

-- what is kept is what these calls leave
pub record StandsFor (kept : Kept) (made : Calls) : Type 0 where
  pub marks : kept.marks ≡ marks_by made
  pub asked : (orig : Mac) → lookup (same_mac orig) kept.asked ≡ asked_by made orig
  pub sent : (key : Key) →
      moments_of (lookup (same_key key) kept.sent) ≡ last_five (sent_by made key)

-- a refusal to ask tells the asking that is too recent; want of memory comes only where none is so
abbrev pub AskTells : AskErr → Option ℕ → Type 0
AskTells (TooSoon asked_at) recent = recent ≡ Some asked_at
AskTells Memory recent = recent ≡ None

-- a refusal to advertise tells the oldest of five; want of memory comes only where none is told
abbrev pub AdviseTells : AdviseErr → Option ℕ → Type 0
AdviseTells (TooMany oldest) fifth = fifth ≡ Some oldest
AdviseTells NoRoom fifth = fifth ≡ None
