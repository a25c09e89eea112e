-- How rounds, kept by originator, stand for the broadcasts that were taken: of the last round of
-- each the window of its numbers is kept, and when it began with a wild broadcast, if it did. The
-- main word is `BroadcastsStand`.
use Rattle.std.specs.Prelude.{◌≡◌, ℕ, List, [], ◌∷◌, Option, Some, None, if◌then◌else◌}
use Rattle.std.specs.Map.{lookup}
use Rattle.mesh_base.specs.declared.address.Mac.{Mac}
use Rattle.mesh_model.specs.Knowledge.Known.{TakenBroadcast, round, round_numbers, wild_at}
use Rattle.mesh_model.specs.Routes.Addresses.{same_mac}
use Rattle.mesh_model.specs.Routes.Numbers.{greatest, has, is_far, may_begin, window}
use Rattle.node_ground.specs.declared.broadcast_round.Round.{Round}

-- what is kept of a round, where there is one
abbrev pub kept_round : List TakenBroadcast → Option Round
kept_round [] = None
kept_round (one ∷ older) = Some (record {
  numbers = window (round_numbers (one ∷ older));
  wild = wild_at (one ∷ older);
})

-- under each originator its last round is kept
pub record BroadcastsStand (kept : List (Mac × Round)) (taken : List TakenBroadcast) : Type 0 where
  pub rounds : (orig : Mac) → lookup (same_mac orig) kept ≡ kept_round (round orig taken)

-- the round that is kept after a number that is taken at a moment; none where it isn't taken
abbrev pub next_round : ℕ → ℕ → Round → Option Round
next_round now number kept = if is_far number (greatest kept.numbers)
    then (if may_begin now kept.wild
    then Some (record { numbers = window (number ∷ []); wild = Some now }) else None)
    else (if has number kept.numbers then None
    else Some (record { numbers = window (number ∷ kept.numbers); wild = kept.wild }))
