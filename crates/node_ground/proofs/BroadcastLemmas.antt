-- A broadcast is new beside all that were taken of its originator exactly where it is new beside what
-- is kept of the last round.
use Rattle.std.proofs.Common.{◌≡◌, ℕ, ◌+◌, ◌-◌, nat_lt, Bool, true, false, cond, not, ◌&&◌, List, [], ◌∷◌, ◌++◌, length, is_some, if◌then◌else◌, Option, Some, None, arith, refl, sym, ap, ◌∙◌}
use Rattle.std.specs.Map.{lookup}
use Rattle.std.proofs.lemmas.Bool.Decides.{nat_tests}
use Rattle.mesh_base.specs.declared.address.Mac.{Mac}
use Rattle.mesh_model.specs.Acts.BridgeRows.{Place}
use Rattle.mesh_model.specs.Acts.FrameRows.{broadcast_acts, broadcast_on, handed_out_if}
use Rattle.mesh_model.specs.Clients.Lans.{Bridge}
use Rattle.mesh_model.specs.Knowledge.Known.{Broadcast, Knowledge, TakenBroadcast, is_new_number, is_wild_number, round, round_numbers, taken_at, wild_at}
use Rattle.mesh_model.specs.Packets.Payload.{client_frame_of}
use Rattle.mesh_model.specs.Routes.Addresses.{same_mac}
use Rattle.mesh_model.specs.Routes.Numbers.{greatest, has, is_far, may_begin, window}
use Rattle.mesh_laws.proofs.MacLemmas.{same_exact, same_self}
use Rattle.mesh_laws.proofs.WindowLemmas.{greatest-window, has-window, window-cons}
use Rattle.node_ground.specs.BroadcastsStand.{BroadcastsStand, kept_round, next_round}
use Rattle.node_ground.specs.declared.broadcast_round.Round.{Round}

-- before any broadcast
pub nothing_taken : BroadcastsStand [] []
nothing_taken = record { rounds = λ orig. refl }

-- a number that isn't far is in the window exactly where it was seen
near : (n g : ℕ) (h : Bool) → is_far n g ≡ false → (nat_lt (g - n) 64 && h) ≡ h
near n g true not_far = grind (arith, nat_tests, not_far)
near n g false not_far = grind (arith, nat_tests, not_far)

has_near : (n : ℕ) (seen : List ℕ) → is_far n (greatest seen) ≡ false → has n (window seen) ≡ has n seen
has_near n seen not_far = has-window n seen ∙ near n (greatest seen) (has n seen) not_far

-- ---- a number that comes at a moment from an originator

module _ (now number : ℕ) (orig : Mac) where
  abbrev broadcast : Broadcast
  broadcast = record { orig = orig; number = number }

  -- the broadcast, as it is taken
  abbrev one : Bool → TakenBroadcast
  one wild = record {
    moment = now;
    broadcast = broadcast;
    wild = wild;
  }

  -- what is kept of the round that begins with it, where it is wild, or goes on with it
  abbrev with_one : Bool → List TakenBroadcast → Option Round
  with_one wild before = kept_round (one wild ∷ (if wild then [] else before))

  -- the same, where it is taken
  abbrev pub if_new : List TakenBroadcast → Option Round
  if_new before = if is_new_number now number before then with_one (is_wild_number number before) before else None

  -- by what is kept of a round
  by_tests : (first : TakenBroadcast) (rest : List TakenBroadcast) (far may seen : Bool)
      → (if far then (if may then Some (record { numbers = window (number ∷ []); wild = Some now }) else None)
      else (if seen then None else Some (record { numbers = window (number ∷ window (round_numbers (first ∷ rest))); wild = wild_at (first ∷ rest) })))
      ≡ (if (if far then may else not seen) then with_one far (first ∷ rest) else None)
  by_tests first rest true true seen = refl
  by_tests first rest true false seen = refl
  by_tests first rest false may true = refl
  by_tests first rest false may false = ap (λ w. Some (record { numbers = w; wild = wild_at (first ∷ rest) })) (window-cons number (round_numbers (first ∷ rest)))

  -- beside a round that there is a number is wild where it is far
  wild_there : (first : TakenBroadcast) (rest : List TakenBroadcast) → is_far number (greatest (round_numbers (first ∷ rest))) ≡ is_wild_number number (first ∷ rest)
  wild_there first rest =
      let there : nat_lt 0 (length (first ∷ rest)) ≡ true = grind (arith, nat_tests) in
      sym (ap (λ b. b && is_far number (greatest (round_numbers (first ∷ rest)))) there)

  next_of : (first : TakenBroadcast) (rest : List TakenBroadcast) → next_round now number (record { numbers = window (round_numbers (first ∷ rest)); wild = wild_at (first ∷ rest) }) ≡ if_new (first ∷ rest)
  next_of first rest = ap (λ g. if is_far number g then begins else stays) (greatest-window seen) ∙ by_far (is_far number (greatest seen)) refl
      ∙ ap (λ w. if (if w then may else not (has number seen)) then with_one w (first ∷ rest) else None) (wild_there first rest)
    where
      seen : List ℕ
      seen = round_numbers (first ∷ rest)

      may : Bool
      may = may_begin now (wild_at (first ∷ rest))

      begins : Option Round
      begins = if may then Some (record { numbers = window (number ∷ []); wild = Some now }) else None

      stays : Option Round
      stays = if has number (window seen) then None else Some (record { numbers = window (number ∷ window seen); wild = wild_at (first ∷ rest) })

      by_far : (far : Bool) → is_far number (greatest seen) ≡ far → (if far then begins else stays) ≡ (if (if far then may else not (has number seen)) then with_one far (first ∷ rest) else None)
      by_far true is = by_tests first rest true may false
      by_far false is =
          ap (λ b. if b then None else Some (record { numbers = window (number ∷ window seen); wild = wild_at (first ∷ rest) })) (has_near number seen is)
          ∙ by_tests first rest false may (has number seen)

  -- what is kept of a round, with the number
  next_kept : (before : List TakenBroadcast) (kept : Round) → kept_round before ≡ Some kept → next_round now number kept ≡ if_new before
  next_kept [] kept is = absurd cc
  next_kept (first ∷ rest) kept is = ap (next_round now number) (sym (same is)) ∙ next_of first rest
    where
      same : {a b : Round} → Some a ≡ Some b → a ≡ b
      same is = cc

  first_kept : (before : List TakenBroadcast) → kept_round before ≡ None → Some (record { numbers = window (number ∷ []); wild = None }) ≡ if_new before
  first_kept [] is = refl
  first_kept (first ∷ rest) is = absurd cc

  -- the last round with a broadcast that is taken
  with_taken : (taken : List TakenBroadcast) → kept_round (round orig (taken_at now broadcast taken ∷ taken)) ≡ with_one (is_wild_number number (round orig taken)) (round orig taken)
  with_taken taken =
      ap (λ b. kept_round (if b then one (is_wild_number number (round orig taken)) ∷ (if is_wild_number number (round orig taken) then [] else round orig taken) else round orig taken))
      (same_self orig)

  module _ (kept : List (Mac × Round)) (taken : List TakenBroadcast) (stands : BroadcastsStand kept taken) where
    -- where a round is kept, and where none is
    pub next_found : (found : Round) → lookup (same_mac orig) kept ≡ Some found
        → next_round now number found ≡ (if is_new_number now number (round orig taken) then kept_round (round orig (taken_at now broadcast taken ∷ taken)) else None)
    next_found found is =
        next_kept (round orig taken) found (sym (stands.rounds orig) ∙ is) ∙ ap (λ r. if is_new_number now number (round orig taken) then r else None) (sym (with_taken taken))

    pub first_found : lookup (same_mac orig) kept ≡ None
        → Some (record { numbers = window (number ∷ []); wild = None }) ≡ (if is_new_number now number (round orig taken) then kept_round (round orig (taken_at now broadcast taken ∷ taken)) else None)
    first_found is = first_kept (round orig taken) (sym (stands.rounds orig) ∙ is) ∙ ap (λ r. if is_new_number now number (round orig taken) then r else None) (sym (with_taken taken))

    -- with one more broadcast
    pub one_more : (after : List (Mac × Round)) (next : Round) → Some next ≡ kept_round (round orig (taken_at now broadcast taken ∷ taken))
        → ((other : Mac) → lookup (same_mac other) after ≡ (if same_mac orig other then Some next else lookup (same_mac other) kept))
        → BroadcastsStand after (taken_at now broadcast taken ∷ taken)
    one_more after next is updates = record {
      rounds = λ other.
          updates other
          ∙ elim (same_mac orig other) as (λ b. same_mac orig other ≡ b
          → (if b then Some next else lookup (same_mac other) kept)
          ≡ kept_round (if b then taken_at now broadcast taken ∷ (if is_wild_number number (round orig taken) then [] else round other taken) else round other taken)) [
            | true ↦ λ t. is ∙ with_taken taken
                ∙ ap (λ o. kept_round (taken_at now broadcast taken ∷ (if is_wild_number number (round orig taken) then [] else round o taken))) (same_exact orig other t)
            | false ↦ λ t. stands.rounds other
          ] refl;
    }

  -- whether there is a next one tells whether the number is new
  pub new_by_next : (taken : List TakenBroadcast) (next : Option Round)
      → next ≡ (if is_new_number now number (round orig taken) then kept_round (round orig (taken_at now broadcast taken ∷ taken)) else None)
      → is_some next ≡ is_new_number now number (round orig taken)
  new_by_next taken next is =
      ap is_some (is ∙ ap (λ r. if is_new_number now number (round orig taken) then r else None) (with_taken taken))
      ∙ elim (is_new_number now number (round orig taken)) as (λ b. is_some (if b then with_one (is_wild_number number (round orig taken)) (round orig taken) else None) ≡ b) [ true ↦ refl | false ↦ refl ]

  -- the next one is what is kept of the round with the broadcast
  pub taken_by_next : (taken : List TakenBroadcast) (next : Round)
      → Some next ≡ (if is_new_number now number (round orig taken) then kept_round (round orig (taken_at now broadcast taken ∷ taken)) else None)
      → Some next ≡ kept_round (round orig (taken_at now broadcast taken ∷ taken))
  taken_by_next taken next is = by_new (is_new_number now number (round orig taken)) is
    where
      by_new : (new : Bool) → Some next ≡ (if new then kept_round (round orig (taken_at now broadcast taken ∷ taken)) else None) → Some next ≡ kept_round (round orig (taken_at now broadcast taken ∷ taken))
      by_new true is = is
      by_new false is = absurd cc

-- a broadcast that is new is handed out and sent on
pub broadcast_spreads : (known : Knowledge) (bridge : Bridge) (at : Place) (ttl : ℕ) (broadcast : Broadcast) (tail : List ℕ) → same_mac broadcast.orig at.me ≡ false
    → is_new_number at.now broadcast.number (round broadcast.orig known.taken) ≡ true
    → broadcast_acts known bridge at ttl broadcast tail ≡ handed_out_if bridge at broadcast.orig (client_frame_of tail) ++ broadcast_on ttl broadcast tail
unfolding broadcast_acts
broadcast_spreads known bridge at ttl broadcast tail other new =
    ap (λ b. cond b (handed_out_if bridge at broadcast.orig (client_frame_of tail) ++ broadcast_on ttl broadcast tail) [])
    (ap (λ b. not b && is_new_number at.now broadcast.number (round broadcast.orig known.taken)) other ∙ new)
