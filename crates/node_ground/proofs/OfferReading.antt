-- What containers offer that are read one after another.
use Rattle.std.proofs.Common.{◌≡◌, ℕ, ◌||◌, Bool, true, false, cond, List, [], ◌∷◌, filter, filter_map, Option, Some, None, refl}
use Rattle.std.specs.Prelude.{if◌then◌else◌}
use Rattle.std.specs.List.{cons_option}
use Rattle.std.specs.Option.{option_or}
use Rattle.mesh_model.specs.Knowledge.Served.{Offer, offer_in}
use Rattle.mesh_model.specs.Packets.Bodies.{gateway_of_body, multicast_of_body}
use Rattle.mesh_model.specs.Packets.Containers.{Container}
use Rattle.mesh_model.specs.Packets.Contents.{first_of, has_dat, is_of}
use Rattle.mesh_model.specs.Packets.Numbers.{dat_tvlv, gateway_tvlv, multicast_tvlv, multicast_version, tvlv_version}
use Rattle.node_ground.specs.Tables.{with_container}

-- what is offered by some containers and those behind them
abbrev pub joined : Offer → Offer → Offer
joined before rest = record {
  gateway = option_or before.gateway rest.gateway;
  arp_table = before.arp_table || rest.arp_table;
  multicast = option_or before.multicast rest.multicast;
}

-- what the first of more containers tells
first_next : {X : Type 0} (p : Container → Bool) (read : List ℕ → Option X) (before : Option X) (container : Container) (rest : List Container)
    → option_or before (first_of (filter_map (λ c. read c.body) (filter p (container ∷ rest))))
    ≡ option_or (option_or before (if p container then read container.body else None)) (first_of (filter_map (λ c. read c.body) (filter p rest)))
first_next p read (Some x) container rest = refl
first_next p read None container rest =
    elim (p container) as (λ b. first_of (filter_map (λ c. read c.body) (cond b (container ∷ filter p rest) (filter p rest)))
    ≡ option_or (if b then read container.body else None) (first_of (filter_map (λ c. read c.body) (filter p rest)))) [
      | true ↦
          elim (read container.body) as (λ o. first_of (cons_option o (filter_map (λ c. read c.body) (filter p rest))) ≡ option_or o (first_of (filter_map (λ c. read c.body) (filter p rest)))) [
            | None ↦ refl
            | Some x ↦ refl
          ]
      | false ↦ refl
    ]

any_next : (before here rest : Bool) → (before || (here || rest)) ≡ ((before || here) || rest)
any_next true here rest = refl
any_next false here rest = refl

-- one container more is read
pub read_next : (before : Offer) (container : Container) (rest : List Container) → joined before (offer_in (container ∷ rest)) ≡ joined (with_container before container) (offer_in rest)
read_next before container rest = λ i. record {
  gateway = first_next (is_of gateway_tvlv tvlv_version) gateway_of_body before.gateway container rest i;
  arp_table = any_next before.arp_table (is_of dat_tvlv tvlv_version container) (has_dat rest) i;
  multicast = first_next (is_of multicast_tvlv multicast_version) multicast_of_body before.multicast container rest i;
}

or_none : {X : Type 0} (o : Option X) → option_or o None ≡ o
or_none None = refl
or_none (Some x) = refl

or_false : (b : Bool) → (b || false) ≡ b
or_false true = refl
or_false false = refl

-- none is left
pub read_last : (before : Offer) → joined before (offer_in []) ≡ before
read_last before = λ i. record { gateway = or_none before.gateway i; arp_table = or_false before.arp_table i; multicast = or_none before.multicast i }
